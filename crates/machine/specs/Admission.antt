-- An act is held against the limits before any of it is done: first its frames, then its winds, then its names.
use Rattle.std.specs.Prelude.{ℕ, zero, suc, ◌+◌, Bool, true, false, length, Some, None, Option, nat_le, nat_lt}
use Rattle.machine.specs.declared.act.Act.{Act}
use Rattle.machine.specs.declared.end.End.{End}
use Rattle.machine.specs.declared.end.End.TheVariants.{FrameLimit, WindLimit, HeldLimit}
use Rattle.machine.specs.declared.frame_move.FrameMove.{FrameMove}
use Rattle.machine.specs.declared.frame_move.FrameMove.TheVariants.{Keep, Push, PushBoth, Pop, Replace, Restore}
use Rattle.machine.specs.declared.wind_move.WindMove.{WindMove}
use Rattle.machine.specs.declared.wind_move.WindMove.TheVariants.{Stay, Open, Reenter, Leave}
use Rattle.machine.specs.declared.name_move.NameMove.{NameMove}
use Rattle.machine.specs.declared.name_move.NameMove.TheVariants.{Keep as KeepNames, SaveMany, SaveOnce, Use, Forget}
use Rattle.machine.specs.State.{State, Limits}

-- the pushes of a move less its pops, where there are more pushes
abbrev pub growth : FrameMove → ℕ
growth Keep = 0
growth (Push f) = 1
growth (PushBoth f g) = 2
growth Pop = 0
growth (Replace f) = 0
growth (Restore n) = 0

-- whether there is room for so many frames more
abbrev pub frames_pass : Limits → State → ℕ → Bool
frames_pass l s zero = true
frames_pass l s (suc k) = nat_le (length s.frames + suc k) l.frames

-- whether a wind that is entered has its place
abbrev pub winds_pass : Limits → State → WindMove → Bool
winds_pass l s Stay = true
winds_pass l s (Open before after) = nat_lt (length s.winds) l.winds
winds_pass l s (Reenter w) = nat_lt (length s.winds) l.winds
winds_pass l s Leave = true

-- whether a new name can be held
abbrev pub names_pass : Limits → State → NameMove → Bool
names_pass l s KeepNames = true
names_pass l s SaveMany = nat_lt (length s.held) l.held
names_pass l s SaveOnce = nat_lt (length s.held) l.held
names_pass l s (Use n) = true
names_pass l s (Forget n) = true

-- the end by the first check that does not pass
abbrev pub first_refusal : Limits → (frames winds names : Bool) → Option End
first_refusal l false w n = Some (FrameLimit l.frames_level)
first_refusal l true false n = Some (WindLimit l.winds_level)
first_refusal l true true false = Some HeldLimit
first_refusal l true true true = None

-- the limit's end that an act meets, if any
abbrev pub refusal : Limits → State → Act → Option End
refusal l s a = first_refusal l (frames_pass l s (growth a.frames)) (winds_pass l s a.winds) (names_pass l s a.names)
