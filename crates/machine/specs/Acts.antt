-- Acts, put together from what they change besides the mode.
use Rattle.std.specs.Prelude.{ℤ, Some, None, Ok, Option}
use Rattle.machine.specs.declared.act.Act.{Act}
use Rattle.machine.specs.declared.write.Write.{Write}
use Rattle.machine.specs.declared.write.Write.TheVariants.{Nothing}
use Rattle.machine.specs.declared.frame_move.FrameMove.{FrameMove}
use Rattle.machine.specs.declared.frame_move.FrameMove.TheVariants.{Keep}
use Rattle.machine.specs.declared.wind_move.WindMove.{WindMove}
use Rattle.machine.specs.declared.wind_move.WindMove.TheVariants.{Stay}
use Rattle.machine.specs.declared.name_move.NameMove.{NameMove}
use Rattle.machine.specs.declared.name_move.NameMove.TheVariants.{Keep as KeepNames}
use Rattle.machine.specs.declared.mode.Mode.{Mode}
use Rattle.machine.specs.Checks.{Checked}

-- what a step would do, whatever the limits are: an act, or none where the run ends well, or the end that a check gives
abbrev pub Plan : Type 0
Plan = Checked (Option Act)

-- the mode, and nothing else
abbrev pub moves : Mode → Act
moves m = record { write = Nothing; frames = Keep; winds = Stay; names = KeepNames; mode = m; line = None }

-- also a register or a global
abbrev pub writing : Write → Act → Act
writing w a = record { write = w; frames = a.frames; winds = a.winds; names = a.names; mode = a.mode; line = a.line }

-- also the frames
abbrev pub framing : FrameMove → Act → Act
framing f a = record { write = a.write; frames = f; winds = a.winds; names = a.names; mode = a.mode; line = a.line }

-- also the winds in force
abbrev pub winding : WindMove → Act → Act
winding w a = record { write = a.write; frames = a.frames; winds = w; names = a.names; mode = a.mode; line = a.line }

-- also the held names
abbrev pub naming : NameMove → Act → Act
naming n a = record { write = a.write; frames = a.frames; winds = a.winds; names = n; mode = a.mode; line = a.line }

-- and a line is printed
abbrev pub printing : ℤ → Act → Act
printing z a = record { write = a.write; frames = a.frames; winds = a.winds; names = a.names; mode = a.mode; line = Some z }

-- the plan to carry out an act
abbrev pub does : Act → Plan
does a = Ok (Some a)
