-- The state after an act, and what happened to the winds.
use Rattle.std.specs.Prelude.{ℕ, ◌+◌, Bool, true, false, List, [], ◌∷◌, ◌++◌, Some, None, Option, slice_set, flat_map}
use Rattle.cell.specs.declared.address.Address.{Address}
use Rattle.cell.specs.declared.value.Value.{Value}
use Rattle.cell.specs.declared.frame.Frame.{Frame}
use Rattle.cell.specs.declared.wind.Wind.{Wind}
use Rattle.cell.specs.declared.wind_number.WindNumber.{WindNumber}
use Rattle.machine.specs.declared.act.Act.{Act}
use Rattle.machine.specs.declared.write.Write.{Write}
use Rattle.machine.specs.declared.write.Write.TheVariants.{Nothing, Register as ToRegister, Global as ToGlobal}
use Rattle.machine.specs.declared.frame_move.FrameMove.{FrameMove}
use Rattle.machine.specs.declared.frame_move.FrameMove.TheVariants.{Keep, Push, PushBoth, Pop, Replace, Restore}
use Rattle.machine.specs.declared.wind_move.WindMove.{WindMove}
use Rattle.machine.specs.declared.wind_move.WindMove.TheVariants.{Stay, Open, Reenter, Leave}
use Rattle.machine.specs.declared.name_move.NameMove.{NameMove}
use Rattle.machine.specs.declared.name_move.NameMove.TheVariants.{Keep as KeepNames, SaveMany, SaveOnce, Use, Forget}
use Rattle.machine.specs.declared.mode.Mode.{Mode}
use Rattle.machine.specs.declared.mode.Mode.TheVariants.{Going, Returning, Throwing}
use Rattle.machine.specs.Named.{find, without, changed_all}
use Rattle.machine.specs.Names.{mark_names, stands}
use Rattle.machine.specs.State.{State, Capture, Counts, capture_name, for_many}
use Rattle.machine.specs.Going.{next_name}

-- the registers after a write
abbrev pub registers_after : State → Write → List Value
registers_after s Nothing = s.registers
registers_after s (ToRegister r v) = slice_set s.registers r.0 v
registers_after s (ToGlobal g v) = s.registers

-- the globals after a write
abbrev pub globals_after : State → Write → List Value
globals_after s Nothing = s.globals
globals_after s (ToRegister r v) = s.globals
globals_after s (ToGlobal g v) = slice_set s.globals g.0 v

-- what is below the top of a list
abbrev pub below : {A : Type 0} → List A → List A
below [] = []
below (x ∷ xs) = xs

-- the frames with another on top
abbrev pub replaced : Frame → List Frame → List Frame
replaced f [] = []
replaced f (x ∷ fs) = f ∷ fs

-- the frames that a capture saved
abbrev pub saved_frames : Option Capture → List Frame → List Frame
saved_frames None fs = fs
saved_frames (Some c) fs = c.frames

-- the frames after a move
abbrev pub frames_after : State → FrameMove → List Frame
frames_after s Keep = s.frames
frames_after s (Push f) = f ∷ s.frames
frames_after s (PushBoth f g) = g ∷ f ∷ s.frames
frames_after s Pop = below s.frames
frames_after s (Replace f) = replaced f s.frames
frames_after s (Restore n) = saved_frames (find capture_name s.held n.0) s.frames

-- the wind that is entered next as a new one
abbrev pub new_wind : State → Address → Address → Wind
new_wind s before after = record { number = record { 0 = s.counts.numbered + 1 }; before = before; after = after }

-- the winds in force after a move
abbrev pub winds_after : State → WindMove → List Wind
winds_after s Stay = s.winds
winds_after s (Open before after) = new_wind s before after ∷ s.winds
winds_after s (Reenter w) = w ∷ s.winds
winds_after s Leave = below s.winds

-- a wind, by its number, is entered or left
pub data Event : Type 0 where
  enters : WindNumber → Event
  leaves : WindNumber → Event

-- the top wind is left
abbrev pub leaves_top : List Wind → List Event
leaves_top [] = []
leaves_top (w ∷ ws) = leaves w.number ∷ []

-- what a move does to the winds, as events
abbrev pub events : State → WindMove → List Event
events s Stay = []
events s (Open before after) = enters (new_wind s before after).number ∷ []
events s (Reenter w) = enters w.number ∷ []
events s Leave = leaves_top s.winds

-- whether the frames have a Mark of a name
abbrev pub marked_in : List Frame → ℕ → Bool
marked_in fs n = stands n (flat_map mark_names fs)

-- the captures, those whose name has a Mark in the frames serving for many throws from now on
abbrev pub promoted : List Frame → List Capture → List Capture
promoted fs cs = changed_all capture_name (marked_in fs) for_many cs

-- what is held under the next name
abbrev pub capture : State → Bool → List Frame → Capture
capture s once fs = record { name = next_name s; once = once; frames = fs; winds = s.winds }

-- the held names after a move, given the frames after it; a one-shot name's own Mark, on top of them, is not saved
abbrev pub held_after : State → List Frame → NameMove → List Capture
held_after s fs KeepNames = s.held
held_after s fs SaveMany = promoted fs s.held ++ (capture s false fs ∷ [])
held_after s fs SaveOnce = s.held ++ (capture s true (below fs) ∷ [])
held_after s fs (Use n) = without capture_name s.held n.0
held_after s fs (Forget n) = without capture_name s.held n.0

-- the count of names made, after a move
abbrev pub made_after : ℕ → NameMove → ℕ
made_after k KeepNames = k
made_after k SaveMany = k + 1
made_after k SaveOnce = k + 1
made_after k (Use n) = k
made_after k (Forget n) = k

-- the count of names used, after a move
abbrev pub used_after : ℕ → NameMove → ℕ
used_after k KeepNames = k
used_after k SaveMany = k
used_after k SaveOnce = k
used_after k (Use n) = k + 1
used_after k (Forget n) = k

-- the count of names forgotten, after a move
abbrev pub forgotten_after : ℕ → NameMove → ℕ
forgotten_after k KeepNames = k
forgotten_after k SaveMany = k
forgotten_after k SaveOnce = k
forgotten_after k (Use n) = k
forgotten_after k (Forget n) = k + 1

-- the count of wind numbers given, after a move
abbrev pub numbered_after : ℕ → WindMove → ℕ
numbered_after k Stay = k
numbered_after k (Open before after) = k + 1
numbered_after k (Reenter w) = k
numbered_after k Leave = k

-- the count of winds entered, after a move
abbrev pub entered_after : ℕ → WindMove → ℕ
entered_after k Stay = k
entered_after k (Open before after) = k + 1
entered_after k (Reenter w) = k + 1
entered_after k Leave = k

-- the count of winds left, after a move
abbrev pub left_after : ℕ → WindMove → ℕ
left_after k Stay = k
left_after k (Open before after) = k
left_after k (Reenter w) = k
left_after k Leave = k + 1

-- the counts after a step
abbrev pub counted : Counts → WindMove → NameMove → Counts
counted c w n = record {
  steps = c.steps + 1;
  made = made_after c.made n;
  used = used_after c.used n;
  forgotten = forgotten_after c.forgotten n;
  numbered = numbered_after c.numbered w;
  entered = entered_after c.entered w;
  left = left_after c.left w;
}

-- the last address that a run was Going at, if the step in this mode is tried
abbrev pub trying : Mode → Address → Address
trying (Going p) q = p
trying Returning q = q
trying (Throwing n v) q = q

-- the state after an act
abbrev pub apply : State → Act → State
apply s a = record {
  registers = registers_after s a.write;
  globals = globals_after s a.write;
  frames = frames_after s a.frames;
  winds = winds_after s a.winds;
  held = held_after s (frames_after s a.frames) a.names;
  mode = a.mode;
  tried = trying s.mode s.tried;
  counts = counted s.counts a.winds a.names;
}

-- the state after a step that ends the run well: the step is counted, and nothing else changes
abbrev pub halted : State → State
halted s = record {
  registers = s.registers;
  globals = s.globals;
  frames = s.frames;
  winds = s.winds;
  held = s.held;
  mode = s.mode;
  tried = trying s.mode s.tried;
  counts = counted s.counts Stay KeepNames;
}
