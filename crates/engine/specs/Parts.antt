-- What an engine is, part by part: what its two stores mean, read as frames and as winds, and its own words.
use Rattle.std.specs.Prelude.{ℕ, ◌+◌, ◌%◌, ◌^◌, min, Bool, true, false, cond, List, [], map, replicate, reverse, slice_set, ℤ}
use Rattle.cell.specs.declared.address.Address.{Address}
use Rattle.cell.specs.declared.value.Value.{Value}
use Rattle.cell.specs.declared.value.Value.TheVariants.{Empty, Number}
use Rattle.cell.specs.declared.frame.Frame.{Frame}
use Rattle.cell.specs.declared.wind.Wind.{Wind}
use Rattle.store.specs.Meaning.{Meaning, Held}
use Rattle.code.specs.declared.register.Register.{Register}
use Rattle.code.specs.declared.global.Global.{Global}
use Rattle.machine.specs.declared.mode.Mode.{Mode}
use Rattle.machine.specs.declared.mode.Mode.TheVariants.{Going}
use Rattle.machine.specs.declared.wind_move.WindMove.{WindMove}
use Rattle.machine.specs.declared.wind_move.WindMove.TheVariants.{Stay, Open, Reenter, Leave}
use Rattle.machine.specs.declared.name_move.NameMove.{NameMove}
use Rattle.machine.specs.declared.name_move.NameMove.TheVariants.{Keep as KeepNames, SaveMany, SaveOnce, Use, Forget}
use Rattle.machine.specs.State.{State, Capture, Counts, Limits, no_counts, first}
use Rattle.machine.specs.Apply.{trying}
use Rattle.machine.specs.Opening.{most_held}
use Rattle.held.specs.declared.held_row.HeldRow.{HeldRow}
use Rattle.laws.specs.Rows.{joined}
use Rattle.engine.specs.declared.counters.Counters.{Counters}

-- an engine, as contracts see it
pub record Parts : Type 0 where
  pub registers : List Value
  pub globals : List Value
  pub frames : Meaning Frame
  pub winds : Meaning Wind
  -- which names are held, the oldest first, and which of them serve for one throw only
  pub rows : List HeldRow
  pub mode : Mode
  pub tried : Address
  pub counts : Counts

-- the counts as numbers
abbrev pub counts_of : Counters → Counts
counts_of c = record {
  steps = c.steps;
  made = c.made;
  used = c.used;
  forgotten = c.forgotten;
  numbered = c.numbered;
  entered = c.entered;
  left = c.left;
}

-- what two stores saved under a name, and its row, are one capture; a store's lists have the bottom first
abbrev pub captured : Held Frame → Held Wind → HeldRow → Capture
captured f w row = record { name = record { 0 = f.name }; once = row.once; frames = reverse f.cells; winds = reverse w.cells }

-- the machine's state that an engine stands for
abbrev pub state_from : Parts → State
state_from p = record {
  registers = p.registers;
  globals = p.globals;
  frames = reverse p.frames.current;
  winds = reverse p.winds.current;
  held = joined captured p.frames.held p.winds.held p.rows;
  mode = p.mode;
  tried = p.tried;
  counts = p.counts;
}

-- the limits that its stores give it
abbrev pub limits_from : Parts → Limits
limits_from p = record {
  frames = p.frames.depth_limit;
  frames_level = p.frames.limit_level;
  winds = p.winds.depth_limit;
  winds_level = p.winds.limit_level;
  held = min most_held (min p.frames.held_limit p.winds.held_limit);
}

-- with another meaning of the frame store
abbrev pub with_frames : Parts → Meaning Frame → Parts
with_frames p m = record { registers = p.registers; globals = p.globals; frames = m; winds = p.winds; rows = p.rows; mode = p.mode; tried = p.tried; counts = p.counts }

-- with another meaning of the wind store
abbrev pub with_winds : Parts → Meaning Wind → Parts
with_winds p m = record { registers = p.registers; globals = p.globals; frames = p.frames; winds = m; rows = p.rows; mode = p.mode; tried = p.tried; counts = p.counts }

-- with other rows
abbrev pub with_rows : Parts → List HeldRow → Parts
with_rows p rows = record { registers = p.registers; globals = p.globals; frames = p.frames; winds = p.winds; rows = rows; mode = p.mode; tried = p.tried; counts = p.counts }

-- with a value in a register
abbrev pub with_register : Parts → Register → Value → Parts
with_register p r v = record { registers = slice_set p.registers r.0 v; globals = p.globals; frames = p.frames; winds = p.winds; rows = p.rows; mode = p.mode; tried = p.tried; counts = p.counts }

-- with a value in a global
abbrev pub with_global : Parts → Global → Value → Parts
with_global p g v = record { registers = p.registers; globals = slice_set p.globals g.0 v; frames = p.frames; winds = p.winds; rows = p.rows; mode = p.mode; tried = p.tried; counts = p.counts }

-- the parts of an engine at its start, given the numbers of its globals and what its stores mean
abbrev pub starting : List ℤ → Meaning Frame → Meaning Wind → Parts
starting numbers frames winds = record {
  registers = replicate 8 Empty;
  globals = map Number numbers;
  frames = frames;
  winds = winds;
  rows = [];
  mode = Going first;
  tried = first;
  counts = no_counts;
}

-- a count that goes up by one in a word; no count of a run comes to the end of its word
abbrev pub up : ℕ → ℕ
up n = (n + 1) % 2 ^ 32

-- whether a move makes a name
abbrev pub makes : NameMove → Bool
makes KeepNames = false
makes SaveMany = true
makes SaveOnce = true
makes (Use n) = false
makes (Forget n) = false

-- whether it uses one up
abbrev pub uses : NameMove → Bool
uses KeepNames = false
uses SaveMany = false
uses SaveOnce = false
uses (Use n) = true
uses (Forget n) = false

-- whether it forgets one
abbrev pub forgets : NameMove → Bool
forgets KeepNames = false
forgets SaveMany = false
forgets SaveOnce = false
forgets (Use n) = false
forgets (Forget n) = true

-- whether a move gives a wind its number
abbrev pub numbers : WindMove → Bool
numbers Stay = false
numbers (Open before after) = true
numbers (Reenter w) = false
numbers Leave = false

-- whether it enters a wind
abbrev pub enters : WindMove → Bool
enters Stay = false
enters (Open before after) = true
enters (Reenter w) = true
enters Leave = false

-- whether it leaves one
abbrev pub leaves : WindMove → Bool
leaves Stay = false
leaves (Open before after) = false
leaves (Reenter w) = false
leaves Leave = true

-- a count that goes up if something happened
abbrev pub up_if : Bool → ℕ → ℕ
up_if b n = cond b (up n) n

-- the counts after a step
abbrev pub counted_up : Counts → WindMove → NameMove → Counts
counted_up c w n = record {
  steps = up c.steps;
  made = up_if (makes n) c.made;
  used = up_if (uses n) c.used;
  forgotten = up_if (forgets n) c.forgotten;
  numbered = up_if (numbers w) c.numbered;
  entered = up_if (enters w) c.entered;
  left = up_if (leaves w) c.left;
}

-- the end of every step that is made: another mode, the address that it was Going at, and the counts
abbrev pub turned : Parts → Mode → WindMove → NameMove → Parts
turned p mode w n = record {
  registers = p.registers;
  globals = p.globals;
  frames = p.frames;
  winds = p.winds;
  rows = p.rows;
  mode = mode;
  tried = trying p.mode p.tried;
  counts = counted_up p.counts w n;
}
