-- The machine's state, and the limits that a run has. Frames and winds stand top first; an index counts from the bottom.
use Rattle.std.specs.Prelude.{ℕ, Bool, false, List, [], map, replicate, ℤ}
use Rattle.cell.specs.declared.address.Address.{Address}
use Rattle.cell.specs.declared.name.Name.{Name}
use Rattle.cell.specs.declared.value.Value.{Value}
use Rattle.cell.specs.declared.value.Value.TheVariants.{Empty, Number}
use Rattle.cell.specs.declared.frame.Frame.{Frame}
use Rattle.cell.specs.declared.wind.Wind.{Wind}
use Rattle.machine.specs.declared.mode.Mode.{Mode}
use Rattle.machine.specs.declared.mode.Mode.TheVariants.{Going}

-- what the two stores of a run have room for; a level tells which layer of a store a limit comes from
pub record Limits : Type 0 where
  pub frames : ℕ
  pub frames_level : ℕ
  pub winds : ℕ
  pub winds_level : ℕ
  -- the least of 64 and both stores' held limits
  pub held : ℕ

-- a held name, with the frames and the winds saved under it; once, if it serves for one throw only
pub record Capture : Type 0 where
  pub name : Name
  pub once : Bool
  pub frames : List Frame
  pub winds : List Wind

-- the name of a capture, as a number
abbrev pub capture_name : Capture → ℕ
capture_name c = c.name.0

-- the same capture, serving for many throws
abbrev pub for_many : Capture → Capture
for_many c = record { name = c.name; once = false; frames = c.frames; winds = c.winds }

-- the number of a wind
abbrev pub wind_number : Wind → ℕ
wind_number w = w.number.0

-- the numbers of winds, in their order
abbrev pub wind_numbers : List Wind → List ℕ
wind_numbers = map wind_number

-- what a run counts
pub record Counts : Type 0 where
  pub steps : ℕ
  -- names made, used and forgotten
  pub made : ℕ
  pub used : ℕ
  pub forgotten : ℕ
  -- wind numbers given, winds entered and winds left
  pub numbered : ℕ
  pub entered : ℕ
  pub left : ℕ

-- all that a run is in, between two steps
pub record State : Type 0 where
  pub registers : List Value
  pub globals : List Value
  pub frames : List Frame
  -- the winds in force
  pub winds : List Wind
  -- oldest first
  pub held : List Capture
  pub mode : Mode
  -- the address of the last step that was made while Going; 0 before there was one
  pub tried : Address
  pub counts : Counts

-- no count yet
abbrev pub no_counts : Counts
no_counts = record { steps = 0; made = 0; used = 0; forgotten = 0; numbered = 0; entered = 0; left = 0 }

-- the first address
abbrev pub first : Address
first = record { 0 = 0 }

-- the state that a run starts from, given the numbers of its globals
abbrev pub start : List ℤ → State
start numbers = record {
  registers = replicate 8 Empty;
  globals = map Number numbers;
  frames = [];
  winds = [];
  held = [];
  mode = Going first;
  tried = first;
  counts = no_counts;
}
