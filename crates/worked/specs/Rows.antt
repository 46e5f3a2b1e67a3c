-- A worked sheet: its text, the stores that its run is opened on, and the figures that the run comes to.
use Rattle.std.specs.Prelude.{◌≡◌, ℕ, cond, List, [], map, replicate, pos, Some, None, Ok, Err, codes, Option, Result, ◌==◌}
use Prim.Native.String.{String}
use Rattle.std.specs.Option.{option_map}
use Rattle.code.specs.declared.instruction.Instruction.{Instruction}
use Rattle.sheet.specs.declared.refusal.SheetRefusal.{SheetRefusal}
use Rattle.sheet.specs.Reading.{reading}
use Rattle.machine.specs.Numbers.{end_number}
use Rattle.machine.specs.declared.end.End.{End}
use Rattle.machine.specs.Opening.{Offer, Run, opened}
use Rattle.machine.specs.Course.{Course, course}

-- what a run comes to: what it writes, the number of its end if it has ended, its steps, and its winds entered and left
pub record Figures : Type 0 where
  pub output : List ℕ
  pub end : Option ℕ
  pub steps : ℕ
  pub entered : ℕ
  pub left : ℕ

-- a sheet, what the two stores offer its run, and what the run is told to come to
pub record Row : Type 0 where
  pub text : List ℕ
  pub frames : Offer
  pub winds : Offer
  pub told : Figures

-- a text in one line, in which `/` (47) stands for byte 10
abbrev pub sheet : String → List ℕ
sheet s = map (λ b. cond (b == 47) 10 b) (codes s)

-- what an empty bottom store offers
abbrev pub empty_store : ℕ → ℕ → Offer
empty_store depth held = record { cells = []; names = 0; depth_limit = depth; held_limit = held; limit_level = 0 }

-- two stores with these limits of frames, winds and names
abbrev pub limits : ℕ → ℕ → ℕ → Offer × Offer
limits frames winds held = (empty_store frames held, empty_store winds held)

-- the figures of a run that has ended
abbrev pub figures : List ℕ → ℕ → ℕ → ℕ → ℕ → Figures
figures output end steps entered left = record { output = output; end = Some end; steps = steps; entered = entered; left = left }

-- a row of the table
abbrev pub row : List ℕ → Offer × Offer → Figures → Row
row text stores f = record { text = text; frames = stores.0; winds = stores.1; told = f }

-- the figures of steps in a row
abbrev pub came_to : Course → Figures
came_to c = record {
  output = c.output;
  end = option_map end_number c.end;
  steps = c.steps;
  entered = c.state.counts.entered;
  left = c.state.counts.left;
}

-- the figures of a run that was just opened, taken at most 1,000 steps further if it has not ended there
abbrev pub run_further : Option End → Run → Figures
run_further None r = came_to (course r.limits r.code 1000 r.state)
run_further (Some e) r = figures [] (end_number e) 0 0 0

-- the figures of an opened run
abbrev pub run_on : Run → Figures
run_on r = run_further r.end r

-- the figures of a sheet that was read, run from zeros
abbrev pub run_of : Offer → Offer → Result (List Instruction) SheetRefusal → Option Figures
run_of frames winds (Ok code) = Some (run_on (opened code (replicate 32 (pos 0)) frames winds))
run_of frames winds (Err e) = None

-- what a row's sheet reads and runs as
abbrev pub measured : Row → Option Figures
measured r = run_of r.frames r.winds (reading r.text)

-- each row's sheet comes to what the row tells
abbrev pub AsTold : List Row → Type 0
AsTold rows = map measured rows ≡ map (λ r. Some r.told) rows
