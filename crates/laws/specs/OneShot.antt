-- A one-shot continuation comes back at most once.
use Rattle.std.specs.Prelude.{◌≡◌, ℕ, ◌≤◌, true, ◌⊎◌, List, ◌∷◌, ℤ, Some, None}
use Rattle.cell.specs.declared.name.Name.{Name}
use Rattle.cell.specs.declared.value.Value.{Value}
use Rattle.cell.specs.declared.frame.Frame.{Frame}
use Rattle.cell.specs.declared.frame.Frame.TheVariants.{Mark}
use Rattle.code.specs.declared.instruction.Instruction.{Instruction}
use Rattle.machine.specs.declared.mode.Mode.TheVariants.{Returning, Throwing}
use Rattle.machine.specs.Named.{find}
use Rattle.machine.specs.State.{State, Capture, Limits, capture_name, wind_numbers, start}
use Rattle.machine.specs.Apply.{Event}
use Rattle.machine.specs.Step.{went, step}
use Rattle.machine.specs.Course.{course}

-- a name holds nothing
abbrev pub Released : State → ℕ → Type 0
Released s n = find capture_name s.held n ≡ None

-- the next step comes back to what a name saved: by a return past its Mark, or by a throw that finds the saved winds in force
abbrev pub ComesBack : State → Name → Capture → Type 0
ComesBack s n c =
    ((fs : List Frame) × (s.mode ≡ Returning) × (s.frames ≡ Mark n ∷ fs))
    ⊎ ((v : Value) × (s.mode ≡ Throwing n v) × (wind_numbers s.winds ≡ wind_numbers c.winds))

-- what comes back to a one-shot continuation uses it up for good
pub record OneShotOnce : Type 0 where
  -- a step that comes back to a one-shot continuation releases it, whichever way it comes
  pub spent : (l m : Limits) (code other : List Instruction) (numbers : List ℤ) (k : ℕ) (n : Name) (c : Capture) (t : State) (b : List ℕ) (es : List Event)
      → find capture_name (course l code k (start numbers)).state.held n.0 ≡ Some c → c.once ≡ true
      → ComesBack (course l code k (start numbers)).state n c
      → step m other (course l code k (start numbers)).state ≡ went t b es → Released t n.0
  -- a name that was released is never held again
  pub for_good : (l : Limits) (code : List Instruction) (numbers : List ℤ) (k more n : ℕ)
      → n ≤ (course l code k (start numbers)).state.counts.made → Released (course l code k (start numbers)).state n
      → Released (course l code more (course l code k (start numbers)).state).state n
