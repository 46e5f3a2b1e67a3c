-- What a run is to its callers, by the stage that it has come to.
use Rattle.std.specs.Prelude.{◌≡◌, List, [], Option, None}
use Rattle.cell.specs.declared.cell.Cell.{Cell}
use Rattle.store.specs.Meaning.{Meaning}
use Rattle.code.specs.declared.instruction.Instruction.{Instruction}
use Rattle.machine.specs.declared.end.End.{End}
use Rattle.machine.specs.Opening.{Run, offer_of, unfit}
use Rattle.engine.specs.Parts.{Parts, state_from, limits_from}
use Rattle.faithful.specs.Sound.{Together, Sound}
use Rattle.run.specs.declared.run.Stage.{Stage}
use Rattle.run.specs.declared.run.Stage.TheVariants.{Unfit, Open}

-- the machine's run that an engine stands for, with its end once it has ended; it was opened on stores with nothing in them
abbrev pub run_of : List Instruction → Parts → Option End → Run
run_of code p end = record { code = code; limits = limits_from p; frames_below = []; winds_below = []; state = state_from p; end = end }

-- the machine's run at a stage, by what the two stores mean
abbrev pub run_at : {F W S T : Type 0} → (F → Meaning Cell) → (W → Meaning Cell) → List Instruction → Stage F W S T → Run
run_at f w code (Unfit frames winds) = unfit code (offer_of (f frames)) (offer_of (w winds))
run_at f w code (Open p end) = run_of code p end

-- an engine's stores and rows are always together, and one that has not ended can go on
pub record Kept (code : List Instruction) (p : Parts) (end : Option End) : Type 0 where
  pub together : Together p
  pub sound : end ≡ None → Sound code p

-- what is true of every stage
abbrev pub Stands : {F W S T : Type 0} → List Instruction → Stage F W S T → Type 0
Stands code (Unfit frames winds) = Unit {0}
Stands code (Open p end) = Kept code p end
