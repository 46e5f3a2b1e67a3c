-- What is known of a run whose engine is open.
use Rattle.std.proofs.Common.{◌≡◌, List, Option, None, sym, ap, ◌∙◌, subst}
use Rattle.cell.specs.declared.cell.Cell.{Cell}
use Rattle.store.specs.Meaning.{Meaning}
use Rattle.code.specs.declared.instruction.Instruction.{Instruction}
use Rattle.machine.specs.declared.end.End.{End}
use Rattle.machine.specs.Opening.{Run}
use Rattle.engine.specs.Parts.{Parts}
use Rattle.run.specs.declared.run.Stage.{Stage}
use Rattle.run.specs.declared.run.Stage.TheVariants.{Open}
use Rattle.run.specs.Stages.{run_of, run_at, Kept, Stands}

module _ {F W S T : Type 0} (f : F → Meaning Cell) (w : W → Meaning Cell) (code : List Instruction) (stage : Stage F W S T) (p : Parts) (end : Option End)
    (is : stage ≡ Open p end) where
  pub open_is : (r : Run) → run_at f w code stage ≡ r → run_of code p end ≡ r
  open_is r view = sym (ap (run_at f w code) is) ∙ view

  pub open_kept : Stands code stage → Kept code p end
  open_kept stands = subst (Stands code) is stands

  -- and has not ended
  module _ (none : end ≡ None) where
    pub live_is : (r : Run) → run_at f w code stage ≡ r → run_of code p None ≡ r
    live_is r view = sym (ap (run_of code p) none) ∙ open_is r view

    pub live_kept : Stands code stage → Kept code p None
    live_kept stands = subst (Kept code p) none (open_kept stands)
