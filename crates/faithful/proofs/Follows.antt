-- What carrying a step out comes to, beside the machine's outcome.
use Rattle.std.proofs.Common.{◌≡◌, [], Ok, Err}
use Rattle.machine.specs.declared.wind_move.WindMove.TheVariants.{Stay}
use Rattle.machine.specs.declared.name_move.NameMove.TheVariants.{Keep as KeepNames}
use Rattle.machine.specs.Printed.{line}
use Rattle.machine.specs.State.{State}
use Rattle.machine.specs.Step.{Outcome, went, finished, refused}
use Rattle.engine.specs.declared.step.Step.TheVariants.{Made, Line, Finished}
use Rattle.engine.specs.declared.step.Step.{Step}
use Rattle.engine.specs.Parts.{Parts, state_from, limits_from, turned}
use Rattle.engine.specs.Acting.{Carried}
use Rattle.faithful.specs.Sound.{Together}

-- parts q that came of p stand for a state, with limits as they were, and stores and rows together
pub record Reach (p q : Parts) (t : State) : Type 0 where
  pub state : state_from q ≡ t
  pub limits : limits_from q ≡ limits_from p
  pub together : Together q

abbrev pub Follows : Parts → Outcome → Carried Step → Type 0
Follows p (went t b es) (Ok Made, q) = (b ≡ []) × Reach p q t
Follows p (went t b es) (Ok (Line z m), q) = (q ≡ p) × (b ≡ line z) × Reach p (turned p m Stay KeepNames) t
Follows p (went t b es) (Ok Finished, q) = ⊥
Follows p (went t b es) (Err e, q) = ⊥
Follows p (finished t) (Ok Made, q) = ⊥
Follows p (finished t) (Ok (Line z m), q) = ⊥
Follows p (finished t) (Ok Finished, q) = Reach p q t
Follows p (finished t) (Err e, q) = ⊥
Follows p (refused d) (Ok a, q) = ⊥
Follows p (refused d) (Err e, q) = (d ≡ e) × Reach p q (state_from p)
