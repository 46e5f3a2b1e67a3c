-- One thing after another, where the first was made.
use Rattle.std.proofs.Common.{◌≡◌, Ok, ap, ◌∙◌}
use Rattle.engine.specs.Parts.{Parts}
use Rattle.engine.specs.Acting.{Carried, ◌then◌}

module _ {A B : Type 0} (x : Carried A) (next : Parts → Carried B) where
  pub on : {a : A} {p : Parts} {r : Carried B} → (Ok a, p) ≡ x → r ≡ next p → r ≡ (x then next)
  on e h = h ∙ ap (λ y. y then next) e
