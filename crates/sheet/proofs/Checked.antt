-- What holds of all that a check lets through.
use Rattle.std.proofs.Common.{◌≡◌, Bool, true, cond, IfOk, Ok, Err, Result}
use Rattle.std.proofs.lemmas.Bool.{cond_both}
use Rattle.lexer.specs.Checks.{◌>>=◌}

module _ {A E : Type 0} where
  pub IfOk-any : (r : Result A E) → IfOk r (λ _. Unit {0})
  IfOk-any (Ok a) = tt
  IfOk-any (Err e) = tt

  pub IfOk-cond : (P : A → Type 0) (t : Bool) (r : Result A E) (e : E) → (t ≡ true → IfOk r P) → IfOk (cond t r (Err e)) P
  IfOk-cond P t r e h = cond_both t r (Err e) (λ s. IfOk s P) h (λ _. tt)

  pub IfOk-bind : {B : Type 0} (P : A → Type 0) (Q : B → Type 0) (r : Result A E) (f : A → Result B E) → IfOk r P → ((a : A) → P a → IfOk (f a) Q) → IfOk (r >>= f) Q
  IfOk-bind P Q (Ok a) f h k = k a h
  IfOk-bind P Q (Err e) f h k = tt
