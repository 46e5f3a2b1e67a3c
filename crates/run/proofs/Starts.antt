-- An engine on two fit stores stands at the start.
use Rattle.std.proofs.Common.{arith, ◌≡◌, Bool, true, false, cond, List, [], ℤ, None, Ok, Err, Result, refl, sym, ◌∙◌, subst}
use Rattle.std.proofs.lemmas.List.{nil_from_length}
use Rattle.cell.specs.declared.cell.Cell.{Cell}
use Rattle.cell.specs.Elements.{frame_in, wind_in}
use Rattle.store.specs.Meaning.{Meaning}
use Rattle.store.specs.Typed.{read_as}
use Rattle.code.specs.declared.instruction.Instruction.{Instruction}
use Rattle.machine.specs.State.{start}
use Rattle.machine.specs.Opening.{offer_of, both_fit}
use Rattle.engine.specs.Parts.{Parts, starting, state_from}
use Rattle.faithful.specs.Sound.{Together}
use Rattle.run.specs.Stages.{Kept}

-- which of two answers it was
by_test : {A B : Type 0} (b : Bool) (x e : A) (y : B) → ◌≡◌ {A = Result A B} (cond b (Ok x) (Err y)) (Ok e) → (b ≡ true) × (x ≡ e)
by_test true x e y h = (refl, cc h)
by_test false x e y h = cc h

module _ (code : List Instruction) (numbers : List ℤ) (f w : Meaning Cell) (fit : both_fit (offer_of f) (offer_of w) ≡ true) where
  abbrev new : Parts
  new = starting numbers (read_as frame_in f) (read_as wind_in w)

  frames : f.current ≡ []
  frames = nil_from_length f.current (grind (arith, fit))

  winds : w.current ≡ []
  winds = nil_from_length w.current (grind (arith, fit))

  frame_names : f.held ≡ []
  frame_names = nil_from_length f.held (grind (arith, fit))

  wind_names : w.held ≡ []
  wind_names = nil_from_length w.held (grind (arith, fit))

  start_is : state_from new ≡ start numbers
  start_is = rw (frames, winds, frame_names) refl

  new_kept : Kept code new None
  new_kept =
      let together : Together new = rw (frame_names, wind_names) tt in
      record { together = together; sound = λ _. record { comes = (numbers, 0, sym start_is, refl); together = together } }

-- an engine that was opened stands at the start
pub opened_kept : {Z : Type 0} (code : List Instruction) (numbers : List ℤ) (f w : Meaning Cell) (e : Parts) (z : Z) (r : Result Parts Z)
    → r ≡ cond (both_fit (offer_of f) (offer_of w)) (Ok (starting numbers (read_as frame_in f) (read_as wind_in w))) (Err z) → r ≡ Ok e → Kept code e None
opened_kept code numbers f w e z r given is =
    let t = by_test (both_fit (offer_of f) (offer_of w)) (starting numbers (read_as frame_in f) (read_as wind_in w)) e z (sym given ∙ is) in
    subst (λ p. Kept code p None) t.1 (new_kept code numbers f w t.0)
