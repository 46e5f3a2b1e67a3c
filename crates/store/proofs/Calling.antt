-- A call on a store of cells, as one on its elements.
use Rattle.std.proofs.Common.{◌≡◌, ℕ, List, Ok, Err, Result, sym, refl, ap, ◌∙◌}
use Rattle.std.specs.Result.{IsErrAnd}
use Rattle.std.proofs.lemmas.Result.{err_from_is_err_and}
use Rattle.store.specs.declared.refused.Refused.{Refused}
use Rattle.cell.specs.Filled.{filled}
use Rattle.cell.specs.declared.cell.Cell.{Cell}
use Rattle.store.specs.declared.refusal.Refusal.{Refusal}
use Rattle.store.specs.Meaning.{Meaning, Outcome, popped}
use Rattle.store.specs.Typed.{read_as, answer_as, refused_as, refused_of, outcome_as, Written}
use Rattle.store.proofs.Typing.{left_as, popped_as}

-- a question: `told` is the store's answer, `r` the list's, whatever a refusal is put in
pub asked_as : {X Y R : Type 0} (wrap : Refusal → R) (h : Result X Refusal → Result Y Refusal) (told asked : Result X Refusal) (at : Result Y Refusal) (r : Result Y R) → r ≡ refused_as wrap (h told) → told ≡ asked → h asked ≡ at → r ≡ refused_as wrap at
asked_as wrap h told asked at r is made same = is ∙ ap (λ t. refused_as wrap (h t)) made ∙ ap (refused_as wrap) same

-- what a `?` hands on is the refusal of the list
pub refusal_told : {X Y E : Type 0} (told : Result X Refusal) (e : Refusal) (r : Result Y (Refused E)) → told ≡ Err e → IsErrAnd r (λ y. y ≡ refused_of e) → (h : Result X Refusal → Result Y Refusal) → h (Err e) ≡ Err e → r ≡ refused_as refused_of (h told)
refusal_told told e r was is h kept =
    let p = err_from_is_err_and r is in
    p.1 ∙ ap Err p.2 ∙ ap (refused_as refused_of) (sym (ap h was ∙ kept))

-- `m` is what the store meant before a call, `left` after it; `told` is the store's answer, `r` the list's
module _ {E : Type 0} (read : Cell → E) (words : E → List ℕ) (m left : Meaning Cell) where
  -- a cell, written again as its element is
  abbrev again : Cell → Cell
  again c = filled (words (read c))

  -- a call that is the same at every kind of cell
  module _ {X : Type 0} (told : Result X Refusal) (op : (A : Type 0) → Meaning A → Outcome A X) (same : (A B : Type 0) (f : A → B) (n : Meaning A) → left_as f (op A n) ≡ op B (read_as f n)) (made : (told, left) ≡ op Cell m) where
    pub call_as : {R : Type 0} (wrap : Refusal → R) (r : Result X R) → r ≡ refused_as wrap told → (r, read_as read left) ≡ outcome_as wrap (op E (read_as read m))
    call_as wrap r is =
        ap (λ x. (x, read_as read left)) is
        ∙ ap (λ o. outcome_as wrap (left_as read o)) made
        ∙ ap (outcome_as wrap) (same Cell E read m)

    -- refused, and handed on by `?`
    pub call_refused : (e : Refusal) (r : Result X (Refused E)) → told ≡ Err e → IsErrAnd r (λ y. y ≡ refused_of e) → (r, read_as read left) ≡ outcome_as refused_of (op E (read_as read m))
    call_refused e r was is = call_as refused_of r (refusal_told told e r was is (λ x. x) refl)

    -- accepted
    pub call_done : (x : X) → told ≡ Ok x → ◌≡◌ {A = Result X (Refused E) × Meaning E} (Ok x, read_as read left) (outcome_as refused_of (op E (read_as read m)))
    call_done x was = call_as refused_of (Ok x) (ap (refused_as (refused_of {E = E})) (sym was))

    pub call_written : Written read words m → Written read words left
    call_written h =
        ap (λ o. read_as again o.1) made
        ∙ ap (λ o. o.1) (same Cell Cell again m)
        ∙ ap (λ n. (op Cell n).1) h
        ∙ ap (λ o. o.1) (sym made)

  -- a pop, whose answer is a cell
  module _ (told : Result Cell Refusal) (made : (told, left) ≡ popped m) where
    pub pop_as : {R : Type 0} (wrap : Refusal → R) (r : Result E R) → r ≡ refused_as wrap (answer_as read told) → (r, read_as read left) ≡ outcome_as wrap (popped (read_as read m))
    pop_as wrap r is =
        ap (λ x. (x, read_as read left)) is
        ∙ ap (λ o. outcome_as wrap (answer_as read o.0, read_as read o.1)) made
        ∙ ap (outcome_as wrap) (popped_as read m)

    pub pop_written : Written read words m → Written read words left
    pop_written h =
        ap (λ o. read_as again o.1) made
        ∙ ap (λ o. o.1) (popped_as again m)
        ∙ ap (λ n. (popped n).1) h
        ∙ ap (λ o. o.1) (sym made)
