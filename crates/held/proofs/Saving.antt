-- A save and then a release of the same name, and a save in two stores of which the second refuses.
use Rattle.std.proofs.Common.{◌≡◌, ℕ, Bool, true, false, cond, eqb, leb, List, [], ◌∷◌, ◌++◌, length, Some, None, Ok, Err, Option, Result, sym, refl, ap, ◌∙◌, arith}
use Rattle.std.proofs.lemmas.Bool.{eq-eqb, cond-true}
use Rattle.cell.specs.declared.frame.Frame.{Frame}
use Rattle.cell.specs.declared.name.Name.{Name}
use Rattle.cell.specs.declared.wind.Wind.{Wind}
use Rattle.store.specs.declared.refused.Refused.{Refused}
use Rattle.store.specs.declared.refusal.Refusal.{Refusal}
use Rattle.store.specs.declared.refusal.Refusal.TheVariants.{HeldFull, NameTaken}
use Rattle.store.specs.Meaning.{Meaning, Held, Outcome, saved_under, without, with_held, saved, saved_by, released, released_by}
use Rattle.store.specs.Typed.{outcome_as, refused_of}
use Rattle.held.specs.declared.half_save.HalfSave.{HalfSave}
use Rattle.held.specs.declared.save_refusal.SaveRefusal.TheVariants.{Winds}
use Rattle.held.specs.declared.wind_save_refused.WindSaveRefused.{WindSaveRefused}
use Rattle.held.specs.Saves.{owing, handing_back, winds_next, frames_first, saved_both}

-- two results of which one is accepted and one refused are not the same
apart : {X E : Type 0} (x : X) (e : E) → Ok x ≡ Err e → ⊥
apart x e is = let z : ◌≡◌ {A = ℕ} 0 1 = cc in omega arith

module _ {A : Type 0} where
  -- the pairs with one more
  abbrev with_last : List (Held A) → ℕ → List A → List (Held A)
  with_last hs n cs = hs ++ (record { name = n; cells = cs } ∷ [])

  -- the pair of a name that no pair before it has is found, and goes again
  last_pair : (hs : List (Held A)) (n : ℕ) (cs : List A) → saved_under hs n ≡ None → (saved_under (with_last hs n cs) n ≡ Some cs) × (without (with_last hs n cs) n ≡ hs)
  last_pair [] n cs e = (cond-true _ _ _ (eq-eqb n n refl), cond-true _ _ _ (eq-eqb n n refl))
  last_pair (h ∷ hs) n cs e = by (eqb h.name n) e (last_pair hs n cs)
    where
      by : (b : Bool) → cond b (Some h.cells) (saved_under hs n) ≡ None → (saved_under hs n ≡ None → (saved_under (with_last hs n cs) n ≡ Some cs) × (without (with_last hs n cs) n ≡ hs)) → (cond b (Some h.cells) (saved_under (with_last hs n cs) n) ≡ Some cs) × (cond b (with_last hs n cs) (h ∷ without (with_last hs n cs) n) ≡ h ∷ hs)
      by true none rest = absurd (let z : ◌≡◌ {A = ℕ} 0 1 = cc in let never : ⊥ = omega arith in never)
      by false none rest = ((rest none).0, ap (λ ps. h ∷ ps) (rest none).1)

  -- what an accepted save left, by the tests that it passed
  left_is : (m left : Meaning A) (n : ℕ) (a b : Bool) → ◌≡◌ {A = Outcome A Unit} (Ok tt, left) (cond a (Err NameTaken, m) (cond b (Err HeldFull, m) (Ok tt, with_held m (with_last m.held n m.current)))) → left ≡ with_held m (with_last m.held n m.current)
  left_is m left n true b e = absurd (apart _ _ (ap (λ o. o.0) e))
  left_is m left n false true e = absurd (apart _ _ (ap (λ o. o.0) e))
  left_is m left n false false e = ap (λ o. o.1) e

  -- an accepted save and then a release, from what was held under the name
  undone_by : (m left : Meaning A) (n : ℕ) (o : Option (List A)) → saved_under m.held n ≡ o → (Ok tt, left) ≡ saved_by m n o → (released left n).1 ≡ m
  undone_by m left n (Some cs) is e = absurd (apart _ _ (ap (λ o. o.0) e))
  undone_by m left n None is e =
      let pair = last_pair m.held n m.current is in
      let next = with_held m (with_last m.held n m.current) in
      ap (λ k. (released k n).1) (left_is m left n (eqb n 0) (leb m.held_limit (length m.held)) e)
      ∙ ap (λ o. (released_by next n o).1) pair.0
      ∙ ap (with_held m) pair.1

  -- leave the store as it was
  pub undone : (m left : Meaning A) (n : ℕ) → (Ok tt, left) ≡ saved m n → (released left n).1 ≡ m
  undone m left n e = undone_by m left n (saved_under m.held n) refl e

  -- an outcome that is accepted in another type of refusals
  accepted : {R : Type 0} (wrap : Refusal → R) (o : Outcome A Unit) (left : Meaning A) → outcome_as wrap o ≡ (Ok tt, left) → (Ok tt, left) ≡ o
  accepted wrap (Ok u, m) left e = ap (λ k. (Ok tt, k)) (sym (ap (λ o. o.1) e))
  accepted wrap (Err r, m) left e = absurd (apart _ _ (sym (ap (λ o. o.0) e)))

-- a half-save that was made
made : (n : Name) (s : Result Unit (Refused Frame) × Meaning Frame) (half : HalfSave) (g : Meaning Frame) → (Ok half, g) ≡ owing n s → (half.name ≡ n) × (s ≡ (Ok tt, g))
made n (Ok u, m) half g e =
    let same : half ≡ record { name = n } = let k = ap (λ o. o.0) e in cc in
    (ap (λ h. h.name) same, ap (λ k. (Ok tt, k)) (sym (ap (λ o. o.1) e)))
made n (Err r, m) half g e = absurd (apart _ _ (ap (λ o. o.0) e))

-- a half-save that was handed back
handed : (half : HalfSave) (s : Result Unit (Refused Wind) × Meaning Wind) (back : WindSaveRefused) (v : Meaning Wind) → (Err back, v) ≡ handing_back half s → (back.owed ≡ half) × (s ≡ (Err back.refusal, v))
handed half (Ok u, m) back v e = absurd (apart _ _ (sym (ap (λ o. o.0) e)))
handed half (Err r, m) back v e =
    let same : back ≡ record { owed = half; refusal = r } = let k = ap (λ o. o.0) e in cc in
    (ap (λ h. h.owed) same, ap (λ k. (Err k.refusal, m)) (sym same) ∙ ap (λ k. (Err back.refusal, k)) (sym (ap (λ o. o.1) e)))

-- the wind store refuses, and the half-save is given up: `f` and `w` before, `g` with the first save, `h` and `v` after
pub both_refused : (f g h : Meaning Frame) (w v : Meaning Wind) (n : Name) (half : HalfSave) (back : WindSaveRefused)
    → (Ok half, g) ≡ owing n (outcome_as refused_of (saved f n.0))
    → (Err back, v) ≡ handing_back half (outcome_as refused_of (saved w half.name.0))
    → h ≡ (released g back.owed.name.0).1
    → (Err (Winds back.refusal), (h, v)) ≡ saved_both f w n.0
both_refused f g h w v n half back first second third =
    let a = made n (outcome_as refused_of (saved f n.0)) half g first in
    let b = handed half (outcome_as refused_of (saved w half.name.0)) back v second in
    let named : back.owed.name.0 ≡ n.0 = ap (λ k. k.name.0) b.0 ∙ ap (λ k. k.0) a.0 in
    let again : h ≡ f = third ∙ ap (λ k. (released g k).1) named ∙ undone f g n.0 (accepted refused_of (saved f n.0) g a.1) in
    let winds : outcome_as refused_of (saved w n.0) ≡ (Err back.refusal, v) = ap (λ k. outcome_as refused_of (saved w k.0)) (sym a.0) ∙ b.1 in
    ap (λ k. (Err (Winds back.refusal), (k, v))) again
    ∙ sym (ap (frames_first f w n.0) a.1 ∙ ap (winds_next f g) winds)
