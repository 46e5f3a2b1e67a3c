-- The common beginning of two lists of winds, wind by wind.
use Rattle.std.proofs.Common.{◌≡◌, ℕ, true, false, zero, suc, ◌+◌, min, ◌≤◌, cond, eqb, List, [], ◌∷◌, length, drop, Some, None, Ok, Option, sym, refl, ap, ◌∙◌, add-one, arith}
use Rattle.std.specs.List.{slice_get}
use Rattle.std.specs.Option.{ok_or}
use Rattle.std.proofs.lemmas.List.{drop_all}
use Rattle.std.proofs.lemmas.Bool.{cond-true, cond-false}
use Rattle.cell.specs.declared.wind.Wind.{Wind}
use Rattle.store.specs.declared.refusal.Refusal.TheVariants.{NoIndex}
use Rattle.store.specs.Meaning.{cell_in, cell_by, length_by}
use Rattle.store.specs.Typed.{refused_as, refused_of}
use Rattle.machine.specs.State.{wind_numbers}
use Rattle.machine.specs.Throwing.{common}
use Rattle.held.specs.Winds.{common_by}

-- a list that may be there, as a list
abbrev pub or_empty : Option (List Wind) → List Wind
or_empty None = []
or_empty (Some ws) = ws

-- what is common from an index on
abbrev pub common-from : ℕ → List Wind → List Wind → ℕ
common-from i ws ss = common (wind_numbers (drop i ws)) (wind_numbers (drop i ss))

-- nothing is common with no wind
common_none : (ns : List ℕ) → common ns [] ≡ 0
common_none [] = refl
common_none (n ∷ ns) = refl

-- at the end of one list
common-end : (i : ℕ) (ws ss : List Wind) → length ws ≤ i → common-from i ws ss ≡ 0
common-end i ws ss l = ap (λ xs. common (wind_numbers xs) (wind_numbers (drop i ss))) (drop_all i ws l)

-- and of the other
common_end_saved : (i : ℕ) (ws ss : List Wind) → length ss ≤ i → common-from i ws ss ≡ 0
common_end_saved i ws ss l = ap (λ xs. common (wind_numbers (drop i ws)) (wind_numbers xs)) (drop_all i ss l) ∙ common_none (wind_numbers (drop i ws))

-- past the shorter of the two
pub common_past : (i : ℕ) (ws ss : List Wind) → min (length ws) (length ss) ≤ i → common-from i ws ss ≡ 0
common_past i [] ss l = common-end i [] ss (omega arith)
common_past i (w ∷ ws) [] l = common_end_saved i (w ∷ ws) [] (omega arith)
common_past zero (w ∷ ws) (s ∷ ss) l = absurd (omega arith)
common_past (suc i) (w ∷ ws) (s ∷ ss) l = common_past i ws ss (omega arith)

-- the item at an index heads those from there on
drop_nth : {A : Type 0} (xs : List A) (i : ℕ) (x : A) → slice_get xs i ≡ Some x → drop i xs ≡ x ∷ drop (suc i) xs
drop_nth [] i x e = absurd (let z : ◌≡◌ {A = ℕ} 0 1 = cc in let never : ⊥ = omega arith in never)
drop_nth (y ∷ xs) zero x e = let same : y ≡ x = cc in ap (λ z. z ∷ xs) same
drop_nth (y ∷ xs) (suc i) x e = drop_nth xs i x e

-- what a question at an index told
told : {A : Type 0} (o : Option A) (x : A) → Ok x ≡ refused_as (refused_of {E = Wind}) (ok_or o NoIndex) → o ≡ Some x
told None x e = absurd (let z : ◌≡◌ {A = ℕ} 0 1 = cc in let never : ⊥ = omega arith in never)
told (Some y) x e = let same : x ≡ y = cc in ap Some (sym same)

-- the same of the list saved under a name
told-saved : (o : Option (List Wind)) (i : ℕ) (x : Wind) → Ok x ≡ refused_as (refused_of {E = Wind}) (cell_by o i) → slice_get (or_empty o) i ≡ Some x
told-saved None i x e = absurd (let z : ◌≡◌ {A = ℕ} 0 1 = cc in let never : ⊥ = omega arith in never)
told-saved (Some ss) i x e = told (slice_get ss i) x e

-- the length that was told of the list saved under a name
pub length-told : (o : Option (List Wind)) (k : ℕ) → Ok k ≡ refused_as (refused_of {E = Wind}) (length_by o) → k ≡ length (or_empty o)
length-told None k e = absurd (let z : ◌≡◌ {A = ℕ} 0 1 = cc in let never : ⊥ = omega arith in never)
length-told (Some ss) k e = cc

-- the answer, once the name is known to be held
pub common-told : (ws : List Wind) (o : Option (List Wind)) (k j : ℕ) → Ok k ≡ refused_as (refused_of {E = Wind}) (length_by o) → j ≡ common (wind_numbers ws) (wind_numbers (or_empty o)) → Ok j ≡ refused_as (refused_of {E = Wind}) (common_by ws o)
common-told ws None k j e is = absurd (let z : ◌≡◌ {A = ℕ} 0 1 = cc in let never : ⊥ = omega arith in never)
common-told ws (Some ss) k j e is = ap Ok is

-- the winds that two questions told of an index
module _ (ws : List Wind) (o : Option (List Wind)) (i : ℕ) (w s : Wind) (here : Ok w ≡ refused_as (refused_of {E = Wind}) (cell_in ws i)) (there : Ok s ≡ refused_as (refused_of {E = Wind}) (cell_by o i)) where
  -- what is common from there on, by their numbers
  step : common-from i ws (or_empty o) ≡ cond (eqb w.number.0 s.number.0) (suc (common-from (suc i) ws (or_empty o))) 0
  step =
      ap (λ xs. common (wind_numbers xs) (wind_numbers (drop i (or_empty o)))) (drop_nth ws i w (told (slice_get ws i) w here))
      ∙ ap (λ xs. common (wind_numbers (w ∷ drop (suc i) ws)) (wind_numbers xs)) (drop_nth (or_empty o) i s (told-saved o i s there))

  -- equal numbers
  pub common_more : eqb w.number.0 s.number.0 ≡ true → common-from i ws (or_empty o) ≡ suc (common-from (i + 1) ws (or_empty o))
  common_more e = rw add-one (step ∙ cond-true _ _ _ e)

  -- numbers that differ
  pub common_apart : eqb w.number.0 s.number.0 ≡ false → common-from i ws (or_empty o) ≡ 0
  common_apart e = step ∙ cond-false _ _ _ e
