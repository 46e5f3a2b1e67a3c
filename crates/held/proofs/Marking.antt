-- The search for a Mark, frame by frame, and that the order of the frames does not matter to it.
use Rattle.std.proofs.Common.{◌≡◌, ℕ, zero, suc, ◌+◌, ◌||◌, arith, Bool, true, false, cond, eqb, List, [], ◌∷◌, ◌++◌, reverse, length, drop, sym, refl, ap, ◌∙◌}
use mathlib.Core.List.{reverse-cons}
use Rattle.std.specs.List.{flat_map, slice_get, list_any, range_with_len}
use Rattle.std.proofs.lemmas.List.{drop_all}
use Rattle.cell.specs.declared.frame.Frame.{Frame}
use Rattle.machine.specs.Apply.{marked_in}
use Rattle.machine.specs.Names.{mark_names, stands}
use Rattle.held.specs.Marks.{marks_at}

-- a name stands in two lists together if it stands in one of them
stands_append : (n : ℕ) (xs ys : List ℕ) → stands n (xs ++ ys) ≡ cond (stands n xs) true (stands n ys)
stands_append n [] ys = refl
stands_append n (x ∷ xs) ys = by (eqb x n) (stands_append n xs ys)
  where
    by : (b : Bool) → stands n (xs ++ ys) ≡ cond (stands n xs) true (stands n ys) → cond b true (stands n (xs ++ ys)) ≡ cond (cond b true (stands n xs)) true (stands n ys)
    by true rest = refl
    by false rest = rest

-- the frames from an index on: the one there, or those after it
pub marked_step : (fs : List Frame) (i n : ℕ) → marked_in (drop i fs) n ≡ cond (marks_at (slice_get fs i) n) true (marked_in (drop (suc i) fs) n)
marked_step [] zero n = refl
marked_step [] (suc i) n = refl
marked_step (f ∷ fs) zero n = stands_append n (mark_names f) (flat_map mark_names fs)
marked_step (f ∷ fs) (suc i) n = marked_step fs i n

-- two lists of frames together
marked_append : (fs gs : List Frame) (n : ℕ) → marked_in (fs ++ gs) n ≡ cond (marked_in fs n) true (marked_in gs n)
marked_append [] gs n = refl
marked_append (f ∷ fs) gs n =
    marked_step (f ∷ (fs ++ gs)) 0 n
    ∙ ap (cond (stands n (mark_names f)) true) (marked_append fs gs n)
    ∙ by (stands n (mark_names f))
    ∙ ap (λ b. cond b true (marked_in gs n)) (sym (marked_step (f ∷ fs) 0 n))
  where
    by : (b : Bool) → cond b true (cond (marked_in fs n) true (marked_in gs n)) ≡ cond (cond b true (marked_in fs n)) true (marked_in gs n)
    by true = refl
    by false = refl

-- either of two tests, in either order
either : (a b : Bool) → cond a true b ≡ cond b true a
either true true = refl
either true false = refl
either false true = refl
either false false = refl

-- the order does not matter
pub marked_reverse : (fs : List Frame) (n : ℕ) → marked_in (reverse fs) n ≡ marked_in fs n
marked_reverse [] n = refl
marked_reverse (f ∷ fs) n =
    ap (λ gs. marked_in gs n) (reverse-cons f fs)
    ∙ marked_append (reverse fs) (f ∷ []) n
    ∙ ap (λ b. cond b true (marked_in (f ∷ []) n)) (marked_reverse fs n)
    ∙ either (marked_in fs n) (marked_in (f ∷ []) n)
    ∙ sym (marked_append (f ∷ []) fs n)

-- the same choice in another word
either_is : (a b : Bool) → cond a true b ≡ (a || b)
either_is true b = refl
either_is false b = refl

-- a search by index
any_from : (fs : List Frame) (n i k : ℕ) → i + k ≡ length fs → list_any (λ j. marks_at (slice_get fs j) n) (range_with_len i k) ≡ marked_in (drop i fs) n
any_from fs n i zero e = sym (ap (λ gs. marked_in gs n) (drop_all i fs (omega arith)))
any_from fs n i (suc k) e =
    let one : i + 1 ≡ suc i = omega arith in
    ap (λ b. marks_at (slice_get fs i) n || b) (any_from fs n (i + 1) k (omega arith))
    ∙ ap (λ j. marks_at (slice_get fs i) n || marked_in (drop j fs) n) one
    ∙ sym (marked_step fs i n ∙ either_is (marks_at (slice_get fs i) n) (marked_in (drop (suc i) fs) n))

-- from the first index, and in either order
pub marked_any : (fs : List Frame) (n : ℕ) → marked_in (reverse fs) n ≡ list_any (λ j. marks_at (slice_get fs j) n) (range_with_len 0 (length fs))
marked_any fs n = marked_reverse fs n ∙ sym (any_from fs n 0 (length fs) (omega arith))
