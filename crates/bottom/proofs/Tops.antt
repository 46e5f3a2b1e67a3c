-- A cell of two lists joined, and what a push makes of a meaning.
use Rattle.std.proofs.Common.{◌≡◌, ℕ, zero, suc, ◌+◌, ◌<◌, ◌≤◌, List, [], ◌∷◌, ◌++◌, length, Ok, Err, refl, ap, arith}
use Rattle.std.specs.List.{slice_get}
use Rattle.std.proofs.lemmas.Bool.{cond-true, cond-false, le-leb, lt-leb}
use Rattle.store.specs.declared.refusal.Refusal.TheVariants.{Full}
use Rattle.store.specs.Meaning.{Meaning, pushed, with_current}

module _ {A : Type 0} where
  -- a cell of two lists joined
  pub nth_left : (xs ys : List A) (p : ℕ) → p < length xs → slice_get (xs ++ ys) p ≡ slice_get xs p
  nth_left [] ys p h = absurd (omega arith)
  nth_left (x ∷ xs) ys zero h = refl
  nth_left (x ∷ xs) ys (suc p) h = nth_left xs ys p (omega arith)

  -- a cell of the second list
  pub nth_right : (xs ys : List A) (p n : ℕ) → p ≡ length xs + n → slice_get (xs ++ ys) p ≡ slice_get ys n
  nth_right [] ys p n h = ap (slice_get ys) (omega arith)
  nth_right (x ∷ xs) ys zero n h = absurd (omega arith)
  nth_right (x ∷ xs) ys (suc p) n h = nth_right xs ys p n (omega arith)

  -- a push at the depth limit is refused
  pub pushed_full : (m : Meaning A) (c : A) → m.depth_limit ≤ length m.current → pushed m c ≡ (Err (Full m.limit_level), m)
  pushed_full m c h = cond-true _ _ _ (le-leb m.depth_limit (length m.current) h)

  -- and below it the cell is added
  pub pushed_room : (m : Meaning A) (c : A) → length m.current < m.depth_limit → pushed m c ≡ (Ok tt, with_current m (m.current ++ (c ∷ [])))
  pushed_room m c h = cond-false _ _ _ (lt-leb m.depth_limit (length m.current) h)
