-- Three lists of things with the same names, joined row by row.
use Rattle.std.proofs.Common.{◌≡◌, ℕ, Bool, List, [], ◌∷◌, ◌++◌, Some, None, refl, arith}
use Rattle.machine.specs.Named.{find, without, changed, changed_all}
use Rattle.machine.specs.State.{capture_name, for_many}
use Rattle.laws.specs.Rows.{joined, Matched, row, many, kept_name, flag_name, RowsJoined}

module _ {A B C D : Type 0} (na : A → ℕ) (nb : B → ℕ) (nc : C → ℕ) (nd : D → ℕ) (make : A → B → C → D)
    (named : (x : A) (y : B) (z : C) → nd (make x y z) ≡ na x) where
  pub joined_push : (x : A) (y : B) (z : C) → na x ≡ nb y → na x ≡ nc z → (xs : List A) (ys : List B) (zs : List C) → Matched na nb nc xs ys zs
      → Matched na nb nc (xs ++ (x ∷ [])) (ys ++ (y ∷ [])) (zs ++ (z ∷ []))
      × (joined make (xs ++ (x ∷ [])) (ys ++ (y ∷ [])) (zs ++ (z ∷ [])) ≡ joined make xs ys zs ++ (make x y z ∷ []))
  joined_push x y z e f [] [] [] h = ((e, f, tt), refl)
  joined_push x y z e f [] [] (c ∷ zs) h = absurd h
  joined_push x y z e f [] (b ∷ ys) zs h = absurd h
  joined_push x y z e f (a ∷ xs) [] zs h = absurd h
  joined_push x y z e f (a ∷ xs) (b ∷ ys) [] h = absurd h
  joined_push x y z e f (a ∷ xs) (b ∷ ys) (c ∷ zs) h =
      let i = joined_push x y z e f xs ys zs h.2 in ((h.0, h.1, i.0), cc i.1)

  pub joined-without : (n : ℕ) (xs : List A) (ys : List B) (zs : List C) → Matched na nb nc xs ys zs
      → Matched na nb nc (without na xs n) (without nb ys n) (without nc zs n)
      × (joined make (without na xs n) (without nb ys n) (without nc zs n) ≡ without nd (joined make xs ys zs) n)
  joined-without n [] [] [] h = (tt, refl)
  joined-without n [] [] (z ∷ zs) h = absurd h
  joined-without n [] (y ∷ ys) zs h = absurd h
  joined-without n (x ∷ xs) [] zs h = absurd h
  joined-without n (x ∷ xs) (y ∷ ys) [] h = absurd h
  joined-without n (x ∷ xs) (y ∷ ys) (z ∷ zs) h = grind (arith, named x y z, h.0, h.1, h.2, joined-without n xs ys zs h.2)

  -- a change of the third list that keeps its names
  module _ (test : ℕ → Bool) (change : C → C) (change' : D → D) (keeps : (z : C) → nc (change z) ≡ nc z)
      (same : (x : A) (y : B) (z : C) → make x y (change z) ≡ change' (make x y z)) where
    changed_one : (x : A) (y : B) (z : C) → na x ≡ nc z → make x y (changed nc test change z) ≡ changed nd test change' (make x y z)
    changed_one x y z e = grind (arith, named x y z, same x y z)

    changed-name : (z : C) → nc (changed nc test change z) ≡ nc z
    changed-name z = grind (arith, keeps z)

    pub joined-changed : (xs : List A) (ys : List B) (zs : List C) → Matched na nb nc xs ys zs
        → Matched na nb nc xs ys (changed_all nc test change zs) × (joined make xs ys (changed_all nc test change zs) ≡ changed_all nd test change' (joined make xs ys zs))
    joined-changed [] [] [] h = (tt, refl)
    joined-changed [] [] (z ∷ zs) h = absurd h
    joined-changed [] (y ∷ ys) zs h = absurd h
    joined-changed (x ∷ xs) [] zs h = absurd h
    joined-changed (x ∷ xs) (y ∷ ys) [] h = absurd h
    joined-changed (x ∷ xs) (y ∷ ys) (z ∷ zs) h = grind (arith, h.0, h.1, changed-name z, changed_one x y z h.1, joined-changed xs ys zs h.2)

  pub joined-unheld : (n : ℕ) (xs : List A) (ys : List B) (zs : List C) → Matched na nb nc xs ys zs → find na xs n ≡ None → find nd (joined make xs ys zs) n ≡ None
  joined-unheld n [] [] [] h e = refl
  joined-unheld n [] [] (z ∷ zs) h e = absurd h
  joined-unheld n [] (y ∷ ys) zs h e = absurd h
  joined-unheld n (x ∷ xs) [] zs h e = absurd h
  joined-unheld n (x ∷ xs) (y ∷ ys) [] h e = absurd h
  joined-unheld n (x ∷ xs) (y ∷ ys) (z ∷ zs) h e = grind (arith, named x y z, joined-unheld n xs ys zs h.2)

  module _ (n : ℕ) (a : A) (b : B) (c : C) where
    pub joined-found : (xs : List A) (ys : List B) (zs : List C) → Matched na nb nc xs ys zs → find na xs n ≡ Some a → find nb ys n ≡ Some b → find nc zs n ≡ Some c
        → find nd (joined make xs ys zs) n ≡ Some (make a b c)
    joined-found [] [] [] h e f g = cc
    joined-found [] [] (z ∷ zs) h e f g = absurd h
    joined-found [] (y ∷ ys) zs h e f g = absurd h
    joined-found (x ∷ xs) [] zs h e f g = absurd h
    joined-found (x ∷ xs) (y ∷ ys) [] h e f g = absurd h
    joined-found (x ∷ xs) (y ∷ ys) (z ∷ zs) h e f g = grind (arith, named x y z, h.0, h.1, joined-found xs ys zs h.2)

pub rows-joined : RowsJoined
rows-joined xs ys zs h =
    record {
      pushed = λ x y z e f. joined_push kept_name kept_name flag_name capture_name row (λ x y z. refl) x y z e f xs ys zs h;
      removed = λ n. joined-without kept_name kept_name flag_name capture_name row (λ x y z. refl) n xs ys zs h;
      promoted = λ test. joined-changed kept_name kept_name flag_name capture_name row (λ x y z. refl) test many for_many (λ z. refl) (λ x y z. refl) xs ys zs h;
      unheld = λ n e. joined-unheld kept_name kept_name flag_name capture_name row (λ x y z. refl) n xs ys zs h e;
      found = λ n x y z e f g. joined-found kept_name kept_name flag_name capture_name row (λ x y z. refl) n x y z xs ys zs h e f g;
    }
