-- How often a number stands in a list, and lists that begin with another.
use Rattle.std.proofs.Common.{◌≡◌, ℕ, ◌+◌, ◌<◌, ◌≤◌, cond, eqb, List, [], ◌∷◌, ◌++◌, map, reverse, length, Some, None, refl, arith}
use mathlib.Core.List.{reverse_aux}
use Rattle.std.specs.List.{slice_get}
use Rattle.std.proofs.lemmas.Bool.{eqb-true}
use Rattle.machine.specs.Throwing.{common}

-- one if the numbers are equal
abbrev pub one_if : ℕ → ℕ → ℕ
one_if x k = cond (eqb x k) 1 0

abbrev pub count : ℕ → List ℕ → ℕ
count k [] = 0
count k (x ∷ xs) = one_if x k + count k xs

-- each number stands there at most once, and none above m
abbrev pub Numbered : ℕ → List ℕ → Type 0
Numbered m xs = (k : ℕ) → (count k xs ≤ 1) × (m < k → count k xs ≡ 0)

pub numbered-up : (m n : ℕ) (xs : List ℕ) → m ≤ n → Numbered m xs → Numbered n xs
numbered-up m n xs h a k = ((a k).0, λ l. (a k).1 (omega arith))

pub numbered-fresh : (m : ℕ) (xs : List ℕ) → Numbered m xs → Numbered (m + 1) ((m + 1) ∷ xs)
numbered-fresh m xs a k = grind (arith, a k, eqb-true)

-- a list with fewer of each number
pub numbered_less : (m : ℕ) (xs ys : List ℕ) → ((k : ℕ) → count k xs ≤ count k ys) → Numbered m ys → Numbered m xs
numbered_less m xs ys h a k = grind (arith, h k, a k)

count-reverse_aux : (k : ℕ) (xs ys : List ℕ) → count k (reverse_aux xs ys) ≡ count k xs + count k ys
count-reverse_aux k [] ys = omega arith
count-reverse_aux k (x ∷ xs) ys = omega (arith, count-reverse_aux k xs (x ∷ ys))

pub count-reverse : (k : ℕ) (xs : List ℕ) → count k (reverse xs) ≡ count k xs
count-reverse k xs = omega (arith, count-reverse_aux k xs [])

count_push : (k : ℕ) (xs : List ℕ) (x : ℕ) → count k (xs ++ (x ∷ [])) ≡ count k xs + one_if x k
count_push k [] x = omega arith
count_push k (y ∷ xs) x = omega (arith, count_push k xs x)

pub numbered_push : (m : ℕ) (xs : List ℕ) → Numbered m xs → Numbered (m + 1) (xs ++ ((m + 1) ∷ []))
numbered_push m xs a =
    numbered_less (m + 1) (xs ++ ((m + 1) ∷ [])) ((m + 1) ∷ xs) (λ k. omega (arith, count_push k xs (m + 1))) (numbered-fresh m xs a)

-- xs is a beginning of ys
abbrev pub Prefix : List ℕ → List ℕ → Type 0
Prefix [] ys = Unit {0}
Prefix (x ∷ xs) [] = ⊥
Prefix (x ∷ xs) (y ∷ ys) = (x ≡ y) × Prefix xs ys

pub prefix_count : (k : ℕ) (xs ys : List ℕ) → Prefix xs ys → count k xs ≤ count k ys
prefix_count k [] ys h = omega arith
prefix_count k (x ∷ xs) [] h = absurd h
prefix_count k (x ∷ xs) (y ∷ ys) h = grind (arith, h.0, prefix_count k xs ys h.1)

-- one more, at the next index, is a beginning still
pub prefix_next : (xs ys : List ℕ) (y : ℕ) → Prefix xs ys → slice_get ys (length xs) ≡ Some y → Prefix (xs ++ (y ∷ [])) ys
prefix_next [] [] y h e = cc
prefix_next [] (x ∷ ys) y h e = (cc, tt)
prefix_next (x ∷ xs) [] y h e = absurd h
prefix_next (x ∷ xs) (z ∷ ys) y h e = (h.0, prefix_next xs ys y h.1 e)

-- all of xs is common
pub prefix_common : (xs ys : List ℕ) → length xs ≤ common xs ys → Prefix xs ys
prefix_common [] ys h = tt
prefix_common (x ∷ xs) [] h = omega arith
prefix_common (x ∷ xs) (y ∷ ys) h = grind (arith, prefix_common xs ys, eqb-true)

-- and ys has no more
pub same-common : (xs ys : List ℕ) → length xs ≤ common xs ys → slice_get ys (common xs ys) ≡ None → xs ≡ ys
same-common [] [] h e = refl
same-common [] (y ∷ ys) h e = cc
same-common (x ∷ xs) [] h e = absurd (omega arith)
same-common (x ∷ xs) (y ∷ ys) h e = grind (arith, same-common xs ys, eqb-true)

-- Maps of lists.

map_reverse_aux : {A B : Type 0} (f : A → B) (xs ys : List A) → map f (reverse_aux xs ys) ≡ reverse_aux (map f xs) (map f ys)
map_reverse_aux f [] ys = refl
map_reverse_aux f (x ∷ xs) ys = map_reverse_aux f xs (x ∷ ys)

pub map-reverse : {A B : Type 0} (f : A → B) (xs : List A) → map f (reverse xs) ≡ reverse (map f xs)
map-reverse f xs = map_reverse_aux f xs []
