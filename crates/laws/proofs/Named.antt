-- The laws of looking a thing up by its name: what a push, a removal and a change of things do to it.
use Rattle.std.proofs.Common.{◌≡◌, ℕ, suc, ◌≤◌, List, [], ◌∷◌, ◌++◌, map, length, Some, None, refl, arith}
use Rattle.std.specs.List.{AllByRecursion as All}
use Rattle.std.specs.Option.{option_map}
use Rattle.std.proofs.lemmas.Bool.{eqb-true, ne_eqb}
use Rattle.machine.specs.Named.{find, without}
use Rattle.laws.proofs.Counting.{count}

module _ {A : Type 0} (name : A → ℕ) where
  -- the names of a list of things
  abbrev pub names : List A → List ℕ
  names = map name

  pub find-all : (P : A → Type 0) (xs : List A) (n : ℕ) (x : A) → find name xs n ≡ Some x → All P xs → P x
  find-all P [] n x e h = cc
  find-all P (y ∷ xs) n x e h = grind (arith, find-all P xs n x, h.0, h.1)

  -- a name that stands nowhere is not found
  pub find_none : (xs : List A) (n : ℕ) → count n (names xs) ≡ 0 → find name xs n ≡ None
  find_none [] n z = refl
  find_none (x ∷ xs) n z = grind (arith, find_none xs n)

  -- A push.

  pub find_push : (xs : List A) (y : A) (n : ℕ) → (name y ≡ n → ⊥) → find name (xs ++ (y ∷ [])) n ≡ find name xs n
  find_push [] y n h = grind (arith, ne_eqb)
  find_push (x ∷ xs) y n h = grind (arith, find_push xs y n)

  pub names_push : (xs : List A) (y : A) → names (xs ++ (y ∷ [])) ≡ names xs ++ (name y ∷ [])
  names_push [] y = refl
  names_push (x ∷ xs) y = cc (names_push xs y)

  -- A removal.

  find_other : (xs : List A) (m n : ℕ) → (m ≡ n → ⊥) → find name (without name xs m) n ≡ find name xs n
  find_other [] m n h = refl
  find_other (x ∷ xs) m n h = grind (arith, find_other xs m n, eqb-true, ne_eqb)

  count-removed : (xs : List A) (n : ℕ) → count n (names xs) ≤ 1 → count n (names (without name xs n)) ≡ 0
  count-removed [] n h = refl
  count-removed (x ∷ xs) n h = grind (arith, count-removed xs n)

  -- where no name stands twice, a name that is removed is not found
  pub find-removed : (xs : List A) (n : ℕ) → count n (names xs) ≤ 1 → find name (without name xs n) n ≡ None
  find-removed xs n h = find_none (without name xs n) n (count-removed xs n h)

  -- what is found after a removal was found before it
  pub find-kept : (xs : List A) (m n : ℕ) (x : A) → count m (names xs) ≤ 1 → find name (without name xs m) n ≡ Some x → find name xs n ≡ Some x
  find-kept xs m n x h e = grind (arith, find_other xs m n, find-removed xs m)

  pub length_without : (xs : List A) (n : ℕ) (x : A) → find name xs n ≡ Some x → suc (length (without name xs n)) ≡ length xs
  length_without [] n x e = cc
  length_without (y ∷ xs) n x e = grind (arith, length_without xs n x)

  pub length_without_le : (xs : List A) (n : ℕ) → length (without name xs n) ≤ length xs
  length_without_le [] n = omega arith
  length_without_le (x ∷ xs) n = grind (arith, length_without_le xs n)

  pub count-without : (k : ℕ) (xs : List A) (n : ℕ) → count k (names (without name xs n)) ≤ count k (names xs)
  count-without k [] n = omega arith
  count-without k (x ∷ xs) n = grind (arith, count-without k xs n)

  pub all_without : (P : A → Type 0) (xs : List A) (n : ℕ) → All P xs → All P (without name xs n)
  all_without P [] n h = tt
  all_without P (x ∷ xs) n h = grind (arith, all_without P xs n, h.0, h.1)

  -- A change that keeps the names.

  module _ (change : A → A) (keeps : (x : A) → name (change x) ≡ name x) where
    pub find-map : (xs : List A) (n : ℕ) → find name (map change xs) n ≡ option_map change (find name xs n)
    find-map [] n = refl
    find-map (x ∷ xs) n = grind (arith, find-map xs n, keeps x)

    pub names-map : (xs : List A) → names (map change xs) ≡ names xs
    names-map [] = refl
    names-map (x ∷ xs) = cc (keeps x, names-map xs)
