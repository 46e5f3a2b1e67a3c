-- Lists of things that have a name each. The first thing of a name is the one that the name means.
use Rattle.std.specs.Prelude.{ℕ, Bool, cond, List, [], ◌∷◌, map, Option, ◌==◌}

module _ {A : Type 0} (name : A → ℕ) where
  -- the thing of a name, if there is one: by the library's search
  abbrev pub find : List A → ℕ → Option A
  find xs n = Rattle.std.specs.List.find (λ x. name x == n) xs

  -- the list without the thing of a name
  abbrev pub without : List A → ℕ → List A
  without [] n = []
  without (x ∷ xs) n = cond (name x == n) xs (x ∷ without xs n)

  -- a thing, changed if its name passes a test
  abbrev pub changed : (ℕ → Bool) → (A → A) → A → A
  changed test change x = cond (test (name x)) (change x) x

  -- a list of things, each changed if its name passes a test
  abbrev pub changed_all : (ℕ → Bool) → (A → A) → List A → List A
  changed_all test change xs = map (changed test change) xs
