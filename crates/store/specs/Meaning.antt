-- What a store of cells means, and what each call answers and leaves. It is said over any kind A of cell, since a
-- typed list means the same at its elements.
use Rattle.std.specs.Prelude.{ℕ, ◌-◌, cond, List, [], ◌∷◌, ◌++◌, length, take, Some, None, Ok, Err, Option, Result, ◌==◌, nat_le}
use Rattle.std.specs.List.{slice_get}
use Rattle.std.specs.Option.{ok_or}
use Rattle.store.specs.declared.refusal.Refusal.{Refusal}
use Rattle.store.specs.declared.refusal.Refusal.TheVariants.{Full, Empty, HeldFull, NameTaken, NotHeld, NoIndex}

-- a name, with the list that was saved under it
pub record Held (A : Type 0) : Type 0 where
  pub name : ℕ
  pub cells : List A

-- the current list has the bottom cell first, and the held pairs the oldest first
pub record Meaning (A : Type 0) : Type 0 where
  pub current : List A
  pub held : List (Held A)
  pub depth_limit : ℕ
  pub held_limit : ℕ
  pub height : ℕ
  pub limit_level : ℕ

-- the number of a refusal
abbrev pub refusal_number : Refusal → ℕ
refusal_number (Full level) = 10
refusal_number Empty = 11
refusal_number HeldFull = 12
refusal_number NameTaken = 13
refusal_number NotHeld = 14
refusal_number NoIndex = 15

module _ {A : Type 0} where
  -- the same store with another current list
  abbrev pub with_current : Meaning A → List A → Meaning A
  with_current m cs = record { current = cs; held = m.held; depth_limit = m.depth_limit; held_limit = m.held_limit; height = m.height; limit_level = m.limit_level }

  -- the same store with other held pairs
  abbrev pub with_held : Meaning A → List (Held A) → Meaning A
  with_held m hs = record { current = m.current; held = hs; depth_limit = m.depth_limit; held_limit = m.held_limit; height = m.height; limit_level = m.limit_level }

  -- the list saved under a name
  abbrev pub saved_under : List (Held A) → ℕ → Option (List A)
  saved_under [] n = None
  saved_under (h ∷ hs) n = cond (h.name == n) (Some h.cells) (saved_under hs n)

  -- the pairs without that of a name
  abbrev pub without : List (Held A) → ℕ → List (Held A)
  without [] n = []
  without (h ∷ hs) n = cond (h.name == n) hs (h ∷ without hs n)

-- what a call answers, and what the store means after it
abbrev pub Outcome : Type 0 → Type 0 → Type 0
Outcome A B = Result B Refusal × Meaning A

module _ {A : Type 0} where
  -- a push adds a cell on top, unless the list is as long as the depth limit
  abbrev pub pushed : Meaning A → A → Outcome A Unit
  pushed m c =
      cond (nat_le m.depth_limit (length m.current))
      (Err (Full m.limit_level), m)
      (Ok tt, with_current m (m.current ++ (c ∷ [])))

  -- the top cell is the one at the last index, if there is any
  abbrev pub top : List A → Option A
  top cs = slice_get cs (length cs - 1)

  -- a pop, from what is on top
  abbrev pub popped_by : Meaning A → Option A → Outcome A A
  popped_by m None = (Err Empty, m)
  popped_by m (Some c) = (Ok c, with_current m (take (length m.current - 1) m.current))

  -- a pop removes and answers the top cell, unless there is none
  abbrev pub popped : Meaning A → Outcome A A
  popped m = popped_by m (top m.current)

  -- a save under a name, from what is held under it: a name that is 0 or held is refused before want of room for a pair
  abbrev pub saved_by : Meaning A → ℕ → Option (List A) → Outcome A Unit
  saved_by m n (Some cs) = (Err NameTaken, m)
  saved_by m n None =
      cond (n == 0)
      (Err NameTaken, m)
      (cond (nat_le m.held_limit (length m.held))
      (Err HeldFull, m)
      (Ok tt, with_held m (m.held ++ (record { name = n; cells = m.current } ∷ []))))

  -- a save adds the pair of a name and the current list
  abbrev pub saved : Meaning A → ℕ → Outcome A Unit
  saved m n = saved_by m n (saved_under m.held n)

  -- a restore, from what is held under the name
  abbrev pub restored_by : Meaning A → Option (List A) → Outcome A Unit
  restored_by m (Some cs) = (Ok tt, with_current m cs)
  restored_by m None = (Err NotHeld, m)

  -- a restore makes the list that is held under a name current, and goes on holding it
  abbrev pub restored : Meaning A → ℕ → Outcome A Unit
  restored m n = restored_by m (saved_under m.held n)

  -- a release, from what is held under the name
  abbrev pub released_by : Meaning A → ℕ → Option (List A) → Outcome A Unit
  released_by m n (Some cs) = (Ok tt, with_held m (without m.held n))
  released_by m n None = (Err NotHeld, m)

  -- a release removes the pair of a name, and leaves the current list
  abbrev pub released : Meaning A → ℕ → Outcome A Unit
  released m n = released_by m n (saved_under m.held n)

  -- a take, from what is held under the name
  abbrev pub taken_by : Meaning A → ℕ → Option (List A) → Outcome A Unit
  taken_by m n (Some cs) = (Ok tt, with_held (with_current m cs) (without m.held n))
  taken_by m n None = (Err NotHeld, m)

  -- a take is a restore and a release of one name
  abbrev pub taken : Meaning A → ℕ → Outcome A Unit
  taken m n = taken_by m n (saved_under m.held n)

  -- the cell at an index of a list
  abbrev pub cell_in : List A → ℕ → Result A Refusal
  cell_in cs p = ok_or (slice_get cs p) NoIndex

  -- the length of what is held under a name
  abbrev pub length_by : Option (List A) → Result ℕ Refusal
  length_by (Some cs) = Ok (length cs)
  length_by None = Err NotHeld

  -- the length of the list that was saved under a name
  abbrev pub saved_length : Meaning A → ℕ → Result ℕ Refusal
  saved_length m n = length_by (saved_under m.held n)

  -- the cell at an index of what is held under a name: a name that is not held is refused first
  abbrev pub cell_by : Option (List A) → ℕ → Result A Refusal
  cell_by (Some cs) p = cell_in cs p
  cell_by None p = Err NotHeld

  -- the cell at an index of the list that was saved under a name
  abbrev pub saved_cell_in : Meaning A → ℕ → ℕ → Result A Refusal
  saved_cell_in m n p = cell_by (saved_under m.held n) p
