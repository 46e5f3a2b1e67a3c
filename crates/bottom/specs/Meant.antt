-- What a bottom store means, by its rows and a way to read the saved list of a row.
use Rattle.std.specs.Prelude.{ℕ, Bool, cond, List, [], map}
use Rattle.store.specs.Meaning.{Meaning, Held}
use Rattle.bottom.specs.declared.row.Row.{Row}

module _ {A : Type 0} where
  -- the held pair of a row
  abbrev pub pair_by : (Row → List A) → Row → Held A
  pair_by read r = record { name = r.name.0; cells = read r }

  -- a store at the bottom has height 0, and its own depth limit
  abbrev pub bottom : List A → List (Held A) → ℕ → ℕ → Meaning A
  bottom current held depth limit = record { current = current; held = held; depth_limit = depth; held_limit = limit; height = 0; limit_level = 0 }

  -- the meaning of a store with these rows
  abbrev pub by_rows : (Row → List A) → List A → List Row → ℕ → ℕ → Meaning A
  by_rows read current rows depth limit = bottom current (map (pair_by read) rows) depth limit

  -- a new store: both limits are 0 unless they were accepted
  abbrev pub opened : Bool → ℕ → ℕ → Meaning A
  opened accepted depth limit = cond accepted (bottom [] [] depth limit) (bottom [] [] 0 0)
