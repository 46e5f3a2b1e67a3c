-- What a copied stack means.
use Rattle.std.specs.Prelude.{ℕ, ◌*◌, ◌-◌, List, [], ◌∷◌, Some, None, Option, length, take, drop, vec_items}
use Rattle.cell.specs.declared.cell.Cell.{Cell}
use Rattle.store.specs.Meaning.{Meaning}
use Rattle.bottom.specs.declared.row.Row.{Row}
use Rattle.bottom.specs.Limits.{cells_needed}
use Rattle.bottom.specs.Meant.{by_rows}
use Rattle.bottom.specs.Tables.{listed}
use Rattle.copied.specs.declared.copied.Copied.{Copied}
use Rattle.cell.specs.Filled.{width}
use Rattle.copied.specs.Cells.{cells}
use Rattle.copied.specs.Parts.{read_row}

-- the words that a store needs
abbrev pub size : Copied → ℕ
size s = width * cells_needed s.depth s.table.limit

-- the meaning of a store
abbrev pub meant : Copied → Meaning Cell
meant s = by_rows (read_row (vec_items s.memory) s.depth) (cells (vec_items s.memory) 0 s.len) (listed s.table) s.depth s.table.limit

-- how many words a store needs, and those past them
abbrev pub fixed_of : Copied → ℕ × List ℕ
fixed_of s = (size s, drop (size s) (vec_items s.memory))

-- the rows of the held names
abbrev pub held_rows : Copied → List Row
held_rows s = listed s.table

-- the places whose parts are free: the last of them is given out next
abbrev pub free_places : Copied → List ℕ
free_places s = s.free.items

-- the place of a row, where there is one
abbrev pub place_of : Option Row → List ℕ
place_of None = []
place_of (Some r) = r.at ∷ []

-- the places that are left when the last is given out
abbrev pub one_given : List ℕ → List ℕ
one_given free = take (length free - 1) free
