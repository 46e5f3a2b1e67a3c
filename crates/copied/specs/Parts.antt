-- The parts of a copied stack's memory: the current list first, and then one part, as long as the depth limit, for each row.
use Rattle.std.specs.Prelude.{ℕ, ◌+◌, ◌≤◌, Bool, ◌&&◌, List, map, nat_le, nat_lt}
use Rattle.cell.specs.declared.cell.Cell.{Cell}
use Rattle.bottom.specs.declared.row.Row.{Row}
use Rattle.bottom.specs.Limits.{cells_needed}
use Rattle.bottom.specs.Rows.{blank, places}
use Rattle.copied.specs.Cells.{cells}

-- where the part of a place begins: behind the current list and the parts of the places before it
abbrev pub part_start : ℕ → ℕ → ℕ
part_start depth place = cells_needed depth place

-- the list that lies in the part of a row
abbrev pub read_row : List ℕ → ℕ → Row → List Cell
read_row ws depth r = cells ws (part_start depth r.at) r.len

-- the free rows: at each free place one without a name
abbrev pub spare : List ℕ → List Row
spare free = map blank free

-- no two rows have one place, whether they are held or free
abbrev pub Apart : List Row → List Row → Type 0
Apart held free = (k : ℕ) → places held k + places free k ≤ 1

-- a row whose part is there, and whose list is no longer than the depth limit
abbrev pub row_fits : ℕ → ℕ → Row → Bool
row_fits depth limit r = nat_le r.len depth && nat_lt r.at limit

-- a row whose part is there
abbrev pub place_fits : ℕ → Row → Bool
place_fits limit r = nat_lt r.at limit
