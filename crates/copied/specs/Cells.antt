-- Cells as they lie in a memory of words.
use Rattle.std.specs.Prelude.{ℕ, ◌*◌, List, map, take, drop}
use Rattle.std.specs.List.{range_with_len}
use Rattle.cell.specs.declared.cell.Cell.{Cell}
use Rattle.cell.specs.Filled.{width}

-- the cell at an index: its words in a row
abbrev pub cell_at : List ℕ → ℕ → Cell
cell_at ws i = record { words = take width (drop (width * i) ws) }

-- the n cells from an index on
abbrev pub cells : List ℕ → ℕ → ℕ → List Cell
cells ws from n = map (cell_at ws) (range_with_len from n)
