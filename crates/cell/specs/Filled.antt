-- A cell and its words.
use Rattle.std.specs.Prelude.{ℕ, ◌-◌, List, ◌++◌, length, replicate, slice_index}
use Rattle.cell.specs.declared.cell.Cell.{Cell}

-- how many words a cell has
abbrev pub width : ℕ
width = 4

-- the cell that begins with some words and has zeros after them
abbrev pub filled : List ℕ → Cell
filled ws = record { words = ws ++ replicate (width - length ws) 0 }

-- the word of a cell at an index
abbrev pub word : Cell → ℕ → ℕ
word c i = slice_index c.words i
