-- A line written over a buffer.
use Rattle.std.specs.Prelude.{ℕ, ◌+◌, cond, List, ◌++◌, length, take, drop, Some, None, Option, nat_le}

-- how many bytes the longest line has
abbrev pub longest_line : ℕ
longest_line = 12

-- the buffer with a line over it, from an index on
abbrev pub overwrite : List ℕ → ℕ → List ℕ → List ℕ
overwrite buffer at line = take at buffer ++ (line ++ drop (at + length line) buffer)

-- writing a line at an index: its number of bytes and the buffer with it, if it fits whole; else nothing, and the buffer as it was
abbrev pub written : List ℕ → ℕ → List ℕ → Option ℕ × List ℕ
written buffer at line = cond (nat_le (at + length line) (length buffer)) (Some (length line), overwrite buffer at line) (None, buffer)
