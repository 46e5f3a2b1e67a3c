-- The rows of a table of held continuations.
use Rattle.std.specs.Prelude.{ℕ, false, cond, List, [], ◌∷◌, ◌++◌, length, Ok, Err, Result, nat_lt}
use Rattle.held.specs.declared.full.Full.{Full}
use Rattle.held.specs.declared.held_row.HeldRow.{HeldRow}

-- the name of a row, as a number
abbrev pub row_name : HeldRow → ℕ
row_name r = r.name.0

-- the same row, serving for many throws
abbrev pub for_many : HeldRow → HeldRow
for_many r = record { name = r.name; once = false }

-- one row more, unless there are n already
abbrev pub appended : ℕ → List HeldRow → HeldRow → Result Unit Full × List HeldRow
appended n rs r = cond (nat_lt (length rs) n) (Ok tt, rs ++ (r ∷ [])) (Err (record {}), rs)
