-- The rows of a table.
use Rattle.std.specs.Prelude.{List}
use Rattle.bottom.specs.declared.row.Row.{Row}
use Rattle.bottom.specs.declared.table.Table.{Table}

-- the rows of the held names
abbrev pub listed : Table → List Row
listed t = t.rows.items
