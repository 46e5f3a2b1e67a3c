-- What a linked store means.
use Rattle.std.specs.Prelude.{ℕ, List, drop, vec_items}
use Rattle.cell.specs.declared.cell.Cell.{Cell}
use Rattle.store.specs.Meaning.{Meaning}
use Rattle.bottom.specs.declared.row.Row.{Row}
use Rattle.bottom.specs.Limits.{cells_needed}
use Rattle.bottom.specs.Meant.{by_rows}
use Rattle.bottom.specs.Tables.{listed}
use Rattle.linked.specs.declared.node.Node.{Node}
use Rattle.linked.specs.declared.linked.Linked.{Linked}
use Rattle.linked.specs.Chains.{cells}

-- the list that a row leads to
abbrev pub read_row : List Node → Row → List Cell
read_row ns r = cells ns r.at r.len

-- the nodes that a store needs
abbrev pub size : Linked → ℕ
size s = cells_needed s.depth s.table.limit

-- the meaning of a store
abbrev pub meant : Linked → Meaning Cell
meant s = by_rows (read_row (vec_items s.pool.nodes)) (cells (vec_items s.pool.nodes) s.current.top s.current.len) (listed s.table) s.depth s.table.limit

-- how many nodes a store needs, and those past them
abbrev pub fixed_of : Linked → ℕ × List Node
fixed_of s = (size s, drop (size s) (vec_items s.pool.nodes))
