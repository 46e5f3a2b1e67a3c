use Rattle.std.proofs.Common.{◌≡◌, suc, ◌-◌, ◌<◌, true, vec_items}
use Rattle.std.specs.List.{slice_get}
use Rattle.bottom.specs.Limits.{cells_needed}
use Rattle.linked.specs.Chains.{ends, cells}
use Rattle.linked.proofs.linked.Linked.cell_of.Given as goal

-- the list from the node that the loop has come to is so long, and its cell at the index is the one
abbrev pub invariant-loop : goal.invariant-loop
invariant-loop l =
    (ends (vec_items l.self.pool.nodes) (cells_needed l.self.depth l.self.table.limit) l.at (suc (l.counter - 1)) ≡ true)
    × (slice_get (cells (vec_items l.self.pool.nodes) l.at (suc (l.counter - 1))) l.index ≡ slice_get (cells (vec_items l.self.pool.nodes) l.fn.list.top l.fn.list.len) l.index)
    × (l.index < l.counter)
