use Rattle.std.proofs.Common.{◌≡◌, ◌++◌, map, reverse, take, drop}
use Rattle.cell.specs.Elements.{frame_in}
use Rattle.machine.specs.Apply.{marked_in}
use Rattle.machine.specs.Named.{changed}
use Rattle.held.specs.Rows.{row_name, for_many}
use Rattle.held.proofs.held_table.promote_each.Given as goal

-- the rows before the index are as they shall be, and the others as they were
abbrev pub invariant-loop-row : goal.invariant-loop-row
invariant-loop-row g l =
    let fs = reverse (map frame_in (g.F.Store.meaning l.frames).current) in
    l.rows ≡ map (changed row_name (marked_in fs) for_many) (take l.row-index l.initial.rows) ++ drop l.row-index l.initial.rows
