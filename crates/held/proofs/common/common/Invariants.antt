use Rattle.std.proofs.Common.{◌-◌, ◌≡◌, ◌+◌}
use Rattle.cell.specs.Elements.{wind_in}
use Rattle.store.specs.Meaning.{saved_under}
use Rattle.store.specs.Typed.{read_as}
use Rattle.held.proofs.Beginnings.{or_empty, common-from}
use Rattle.held.proofs.common.common.Given as goal

-- the winds below the index agree, and what is common is counted on from there
abbrev pub invariant-loop-index : goal.invariant-loop-index
invariant-loop-index g l =
    let m = read_as wind_in (g.W.Store.meaning l.winds) in
    let ss = or_empty (saved_under m.held l.name.0) in
    common-from 0 m.current ss ≡ l.index + common-from l.index m.current ss

-- what is left of the shorter list
abbrev pub decreases-loop-index : goal.decreases-loop-index
decreases-loop-index g l = l.shorter - l.index
