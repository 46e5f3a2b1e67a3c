use Rattle.std.proofs.Common.{◌≡◌, take}
use Rattle.layers.specs.Layers.{lowered}
use Rattle.layers.proofs.cache.push_all.Given as goal

abbrev pub invariant-loop-cell : goal.invariant-loop-cell
invariant-loop-cell g l =
    (g.S.Store.meaning l.store ≡ lowered (take l.cell-index l.cells) (g.S.Store.meaning l.initial.store))
    × (g.S.Store.fixed l.store ≡ g.S.Store.fixed l.initial.store)
