use Rattle.std.proofs.Common.{◌≡◌, ℕ, ◌+◌, ◌<◌}
use Rattle.linked.specs.Chains.{node_at}
use Rattle.linked.proofs.pool.link_free.Given as goal

-- the nodes up to here are linked
abbrev pub invariant-loop-i : goal.invariant-loop-i
invariant-loop-i l = (k : ℕ) → k < l.i → ((node_at l.node-items k).link ≡ k + 1) × ((node_at l.node-items k).holders ≡ 0)
