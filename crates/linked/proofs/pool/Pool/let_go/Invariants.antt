use Rattle.std.proofs.Common.{ℕ, ◌-◌, vec_items}
use Rattle.linked.specs.Chains.{with_top}
use Rattle.linked.specs.Moves.{Holds, Moved}
use Rattle.linked.proofs.pool.Pool.let_go.Given as goal

-- the other lists are as they were, and what is left of the list is held by itself
abbrev pub invariant-loop : goal.invariant-loop
invariant-loop l =
    (p depth : ℕ) (R : ℕ → ℕ) → Holds (vec_items l.initial.self.nodes) p depth l.initial.self.free l.fn.list.top l.fn.list.len R
    → Moved (vec_items l.initial.self.nodes) (vec_items l.self.nodes) p depth l.self.free (with_top l.at R) R × Holds (vec_items l.self.nodes) p depth l.self.free l.at (l.fn.list.len - l.counter) R
