use Rattle.std.proofs.Common.{◌≡◌, ◌-◌}
use Rattle.steps.specs.Advancing.{advancing}
use Rattle.steps.proofs.advancing.advance.Given as goal

-- going on from here comes to what the whole comes to
abbrev pub invariant-loop-steps : goal.invariant-loop-steps
invariant-loop-steps g l =
    advancing l.code (l.budget - l.steps) l.steps l.engine l.buffer l.bytes ≡ advancing l.code l.budget 0 l.initial.engine l.initial.buffer 0
