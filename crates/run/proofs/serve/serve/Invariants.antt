use Rattle.std.proofs.Common.{◌≡◌}
use Rattle.run.specs.Serving.{serving}
use Rattle.run.proofs.Serving.{resumed}
use Rattle.run.proofs.serve.serve.Given as goal

-- what is still to come makes the whole
abbrev pub invariant-loop-exchange : goal.invariant-loop-exchange
invariant-loop-exchange g l = resumed l.exchange-index l.run l.exchanges ≡ serving l.initial.run l.initial.exchanges
