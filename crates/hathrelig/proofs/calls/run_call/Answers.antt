use Rattle.std.proofs.Common.{ap}
use Rattle.machine.specs.Calls.{run}
use Rattle.hathrelig.proofs.calls.run_call.Goals as goal

pub returns : goal.returns
returns c = ap (run 1000) (c.in_ok-vec.ensures.items_if_clones_equal (λ y same. same))
