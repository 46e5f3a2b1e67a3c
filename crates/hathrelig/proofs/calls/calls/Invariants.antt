use Rattle.std.proofs.Common.{◌≡◌, map, replicate}
use Rattle.run.specs.Serving.{asked}
use Rattle.hathrelig.specs.Output.{run_call_asked}
use Rattle.hathrelig.proofs.calls.calls.Given as goal

-- so many calls stand there
abbrev pub invariant-loop : goal.invariant-loop
invariant-loop l = map asked l.calls.items ≡ replicate l.counter run_call_asked
