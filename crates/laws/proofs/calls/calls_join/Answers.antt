use Rattle.laws.proofs.Served.{calls_join}
use Rattle.laws.proofs.calls.calls_join.Goals as goal

pub returns : goal.returns
returns c = calls_join
