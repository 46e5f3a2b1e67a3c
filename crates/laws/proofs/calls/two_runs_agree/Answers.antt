use Rattle.laws.proofs.Served.{two_runs_agree}
use Rattle.laws.proofs.calls.two_runs_agree.Goals as goal

pub returns : goal.returns
returns c = two_runs_agree
