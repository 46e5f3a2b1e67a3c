use Rattle.laws.proofs.TwoRuns.{two_runs_agree_throughout}
use Rattle.laws.proofs.calls.two_runs_agree_throughout.Goals as goal

pub returns : goal.returns
returns c = two_runs_agree_throughout
