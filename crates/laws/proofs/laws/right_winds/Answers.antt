use Rattle.laws.proofs.Counts.{right-winds}
use Rattle.laws.proofs.laws.right_winds.Goals as goal

pub returns : goal.returns
returns c = right-winds
