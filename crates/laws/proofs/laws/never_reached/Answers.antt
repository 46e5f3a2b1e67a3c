use Rattle.laws.proofs.Counts.{never_reached}
use Rattle.laws.proofs.laws.never_reached.Goals as goal

pub returns : goal.returns
returns c = never_reached
