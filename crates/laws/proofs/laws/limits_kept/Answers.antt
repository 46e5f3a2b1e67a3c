use Rattle.laws.proofs.Counts.{limits-kept}
use Rattle.laws.proofs.laws.limits_kept.Goals as goal

pub returns : goal.returns
returns c = limits-kept
