use Rattle.laws.proofs.Limits.{limits_only_end}
use Rattle.laws.proofs.laws.limits_only_end.Goals as goal

pub returns : goal.returns
returns c = limits_only_end
