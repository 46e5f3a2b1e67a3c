use Rattle.laws.proofs.Counts.{counts_within_steps}
use Rattle.laws.proofs.laws.counts_within_steps.Goals as goal

pub returns : goal.returns
returns c = counts_within_steps
