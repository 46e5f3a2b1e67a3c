use Rattle.laws.proofs.Counts.{counts-conserved}
use Rattle.laws.proofs.laws.counts_conserved.Goals as goal

pub returns : goal.returns
returns c = counts-conserved
