use Rattle.laws.proofs.Counts.{winds-balanced}
use Rattle.laws.proofs.laws.winds_balanced.Goals as goal

pub returns : goal.returns
returns c = winds-balanced
