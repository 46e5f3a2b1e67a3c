use Rattle.laws.proofs.Counts.{all_names_made}
use Rattle.laws.proofs.laws.all_names_made.Goals as goal

pub returns : goal.returns
returns c = all_names_made
