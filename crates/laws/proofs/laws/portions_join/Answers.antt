use Rattle.laws.proofs.Courses.{portions_join}
use Rattle.laws.proofs.laws.portions_join.Goals as goal

pub returns : goal.returns
returns c = portions_join
