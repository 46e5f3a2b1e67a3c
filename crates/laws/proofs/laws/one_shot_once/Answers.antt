use Rattle.laws.proofs.Spent.{one_shot_once}
use Rattle.laws.proofs.laws.one_shot_once.Goals as goal

pub returns : goal.returns
returns c = one_shot_once
