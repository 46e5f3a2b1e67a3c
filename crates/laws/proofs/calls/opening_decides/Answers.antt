use Rattle.laws.proofs.Served.{opening_decides}
use Rattle.laws.proofs.calls.opening_decides.Goals as goal

pub returns : goal.returns
returns c = opening_decides
