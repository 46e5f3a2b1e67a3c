use Rattle.laws.proofs.Served.{ended_stays}
use Rattle.laws.proofs.calls.ended_stays.Goals as goal

pub returns : goal.returns
returns c = ended_stays
