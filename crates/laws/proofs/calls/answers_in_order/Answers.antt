use Rattle.laws.proofs.Served.{in_order}
use Rattle.laws.proofs.calls.answers_in_order.Goals as goal

pub returns : goal.returns
returns c = in_order
