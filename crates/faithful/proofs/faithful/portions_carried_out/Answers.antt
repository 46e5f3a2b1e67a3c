use Rattle.faithful.proofs.Portions.{portions_carried_out}
use Rattle.faithful.proofs.faithful.portions_carried_out.Goals as goal

pub returns : goal.returns
returns c = portions_carried_out
