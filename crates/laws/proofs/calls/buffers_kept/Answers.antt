use Rattle.laws.proofs.Served.{buffers_kept}
use Rattle.laws.proofs.calls.buffers_kept.Goals as goal

pub returns : goal.returns
returns c = buffers_kept
