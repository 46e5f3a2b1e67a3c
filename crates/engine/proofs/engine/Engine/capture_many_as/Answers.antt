use Rattle.std.proofs.Common.{rules}
use Rattle.engine.proofs.Chains.{on}
use Rattle.engine.proofs.engine.Engine.capture_many_as.Goals as goal

pub returns : goal.returns
returns g c = on _ _ c.in_ok-check_capture.ensures (on _ _ c.in_ok-push_frame.ensures (search rules))
