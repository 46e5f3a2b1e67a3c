use Rattle.std.proofs.Common.{rules}
use Rattle.engine.proofs.Chains.{on}
use Rattle.engine.proofs.engine.Engine.capture_once_as.Goals as goal

pub returns-in_err-push_frame-2 : goal.returns-in_err-push_frame-2
returns-in_err-push_frame-2 g c = on _ _ c.in_ok-check_capture.ensures (on _ _ c.in_ok-push_frame.ensures (search rules))

pub returns : goal.returns
returns g c =
    on _ _ c.in_ok-check_capture.ensures
    (on _ _ c.in_ok-push_frame.ensures (on _ _ c.in_ok-hold_once.ensures (search rules)))
