use Rattle.cell.specs.Elements.{frame_in, wind_in}
use Rattle.store.specs.Typed.{read_as}
use Rattle.held.proofs.Saving.{both_refused}
use Rattle.held.proofs.save_both.save_both.Goals as goal

pub returns-clause-call : goal.returns-clause-call
returns-clause-call g c =
    both_refused (read_as frame_in (g.F.Store.meaning c.args.frames.now)) (read_as frame_in (g.F.Store.meaning c.save_frames.new.frames)) (read_as frame_in (g.F.Store.meaning c.give_up.new.frames)) (read_as wind_in (g.W.Store.meaning c.args.winds.now)) (read_as wind_in (g.W.Store.meaning c.save_winds.new.winds)) c.args.name c.in_ok-half.half c.in-Err.field-0 c.in_ok-half.ensures.call c.in-Err.ensures.call c.give_up.ensures.call
