use Rattle.std.proofs.Common.{◌∙◌, ap}
use Rattle.machine.specs.Calls.{tallied}
use Rattle.run.proofs.Opened.{open_is, open_kept}
use Rattle.run.proofs.Portions.{tally_as}
use Rattle.run.proofs.run.Run.tally.Goals as goal

pub returns-in-Open : goal.returns-in-Open
returns-in-Open g c =
    let code = c.self.inside.code.now in
    let stage = c.self.inside.stage in
    let kept = open_kept g.F.Store.meaning g.W.Store.meaning code stage c.in-Open.engine c.in-Open.end c.in-Open.is c.self.invariant in
    c.tally.ensures ∙ tally_as c.in-Open.engine c.in-Open.end kept.together
    ∙ ap (λ r. tallied r.state r.end) (open_is g.F.Store.meaning g.W.Store.meaning code stage c.in-Open.engine c.in-Open.end c.in-Open.is _ c.self.view_is)
