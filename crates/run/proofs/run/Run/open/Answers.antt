use Rattle.run.proofs.Starts.{opened_kept}
use Rattle.run.proofs.run.Run.open.Goals.{in-Ok, in-Err}
use Rattle.run.proofs.run.Run.open.Goals as goal

pub invariant_of-result : goal.invariant_of-result
invariant_of-result g c =
    let frames = g.F.Store.meaning c.args.frames in
    let winds = g.W.Store.meaning c.args.winds in
    elim c.match-open.branch [
      | in-Ok w ↦ rw w.stage-is (opened_kept c.args.code.now c.args.numbers frames winds w.in-Ok.engine (c.args.frames, c.args.winds) _ c.open.ensures w.in-Ok.is)
      | in-Err w ↦ rw w.stage-is tt
    ]
