use Rattle.std.proofs.Common.{rules, ◌≡◌, None, ◌∙◌, ap}
use Rattle.machine.specs.Calls.{ran}
use Rattle.run.proofs.Opened.{live_is, live_kept}
use Rattle.run.proofs.Portions.{ran_as, kept_on}
use Rattle.run.proofs.run.Run.run.Goals as goal

pub returns : goal.returns
returns g c =
    let code = c.self.inside.code.now in
    let none : c.in-Open.end ≡ None = search rules in
    let kept = live_kept g.F.Store.meaning g.W.Store.meaning code c.self.inside.stage c.in-Open.engine c.in-Open.end c.in-Open.is none c.self.invariant in
    let is = live_is g.F.Store.meaning g.W.Store.meaning code c.self.inside.stage c.in-Open.engine c.in-Open.end c.in-Open.is none c.args.self.now c.self.view_is in
    ran_as code c.in-Open.engine c.args.budget c.args.buffer.now (c.advance-stopped.result, c.advance-stopped.new.buffer, c.advance-stopped.new.engine) kept c.advance-stopped.ensures c.in_ok-admit.ensures
    ∙ ap (λ r. ran r c.args.budget c.args.buffer.now) is

pub invariant_of-self-2 : goal.invariant_of-self-2
invariant_of-self-2 g c =
    let code = c.self.inside.code.now in
    let none : c.in-Open.end ≡ None = search rules in
    let kept = live_kept g.F.Store.meaning g.W.Store.meaning code c.self.inside.stage c.in-Open.engine c.in-Open.end c.in-Open.is none c.self.invariant in
    kept_on code c.in-Open.engine c.args.budget c.args.buffer.now (c.advance-stopped.result, c.advance-stopped.new.buffer, c.advance-stopped.new.engine) kept c.advance-stopped.ensures
