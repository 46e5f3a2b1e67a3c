use Rattle.std.proofs.Common.{◌∙◌, arith, add-one}
use Rattle.run.specs.Serving.{serving}
use Rattle.run.proofs.Serving.{resumed_next, all_served}
use Rattle.run.proofs.Answered.{answers_as}
use Rattle.run.proofs.serve.serve.Goals as goal

pub loop-exchange-preserved : goal.loop-exchange-preserved
loop-exchange-preserved g c =
    rw add-one
    (resumed_next c.loop-exchange.exchange-index c.loop-exchange.exchanges c.exchange-item.result c.loop-exchange.run (c.serve_one.new.exchange, c.serve_one.new.run) (omega arith) c.serve_one.ensures
    ∙ c.loop-exchange.invariant)

pub returns : goal.returns
returns g c =
    let whole = all_served c.loop-exchange.exchange-index c.loop-exchange.exchanges c.loop-exchange.run (serving c.args.run.now c.args.exchanges.now) (omega arith) c.loop-exchange.invariant in
    record { whole = whole; answers = answers_as c.args.run.now c.args.exchanges.now (c.loop-exchange.exchanges, c.loop-exchange.run) whole }
