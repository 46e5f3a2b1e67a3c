use Rattle.std.proofs.Common.{map}
use Rattle.machine.specs.Opening.{offer_of}
use Rattle.laws.proofs.TwoRuns.{two_runs_agree_throughout}
use Rattle.run.specs.Serving.{asked, answers_in}
use Rattle.run.proofs.two_runs.two_runs.Goals as goal

pub returns : goal.returns
returns g c =
    let one = c.open_and_serve.ensures in
    let other = c.open_and_serve-2.ensures in
    let frames = offer_of (g.F.Store.meaning c.args.first.0) in
    let winds = offer_of (g.W.Store.meaning c.args.first.1) in
    let frames' = offer_of (g.G.Store.meaning c.args.second.0) in
    let winds' = offer_of (g.V.Store.meaning c.args.second.1) in
    record {
      first = one.whole;
      second = other.whole;
      agree = two_runs_agree_throughout c.args.code.now c.args.numbers frames winds frames' winds' (map asked c.args.first_calls.now) (map asked c.args.second_calls.now) (answers_in c.open_and_serve.new.exchanges, c.open_and_serve.result) (answers_in c.open_and_serve-2.new.exchanges, c.open_and_serve-2.result) one.answers other.answers;
    }
