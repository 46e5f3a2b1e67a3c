use Rattle.std.proofs.Common.{◌≡◌, true, false, eqb, rules, tests, arith}
use Rattle.std.proofs.lemmas.List.{length-map}
use Rattle.cell.specs.Elements.{wind_in}
use Rattle.store.specs.Meaning.{saved_under}
use Rattle.store.specs.Typed.{read_as}
use Rattle.held.proofs.Beginnings.{or_empty, common_past, common_more, common_apart, common-told, length-told}
use Rattle.held.proofs.common.common.Goals as goal

pub loop-index-preserved : goal.loop-index-preserved
loop-index-preserved g c =
    let m = read_as wind_in (g.W.Store.meaning c.args.winds.now) in
    let o = saved_under m.held c.args.name.0 in
    let i = c.loop-index.index in
    let same : eqb c.in_ok-here.here.number.0 c.in_ok-there.there.number.0 ≡ true = search (rules, tests) in
    let more = common_more m.current o i c.in_ok-here.here c.in_ok-there.there c.in_ok-here.ensures c.in_ok-there.ensures same in
    omega (arith, more, c.loop-index.invariant)

pub returns-then-index-shorter : goal.returns-then-index-shorter
returns-then-index-shorter g c =
    let m = read_as wind_in (g.W.Store.meaning c.args.winds.now) in
    let o = saved_under m.held c.args.name.0 in
    let i = c.loop-index.index in
    let long = length-told o c.in_ok-saved_len.field-0 c.in_ok-saved_len.ensures in
    let past = common_past i m.current (or_empty o) (omega (arith, long, c.len.ensures, c.min-shorter.ensures, length-map (g.W.Store.meaning c.args.winds.now).current wind_in)) in
    common-told m.current o c.in_ok-saved_len.field-0 i c.in_ok-saved_len.ensures (omega (arith, past, c.loop-index.invariant))

pub returns-then-ne : goal.returns-then-ne
returns-then-ne g c =
    let m = read_as wind_in (g.W.Store.meaning c.args.winds.now) in
    let o = saved_under m.held c.args.name.0 in
    let i = c.loop-index.index in
    let differ : eqb c.in_ok-here.here.number.0 c.in_ok-there.there.number.0 ≡ false = search (rules, tests) in
    let apart = common_apart m.current o i c.in_ok-here.here c.in_ok-there.there c.in_ok-here.ensures c.in_ok-there.ensures differ in
    common-told m.current o c.in_ok-saved_len.field-0 i c.in_ok-saved_len.ensures (omega (arith, apart, c.loop-index.invariant))
