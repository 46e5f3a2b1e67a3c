use Rattle.std.proofs.Common.{◌-◌, min, length, ap, ◌∙◌, arith}
use Rattle.std.specs.List.{range_with_len}
use Rattle.std.proofs.lemmas.List.{length-reverse}
use Rattle.std.proofs.lemmas.List.FromFn.{length-range_with_len}
use Rattle.bottom.proofs.places.first.Goals as goal

pub push-requires : goal.push-requires
push-requires c =
    let i = c.loop-place.place in
    let left = min c.args.count 64 - i in
    let n = ap length c.loop-place.invariant.0 ∙ length-reverse (range_with_len i left) ∙ length-range_with_len i left in
    let t = c.loop-place-test.true in
    (omega arith, omega arith)
