use Rattle.std.proofs.Common.{◌≡◌, ◌^◌, ◌<◌, true, drop}
use Rattle.lexer.specs.Number.{all_digits, value_after}
use Rattle.lexer.proofs.number.value.Given as goal

abbrev pub invariant-loop-b : goal.invariant-loop-b
invariant-loop-b l =
    (value_after 0 l.digits ≡ value_after l.n (drop l.b-index l.digits))
    × (all_digits (drop l.b-index l.digits) ≡ true) × (l.n < 10 ^ l.b-index)
