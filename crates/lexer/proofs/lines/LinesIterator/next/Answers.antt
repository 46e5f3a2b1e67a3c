use Rattle.std.proofs.Common.{◌<◌, length, sym, refl, ap, ◌∙◌, arith}
use Rattle.std.proofs.lemmas.Bool.{eqb-false}
use Rattle.lexer.proofs.Iterators.{next-line}
use Rattle.lexer.proofs.lines.LinesIterator.next.Goals as goal

pub returns-clause-steps : goal.returns-clause-steps
returns-clause-steps c =
    let xs = c.self.inside.rest.now in
    let some : 0 < length xs = let n = eqb-false (length xs) 0 (sym c.is_empty.ensures ∙ c.if-is_empty.false) in omega arith in
    rw (← c.self.view_is, c.unwrap_or.ensures) (next-line xs c.split_once.result _ some refl refl c.split_once.ensures)

pub returns-clause-goes : goal.returns-clause-goes
returns-clause-goes c = let fewer = ap length (returns-clause-steps c) in record { on = λ f. (tt, tt, omega (arith, fewer)); keeps = tt; rests = λ f. tt }
