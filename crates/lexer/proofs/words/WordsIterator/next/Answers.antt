use Rattle.std.proofs.Common.{length, ap, arith}
use Rattle.lexer.proofs.Iterators.{next_start, next_word, last_word}
use Rattle.lexer.proofs.words.WordsIterator.next.Goals as goal

pub returns-in_default-clause-steps : goal.returns-in_default-clause-steps
returns-in_default-clause-steps c =
    rw (← c.self.view_is, c.take.ensures.after) (last_word c.self.inside.line.now _ _ _ c.take.ensures.value c.in_ok-start.was c.self.invariant c.in_default.ensures)

pub invariant_of-self-2 : goal.invariant_of-self-2
invariant_of-self-2 c = next_start c.self.inside.line.now _ _ _ c.take.ensures.value c.in_ok-start.was c.self.invariant _ _ c.in-Some.ensures

pub returns-clause-steps : goal.returns-clause-steps
returns-clause-steps c =
    rw (← c.self.view_is) (next_word c.self.inside.line.now _ _ _ c.take.ensures.value c.in_ok-start.was c.self.invariant _ _ c.in-Some.ensures)

pub returns-clause-goes : goal.returns-clause-goes
returns-clause-goes c = let fewer = ap length (returns-clause-steps c) in record { on = λ f. (tt, tt, omega (arith, fewer)); keeps = tt; rests = λ f. tt }
