use Rattle.std.proofs.Common.{Ok, sym, ap, ◌∙◌}
use Rattle.store.specs.Typed.{answer_as, refused_of, refused_as}
use Rattle.store.proofs.Calling.{pop_as, pop_written}
use Rattle.store.proofs.typed.pop.Goals as goal

pub returns-clause-call : goal.returns-clause-call
returns-clause-call g c =
    let read = g.E.Element.read in
    let told = ap Ok c.from_cell.ensures ∙ ap (λ x. refused_as refused_of (answer_as read x)) (sym c.in_ok-pop.was) in
    pop_as read g.E.Element.written (g.S.Store.meaning c.args.store.now) (g.S.Store.meaning c.pop.new.self) c.pop.result c.pop.ensures.call refused_of _ told

pub returns-clause-written : goal.returns-clause-written
returns-clause-written g c =
    pop_written g.E.Element.read g.E.Element.written (g.S.Store.meaning c.args.store.now) (g.S.Store.meaning c.pop.new.self) c.pop.result c.pop.ensures.call
