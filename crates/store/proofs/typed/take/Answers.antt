use Rattle.store.specs.Meaning.{taken}
use Rattle.store.proofs.Calling.{call_refused, call_done, call_written}
use Rattle.store.proofs.Typing.{taken_as}
use Rattle.store.proofs.typed.take.Goals as goal

pub returns-in_err-take-clause-call : goal.returns-in_err-take-clause-call
returns-in_err-take-clause-call g c =
    let n = c.args.name.0 in
    call_refused g.E.Element.read g.E.Element.written (g.S.Store.meaning c.args.store.now) (g.S.Store.meaning c.take.new.self) c.take.result (λ A m. taken m n) (λ A B f m. taken_as f m n) c.take.ensures.call c.in_err-take.field-0.0 c.from_residual.result c.in_err-take.was c.from_residual.ensures.1

pub returns-clause-call : goal.returns-clause-call
returns-clause-call g c =
    let n = c.args.name.0 in
    call_done g.E.Element.read g.E.Element.written (g.S.Store.meaning c.args.store.now) (g.S.Store.meaning c.take.new.self) c.take.result (λ A m. taken m n) (λ A B f m. taken_as f m n) c.take.ensures.call _ c.in_ok-take.was

pub returns-clause-written : goal.returns-clause-written
returns-clause-written g c =
    let n = c.args.name.0 in
    call_written g.E.Element.read g.E.Element.written (g.S.Store.meaning c.args.store.now) (g.S.Store.meaning c.take.new.self) c.take.result (λ A m. taken m n) (λ A B f m. taken_as f m n) c.take.ensures.call
