use Rattle.store.specs.Meaning.{saved}
use Rattle.store.proofs.Calling.{call_refused, call_done}
use Rattle.store.proofs.Typing.{saved_as}
use Rattle.store.proofs.typed.save.Goals as goal

pub returns-in_err-save-clause-call : goal.returns-in_err-save-clause-call
returns-in_err-save-clause-call g c =
    let n = c.args.name.0 in
    call_refused g.E.Element.read g.E.Element.written (g.S.Store.meaning c.args.store.now) (g.S.Store.meaning c.save.new.self) c.save.result (λ A m. saved m n) (λ A B f m. saved_as f m n) c.save.ensures.call c.in_err-save.field-0.0 c.from_residual.result c.in_err-save.was c.from_residual.ensures.1

pub returns-clause-call : goal.returns-clause-call
returns-clause-call g c =
    let n = c.args.name.0 in
    call_done g.E.Element.read g.E.Element.written (g.S.Store.meaning c.args.store.now) (g.S.Store.meaning c.save.new.self) c.save.result (λ A m. saved m n) (λ A B f m. saved_as f m n) c.save.ensures.call _ c.in_ok-save.was
