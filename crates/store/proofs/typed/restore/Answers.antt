use Rattle.store.specs.Meaning.{restored}
use Rattle.store.proofs.Calling.{call_refused, call_done, call_written}
use Rattle.store.proofs.Typing.{restored_as}
use Rattle.store.proofs.typed.restore.Goals as goal

pub returns-in_err-restore-clause-call : goal.returns-in_err-restore-clause-call
returns-in_err-restore-clause-call g c =
    let n = c.args.name.0 in
    call_refused g.E.Element.read g.E.Element.written (g.S.Store.meaning c.args.store.now) (g.S.Store.meaning c.restore.new.self) c.restore.result (λ A m. restored m n) (λ A B f m. restored_as f m n) c.restore.ensures.call c.in_err-restore.field-0.0 c.from_residual.result c.in_err-restore.was c.from_residual.ensures.1

pub returns-clause-call : goal.returns-clause-call
returns-clause-call g c =
    let n = c.args.name.0 in
    call_done g.E.Element.read g.E.Element.written (g.S.Store.meaning c.args.store.now) (g.S.Store.meaning c.restore.new.self) c.restore.result (λ A m. restored m n) (λ A B f m. restored_as f m n) c.restore.ensures.call _ c.in_ok-restore.was

pub returns-clause-written : goal.returns-clause-written
returns-clause-written g c =
    let n = c.args.name.0 in
    call_written g.E.Element.read g.E.Element.written (g.S.Store.meaning c.args.store.now) (g.S.Store.meaning c.restore.new.self) c.restore.result (λ A m. restored m n) (λ A B f m. restored_as f m n) c.restore.ensures.call
