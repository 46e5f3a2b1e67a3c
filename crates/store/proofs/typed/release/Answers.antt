use Rattle.store.specs.Meaning.{released}
use Rattle.store.proofs.Calling.{call_refused, call_done, call_written}
use Rattle.store.proofs.Typing.{released_as}
use Rattle.store.proofs.typed.release.Goals as goal

pub returns-in_err-release-clause-call : goal.returns-in_err-release-clause-call
returns-in_err-release-clause-call g c =
    let n = c.args.name.0 in
    call_refused g.E.Element.read g.E.Element.written (g.S.Store.meaning c.args.store.now) (g.S.Store.meaning c.release.new.self) c.release.result (λ A m. released m n) (λ A B f m. released_as f m n) c.release.ensures.call c.in_err-release.field-0.0 c.from_residual.result c.in_err-release.was c.from_residual.ensures.1

pub returns-clause-call : goal.returns-clause-call
returns-clause-call g c =
    let n = c.args.name.0 in
    call_done g.E.Element.read g.E.Element.written (g.S.Store.meaning c.args.store.now) (g.S.Store.meaning c.release.new.self) c.release.result (λ A m. released m n) (λ A B f m. released_as f m n) c.release.ensures.call _ c.in_ok-release.was

pub returns-clause-written : goal.returns-clause-written
returns-clause-written g c =
    let n = c.args.name.0 in
    call_written g.E.Element.read g.E.Element.written (g.S.Store.meaning c.args.store.now) (g.S.Store.meaning c.release.new.self) c.release.result (λ A m. released m n) (λ A B f m. released_as f m n) c.release.ensures.call
