use Rattle.std.proofs.Common.{sym, refl, ap}
use Rattle.store.specs.Typed.{refused_of, refused_as}
use Rattle.store.proofs.Calling.{asked_as, refusal_told}
use Rattle.store.proofs.Typing.{saved_length_as}
use Rattle.store.proofs.typed.saved_len.Goals as goal

pub returns-in_err-saved_len : goal.returns-in_err-saved_len
returns-in_err-saved_len g c =
    let read = g.E.Element.read in
    let n = c.args.name.0 in
    let told = refusal_told c.saved_len.result c.in_err-saved_len.field-0.0 c.from_residual.result c.in_err-saved_len.was c.from_residual.ensures.1 (λ x. x) refl in
    asked_as refused_of (λ x. x) c.saved_len.result _ _ _ told c.saved_len.ensures (saved_length_as read (g.S.Store.meaning c.args.store.now) n)

pub returns : goal.returns
returns g c =
    let read = g.E.Element.read in
    let n = c.args.name.0 in
    let told = ap (refused_as refused_of) (sym c.in_ok-saved_len.was) in
    asked_as refused_of (λ x. x) c.saved_len.result _ _ _ told c.saved_len.ensures (saved_length_as read (g.S.Store.meaning c.args.store.now) n)
