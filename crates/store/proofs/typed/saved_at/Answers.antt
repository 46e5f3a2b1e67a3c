use Rattle.std.proofs.Common.{Ok, sym, refl, ap, ◌∙◌}
use Rattle.store.specs.Typed.{answer_as, refused_of, refused_as}
use Rattle.store.proofs.Calling.{asked_as, refusal_told}
use Rattle.store.proofs.Typing.{saved_cell_as}
use Rattle.store.proofs.typed.saved_at.Goals as goal

pub returns-in_err-saved_cell : goal.returns-in_err-saved_cell
returns-in_err-saved_cell g c =
    let read = g.E.Element.read in
    let told = refusal_told c.saved_cell.result c.in_err-saved_cell.field-0.0 c.from_residual.result c.in_err-saved_cell.was c.from_residual.ensures.1 (answer_as read) refl in
    asked_as refused_of (answer_as read) c.saved_cell.result _ _ _ told c.saved_cell.ensures (saved_cell_as read (g.S.Store.meaning c.args.store.now) c.args.name.0 c.args.index)

pub returns : goal.returns
returns g c =
    let read = g.E.Element.read in
    let told = ap Ok c.from_cell.ensures ∙ ap (λ x. refused_as refused_of (answer_as read x)) (sym c.in_ok-saved_cell.was) in
    asked_as refused_of (answer_as read) c.saved_cell.result _ _ _ told c.saved_cell.ensures (saved_cell_as read (g.S.Store.meaning c.args.store.now) c.args.name.0 c.args.index)
