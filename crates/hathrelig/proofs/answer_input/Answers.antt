use Rattle.hathrelig.proofs.Texts.{on_ok}
use Rattle.hathrelig.proofs.Inputs.{printed_for_all}
use Rattle.hathrelig.proofs.answer_input.Goals as goal

pub returns : goal.returns
returns g c =
    on_ok c.print_outcome.result
    (printed_for_all (g.R.Read.remaining c.args.input) _ _ _ _ c.in_ok-sheet.ensures c.deref.ensures.value) c.print_outcome.ensures
