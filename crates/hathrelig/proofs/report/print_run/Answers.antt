use Rattle.hathrelig.proofs.Texts.{on_ok, named_texts}
use Rattle.hathrelig.proofs.report.print_run.Goals as goal

pub returns : goal.returns
returns g c =
    on_ok c.print_answers.result
    (named_texts _ _ _ c.args.name.now c.args.calls.now c.in_ok-writeln.ensures.bytes) c.print_answers.ensures
