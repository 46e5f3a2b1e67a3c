use Rattle.std.proofs.Common.{ap, ◌∙◌}
use Rattle.run.specs.Serving.{answers_in}
use Rattle.hathrelig.proofs.Texts.{on_ok}
use Rattle.hathrelig.proofs.Outputs.{both}
use Rattle.hathrelig.proofs.print_both.Goals as goal

pub returns : goal.returns
returns g c =
    on_ok c.print_run-2.result
    (both _ _ _ c.args.code.now _ _
    (ap answers_in c.deref.ensures.value ∙ c.in_ok-both.ensures.linked)
    (ap answers_in c.deref-2.ensures.value ∙ c.in_ok-both.ensures.copied)
    c.in_ok-print_run.ensures) c.print_run-2.ensures
