use Rattle.std.proofs.Common.{rules, ◌≡◌, length, ap, refl, map, ◌∙◌}
use Rattle.run.specs.Serving.{asked, answers_in}
use Rattle.hathrelig.proofs.Outputs.{answers, lent_whole}
use Rattle.hathrelig.proofs.both.run_both.Goals as goal

pub returns-clause-linked : goal.returns-clause-linked
returns-clause-linked c =
    let len : c.in_ok-linked.linked.len ≡ length c.two_runs.new.first_calls = search rules in
    ap answers_in (lent_whole c.in_ok-linked.linked.len c.two_runs.new.first_calls c.in_ok-linked.linked.items len)
    ∙ answers c.args.code.now _ _ _ _ _ _ _ c.two_runs.ensures.agree.first.answers refl c.in_ok-linked_stores.ensures.0 c.in_ok-linked_stores.ensures.1
    (ap (map asked) c.deref_mut.ensures.value ∙ c.in_ok-linked.ensures)

pub returns-clause-copied : goal.returns-clause-copied
returns-clause-copied c =
    let len : c.in_ok-copied.copied.len ≡ length c.two_runs.new.second_calls = search rules in
    ap answers_in (lent_whole c.in_ok-copied.copied.len c.two_runs.new.second_calls c.in_ok-copied.copied.items len)
    ∙ answers c.args.code.now _ _ _ _ _ _ _ c.two_runs.ensures.agree.second.answers refl c.in_ok-layered_stores.ensures.frames c.in_ok-layered_stores.ensures.winds
    (ap (map asked) c.deref_mut-2.ensures.value ∙ c.in_ok-copied.ensures)
