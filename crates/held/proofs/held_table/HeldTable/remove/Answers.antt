use Rattle.std.proofs.Common.{◌≡◌, rules, tests, ◌∙◌}
use Rattle.std.specs.List.{position_from}
use Rattle.std.proofs.lemmas.Iterator.{YieldsList-from_slice}
use Rattle.std.proofs.lemmas.Iterator.Adapters.{position_from-zero}
use Rattle.std.proofs.lemmas.Iterator.Search.{position_from_yields_List}
use Rattle.held.proofs.Rows.{has_name, none_removed, one_removed}
use Rattle.held.proofs.held_table.HeldTable.remove.Goals as goal

pub returns-in-Some : goal.returns-in-Some
returns-in-Some c =
    let rs = c.args.self.now in
    let n = c.args.name.0 in
    let at : c.position.result ≡ position_from (has_name n) 0 rs =
    position_from_yields_List (has_name n) _ _ c.position.result c.position.ensures.ran (YieldsList-from_slice rs cc) (λ x b q k. search (rules, tests)) ∙ position_from-zero (has_name n) rs in
    c.remove.ensures.items ∙ rw c.self.view_is (one_removed rs n c.position.result at c.in-Some.index c.in-Some.is)

pub returns-in_default : goal.returns-in_default
returns-in_default c =
    let rs = c.args.self.now in
    let n = c.args.name.0 in
    let at : c.position.result ≡ position_from (has_name n) 0 rs =
    position_from_yields_List (has_name n) _ _ c.position.result c.position.ensures.ran (YieldsList-from_slice rs cc) (λ x b q k. search (rules, tests)) ∙ position_from-zero (has_name n) rs in
    none_removed rs n c.position.result at c.in_default.is
