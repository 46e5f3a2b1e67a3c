use Rattle.std.proofs.Common.{rules, ◌≡◌, pos, length, map, arith, sym, ◌∙◌}
use Rattle.std.proofs.lemmas.List.{same_lists, length-map, get_or-map}
use Rattle.cell.specs.declared.value.Value.TheVariants.{Number}
use Rattle.engine.proofs.engine.opening.globals_of.Goals as goal

pub returns : goal.returns
returns c =
    let i = c.loop-index.invariant in
    let long : length c.args.numbers ≡ 32 = search rules in
    let all : length (map (λ z. Number z) c.args.numbers) ≡ length c.args.numbers = length-map c.args.numbers (λ z. Number z) in
    same_lists _ _ (i.long ∙ sym long ∙ sym all) (λ k d h.
    i.each k d (omega (arith, i.long)) ∙ sym (get_or-map (λ z. Number z) c.args.numbers k (pos 0) d (omega (arith, i.long, long))))
