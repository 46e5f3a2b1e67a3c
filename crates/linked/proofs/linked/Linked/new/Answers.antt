use Rattle.std.proofs.Common.{ℕ, [], vec_items, sym, ap, ◌∙◌, subst, arith}
use Rattle.bottom.specs.Limits.{cells_needed}
use Rattle.bottom.proofs.Opened.{Granted, granted_fits, limit_is}
use Rattle.linked.proofs.Facts.{new_facts, needed_small}
use Rattle.linked.proofs.Stores.{Owed, owed}
use Rattle.linked.proofs.linked.Linked.new.Goals as goal

pub invariant_of-result : goal.invariant_of-result
invariant_of-result c =
    let t = c.new-2.result in
    let room : ℕ = c.len.result in
    let depth : ℕ = c.granted-depth.result.0 in
    let held : ℕ = c.granted-depth.result.1 in
    let granted = subst (λ (p : ℕ × ℕ). Granted room p.0 p.1) (sym c.granted-depth.ensures) (granted_fits room c.args.depth c.args.held) in
    let few = needed_small depth held granted.flat granted.few in
    let a = granted.enough in let b = c.len.ensures in let d = c.args.memory.ok.0 in let e = c.cells_needed-size.ensures in let long = c.new.ensures.len in
    let size : ℕ = c.cells_needed-size.result in
    let need = ap (cells_needed depth) (limit_is held t.limit granted.few c.new-2.ensures.limit) ∙ sym e in
    subst (λ f. Owed (vec_items c.new.result.nodes) t depth f 4294967295 0) (sym c.new.ensures.free)
    (owed (vec_items c.new.result.nodes) t depth 0 4294967295 0 size [] c.new-2.ensures.listed need granted.flat (new_facts (vec_items c.new.result.nodes) size c.new.ensures.linked depth 4294967295 (omega arith) (omega arith)))
