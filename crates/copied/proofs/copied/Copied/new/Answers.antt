use Rattle.std.proofs.Common.{ℕ, ◌*◌, ◌≤◌, ◌/◌, min, length, vec_items, ◌∙◌, sym, subst, arith}
use Rattle.std.specs.List.{range_with_len}
use Rattle.std.proofs.lemmas.List.{length-reverse}
use Rattle.std.proofs.lemmas.List.FromFn.{length-range_with_len}
use Rattle.bottom.specs.Limits.{cells_needed}
use Rattle.bottom.proofs.Opened.{Granted, granted_fits, limit_is}
use Rattle.cell.specs.Filled.{width}
use Rattle.copied.proofs.Stores.{owed, turned-places, turned-fit}
use Rattle.copied.proofs.copied.Copied.new.Goals as goal

pub invariant_of-result : goal.invariant_of-result
invariant_of-result c =
    let t = c.new.result in
    let cells : ℕ = c.len.result / width in
    let depth : ℕ = c.granted-depth.result.0 in
    let held : ℕ = c.granted-depth.result.1 in
    let granted = subst (λ (p : ℕ × ℕ). Granted cells p.0 p.1) (sym c.granted-depth.ensures) (granted_fits cells c.args.depth c.args.held) in
    let few = granted.few in
    let room : width * cells_needed depth held ≤ length (vec_items c.args.memory) = let a = granted.enough in let b = c.len.ensures in let d = c.args.memory.ok.0 in omega arith in
    owed (length (vec_items c.args.memory)) t c.first.result.items depth 0 held _ _ c.new.ensures.listed c.first.ensures (limit_is held t.limit few c.new.ensures.limit) room granted.flat (omega arith)
    (let n = length-reverse (range_with_len 0 (min held 64)) ∙ length-range_with_len 0 (min held 64) in omega arith)
    (λ k. (let b = (turned-places 0 (min held 64) k).0 in omega arith)) tt (turned-fit held 0 (min held 64) (omega arith))
