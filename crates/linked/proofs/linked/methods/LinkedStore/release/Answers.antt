use Rattle.std.proofs.Common.{vec_items, ap, ◌∙◌}
use Rattle.bottom.specs.Tables.{listed}
use Rattle.linked.specs.Meant.{read_row}
use Rattle.linked.proofs.Stores.{nodes_of}
use Rattle.bottom.proofs.Answered.{is_held, released_none}
use Rattle.linked.proofs.Calls.{refused_owed, refused_means, fixed_same, release_somehow, release_owed, release_means, release-beyond}
use Rattle.linked.proofs.linked.methods.LinkedStore.release.Goals as goal

pub invariant_of-self : goal.invariant_of-self
invariant_of-self c = refused_owed c.args.self.now c.args.name.0 c.remove.new.self c.in_err-row.field-0.0 c.in_err-row.ensures.row c.in_err-row.ensures.rows c.in_err-row.ensures.limit

pub returns-in_err-row-clause-call : goal.returns-in_err-row-clause-call
returns-in_err-row-clause-call c =
    let s = c.args.self.now in
    ap (λ m. (c.from_residual.result, m)) (refused_means s c.args.name.0 c.remove.new.self c.in_err-row.field-0.0 c.in_err-row.ensures.row c.in_err-row.ensures.rows c.in_err-row.ensures.limit)
    ∙ released_none (read_row (nodes_of s)) _ (listed s.table) s.depth s.table.limit c.args.name.0 c.in_err-row.field-0.0 c.in_err-row.ensures.row c.from_residual.result c.from_residual.ensures.1

pub let_go-requires : goal.let_go-requires
let_go-requires c = let s = c.args.self.now in release_somehow s c.args.name.0 c.in_ok-row.row (is_held _ _ c.in_ok-row.ensures.row) c.remove.new.self c.in_ok-row.ensures.rows c.in_ok-row.ensures.limit c.from-list.result c.from-list.ensures

pub invariant_of-self-2 : goal.invariant_of-self-2
invariant_of-self-2 c = let s = c.args.self.now in release_owed s c.args.name.0 c.in_ok-row.row (is_held _ _ c.in_ok-row.ensures.row) c.remove.new.self c.in_ok-row.ensures.rows c.in_ok-row.ensures.limit c.from-list.result c.from-list.ensures (vec_items c.let_go.new.self.nodes) c.let_go.new.self.free c.let_go.ensures

pub returns : goal.returns
returns c =
    let s = c.args.self.now in
    record {
      memory = fixed_same s _ _ c.in_ok-row.ensures.limit (release-beyond s c.args.name.0 c.in_ok-row.row (is_held _ _ c.in_ok-row.ensures.row) c.remove.new.self c.in_ok-row.ensures.rows c.in_ok-row.ensures.limit c.from-list.result c.from-list.ensures (vec_items c.let_go.new.self.nodes) c.let_go.new.self.free c.let_go.ensures);
      call = release_means s c.args.name.0 c.in_ok-row.row (is_held _ _ c.in_ok-row.ensures.row) c.remove.new.self c.in_ok-row.ensures.rows c.in_ok-row.ensures.limit c.from-list.result c.from-list.ensures (vec_items c.let_go.new.self.nodes) c.let_go.new.self.free c.let_go.ensures;
    }
