use Rattle.std.proofs.Common.{drop, vec_items, refl, ap, ◌∙◌}
use Rattle.bottom.specs.Tables.{listed}
use Rattle.linked.specs.Meant.{size, read_row}
use Rattle.linked.proofs.Stores.{nodes_of}
use Rattle.bottom.proofs.Answered.{is_held, restored_none}
use Rattle.linked.proofs.Calls.{fixed_same, sharable, row-fit, restore_somehow, restore_owed, restore_means, restore_beyond, shared-beyond}
use Rattle.linked.proofs.linked.methods.LinkedStore.restore.Goals as goal

pub returns-in_err-row-clause-call : goal.returns-in_err-row-clause-call
returns-in_err-row-clause-call c =
    let s = c.args.self.now in
    restored_none (read_row (nodes_of s)) _ (listed s.table) s.depth s.table.limit c.args.name.0 c.in_err-row.field-0.0 c.in_err-row.ensures c.from_residual.result c.from_residual.ensures.1

pub share-requires : goal.share-requires
share-requires c = let s = c.args.self.now in sharable s c.in_ok-row.row (row-fit s c.args.name.0 c.in_ok-row.row (is_held _ _ c.in_ok-row.ensures)) c.from-list.result c.from-list.ensures

pub let_go-requires : goal.let_go-requires
let_go-requires c = let s = c.args.self.now in restore_somehow s c.args.name.0 c.in_ok-row.row (is_held _ _ c.in_ok-row.ensures) c.from-list.result c.from-list.ensures (vec_items c.share.new.self.nodes) c.share.new.self.free c.share.ensures.nodes c.share.ensures.free

pub invariant_of-self : goal.invariant_of-self
invariant_of-self c =
    let s = c.args.self.now in
    restore_owed s c.args.name.0 c.in_ok-row.row (is_held _ _ c.in_ok-row.ensures) c.from-list.result c.from-list.ensures (vec_items c.share.new.self.nodes) c.share.new.self.free c.share.ensures.nodes c.share.ensures.free (vec_items c.let_go.new.self.nodes) c.let_go.new.self.free c.let_go.ensures

pub returns : goal.returns
returns c =
    let s = c.args.self.now in
    let r = c.in_ok-row.row in
    let found = is_held _ r c.in_ok-row.ensures in
    record {
      memory = fixed_same s _ _ refl (restore_beyond s c.args.name.0 r found c.from-list.result c.from-list.ensures (vec_items c.share.new.self.nodes) c.share.new.self.free c.share.ensures.nodes c.share.ensures.free (vec_items c.let_go.new.self.nodes) c.let_go.new.self.free c.let_go.ensures
          (ap (drop (size s)) c.share.ensures.nodes ∙ shared-beyond s r (row-fit s c.args.name.0 r found) c.from-list.result c.from-list.ensures));
      call = restore_means s c.args.name.0 r found c.from-list.result c.from-list.ensures (vec_items c.share.new.self.nodes) c.share.new.self.free c.share.ensures.nodes c.share.ensures.free (vec_items c.let_go.new.self.nodes) c.let_go.new.self.free c.let_go.ensures;
    }
