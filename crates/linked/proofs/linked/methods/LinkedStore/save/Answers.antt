use Rattle.std.proofs.Common.{vec_items, refl}
use Rattle.bottom.proofs.Answered.{handed_on}
use Rattle.linked.proofs.Stores.{facts_of}
use Rattle.bottom.specs.Tables.{listed}
use Rattle.bottom.proofs.Rows.{added-refused}
use Rattle.linked.proofs.Facts.{list_at}
use Rattle.linked.proofs.Calls.{owed_same, sharable, save_refused, save_owed, save_means}
use Rattle.linked.proofs.linked.methods.LinkedStore.save.Goals as goal

pub invariant_of-self : goal.invariant_of-self
invariant_of-self c = let s = c.args.self.now in owed_same s c.add.new.self (added-refused s.table.limit (listed s.table) _ _ c.in_err-add.field-0.0 c.in_err-add.ensures.rows) c.add.ensures.limit

pub returns-in_err-add-clause-call : goal.returns-in_err-add-clause-call
returns-in_err-add-clause-call c =
    let s = c.args.self.now in
    save_refused s c.add.new.self c.args.name.0 c.from_residual.result c.in_err-add.field-0.0 (handed_on _ _ c.from_residual.ensures.1) c.in_err-add.ensures.rows c.add.ensures.limit

pub share-requires : goal.share-requires
share-requires c = let s = c.args.self.now in sharable s (list_at s.current.top s.current.len) (facts_of s).fitting.0 s.current refl

pub invariant_of-self-2 : goal.invariant_of-self-2
invariant_of-self-2 c =
    let s = c.args.self.now in
    save_owed s c.add.new.self c.args.name.0 (vec_items c.share.new.self.nodes) c.share.new.self.free c.share.ensures.nodes c.share.ensures.free c.in_ok-add.ensures.rows c.add.ensures.limit

pub returns-clause-call : goal.returns-clause-call
returns-clause-call c =
    let s = c.args.self.now in
    save_means s c.add.new.self c.args.name.0 (vec_items c.share.new.self.nodes) c.share.new.self.free c.share.ensures.nodes c.share.ensures.free c.in_ok-add.ensures.rows c.add.ensures.limit
