use Rattle.std.proofs.Common.{Ok, ap, ◌∙◌}
use Rattle.bottom.specs.Tables.{listed}
use Rattle.copied.specs.Parts.{read_row}
use Rattle.copied.proofs.Stores.{words_of}
use Rattle.bottom.proofs.Answered.{is_held, restored_none, restored_some}
use Rattle.copied.proofs.Calls.{row-fit}
use Rattle.copied.proofs.copied.methods.CopiedStore.restore.Goals as goal

pub returns-in_err-row-clause-call : goal.returns-in_err-row-clause-call
returns-in_err-row-clause-call c =
    let s = c.args.self.now in
    restored_none (read_row (words_of s) s.depth) _ (listed s.table) s.depth s.table.limit c.args.name.0 c.in_err-row.field-0.0 c.in_err-row.ensures c.from_residual.result c.from_residual.ensures.1

pub load-requires : goal.load-requires
load-requires c = let s = c.args.self.now in row-fit s c.args.name.0 c.in_ok-row.row (is_held _ _ c.in_ok-row.ensures)

pub returns : goal.returns
returns c =
    let s = c.args.self.now in
    let r = c.in_ok-row.row in
    record {
      places = c.load.ensures.places;
      memory = c.load.ensures.memory;
      call = ap (λ m. (Ok tt, m)) c.load.ensures.meaning ∙ restored_some (read_row (words_of s) s.depth) _ (listed s.table) s.depth s.table.limit c.args.name.0 r (is_held _ r c.in_ok-row.ensures);
    }
