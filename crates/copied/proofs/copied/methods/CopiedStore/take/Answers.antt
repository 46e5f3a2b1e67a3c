use Rattle.std.proofs.Common.{Ok, ◌++◌, sym, refl, ap, ◌∙◌, arith}
use Rattle.bottom.specs.Tables.{listed}
use Rattle.bottom.specs.Meant.{by_rows}
use Rattle.bottom.specs.Rows.{rows_without}
use Rattle.copied.specs.Meant.{place_of}
use Rattle.copied.specs.Parts.{read_row}
use Rattle.copied.proofs.Stores.{words_of}
use Rattle.bottom.proofs.Answered.{is_held, taken_none, taken_some}
use Rattle.copied.proofs.Calls.{fixed_same, refused_owed, refused_means, row-fit, gone_owed}
use Rattle.copied.proofs.copied.methods.CopiedStore.take.Goals as goal

pub invariant_of-self : goal.invariant_of-self
invariant_of-self c = refused_owed c.args.self.now c.args.name.0 c.remove.new.self c.in_err-row.field-0.0 c.in_err-row.ensures.row c.in_err-row.ensures.rows c.in_err-row.ensures.limit

pub returns-in_err-row-clause-call : goal.returns-in_err-row-clause-call
returns-in_err-row-clause-call c =
    let s = c.args.self.now in
    ap (λ m. (c.from_residual.result, m)) (refused_means s c.args.name.0 c.remove.new.self c.in_err-row.field-0.0 c.in_err-row.ensures.row c.in_err-row.ensures.rows c.in_err-row.ensures.limit)
    ∙ taken_none (read_row (words_of s) s.depth) _ (listed s.table) s.depth s.table.limit c.args.name.0 c.in_err-row.field-0.0 c.in_err-row.ensures.row c.from_residual.result c.from_residual.ensures.1

pub invariant_of-self-2 : goal.invariant_of-self-2
invariant_of-self-2 c =
    let s = c.args.self.now in
    let r = c.in_ok-row.row in
    gone_owed s c.args.name.0 r (is_held _ r c.in_ok-row.ensures.row) c.remove.new.self c.in_ok-row.ensures.rows c.in_ok-row.ensures.limit _ s.len _ c.push.ensures.items refl s.fits

pub load-requires : goal.load-requires
load-requires c =
    let s = c.args.self.now in
    let r = c.in_ok-row.row in
    let f = row-fit s c.args.name.0 r (is_held _ r c.in_ok-row.ensures.row) in
    let limit = c.in_ok-row.ensures.limit in
    let b = f.1 in
    (f.0, omega arith)

pub returns : goal.returns
returns c =
    let s = c.args.self.now in
    let r = c.in_ok-row.row in
    record {
      places = c.load.ensures.places ∙ c.push.ensures.items ∙ ap (λ o. s.free.items ++ place_of o) (sym (is_held _ r c.in_ok-row.ensures.row));
      memory = c.load.ensures.memory ∙ fixed_same s (words_of s) _ c.in_ok-row.ensures.limit refl;
      call = ap (λ m. (Ok tt, m)) c.load.ensures.meaning
          ∙ ap (λ rs. (Ok tt, by_rows (read_row (words_of s) s.depth) (read_row (words_of s) s.depth r) rs s.depth c.remove.new.self.limit)) c.in_ok-row.ensures.rows
          ∙ ap (λ m. (Ok tt, by_rows (read_row (words_of s) s.depth) (read_row (words_of s) s.depth r) (rows_without (listed s.table) c.args.name.0) s.depth m)) c.in_ok-row.ensures.limit
          ∙ taken_some (read_row (words_of s) s.depth) _ (listed s.table) s.depth s.table.limit c.args.name.0 r (is_held _ r c.in_ok-row.ensures.row);
    }
