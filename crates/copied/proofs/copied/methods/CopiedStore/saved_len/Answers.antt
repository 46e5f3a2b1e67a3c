use Rattle.std.proofs.Common.{Ok, sym, ap, ◌∙◌}
use Rattle.bottom.specs.Tables.{listed}
use Rattle.copied.specs.Cells.{cell_at, cells}
use Rattle.copied.specs.Parts.{read_row, part_start}
use Rattle.copied.proofs.Stores.{words_of}
use Rattle.std.proofs.lemmas.List.FromFn.{length-map-range_with_len}
use Rattle.bottom.proofs.Answered.{is_held, length_none, length_some}
use Rattle.copied.proofs.copied.methods.CopiedStore.saved_len.Goals as goal

pub returns-in_err-row : goal.returns-in_err-row
returns-in_err-row c =
    let s = c.args.self.now in
    length_none (read_row (words_of s) s.depth) (cells (words_of s) 0 s.len) (listed s.table) s.depth s.table.limit c.args.name.0 c.in_err-row.field-0.0 c.in_err-row.ensures c.from_residual.result c.from_residual.ensures.1

pub returns : goal.returns
returns c =
    let s = c.args.self.now in
    let r = c.in_ok-row.row in
    ap Ok (sym (length-map-range_with_len (cell_at (words_of s)) (part_start s.depth r.at) r.len)) ∙ length_some (read_row (words_of s) s.depth) (cells (words_of s) 0 s.len) (listed s.table) s.depth s.table.limit c.args.name.0 r (is_held _ r c.in_ok-row.ensures)
