use Rattle.std.proofs.Common.{Ok, sym, ap, ◌∙◌}
use Rattle.bottom.specs.Tables.{listed}
use Rattle.linked.specs.Chains.{cells}
use Rattle.linked.specs.Meant.{read_row}
use Rattle.linked.proofs.Stores.{nodes_of}
use Rattle.bottom.proofs.Answered.{is_held, length_none, length_some}
use Rattle.linked.proofs.Facts.{length-cells}
use Rattle.linked.proofs.linked.methods.LinkedStore.saved_len.Goals as goal

pub returns-in_err-row : goal.returns-in_err-row
returns-in_err-row c =
    let s = c.args.self.now in
    length_none (read_row (nodes_of s)) (cells (nodes_of s) s.current.top s.current.len) (listed s.table) s.depth s.table.limit c.args.name.0 c.in_err-row.field-0.0 c.in_err-row.ensures c.from_residual.result c.from_residual.ensures.1

pub returns : goal.returns
returns c =
    let s = c.args.self.now in
    let r = c.in_ok-row.row in
    ap Ok (sym (length-cells (nodes_of s) r.len r.at)) ∙ length_some (read_row (nodes_of s)) (cells (nodes_of s) s.current.top s.current.len) (listed s.table) s.depth s.table.limit c.args.name.0 r (is_held _ r c.in_ok-row.ensures)
