use Rattle.std.proofs.Common.{◌+◌, Ok, sym, ap, ◌∙◌, arith}
use Rattle.bottom.specs.Tables.{listed}
use Rattle.copied.specs.Cells.{cell_at, cells}
use Rattle.copied.specs.Parts.{read_row, part_start}
use Rattle.copied.proofs.Stores.{words_of}
use Rattle.std.specs.Option.{ok_or}
use Rattle.store.specs.declared.refusal.Refusal.TheVariants.{NoIndex}
use Rattle.bottom.proofs.Answered.{is_held, cell_none, cell_some}
use Rattle.copied.proofs.Calls.{nth_cells, nth_beyond, row-fit, part_in}
use Rattle.copied.proofs.copied.methods.CopiedStore.saved_cell.Goals as goal

pub returns-in_err-row : goal.returns-in_err-row
returns-in_err-row c =
    let s = c.args.self.now in
    cell_none (read_row (words_of s) s.depth) (cells (words_of s) 0 s.len) (listed s.table) s.depth s.table.limit c.args.name.0 c.in_err-row.field-0.0 c.in_err-row.ensures c.args.index c.from_residual.result c.from_residual.ensures.1

pub returns-then-index-row : goal.returns-then-index-row
returns-then-index-row c =
    let s = c.args.self.now in
    let r = c.in_ok-row.row in
    sym (ap (λ o. ok_or o NoIndex) (nth_beyond (words_of s) (part_start s.depth r.at) r.len c.args.index c.if-index-row.true))
    ∙ cell_some (read_row (words_of s) s.depth) (cells (words_of s) 0 s.len) (listed s.table) s.depth s.table.limit c.args.name.0 c.args.index r (is_held _ r c.in_ok-row.ensures)

pub read_cell-requires : goal.read_cell-requires
read_cell-requires c =
    let s = c.args.self.now in
    let r = c.in_ok-row.row in
    let f = row-fit s c.args.name.0 r (is_held _ r c.in_ok-row.ensures) in
    let a = part_in s r.at f.1 in
    let b = f.0 in
    let d = s.memory.ok.0 in
    omega arith

pub returns : goal.returns
returns c =
    let s = c.args.self.now in
    let r = c.in_ok-row.row in
    ap Ok (c.read_cell.ensures ∙ ap (λ ws. cell_at ws (c.cells_needed-start.result + c.args.index)) c.as_slice.ensures.value ∙ ap (λ k. cell_at (words_of s) (k + c.args.index)) c.cells_needed-start.ensures)
    ∙ sym (ap (λ o. ok_or o NoIndex) (nth_cells (words_of s) (part_start s.depth r.at) r.len c.args.index c.if-index-row.false))
    ∙ cell_some (read_row (words_of s) s.depth) (cells (words_of s) 0 s.len) (listed s.table) s.depth s.table.limit c.args.name.0 c.args.index r (is_held _ r c.in_ok-row.ensures)
