use Rattle.std.proofs.Common.{◌≡◌, true, sym, ap, ◌∙◌, subst}
use Rattle.bottom.specs.Tables.{listed}
use Rattle.store.specs.Meaning.{cell_in}
use Rattle.linked.specs.declared.chain.Chain.{Chain}
use Rattle.linked.specs.Chains.{cells, ends}
use Rattle.linked.specs.Meant.{size, read_row}
use Rattle.linked.proofs.Stores.{nodes_of}
use Rattle.bottom.proofs.Answered.{is_held, cell_none, cell_some}
use Rattle.linked.proofs.Calls.{row-fit}
use Rattle.linked.proofs.Changes.{ends_to}
use Rattle.linked.proofs.linked.methods.LinkedStore.saved_cell.Goals as goal

pub returns-in_err-row : goal.returns-in_err-row
returns-in_err-row c =
    let s = c.args.self.now in
    cell_none (read_row (nodes_of s)) (cells (nodes_of s) s.current.top s.current.len) (listed s.table) s.depth s.table.limit c.args.name.0 c.in_err-row.field-0.0 c.in_err-row.ensures c.args.index c.from_residual.result c.from_residual.ensures.1

pub cell_of-requires : goal.cell_of-requires
cell_of-requires c =
    let s = c.args.self.now in
    let r = c.in_ok-row.row in
    subst (λ (y : Chain). ends (nodes_of s) (size s) y.top y.len ≡ true) (sym c.from-list.ensures) (ends_to (nodes_of s) (size s) r.len r.at (row-fit s c.args.name.0 r (is_held _ _ c.in_ok-row.ensures)).1)

pub returns : goal.returns
returns c =
    let s = c.args.self.now in
    c.cell_of.ensures ∙ ap (λ (y : Chain). cell_in (cells (nodes_of s) y.top y.len) c.args.index) c.from-list.ensures ∙ cell_some (read_row (nodes_of s)) (cells (nodes_of s) s.current.top s.current.len) (listed s.table) s.depth s.table.limit c.args.name.0 c.args.index c.in_ok-row.row (is_held _ _ c.in_ok-row.ensures)
