use Rattle.std.proofs.Common.{◌≡◌, ◌+◌, Ok, sym, ap, ◌∙◌, arith}
use Rattle.copied.specs.Cells.{cell_at}
use Rattle.copied.proofs.Stores.{words_of}
use Rattle.std.specs.Option.{ok_or}
use Rattle.store.specs.declared.refusal.Refusal.TheVariants.{NoIndex}
use Rattle.copied.proofs.Calls.{nth_cells, nth_beyond}
use Rattle.copied.proofs.copied.methods.CopiedStore.cell_at.Goals as goal

pub returns-then-index-self : goal.returns-then-index-self
returns-then-index-self c = let s = c.args.self.now in sym (ap (λ o. ok_or o NoIndex) (nth_beyond (words_of s) 0 s.len c.args.index c.if-index-self.true))

pub returns : goal.returns
returns c =
    let s = c.args.self.now in
    let z : 0 + c.args.index ≡ c.args.index = omega arith in
    ap Ok (c.read_cell.ensures ∙ ap (λ ws. cell_at ws c.args.index) c.as_slice.ensures.value ∙ ap (cell_at (words_of s)) (sym z)) ∙ sym (ap (λ o. ok_or o NoIndex) (nth_cells (words_of s) 0 s.len c.args.index c.if-index-self.false))
