use Rattle.std.proofs.Common.{◌-◌, ◌<◌, ap, ◌∙◌, arith}
use Rattle.copied.specs.Cells.{cell_at}
use Rattle.copied.proofs.Calls.{pop_means}
use Rattle.copied.proofs.copied.methods.CopiedStore.pop.Goals as goal

pub returns-clause-call : goal.returns-clause-call
returns-clause-call c =
    let s = c.args.self.now in
    let some : 0 < s.len = let n = c.if-self-eq0.false in omega arith in
    pop_means s c.read_cell.result some (c.read_cell.ensures ∙ ap (λ ws. cell_at ws (s.len - 1)) c.as_slice.ensures.value)
