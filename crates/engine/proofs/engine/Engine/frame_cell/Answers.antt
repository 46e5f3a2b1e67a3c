use Rattle.std.proofs.Common.{sym, ap, ◌∙◌}
use Rattle.cell.specs.Elements.{frame_in, frame_words}
use Rattle.engine.proofs.Cells.{told}
use Rattle.engine.proofs.engine.Engine.frame_cell.Goals as goal

pub returns : goal.returns
returns g c =
    let of = sym (ap (λ p. p.frames.current) c.self.view_is) ∙ ap (λ m. m.current) c.store.ensures.list in
    told frame_in frame_words _ c.self.invariant.0 _ of c.args.index _ (rw c.store.ensures.store at c.cell_at.ensures)
