use Rattle.std.proofs.Common.{◌≡◌, reverse, sym, ap, ◌∙◌, rules}
use Rattle.cell.specs.Elements.{frame_in}
use Rattle.machine.specs.Apply.{marked_in}
use Rattle.machine.specs.Named.{changed_all}
use Rattle.held.specs.Rows.{row_name, for_many}
use Rattle.store.specs.Typed.{read_as}
use Rattle.engine.proofs.engine.Engine.promote.Goals as goal

pub returns : goal.returns
returns g c =
    let e = c.self.inside in
    let same = ap (λ s. read_as frame_in (g.F.Store.meaning s)) c.store.ensures.store ∙ sym c.store.ensures.list in
    let rows : c.promote.new.self ≡ changed_all row_name (marked_in (reverse e.frames.list.current)) for_many e.held = c.promote.ensures ∙ ap (λ m. changed_all row_name (marked_in (reverse m.current)) for_many e.held) same in
    search (rules, rows)
