use Rattle.std.proofs.Common.{length, map, rules, tests, arith, sym, refl, ◌∙◌}
use Rattle.std.specs.List.{slice_get}
use Rattle.std.proofs.lemmas.List.{length-map}
use Rattle.std.proofs.lemmas.Iterator.{YieldsList-from_range}
use Rattle.std.proofs.lemmas.Iterator.Search.{any_from_yields_List}
use Rattle.cell.specs.Elements.{frame_in}
use Rattle.held.specs.Marks.{marks_at}
use Rattle.held.proofs.Marking.{marked_any}
use Rattle.held.proofs.marks.marked.Goals as goal

pub returns : goal.returns
returns g c =
    let fs = map frame_in (g.F.Store.meaning c.args.frames.now).current in
    let n = c.args.name.0 in
    any_from_yields_List (λ i. marks_at (slice_get fs i) n) _ _ c.any.result c.any.ensures.ran (YieldsList-from_range 0 c.len.result (length fs) refl (omega (arith, c.len.ensures, length-map (g.F.Store.meaning c.args.frames.now).current frame_in))) (λ x b q k. search (rules, tests))
    ∙ sym (marked_any fs n)
