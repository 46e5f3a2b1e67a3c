use Rattle.std.proofs.Common.{◌++◌, map, reverse, take, sym, ap, ◌∙◌, arith}
use Rattle.std.proofs.lemmas.List.{take_all, drop_all, append-nil}
use Rattle.cell.specs.Elements.{frame_in}
use Rattle.machine.specs.Apply.{marked_in}
use Rattle.machine.specs.Named.{changed}
use Rattle.held.specs.Rows.{row_name, for_many}
use Rattle.held.proofs.Promoting.{promoted_more, unmarked_more, many_more}
use Rattle.held.proofs.held_table.promote_each.Goals as goal
use Rattle.held.proofs.held_table.promote_each.Goals.{then-row+then-marked, else-row, else-row-via-then-row+else-marked, else-row-via-else-row}

pub loop-row-preserved : goal.loop-row-preserved
loop-row-preserved g c =
    let test = marked_in (reverse (map frame_in (g.F.Store.meaning c.args.frames.now).current)) in
    let rs = c.args.rows.now in
    let ys = c.loop-row.rows in
    let i = c.loop-row.row-index in
    elim c.if-row.branch [
      | then-row+then-marked w ↦ w.rows-is ∙ promoted_more test rs ys i c.loop-row-test.true c.loop-row.invariant (sym w.marked.ensures ∙ w.if-marked.true)
      | else-row w ↦ elim w.else-row.branch [
        | else-row-via-then-row+else-marked v ↦ w.rows-is ∙ v.rows-is ∙ unmarked_more test rs ys i c.loop-row-test.true c.loop-row.invariant (sym v.marked.ensures ∙ v.if-marked.false)
        | else-row-via-else-row v ↦ w.rows-is ∙ v.rows-is ∙ many_more test rs ys i c.loop-row-test.true c.loop-row.invariant v.if-row.false
      ]
    ]

pub returns : goal.returns
returns g c =
    let fs = reverse (map frame_in (g.F.Store.meaning c.args.frames.now).current) in
    let rs = c.args.rows.now in
    let i = c.loop-row.row-index in
    let change = changed row_name (marked_in fs) for_many in
    c.loop-row.invariant
    ∙ ap (λ xs. map change (take i rs) ++ xs) (drop_all i rs (omega arith))
    ∙ append-nil (map change (take i rs))
    ∙ ap (map change) (take_all i rs (omega arith))
