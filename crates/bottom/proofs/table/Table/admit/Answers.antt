use Rattle.std.proofs.Common.{sym, ◌∙◌}
use Rattle.bottom.specs.Tables.{listed}
use Rattle.bottom.proofs.Tables.{admitted-held, admitted-new, admitted-zero}
use Rattle.bottom.proofs.table.Table.admit.Goals as goal
use Rattle.bottom.proofs.table.Table.admit.Goals.{then-eq-via-then-eq, then-eq-via-else-eq+then-is_some}

pub returns-then-eq : goal.returns-then-eq
returns-then-eq c =
    elim c.then-eq.branch [
      | then-eq-via-then-eq w ↦ admitted-zero (listed c.args.self.now) c.args.name.0 (sym c.eq.ensures ∙ w.if-eq.true)
      | then-eq-via-else-eq+then-is_some w ↦ admitted-held (listed c.args.self.now) c.args.name.0 w.find.result w.find.ensures (sym w.is_some.ensures ∙ w.if-is_some.true)
    ]

pub returns : goal.returns
returns c = admitted-new (listed c.args.self.now) c.args.name.0 c.find.result c.find.ensures (sym c.is_some.ensures ∙ c.if-is_some.false) (sym c.eq.ensures ∙ c.if-eq.false)
