use Rattle.steps.proofs.Named.{named}
use Rattle.steps.proofs.needs.row.Goals as goal

pub returns-clause-named : goal.returns-clause-named
returns-clause-named g c = rw c.ok_or.ensures.value (named _ c.args.name _ _ c.row.ensures)
