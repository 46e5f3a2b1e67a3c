use Rattle.laws.proofs.Rows.{rows-joined}
use Rattle.laws.proofs.laws.rows_joined.Goals as goal

pub returns : goal.returns
returns c = rows-joined
