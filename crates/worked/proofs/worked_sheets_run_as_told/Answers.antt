use Rattle.std.proofs.Common.{refl}
use Rattle.std.specs.Fmt.{digits}
use Rattle.worked.proofs.worked_sheets_run_as_told.Goals as goal

-- the table, computed
pub returns : goal.returns
unfolding digits
returns c = refl
