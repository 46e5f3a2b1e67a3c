use Rattle.laws.proofs.Lines.{lines_fit}
use Rattle.laws.proofs.calls.lines_fit.Goals as goal

pub returns : goal.returns
returns c = lines_fit
