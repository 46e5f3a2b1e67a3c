use Rattle.laws.proofs.Computed.{examples-run}
use Rattle.laws.proofs.examples.examples_run.Goals as goal

pub returns : goal.returns
returns c = examples-run
