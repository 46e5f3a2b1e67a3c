-- The table of examples, computed.
use Rattle.laws.specs.Examples.{ExamplesRun}
use Rattle.std.specs.Fmt.{digits}

pub examples-run : ExamplesRun
unfolding digits
examples-run = tt
