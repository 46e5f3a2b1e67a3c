use Rattle.std.proofs.Common.{take}
use Rattle.std.specs.List.{flat_map}
use Rattle.std.specs.Io.KnownBytes.{Appends}
use Rattle.hathrelig.specs.Report.{exchange_text}
use Rattle.hathrelig.proofs.report.print_answers.Given as goal

-- what the calls so far were answered is printed
abbrev pub invariant-loop-call : goal.invariant-loop-call
invariant-loop-call g l = Appends (g.W.Write.contents l.initial.out) (g.W.Write.contents l.out) (flat_map exchange_text (take l.call-index l.calls))
