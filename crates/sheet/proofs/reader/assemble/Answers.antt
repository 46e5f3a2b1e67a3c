use Rattle.std.proofs.Common.{rules}
use Rattle.sheet.proofs.FewLines.{few_lines}
use Rattle.sheet.proofs.reader.assemble.Goals as goal

pub loop-number-init : goal.loop-number-init
loop-number-init c = let few = few_lines c.args.sheet.now in search rules
