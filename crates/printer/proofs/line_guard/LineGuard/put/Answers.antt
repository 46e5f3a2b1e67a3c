use Rattle.std.proofs.Common.{arith, rules}
use Rattle.printer.proofs.Overwrites.{restored_more}
use Rattle.printer.proofs.line_guard.LineGuard.put.Goals as goal

pub returns-clause-restores : goal.returns-clause-restores
returns-clause-restores c =
    let g = c.args.self.now in
    restored_more g.bytes.now g.old.items c.try_extend_from_slice.new.self.items c.copy_from_slice.new.self g.at _ _ (omega arith) (omega arith) (omega arith) (search rules)
