use Rattle.std.proofs.Common.{sym}
use Rattle.linked.proofs.Facts.{length-cells}
use Rattle.linked.proofs.Stores.{nodes_of}
use Rattle.linked.proofs.linked.methods.LinkedStore.len.Goals as goal

pub returns : goal.returns
returns c = let s = c.args.self.now in sym (length-cells (nodes_of s) s.current.len s.current.top)
