use Rattle.std.proofs.Common.{sym}
use Rattle.std.proofs.lemmas.List.FromFn.{length-map-range_with_len}
use Rattle.copied.specs.Cells.{cell_at}
use Rattle.copied.proofs.Stores.{words_of}
use Rattle.copied.proofs.copied.methods.CopiedStore.len.Goals as goal

pub returns : goal.returns
returns c = let s = c.args.self.now in sym (length-map-range_with_len (cell_at (words_of s)) 0 s.len)
