use Rattle.std.proofs.Common.{◌≡◌, length, vec_len, sym, refl, arith, rules}
use Rattle.cell.specs.Filled.{width}
use Rattle.copied.specs.Cells.{cell_at}
use Rattle.copied.specs.Meant.{meant}
use Rattle.copied.proofs.Stores.{words_of, words_put}
use Rattle.std.proofs.lemmas.List.FromFn.{length-map-range_with_len}
use Rattle.bottom.proofs.Tops.{pushed_full}
use Rattle.copied.proofs.Calls.{fixed_same, push_means, push_beyond}
use Rattle.copied.proofs.copied.methods.CopiedStore.push.Goals as goal

pub returns-then-self-clause-call : goal.returns-then-self-clause-call
returns-then-self-clause-call c =
    let s = c.args.self.now in
    let n = length-map-range_with_len (cell_at (words_of s)) 0 s.len in
    sym (pushed_full (meant s) c.args.cell (omega arith))

pub returns : goal.returns
returns c =
    let s = c.args.self.now in
    let us = c.write_cell.new.memory in
    let e : length us ≡ vec_len s.memory = search rules in
    let whole : length c.args.cell.words ≡ width = search rules in
    let items = words_put s us _ s.len c.args.cell e c.write_cell.ensures c.as_mut_slice.ensures.value whole in
    record {
      places = refl;
      memory = fixed_same s _ _ refl (push_beyond s c.if-self.false c.args.cell whole _ items);
      call = push_means s c.if-self.false c.args.cell whole _ items;
    }
