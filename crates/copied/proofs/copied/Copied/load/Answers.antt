use Rattle.std.proofs.Common.{◌≡◌, length, vec_len, refl, arith, rules}
use Rattle.copied.proofs.Stores.{words_copied}
use Rattle.copied.proofs.Calls.{fixed_same, part_in, first_in, load_beyond, load_means, load_owed}
use Rattle.copied.proofs.copied.Copied.load.Goals as goal

pub copy_cells-requires : goal.copy_cells-requires
copy_cells-requires c =
    let s = c.args.self.now in
    let r = c.args.row in
    let f = c.requires in
    let a = part_in s r.at f.1 in let b = f.0 in let d = first_in s in let e = s.memory.ok.0 in
    record { source = omega arith; target = omega arith }

pub invariant_of-self : goal.invariant_of-self
invariant_of-self c =
    let s = c.args.self.now in
    let us = c.copy_cells.new.memory in
    let e : length us ≡ vec_len s.memory = search rules in
    load_owed s c.args.row c.requires _ (words_copied s us _ _ 0 c.args.row.len _ _ e c.copy_cells.ensures c.as_mut_slice.ensures.value c.cells_needed-start.ensures refl)

pub returns : goal.returns
returns c =
    let s = c.args.self.now in
    let us = c.copy_cells.new.memory in
    let e : length us ≡ vec_len s.memory = search rules in
    let items = words_copied s us _ _ 0 c.args.row.len _ _ e c.copy_cells.ensures c.as_mut_slice.ensures.value c.cells_needed-start.ensures refl in
    record { places = refl; meaning = load_means s c.args.row c.requires _ items; memory = fixed_same s _ _ refl (load_beyond s c.args.row c.requires _ items) }
