use Rattle.std.proofs.Common.{◌≡◌, ◌++◌, ◌∷◌, [], ℕ, ◌<◌, ◌≤◌, ⊎_elim, List, length, Some, None, Err, Option, vec_len, is_ok, if◌then◌else◌, sym, refl, ap, ◌∙◌, arith, rules}
use Rattle.std.specs.Option.{option_to_list, ok_or, IsSome}
use Rattle.std.proofs.lemmas.Bool.{cases_lt, false≢true}
use Rattle.store.specs.declared.refusal.Refusal.TheVariants.{HeldFull}
use Rattle.bottom.specs.Tables.{listed}
use Rattle.copied.specs.Meant.{free_places, one_given}
use Rattle.copied.proofs.Stores.{words_copied}
use Rattle.bottom.proofs.Answered.{handed_on}
use Rattle.bottom.proofs.Tables.{added-taken, added_full, appended-ok}
use Rattle.copied.proofs.Calls.{fixed_same, row_for, save_refused, all_held, save_owed, save_means, save_beyond, one-given}
use Rattle.copied.proofs.copied.methods.CopiedStore.save.Goals as goal

pub returns-in_err-admit : goal.returns-in_err-admit
returns-in_err-admit c =
    let s = c.args.self.now in
    let n : ℕ = c.args.name.0 in
    let x = c.in_err-admit.field-0.0 in
    let free = free_places s in
    let told = handed_on _ _ c.from_residual.ensures.1 in
    record { places = ap (λ r. if is_ok r then one_given free else free) (sym told); memory = refl; call = save_refused s n c.from_residual.result x told (added-taken s.table.limit (listed s.table) (row_for s n 0) x c.in_err-admit.ensures) }

-- where no place is given out, none is free
none_free : (o : Option ℕ) (n : ℕ) → (0 < n → IsSome o) → o ≡ None → n ≡ 0
none_free None n h e = ⊎_elim (λ (l : 0 < n). absurd (false≢true (h l))) (λ (l : n ≤ 0). (let z : n ≡ 0 = omega arith in z)) (cases_lt 0 n)
none_free (Some p) n h e = absurd (let z : ◌≡◌ {A = ℕ} 0 1 = cc in let never : ⊥ = omega arith in never)

pub returns-in_err-place-clause-call : goal.returns-in_err-place-clause-call
returns-in_err-place-clause-call c =
    let s = c.args.self.now in
    let n : ℕ = c.args.name.0 in
    let none = c.in_err-place.ensures.ok_part in
    let full : c.in_err-place.field-0.0 ≡ HeldFull = let v = c.in_err-place.ensures.value ∙ ap (λ o. ok_or o HeldFull) none in cc in
    save_refused s n c.from_residual-in_err-place.result HeldFull (handed_on _ _ c.from_residual-in_err-place.ensures.1 ∙ ap Err full) (added_full s.table.limit (listed s.table) (row_for s n 0) (all_held s (none_free c.pop.result _ c.pop.ensures.variant.1 none)) c.in_ok-admit.ensures)

-- the place that was taken
taken : (old new : List ℕ) (o : Option ℕ) (p : ℕ) → old ≡ new ++ option_to_list o → o ≡ Some p → old ≡ new ++ (p ∷ [])
taken old new o p e is = e ∙ ap (λ q. new ++ option_to_list q) is

pub invariant_of-self-2 : goal.invariant_of-self-2
invariant_of-self-2 c =
    let s = c.args.self.now in
    let added = appended-ok _ _ _ _ _ c.in_ok-push.ensures.rows in
    let us = c.copy_cells.new.memory in
    let e : length us ≡ vec_len s.memory = search rules in
    let items = words_copied s us _ 0 _ s.len _ _ e c.copy_cells.ensures c.as_mut_slice.ensures.value refl c.cells_needed-start.ensures in
    save_owed s c.args.name.0 c.in_ok-place.place c.pop.new.self.items (taken _ _ _ _ c.pop.ensures.items c.in_ok-place.ensures.ok_part) c.push.new.self added c.push.ensures.limit _ items

pub returns : goal.returns
returns c =
    let s = c.args.self.now in
    let added = appended-ok _ _ _ _ _ c.in_ok-push.ensures.rows in
    let us = c.copy_cells.new.memory in
    let e : length us ≡ vec_len s.memory = search rules in
    let items = words_copied s us _ 0 _ s.len _ _ e c.copy_cells.ensures c.as_mut_slice.ensures.value refl c.cells_needed-start.ensures in
    let popped = taken _ _ _ _ c.pop.ensures.items c.in_ok-place.ensures.ok_part in
    record {
      places = one-given c.pop.new.self.items s.free.items c.in_ok-place.place popped;
      memory = fixed_same s _ _ c.push.ensures.limit (save_beyond s c.args.name.0 c.in_ok-place.place c.pop.new.self.items popped c.push.new.self added c.push.ensures.limit _ items);
      call = save_means s c.args.name.0 c.in_ok-place.place c.pop.new.self.items popped c.push.new.self added c.push.ensures.limit _ items c.in_ok-admit.ensures;
    }
