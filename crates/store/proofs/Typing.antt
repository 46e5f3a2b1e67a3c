-- Each call on a meaning, read as the same call at elements.
use Rattle.std.proofs.Common.{◌≡◌, ℕ, ◌-◌, Bool, true, false, cond, eqb, leb, List, [], ◌∷◌, map, length, Some, None, Option, sym, refl, ap, ◌∙◌}
use Rattle.std.specs.List.{slice_get}
use Rattle.std.specs.Option.{ok_or, option_map}
use Rattle.std.proofs.lemmas.List.{length-map, map_push, take-map}
use Rattle.std.proofs.lemmas.Option.{slice_get-map}
use Rattle.store.specs.declared.refusal.Refusal.TheVariants.{NoIndex}
use Rattle.store.specs.Meaning.{Meaning, Held, Outcome, saved_under, without, popped, popped_by, saved, saved_by, restored, restored_by, released, released_by, taken, taken_by, cell_in, cell_by, saved_cell_in, length_by, saved_length, top}
use Rattle.store.specs.Typed.{read_as, held_as, answer_as}

-- a function of what a test chooses
chosen : {X Y : Type 0} (h : X → Y) (b : Bool) {x y : X} {x' y' : Y} → h x ≡ x' → h y ≡ y' → h (cond b x y) ≡ cond b x' y'
chosen h true p q = p
chosen h false p q = q

module _ {A B : Type 0} (f : A → B) where
  -- an outcome, its lists read
  abbrev pub left_as : {X : Type 0} → Outcome A X → Outcome B X
  left_as o = (o.0, read_as f o.1)

  under_as : (hs : List (Held A)) (n : ℕ) → option_map (map f) (saved_under hs n) ≡ saved_under (map (held_as f) hs) n
  under_as [] n = refl
  under_as (h ∷ hs) n = chosen (option_map (map f)) (eqb h.name n) refl (under_as hs n)

  without_as : (hs : List (Held A)) (n : ℕ) → map (held_as f) (without hs n) ≡ without (map (held_as f) hs) n
  without_as [] n = refl
  without_as (h ∷ hs) n = chosen (map (held_as f)) (eqb h.name n) refl (ap (λ ps. held_as f h ∷ ps) (without_as hs n))

  popped_by_as : (m : Meaning A) (o : Option A) → (answer_as f (popped_by m o).0, read_as f (popped_by m o).1) ≡ popped_by (read_as f m) (option_map f o)
  popped_by_as m None = refl
  popped_by_as m (Some x) = rw (length-map, take-map)

  pub top_as : (cs : List A) → option_map f (top cs) ≡ top (map f cs)
  top_as cs = sym (rw length-map (slice_get-map f cs (length cs - 1)))

  pub popped_as : (m : Meaning A) → (answer_as f (popped m).0, read_as f (popped m).1) ≡ popped (read_as f m)
  popped_as m = popped_by_as m (top m.current) ∙ ap (popped_by (read_as f m)) (top_as m.current)

  saved_by_as : (m : Meaning A) (n : ℕ) (o : Option (List A)) → left_as (saved_by m n o) ≡ saved_by (read_as f m) n (option_map (map f) o)
  saved_by_as m n (Some cs) = refl
  saved_by_as m n None =
      rw length-map (chosen left_as (eqb n 0) refl (chosen left_as (leb m.held_limit (length m.held)) refl (rw map_push)))

  pub saved_as : (m : Meaning A) (n : ℕ) → left_as (saved m n) ≡ saved (read_as f m) n
  saved_as m n = saved_by_as m n (saved_under m.held n) ∙ ap (saved_by (read_as f m) n) (under_as m.held n)

  restored_by_as : (m : Meaning A) (o : Option (List A)) → left_as (restored_by m o) ≡ restored_by (read_as f m) (option_map (map f) o)
  restored_by_as m (Some cs) = refl
  restored_by_as m None = refl

  pub restored_as : (m : Meaning A) (n : ℕ) → left_as (restored m n) ≡ restored (read_as f m) n
  restored_as m n = restored_by_as m (saved_under m.held n) ∙ ap (restored_by (read_as f m)) (under_as m.held n)

  released_by_as : (m : Meaning A) (n : ℕ) (o : Option (List A)) → left_as (released_by m n o) ≡ released_by (read_as f m) n (option_map (map f) o)
  released_by_as m n (Some cs) = rw without_as
  released_by_as m n None = refl

  pub released_as : (m : Meaning A) (n : ℕ) → left_as (released m n) ≡ released (read_as f m) n
  released_as m n = released_by_as m n (saved_under m.held n) ∙ ap (released_by (read_as f m) n) (under_as m.held n)

  taken_by_as : (m : Meaning A) (n : ℕ) (o : Option (List A)) → left_as (taken_by m n o) ≡ taken_by (read_as f m) n (option_map (map f) o)
  taken_by_as m n (Some cs) = rw without_as
  taken_by_as m n None = refl

  pub taken_as : (m : Meaning A) (n : ℕ) → left_as (taken m n) ≡ taken (read_as f m) n
  taken_as m n = taken_by_as m n (saved_under m.held n) ∙ ap (taken_by (read_as f m) n) (under_as m.held n)

  found_as : (o : Option A) → answer_as f (ok_or o NoIndex) ≡ ok_or (option_map f o) NoIndex
  found_as None = refl
  found_as (Some x) = refl

  pub cell_in_as : (cs : List A) (i : ℕ) → answer_as f (cell_in cs i) ≡ cell_in (map f cs) i
  cell_in_as cs i = found_as (slice_get cs i) ∙ ap (λ o. ok_or o NoIndex) (sym (slice_get-map f cs i))

  cell_by_as : (o : Option (List A)) (i : ℕ) → answer_as f (cell_by o i) ≡ cell_by (option_map (map f) o) i
  cell_by_as None i = refl
  cell_by_as (Some cs) i = cell_in_as cs i

  pub saved_cell_as : (m : Meaning A) (n i : ℕ) → answer_as f (saved_cell_in m n i) ≡ saved_cell_in (read_as f m) n i
  saved_cell_as m n i = cell_by_as (saved_under m.held n) i ∙ ap (λ o. cell_by o i) (under_as m.held n)

  length_by_as : (o : Option (List A)) → length_by o ≡ length_by (option_map (map f) o)
  length_by_as None = refl
  length_by_as (Some cs) = rw length-map

  pub saved_length_as : (m : Meaning A) (n : ℕ) → saved_length m n ≡ saved_length (read_as f m) n
  saved_length_as m n = length_by_as (saved_under m.held n) ∙ ap length_by (under_as m.held n)
