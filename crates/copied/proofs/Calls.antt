-- What each call of a copied stack leaves: its meaning, the facts that its fields owe, and the memory past its need.
use Rattle.std.proofs.Common.{◌≡◌, ℕ, ◌+◌, ◌-◌, ◌*◌, ◌<◌, ◌≤◌, ◌≢◌, ◌⊎◌, List, [], ◌∷◌, ◌++◌, length, take, drop, Some, None, Ok, Err, Result, sym, refl, ap, ◌∙◌, subst, inl, inr, ⊎_elim, arith}
use lib.Seq.{paste}
use Rattle.std.specs.List.{slice_get, AllByRecursion as All}
use Rattle.std.specs.Option.{ok_or}
use Rattle.store.specs.declared.refusal.Refusal.TheVariants.{NotHeld}
use Rattle.std.proofs.lemmas.List.FromFn.{length-map-range_with_len, get_or-map-range_with_len, map-range_with_len_more}
use Rattle.std.proofs.ByRecursion.{All-weaker, All-push}
use Rattle.std.proofs.Math.Seq.{take-append_seam}
use Rattle.std.proofs.lemmas.List.{length-drop, length_push, map_push}
use Rattle.std.proofs.lemmas.Option.{slice_get-get_or, slice_get_past}
use Rattle.std.proofs.lemmas.Bool.{cases_order}
use Rattle.store.specs.declared.refusal.Refusal.{Refusal}
use Rattle.store.specs.Meaning.{pushed, popped, saved, released, with_current}
use Rattle.cell.specs.declared.cell.Cell.{Cell}
use Rattle.bottom.specs.declared.row.Row.{Row}
use Rattle.bottom.specs.declared.table.Table.{Table}
use Rattle.bottom.specs.Limits.{cells_needed}
use Rattle.bottom.specs.Meant.{by_rows}
use Rattle.bottom.specs.Rows.{blank, bit, places, row_under, rows_without, admitted, added}
use Rattle.bottom.specs.Tables.{listed}
use Rattle.bottom.proofs.Answered.{not_held, alike, released_some, saved-row, saved-refused}
use Rattle.bottom.proofs.Rows.{bit-same, length-without, places_push, places-without, places_none, all_both, all_popped, all_under, all_without, without_none}
use Rattle.bottom.proofs.Tables.{added-fits}
use Rattle.store.proofs.Popping.{popped_push}
use Rattle.bottom.proofs.Tops.{pushed_room}
use Rattle.copied.specs.declared.copied.Copied.{Copied}
use Rattle.cell.specs.Filled.{width}
use Rattle.copied.specs.Cells.{cell_at, cells}
use Rattle.copied.specs.Meant.{size, meant, one_given}
use Rattle.copied.specs.Parts.{part_start, read_row, spare}
use Rattle.copied.proofs.Regions.{cells_inside, cells_outside, cells-from, own_cell, written-beyond, written-long, part_below, part_past}
use Rattle.copied.proofs.Stores.{words_of, RowFits, PlaceFits, rows_fit, spares_fit, Owed, owed}

-- the memory past the need, where the limit is as it was
pub fixed_same : (s : Copied) (vs : List ℕ) (limit : ℕ) → limit ≡ s.table.limit → drop (size s) vs ≡ drop (size s) (words_of s)
    → ◌≡◌ {A = ℕ × List ℕ} (width * cells_needed s.depth limit, drop (width * cells_needed s.depth limit) vs) (size s, drop (size s) (words_of s))
fixed_same s vs limit e d = ap (λ m. (width * cells_needed s.depth m, drop (width * cells_needed s.depth m) vs)) e ∙ ap (λ xs. (size s, xs)) d

-- the cell at an index of some cells
pub nth_cells : (ws : List ℕ) (from n i : ℕ) → i < n → slice_get (cells ws from n) i ≡ Some (cell_at ws (from + i))
nth_cells ws from n i l =
    let long = length-map-range_with_len (cell_at ws) from n in
    slice_get-get_or (cells ws from n) i (cell_at ws 0) (omega arith) ∙ ap Some (get_or-map-range_with_len (cell_at ws) from n i (from + i) (cell_at ws 0) l refl)

-- there is no cell at or past the end
pub nth_beyond : (ws : List ℕ) (from n i : ℕ) → n ≤ i → slice_get (cells ws from n) i ≡ None
nth_beyond ws from n i l = let long = length-map-range_with_len (cell_at ws) from n in slice_get_past (cells ws from n) i (omega arith)

-- a cell more at the end
pub cells_more : (ws : List ℕ) (n : ℕ) → cells ws 0 (n + 1) ≡ cells ws 0 n ++ (cell_at ws n ∷ [])
cells_more ws n = map-range_with_len_more (cell_at ws) 0 n n (omega arith)

-- the bounds of the parts
pub part_in : (s : Copied) (place : ℕ) → place < s.table.limit → width * (part_start s.depth place + s.depth) ≤ length (words_of s)
part_in s place l = let a = part_below s.depth place s.table.limit l in let b = s.room in omega arith

-- the part of the current list is there
pub first_in : (s : Copied) → width * s.depth ≤ length (words_of s)
first_in s = let a = part_past s.depth s.table.limit in let b = s.room in omega arith

-- the same rows in another table mean the same
pub meant-same : (s : Copied) (rows : List Row) (limit : ℕ) → rows ≡ listed s.table → limit ≡ s.table.limit → by_rows (read_row (words_of s) s.depth) (cells (words_of s) 0 s.len) rows s.depth limit ≡ meant s
meant-same s rows limit e d = alike _ _ _ _ _ _ s.depth _ _ refl (All-weaker _ _ (λ r f. refl) (listed s.table) (rows_fit s)) e d

-- a cell is written behind the current list
module _ (s : Copied) (short : s.len < s.depth) (c : Cell) (whole : length c.words ≡ width) (vs : List ℕ) (is : vs ≡ paste (words_of s) (width * s.len) c.words width) where
  -- the cell lies in the part of the current list
  in_first : width * (s.len + 1) ≤ length (words_of s)
  in_first = let a = first_in s in omega arith

  -- it is the last cell then
  push_last : cell_at vs s.len ≡ c
  push_last =
      let e : cell_at vs s.len ∷ [] ≡ c ∷ [] = ap (λ us. cells us s.len 1) is ∙ cells_inside (words_of s) c.words s.len 1 in_first (omega arith) ∙ own_cell c whole in
      cc

  -- behind the cells that were there
  push_cells : cells vs 0 (s.len + 1) ≡ cells (words_of s) 0 s.len ++ (c ∷ [])
  push_cells =
      let old : cells vs 0 s.len ≡ cells (words_of s) 0 s.len = ap (λ us. cells us 0 s.len) is ∙ cells_outside (words_of s) c.words s.len 1 in_first (omega arith) 0 s.len (inl (omega arith)) in
      cells_more vs s.len ∙ ap (λ xs. xs ++ (cell_at vs s.len ∷ [])) old ∙ ap (λ x. cells (words_of s) 0 s.len ++ (x ∷ [])) push_last

  -- the saved lists are as they were
  push_alike : All (λ r. read_row vs s.depth r ≡ read_row (words_of s) s.depth r) (listed s.table)
  push_alike =
      All-weaker _ _ (λ r f. ap (λ us. read_row us s.depth r) is
      ∙ (let past = part_past s.depth r.at in cells_outside (words_of s) c.words s.len 1 in_first (omega arith) (part_start s.depth r.at) r.len (inr (omega arith)))) (listed s.table) (rows_fit s)

  -- so the store means what a push makes of it
  pub push_means : (Ok tt, by_rows (read_row vs s.depth) (cells vs 0 (s.len + 1)) (listed s.table) s.depth s.table.limit) ≡ pushed (meant s) c
  push_means =
      let n = length-map-range_with_len (cell_at (words_of s)) 0 s.len in
      ap (λ m. (Ok tt, m)) (alike (read_row (words_of s) s.depth) (read_row vs s.depth) _ _ (listed s.table) _ s.depth _ _ push_cells push_alike refl refl) ∙ sym (pushed_room (meant s) c (omega arith))

  -- nothing past the need has changed
  pub push_beyond : drop (size s) vs ≡ drop (size s) (words_of s)
  push_beyond = ap (drop (size s)) is ∙ (let a = part_past s.depth s.table.limit in written-beyond (words_of s) c.words s.len 1 in_first (omega arith) (size s) (omega arith))

-- the last cell of the current list
pub pop_means : (s : Copied) (x : Cell) → 0 < s.len → x ≡ cell_at (words_of s) (s.len - 1) → (Ok x, by_rows (read_row (words_of s) s.depth) (cells (words_of s) 0 (s.len - 1)) (listed s.table) s.depth s.table.limit) ≡ popped (meant s)
pop_means s x some is =
    let n : s.len ≡ s.len - 1 + 1 = omega arith in
    ap (λ y. (Ok y, by_rows (read_row (words_of s) s.depth) (cells (words_of s) 0 (s.len - 1)) (listed s.table) s.depth s.table.limit)) is
    ∙ sym (popped_push (meant s) (cells (words_of s) 0 (s.len - 1)) (cell_at (words_of s) (s.len - 1)) (ap (cells (words_of s) 0) n ∙ cells_more (words_of s) (s.len - 1)))

-- a saved list is copied to the beginning
module _ (s : Copied) (r : Row) (fit : RowFits s.depth s.table.limit r) (vs : List ℕ) (is : vs ≡ paste (words_of s) (width * 0) (drop (width * part_start s.depth r.at) (words_of s)) (width * r.len)) where
  -- the words from the row's part on
  abbrev from : List ℕ
  from = drop (width * part_start s.depth r.at) (words_of s)

  -- they hold the whole list
  enough : width * r.len ≤ length from
  enough = let a = part_in s r.at fit.1 in let b = fit.0 in let e = length-drop (width * part_start s.depth r.at) (words_of s) in omega arith

  -- the list fits into the part of the current one
  in_front : width * (0 + r.len) ≤ length (words_of s)
  in_front = let a = first_in s in let b = fit.0 in omega arith

  -- it is the current list then
  pub load_current : cells vs 0 r.len ≡ read_row (words_of s) s.depth r
  load_current = ap (λ us. cells us 0 r.len) is ∙ cells_inside (words_of s) from 0 r.len in_front enough ∙ cells-from (words_of s) (part_start s.depth r.at) r.len

  -- all saved lists are as they were
  pub load_alike : (rs : List Row) → All (λ x. read_row vs s.depth x ≡ read_row (words_of s) s.depth x) rs
  load_alike [] = tt
  load_alike (x ∷ rs) = (
    ap (λ us. read_row us s.depth x) is
        ∙ (let past = part_past s.depth x.at in let b = fit.0 in cells_outside (words_of s) from 0 r.len in_front enough (part_start s.depth x.at) x.len (inr (omega arith))),
    load_alike rs,
  )

  -- nothing past the need has changed
  pub load_beyond : drop (size s) vs ≡ drop (size s) (words_of s)
  load_beyond = ap (drop (size s)) is ∙ (let a = part_past s.depth s.table.limit in let b = fit.0 in written-beyond (words_of s) from 0 r.len in_front enough (size s) (omega arith))

  -- nor has the length of the memory
  pub load_long : length vs ≡ length (words_of s)
  load_long = ap length is ∙ written-long (words_of s) from 0 r.len in_front enough

  -- the fields owe what they did
  pub load_owed : Owed (length vs) s.table s.free.items s.depth r.len
  load_owed =
      let long = load_long in
      owed (length vs) s.table s.free.items s.depth r.len s.table.limit _ _ refl refl refl (let a = s.room in omega arith) s.flat fit.0 s.whole s.apart (rows_fit s) (spares_fit s)

  -- so the store means the same, with that list
  pub load_means : by_rows (read_row vs s.depth) (cells vs 0 r.len) (listed s.table) s.depth s.table.limit ≡ with_current (meant s) (read_row (words_of s) s.depth r)
  load_means = alike (read_row (words_of s) s.depth) (read_row vs s.depth) _ _ (listed s.table) (listed s.table) s.depth _ _ load_current (load_alike (listed s.table)) refl refl

-- a row that is found
pub row-fit : (s : Copied) (n : ℕ) (r : Row) → row_under (listed s.table) n ≡ Some r → RowFits s.depth s.table.limit r
row-fit s n r found = all_under _ (listed s.table) n r found (rows_fit s)

-- the row is gone then, and its place is free
module _ (s : Copied) (n : ℕ) (r : Row) (found : row_under (listed s.table) n ≡ Some r) (t : Table) (rows : listed t ≡ rows_without (listed s.table) n) (limit : t.limit ≡ s.table.limit) where
  -- what the fields owe then
  pub gone_owed : (long len : ℕ) (free : List ℕ) → free ≡ s.free.items ++ (r.at ∷ []) → long ≡ length (words_of s) → len ≤ s.depth → Owed long t free s.depth len
  gone_owed long len free frees same short =
      let more = map_push blank s.free.items r.at in
      owed long t free s.depth len s.table.limit _ _ rows frees limit (let a = s.room in omega arith) s.flat short
      (let a = length-without (listed s.table) n r found in let b = s.whole in let d = length_push s.free.items r.at in omega arith)
      (λ k. (let a = s.apart k in let b = places-without (listed s.table) n r k found in let d = places_push (spare s.free.items) (blank r.at) k in let e = ap (λ fs. places fs k) more in
      let g : places (rows_without (listed s.table) n) k + places (spare (s.free.items ++ (r.at ∷ []))) k ≤ 1 = omega arith in g))
      (all_without _ (listed s.table) n (rows_fit s))
      (subst (All (PlaceFits s.table.limit)) (sym more) (All-push _ (spare s.free.items) (blank r.at) (spares_fit s) (row-fit s n r found).1))

  -- the meaning, where the memory stays
  pub release_means : (Ok tt, by_rows (read_row (words_of s) s.depth) (cells (words_of s) 0 s.len) (listed t) s.depth t.limit) ≡ released (meant s) n
  release_means =
      ap (λ m. (Ok tt, m)) (alike _ _ _ _ _ _ s.depth _ _ refl (All-weaker _ _ (λ x f. refl) _ (all_without _ (listed s.table) n (rows_fit s))) rows limit)
      ∙ released_some (read_row (words_of s) s.depth) (cells (words_of s) 0 s.len) (listed s.table) s.depth s.table.limit n r found

-- a table that had no row of the name is as it was
module _ (s : Copied) (n : ℕ) (t : Table) (x : Refusal) (none : Err x ≡ ok_or (row_under (listed s.table) n) NotHeld) (rows : listed t ≡ rows_without (listed s.table) n) (limit : t.limit ≡ s.table.limit) where
  same_rows : listed t ≡ listed s.table
  same_rows = rows ∙ without_none (listed s.table) n (not_held (row_under (listed s.table) n) x none).0

  pub refused_owed : Owed (length (words_of s)) t s.free.items s.depth s.len
  refused_owed = owed _ t s.free.items s.depth s.len s.table.limit _ _ same_rows refl limit s.room s.flat s.fits s.whole s.apart (rows_fit s) (spares_fit s)

  pub refused_means : by_rows (read_row (words_of s) s.depth) (cells (words_of s) 0 s.len) (listed t) s.depth t.limit ≡ meant s
  refused_means = meant-same s (listed t) t.limit same_rows limit

-- a row for the current list
abbrev pub row_for : Copied → ℕ → ℕ → Row
row_for s n place = record { name = record { 0 = n }; at = place; len = s.len }

-- a save that is refused
pub save_refused : (s : Copied) (n : ℕ) (a : Result (Unit {0}) Refusal) (x : Refusal) → a ≡ Err x → (Err x, listed s.table) ≡ added s.table.limit (listed s.table) (row_for s n 0) → (a, meant s) ≡ saved (meant s) n
save_refused s n a x is answer = ap (λ b. (b, meant s)) is ∙ saved-refused (read_row (words_of s) s.depth) (cells (words_of s) 0 s.len) (listed s.table) s.depth s.table.limit (row_for s n 0) x answer

-- no place is free only where no name more may be held
pub all_held : (s : Copied) → length s.free.items ≡ 0 → s.table.limit ≤ length (listed s.table)
all_held s e = let a = s.whole in omega arith

-- the places that are left once the last is given out
pub one-given : (rest free : List ℕ) (place : ℕ) → free ≡ rest ++ (place ∷ []) → rest ≡ one_given free
one-given rest free place e =
    let n : length free - 1 ≡ length rest = let a = ap length e in let d = length_push rest place in omega arith in
    sym (ap (λ k. take k free) n ∙ ap (take (length rest)) e ∙ take-append_seam rest (place ∷ []))

-- the current list is copied to a free part
module _ (s : Copied) (n place : ℕ) (rest : List ℕ) (popped : s.free.items ≡ rest ++ (place ∷ [])) where
  -- the new row
  abbrev new : Row
  new = row_for s n place

  -- the free rows were the others and that of the place
  split : spare s.free.items ≡ spare rest ++ (blank place ∷ [])
  split = ap spare popped ∙ map_push blank rest place

  -- so a name more may be held
  pub room_for : length (listed s.table) < s.table.limit
  room_for = let a = s.whole in let b = ap length popped in let d = length_push rest place in omega arith

  -- the parts of the free rows are there
  all-places : All (PlaceFits s.table.limit) (spare rest) × (place < s.table.limit)
  all-places = all_popped _ (spare rest) (blank place) (subst (All (PlaceFits s.table.limit)) split (spares_fit s))

  -- so that of the new row is
  pub place_in : place < s.table.limit
  place_in = all-places.1

  -- no other row has its place
  apart_at : (k : ℕ) → places (listed s.table) k + (places (spare rest) k + bit place k) ≤ 1
  apart_at k = let a = s.apart k in let b = ap (λ fs. places fs k) split in let d = places_push (spare rest) (blank place) k in omega arith

  -- no held row has the place
  others-elsewhere : All (λ r. r.at ≢ place) (listed s.table)
  others-elsewhere =
      places_none (listed s.table) place
      (let a = apart_at place in let b = bit-same place place refl in omega arith)

  module _ (t : Table) (rows : listed t ≡ listed s.table ++ (new ∷ [])) (limit : t.limit ≡ s.table.limit) (vs : List ℕ) (is : vs ≡ paste (words_of s) (width * part_start s.depth place) (drop (width * 0) (words_of s)) (width * s.len)) where
    -- the list fits into the part
    fits : width * (part_start s.depth place + s.len) ≤ length (words_of s)
    fits = let a = part_in s place place_in in let b = s.fits in omega arith

    -- the current list is there
    whole : width * s.len ≤ length (words_of s)
    whole = let a = first_in s in let b = s.fits in omega arith

    -- the current list stays
    save_current : cells vs 0 s.len ≡ cells (words_of s) 0 s.len
    save_current = ap (λ us. cells us 0 s.len) is ∙ (let a = part_past s.depth place in let b = s.fits in cells_outside (words_of s) (words_of s) (part_start s.depth place) s.len fits whole 0 s.len (inl (omega arith)))

    -- the new row's list is the current one
    save_new : read_row vs s.depth new ≡ cells vs 0 s.len
    save_new = ap (λ us. cells us (part_start s.depth place) s.len) is ∙ cells_inside (words_of s) (words_of s) (part_start s.depth place) s.len fits whole ∙ sym save_current

    -- the other saved lists stay, since their parts lie elsewhere
    save_alike : All (λ r. read_row vs s.depth r ≡ read_row (words_of s) s.depth r) (listed s.table)
    save_alike =
        all_both _ _ _ (λ r f ne. ap (λ us. read_row us s.depth r) is ∙ cells_outside (words_of s) (words_of s) (part_start s.depth place) s.len fits whole (part_start s.depth r.at) r.len (away r f ne)) (listed s.table) (rows_fit s) others-elsewhere
      where
        away : (r : Row) → RowFits s.depth s.table.limit r → r.at ≢ place → (part_start s.depth r.at + r.len ≤ part_start s.depth place) ⊎ (part_start s.depth place + s.len ≤ part_start s.depth r.at)
        away r f ne =
            ⊎_elim
            (λ (e : r.at ≡ place). absurd (ne e))
            (λ (h : (r.at < place) ⊎ (place < r.at)).
            ⊎_elim
            (λ (l : r.at < place). let a = part_below s.depth r.at place l in let b = f.0 in inl (omega arith))
            (λ (l : place < r.at). let a = part_below s.depth place r.at l in let b = s.fits in inr (omega arith))
            h)
            (cases_order r.at place)

    -- so the store means what a save makes of it
    pub save_means : Ok tt ≡ admitted (listed s.table) n → (Ok tt, by_rows (read_row vs s.depth) (cells vs 0 s.len) (listed t) s.depth t.limit) ≡ saved (meant s) n
    save_means new_name =
        ap (λ m. (Ok tt, by_rows (read_row vs s.depth) (cells vs 0 s.len) (listed t) s.depth m)) limit
        ∙ saved-row (read_row vs s.depth) (cells vs 0 s.len) (listed s.table) s.depth s.table.limit new (Ok tt) (listed t) save_new (ap (λ rs. (Ok tt, rs)) rows ∙ added-fits s.table.limit (listed s.table) new room_for new_name)
        ∙ ap (λ m. saved m n) (alike (read_row (words_of s) s.depth) (read_row vs s.depth) _ _ (listed s.table) _ s.depth _ _ save_current save_alike refl refl)

    -- nothing past the need has changed
    pub save_beyond : drop (size s) vs ≡ drop (size s) (words_of s)
    save_beyond = ap (drop (size s)) is ∙ (let a = part_below s.depth place s.table.limit place_in in let b = s.fits in written-beyond (words_of s) (words_of s) (part_start s.depth place) s.len fits whole (size s) (omega arith))

    -- what the fields owe then
    pub save_owed : Owed (length vs) t rest s.depth s.len
    save_owed =
        owed (length vs) t rest s.depth s.len s.table.limit _ _ rows refl limit
        (let a = s.room in let b = ap length is ∙ written-long (words_of s) (words_of s) (part_start s.depth place) s.len fits whole in omega arith) s.flat s.fits
        (let a = s.whole in let b = ap length popped in let d = length_push rest place in let e = length_push (listed s.table) new in omega arith)
        (λ k. (let a = apart_at k in let b = places_push (listed s.table) new k in let g : places (listed s.table ++ (new ∷ [])) k + places (spare rest) k ≤ 1 = omega arith in g))
        (All-push _ (listed s.table) new (rows_fit s) (s.fits, place_in)) all-places.0
