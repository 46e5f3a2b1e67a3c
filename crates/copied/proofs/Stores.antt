-- The facts of a copied stack, from its fields and back to them.
use Rattle.std.proofs.Common.{◌≡◌, ℕ, zero, suc, ◌+◌, ◌*◌, ◌<◌, ◌≤◌, true, List, [], ◌∷◌, ◌++◌, map, reverse, length, take, drop, vec_items, vec_len, sym, refl, ap, ◌∙◌, subst, ⊎_elim, arith}
use Rattle.std.specs.List.{range_with_len, copy_within, AllByRecursion as All}
use lib.Seq.{paste}
use mathlib.Core.List.{reverse-cons}
use Rattle.std.proofs.ByRecursion.{All-push}
use Rattle.std.proofs.lemmas.List.{with_items_is, map_push}
use Rattle.std.specs.Vec.{with_items}
use Rattle.std.proofs.lemmas.Bool.{cases_eq, and_parts, and_from, leb-true, le-leb, ltb-true, lt-ltb}
use Rattle.bottom.specs.declared.row.Row.{Row}
use Rattle.bottom.specs.declared.table.Table.{Table}
use Rattle.bottom.specs.Limits.{cells_needed}
use Rattle.bottom.specs.Rows.{blank, bit, places, every}
use Rattle.bottom.specs.Tables.{listed}
use Rattle.bottom.proofs.Rows.{places_push, bit_other, bit_le, every-from, every_to}
use Rattle.copied.specs.declared.copied.Copied.{Copied}
use Rattle.cell.specs.Filled.{width}
use Rattle.cell.specs.declared.cell.Cell.{Cell}
use Rattle.copied.proofs.Regions.{copied_cells, put_cell}
use Rattle.copied.specs.Parts.{Apart, spare, row_fits, place_fits}

-- the words of a store
abbrev pub words_of : Copied → List ℕ
words_of s = vec_items s.memory

-- its words after some cells were copied within them
pub words_copied : (s : Copied) (us xs : List ℕ) (from to n a b : ℕ) → length us ≡ vec_len s.memory → us ≡ copy_within xs (width * from) (width * (from + n)) (width * to) → xs ≡ words_of s → from ≡ a → to ≡ b
    → vec_items (with_items s.memory us) ≡ paste (words_of s) (width * b) (drop (width * a) (words_of s)) (width * n)
words_copied s us xs from to n a b long is same at onto =
    with_items_is s.memory us long ∙ is ∙ ap (λ ys. copy_within ys (width * from) (width * (from + n)) (width * to)) same
    ∙ ap (λ k. copy_within (words_of s) (width * k) (width * (k + n)) (width * to)) at ∙ ap (λ k. copy_within (words_of s) (width * a) (width * (a + n)) (width * k)) onto ∙ copied_cells (words_of s) a b n

-- and after a cell was put there
pub words_put : (s : Copied) (us xs : List ℕ) (i : ℕ) (c : Cell) → length us ≡ vec_len s.memory → us ≡ (take (width * i) xs ++ c.words) ++ drop (width * (i + 1)) xs → xs ≡ words_of s → length c.words ≡ width
    → vec_items (with_items s.memory us) ≡ paste (words_of s) (width * i) c.words width
words_put s us xs i c long is same whole = with_items_is s.memory us long ∙ is ∙ ap (λ ys. (take (width * i) ys ++ c.words) ++ drop (width * (i + 1)) ys) same ∙ put_cell (words_of s) i c whole

-- a row whose part is there, and whose list is no longer than the depth limit
abbrev pub RowFits : ℕ → ℕ → Row → Type 0
RowFits depth limit r = (r.len ≤ depth) × (r.at < limit)

-- a row whose part is there
abbrev pub PlaceFits : ℕ → Row → Type 0
PlaceFits limit r = r.at < limit

-- every held row fits
pub rows_fit : (s : Copied) → All (RowFits s.depth s.table.limit) (listed s.table)
rows_fit s = every-from _ _ (λ r e. (let b = and_parts _ _ e in (leb-true r.len s.depth b.0, ltb-true r.at s.table.limit b.1))) (listed s.table) s.fitting

-- the part of every free row is there
pub spares_fit : (s : Copied) → All (PlaceFits s.table.limit) (spare s.free.items)
spares_fit s = every-from _ _ (λ r e. ltb-true r.at s.table.limit e) (spare s.free.items) s.placed

-- what the fields of a store over so many words owe
abbrev pub Owed : ℕ → Table → List ℕ → ℕ → ℕ → Type 0
Owed long t free depth len =
    record {
      room : width * cells_needed depth t.limit ≤ long;
      flat : depth ≤ 4096;
      fits : len ≤ depth;
      whole : length (listed t) + length free ≡ t.limit;
      apart : Apart (listed t) (spare free);
      fitting : every (row_fits depth t.limit) (listed t) ≡ true;
      placed : every (place_fits t.limit) (spare free) ≡ true;
    }

-- a table with these rows and this limit owes what they do
module _ (long : ℕ) (t : Table) (free : List ℕ) (depth len limit : ℕ) (rs : List Row) (fs : List ℕ) (rows : listed t ≡ rs) (frees : free ≡ fs) (is : t.limit ≡ limit) where
  pub owed : width * cells_needed depth limit ≤ long → depth ≤ 4096 → len ≤ depth → length rs + length fs ≡ limit → Apart rs (spare fs) → All (RowFits depth limit) rs → All (PlaceFits limit) (spare fs) → Owed long t free depth len
  owed room flat fits whole apart fitting placed = record {
    room = subst (λ m. width * cells_needed depth m ≤ long) (sym is) room;
    flat = flat;
    fits = fits;
    whole = let a = ap length rows in let b = ap length frees in omega arith;
    apart = λ k. subst (λ xs. places xs k + places (spare free) k ≤ 1) (sym rows) (subst (λ ys. places rs k + places (spare ys) k ≤ 1) (sym frees) (apart k));
    fitting = every_to _ _ (λ r f. and_from _ _ (le-leb r.len depth f.0) (lt-ltb r.at t.limit f.1)) (listed t) (subst (All (RowFits depth t.limit)) (sym rows) (subst (λ m. All (RowFits depth m) rs) (sym is) fitting));
    placed = every_to _ _ (λ r f. lt-ltb r.at t.limit f) (spare free) (subst (λ ys. All (PlaceFits t.limit) (spare ys)) (sym frees) (subst (λ m. All (PlaceFits m) (spare fs)) (sym is) placed));
  }

-- the rows of a new table have places of their own
pub blank-places : (a n k : ℕ) → (places (map blank (range_with_len a n)) k ≤ 1) × (k < a → places (map blank (range_with_len a n)) k ≡ 0)
blank-places a zero k = (omega arith, λ l. refl)
blank-places a (suc n) k =
    let rest = blank-places (a + 1) n k in
    ⊎_elim
    (λ (e : a ≡ k). let z = rest.1 (omega arith) in let b = bit_le a k in (omega arith, λ l. absurd (let never : ⊥ = omega arith in never)))
    (λ ne. let b : bit a k ≡ 0 = bit_other a k ne in let y = rest.0 in (omega arith, λ l. let w = rest.1 (omega arith) in omega arith))
    (cases_eq a k)

-- and their parts are there
pub blank-fit : (limit a n : ℕ) → a + n ≤ limit → All (PlaceFits limit) (map blank (range_with_len a n))
blank-fit limit a zero l = tt
blank-fit limit a (suc n) l = (omega arith, blank-fit limit (a + 1) n (omega arith))

-- places turned about: the first comes last
blank_last : (x : ℕ) (xs : List ℕ) → map blank (reverse (x ∷ xs)) ≡ map blank (reverse xs) ++ (blank x ∷ [])
blank_last x xs = ap (map blank) (reverse-cons x xs) ∙ map_push blank (reverse xs) x

-- a number is the place of as many rows as before
turned-same : (xs : List ℕ) (k : ℕ) → places (map blank (reverse xs)) k ≡ places (map blank xs) k
turned-same [] k = refl
turned-same (x ∷ xs) k =
    let rest = turned-same xs k in
    let more = ap (λ rs. places rs k) (blank_last x xs) ∙ places_push (map blank (reverse xs)) (blank x) k in
    omega arith

-- and what holds of every row before holds of every row after
turned-all : (P : Row → Type 0) (xs : List ℕ) → All P (map blank xs) → All P (map blank (reverse xs))
turned-all P [] h = tt
turned-all P (x ∷ xs) h = subst (All P) (sym (blank_last x xs)) (All-push _ (map blank (reverse xs)) (blank x) (turned-all P xs h.1) h.0)

-- the rows of a new table in falling order have places of their own
pub turned-places : (a n k : ℕ) → (places (map blank (reverse (range_with_len a n))) k ≤ 1) × (k < a → places (map blank (reverse (range_with_len a n))) k ≡ 0)
turned-places a n k = subst (λ m. (m ≤ 1) × (k < a → m ≡ 0)) (sym (turned-same (range_with_len a n) k)) (blank-places a n k)

-- and their parts are there
pub turned-fit : (limit a n : ℕ) → a + n ≤ limit → All (PlaceFits limit) (map blank (reverse (range_with_len a n)))
turned-fit limit a n l = turned-all (PlaceFits limit) (range_with_len a n) (blank-fit limit a n l)
