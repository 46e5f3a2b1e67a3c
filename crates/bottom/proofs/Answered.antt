-- What the calls that go by a name answer and leave, in a store whose saved lists are read from its rows.
use Rattle.std.proofs.Common.{◌≡◌, ℕ, Bool, true, false, cond, eqb, leb, List, [], ◌∷◌, ◌++◌, map, length, Some, None, Ok, Err, Option, Result, sym, refl, ap, ◌∙◌, arith}
use Rattle.std.specs.Option.{option_map, ok_or}
use Rattle.std.specs.List.{AllByRecursion as All}
use Rattle.std.proofs.ByRecursion.{All-weaker}
use Rattle.std.proofs.lemmas.List.{map_push, length-map}
use Rattle.std.specs.Result.{IsErrAnd}
use Rattle.std.proofs.lemmas.Result.{err_from_is_err_and}
use Rattle.store.specs.declared.refusal.Refusal.{Refusal}
use Rattle.store.specs.declared.refusal.Refusal.TheVariants.{HeldFull, NameTaken, NotHeld}
use Rattle.store.specs.Meaning.{Meaning, Held, Outcome, saved_under, without, saved, saved_by, restored, restored_by, taken, taken_by, released, released_by, saved_length, length_by, saved_cell_in, cell_by, cell_in, with_held}
use Rattle.bottom.specs.declared.row.Row.{Row}
use Rattle.bottom.specs.Rows.{row_under, rows_without, added, added_by}
use Rattle.bottom.specs.Meant.{pair_by, bottom, by_rows}
use Rattle.bottom.proofs.Rows.{map_alike}

-- a refusal that was handed on
pub handed_on : {B : Type 0} (a : Result B Refusal) (x : Refusal) → IsErrAnd a (λ y. y ≡ x) → a ≡ Err x
handed_on a x h = let p = err_from_is_err_and a h in p.1 ∙ ap Err p.2

-- what a table's refusal says
pub not_held : (o : Option Row) (x : Refusal) → Err x ≡ ok_or o NotHeld → (o ≡ None) × (x ≡ NotHeld)
not_held None x e = (refl, let q : x ≡ NotHeld = cc in q)
not_held (Some r) x e = absurd (let z : ◌≡◌ {A = ℕ} 0 1 = cc in let never : ⊥ = omega arith in never)

-- and its row
pub is_held : (o : Option Row) (r : Row) → Ok r ≡ ok_or o NotHeld → o ≡ Some r
is_held None r e = absurd (let z : ◌≡◌ {A = ℕ} 0 1 = cc in let never : ⊥ = omega arith in never)
is_held (Some s) r e = let q : s ≡ r = cc in ap Some q

module _ {A : Type 0} (read : Row → List A) where
  -- a lookup among the pairs is one among the rows
  pub under : (rs : List Row) (n : ℕ) → saved_under (map (pair_by read) rs) n ≡ option_map read (row_under rs n)
  under [] n = refl
  under (r ∷ rs) n = by (eqb r.name.0 n) (under rs n)
    where
      by : (b : Bool) → saved_under (map (pair_by read) rs) n ≡ option_map read (row_under rs n) → cond b (Some (read r)) (saved_under (map (pair_by read) rs) n) ≡ option_map read (cond b (Some r) (row_under rs n))
      by true rest = refl
      by false rest = rest

  -- removing a pair is removing a row
  pub without-row : (rs : List Row) (n : ℕ) → without (map (pair_by read) rs) n ≡ map (pair_by read) (rows_without rs n)
  without-row [] n = refl
  without-row (r ∷ rs) n = by (eqb r.name.0 n) (without-row rs n)
    where
      by : (b : Bool) → without (map (pair_by read) rs) n ≡ map (pair_by read) (rows_without rs n) → cond b (map (pair_by read) rs) (pair_by read r ∷ without (map (pair_by read) rs) n) ≡ map (pair_by read) (cond b rs (r ∷ rows_without rs n))
      by true rest = refl
      by false rest = ap (λ ps. pair_by read r ∷ ps) rest

  module _ (current : List A) (rs : List Row) (depth limit : ℕ) where
    abbrev meant : Meaning A
    meant = by_rows read current rs depth limit

    under_is : (n : ℕ) (o : Option Row) → row_under rs n ≡ o → saved_under meant.held n ≡ option_map read o
    under_is n o e = under rs n ∙ ap (option_map read) e

    -- the answers where a name is not held
    module _ (n : ℕ) (x : Refusal) (none : Err x ≡ ok_or (row_under rs n) NotHeld) where
      refused : (row_under rs n ≡ None) × (x ≡ NotHeld)
      refused = not_held (row_under rs n) x none

      pub restored_none : (a : Result (Unit {0}) Refusal) → IsErrAnd a (λ y. y ≡ x) → (a, meant) ≡ restored meant n
      restored_none a h = ap (λ b. (b, meant)) (handed_on a x h ∙ ap Err refused.1) ∙ sym (ap (restored_by meant) (under_is n None refused.0))

      pub taken_none : (a : Result (Unit {0}) Refusal) → IsErrAnd a (λ y. y ≡ x) → (a, meant) ≡ taken meant n
      taken_none a h = ap (λ b. (b, meant)) (handed_on a x h ∙ ap Err refused.1) ∙ sym (ap (taken_by meant n) (under_is n None refused.0))

      pub released_none : (a : Result (Unit {0}) Refusal) → IsErrAnd a (λ y. y ≡ x) → (a, meant) ≡ released meant n
      released_none a h = ap (λ b. (b, meant)) (handed_on a x h ∙ ap Err refused.1) ∙ sym (ap (released_by meant n) (under_is n None refused.0))

      pub length_none : (a : Result ℕ Refusal) → IsErrAnd a (λ y. y ≡ x) → a ≡ saved_length meant n
      length_none a h = handed_on a x h ∙ ap Err refused.1 ∙ sym (ap length_by (under_is n None refused.0))

      pub cell_none : (i : ℕ) (a : Result A Refusal) → IsErrAnd a (λ y. y ≡ x) → a ≡ saved_cell_in meant n i
      cell_none i a h = handed_on a x h ∙ ap Err refused.1 ∙ sym (ap (λ p. cell_by p i) (under_is n None refused.0))

    -- the answers where a row has the name
    pub restored_some : (n : ℕ) (r : Row) → row_under rs n ≡ Some r → (Ok tt, by_rows read (read r) rs depth limit) ≡ restored meant n
    restored_some n r e = sym (ap (restored_by meant) (under_is n (Some r) e))

    pub taken_some : (n : ℕ) (r : Row) → row_under rs n ≡ Some r → (Ok tt, by_rows read (read r) (rows_without rs n) depth limit) ≡ taken meant n
    taken_some n r e =
        ap (λ hs. (Ok tt, bottom (read r) hs depth limit)) (sym (without-row rs n))
        ∙ sym (ap (taken_by meant n) (under_is n (Some r) e))

    pub released_some : (n : ℕ) (r : Row) → row_under rs n ≡ Some r → (Ok tt, by_rows read current (rows_without rs n) depth limit) ≡ released meant n
    released_some n r e =
        ap (λ hs. (Ok tt, bottom current hs depth limit)) (sym (without-row rs n))
        ∙ sym (ap (released_by meant n) (under_is n (Some r) e))

    pub length_some : (n : ℕ) (r : Row) → row_under rs n ≡ Some r → Ok (length (read r)) ≡ saved_length meant n
    length_some n r e = sym (ap length_by (under_is n (Some r) e))

    pub cell_some : (n i : ℕ) (r : Row) → row_under rs n ≡ Some r → cell_in (read r) i ≡ saved_cell_in meant n i
    cell_some n i r e = sym (ap (λ p. cell_by p i) (under_is n (Some r) e))

    -- the answer of a save: the new row's list is the current one
    pub saved-row : (r : Row) (a : Result (Unit {0}) Refusal) (ws : List Row) → read r ≡ current → (a, ws) ≡ added limit rs r → (a, by_rows read current ws depth limit) ≡ saved meant r.name.0
    saved-row r a ws is e = ap then_meant e ∙ by (row_under rs r.name.0) ∙ sym (ap (saved_by meant r.name.0) (under rs r.name.0))
      where
        then_meant : Result (Unit {0}) Refusal × List Row → Outcome A (Unit {0})
        then_meant p = (p.0, by_rows read current p.1 depth limit)

        pushed_pair : by_rows read current (rs ++ (r ∷ [])) depth limit ≡ with_held meant (meant.held ++ (record { name = r.name.0; cells = current } ∷ []))
        pushed_pair = ap (with_held meant) (map_push (pair_by read) rs r ∙ ap (λ (cs : List A). meant.held ++ (record { name = r.name.0; cells = cs } ∷ [])) is)

        by_tests : (zero full : Bool) → then_meant (cond zero (Err NameTaken, rs) (cond full (Err HeldFull, rs) (Ok tt, rs ++ (r ∷ []))))
            ≡ cond zero (Err NameTaken, meant) (cond full (Err HeldFull, meant) (Ok tt, with_held meant (meant.held ++ (record { name = r.name.0; cells = current } ∷ []))))
        by_tests true full = refl
        by_tests false true = refl
        by_tests false false = ap (λ m. (Ok tt, m)) pushed_pair

        by : (o : Option Row) → then_meant (added_by limit rs r o) ≡ saved_by meant r.name.0 (option_map read o)
        by (Some s) = refl
        by None = rw (length-map rs (pair_by read)) (by_tests (eqb r.name.0 0) (leb limit (length rs)))

    -- a refused row leaves all as it was, whatever its list
    pub saved-refused : (r : Row) (x : Refusal) → (Err x, rs) ≡ added limit rs r → (Err x, meant) ≡ saved meant r.name.0
    saved-refused r x e = by (row_under rs r.name.0) e ∙ sym (ap (saved_by meant r.name.0) (under rs r.name.0))
      where
        by_tests : (zero full : Bool) → (Err x, rs) ≡ cond {A = Result (Unit {0}) Refusal × List Row} zero (Err NameTaken, rs) (cond full (Err HeldFull, rs) (Ok tt, rs ++ (r ∷ [])))
            → (Err x, meant) ≡ cond {A = Outcome A (Unit {0})} zero (Err NameTaken, meant) (cond full (Err HeldFull, meant) (Ok tt, with_held meant (meant.held ++ (record { name = r.name.0; cells = current } ∷ []))))
        by_tests true full q = ap (λ y. (y.0, meant)) q
        by_tests false true q = ap (λ y. (y.0, meant)) q
        by_tests false false q = absurd (let p : Err x ≡ Ok tt = ap (λ y. y.0) q in let z : ◌≡◌ {A = ℕ} 0 1 = cc in let never : ⊥ = omega arith in never)

        by : (o : Option Row) → (Err x, rs) ≡ added_by limit rs r o → (Err x, meant) ≡ saved_by meant r.name.0 (option_map read o)
        by (Some s) q = ap (λ y. (y.0, meant)) q
        by None q = rw (length-map rs (pair_by read)) (by_tests (eqb r.name.0 0) (leb limit (length rs)) q)

-- the same rows, read alike in two ways
pub alike : {A : Type 0} (read new : Row → List A) (cs ds : List A) (rs ws : List Row) (depth limit m : ℕ) → ds ≡ cs → All (λ r. new r ≡ read r) rs → ws ≡ rs → m ≡ limit → by_rows new ds ws depth m ≡ by_rows read cs rs depth limit
alike {A} read new cs ds rs ws depth limit m now same rows is =
    ap (λ xs. by_rows new ds xs depth m) rows ∙ ap (by_rows new ds rs depth) is ∙ ap (λ xs. by_rows new xs rs depth limit) now
    ∙ ap (λ hs. bottom cs hs depth limit) (map_alike (pair_by new) (pair_by read) rs (All-weaker _ _ (λ x q. ap (λ (xs : List A). (let h : Held A = record { name = x.name.0; cells = xs } in h)) q) rs same))
