-- The rows of a table, as its calls read and write them.
use Rattle.std.proofs.Common.{◌≡◌, ℕ, suc, ◌<◌, ◌≤◌, Bool, true, false, cond, eqb, leb, ◌==◌, is_some, List, [], ◌∷◌, ◌++◌, length, get_or, take, drop, Some, None, Ok, Err, Option, Result, sym, refl, ap, ◌∙◌, subst, arith}
use Rattle.std.specs.List.{position}
use Rattle.std.specs.Option.{ok_or}
use Rattle.std.proofs.lemmas.Bool.{true≢false, false≢true, le-leb, lt-leb}
use Rattle.std.proofs.lemmas.Iterator.Adapters.{position_from-zero}
use Rattle.store.specs.declared.refusal.Refusal.{Refusal}
use Rattle.store.specs.declared.refusal.Refusal.TheVariants.{HeldFull, NameTaken, NotHeld}
use Rattle.bottom.specs.declared.row.Row.{Row}
use Rattle.bottom.specs.Rows.{blank, row_under, rows_without, admitted, admitted_by, appended, added, added_by}
use Rattle.bottom.proofs.Rows.{Located, located}

-- what a search found
pub record Hit (rs : List Row) (n i : ℕ) : Type 0 where
  pub within : i < length rs
  pub under : row_under rs n ≡ Some (get_or rs i (blank 0))
  pub rest : rows_without rs n ≡ take i rs ++ drop (suc i) rs

-- what the search answers, as an index from 0 on
found_as : (rs : List Row) (n : ℕ) → Located 0 rs (row_under rs n) (rows_without rs n) (position (λ r. r.name.0 == n) rs)
found_as rs n = subst (Located 0 rs (row_under rs n) (rows_without rs n)) (sym (position_from-zero (λ r. r.name.0 == n) rs)) (located 0 rs n)

module _ (rs : List Row) (n : ℕ) (o : Option ℕ) (is : o ≡ position (λ r. r.name.0 == n) rs) where
  -- a found index says so
  pub hit : (i : ℕ) → o ≡ Some i → Hit rs n i
  hit i e =
      let h : Located 0 rs (row_under rs n) (rows_without rs n) (Some i) = subst (Located 0 rs (row_under rs n) (rows_without rs n)) (sym is ∙ e) (found_as rs n) in
      let j : ℕ = h.0 in
      let same : j ≡ i = let q = h.1.0 in omega arith in
      record {
        within = let l : j < length rs = h.1.1.0 in omega arith;
        under = subst (λ m. row_under rs n ≡ Some (get_or rs m (blank 0))) same h.1.1.1.0;
        rest = subst (λ m. rows_without rs n ≡ take m rs ++ drop (suc m) rs) same h.1.1.1.1;
      }

  -- where none is found, no row has the name
  pub miss : o ≡ None → (row_under rs n ≡ None) × (rows_without rs n ≡ rs)
  miss e = subst (Located 0 rs (row_under rs n) (rows_without rs n)) (sym is ∙ e) (found_as rs n)

  -- the same, told as a refusal
  pub hit_ok : (i : ℕ) → Ok i ≡ ok_or o NotHeld → Hit rs n i
  hit_ok i = by o refl
    where
      by : (p : Option ℕ) → o ≡ p → Ok i ≡ ok_or p NotHeld → Hit rs n i
      by None e q = absurd (let z : ◌≡◌ {A = ℕ} 0 1 = cc in let never : ⊥ = omega arith in never)
      by (Some k) e q = let s : Some k ≡ Some i = cc in hit i (e ∙ s)

  pub miss_err : (x : Refusal) → Err x ≡ ok_or o NotHeld → (Err x ≡ ok_or (row_under rs n) NotHeld) × (rows_without rs n ≡ rs)
  miss_err x = by o refl
    where
      by : (p : Option ℕ) → o ≡ p → Err x ≡ ok_or p NotHeld → (Err x ≡ ok_or (row_under rs n) NotHeld) × (rows_without rs n ≡ rs)
      by None e q = let m = miss e in let r : Err x ≡ Err NotHeld = cc in (r ∙ sym (ap (λ u. ok_or u NotHeld) m.0), m.1)
      by (Some k) e q = absurd (let z : ◌≡◌ {A = ℕ} 0 1 = cc in let never : ⊥ = omega arith in never)

  -- a held name is not admitted
  pub admitted-held : is_some o ≡ true → Err NameTaken ≡ admitted rs n
  admitted-held = by o refl
    where
      by : (p : Option ℕ) → o ≡ p → is_some p ≡ true → Err NameTaken ≡ admitted rs n
      by None e t = absurd (false≢true t)
      by (Some k) e t = sym (ap (admitted_by n) (hit k e).under)

  -- one that no row has is, unless it is 0
  pub admitted-new : is_some o ≡ false → eqb n 0 ≡ false → Ok tt ≡ admitted rs n
  admitted-new = by o refl
    where
      by : (p : Option ℕ) → o ≡ p → is_some p ≡ false → eqb n 0 ≡ false → Ok tt ≡ admitted rs n
      by (Some k) e t nz = absurd (true≢false t)
      by None e t nz = sym (ap (admitted_by n) (miss e).0 ∙ rw nz refl)

-- the name 0 is not admitted
pub admitted-zero : (rs : List Row) (n : ℕ) → eqb n 0 ≡ true → Err NameTaken ≡ admitted rs n
admitted-zero rs n z = by (row_under rs n)
  where
    by : (u : Option Row) → Err NameTaken ≡ admitted_by n u
    by (Some s) = refl
    by None = rw z refl

module _ (limit : ℕ) (rs : List Row) (row : Row) where
  -- a name that is not admitted is not added
  pub added-taken : (x : Refusal) → Err x ≡ admitted rs row.name.0 → (Err x, rs) ≡ added limit rs row
  added-taken x = by (row_under rs row.name.0)
    where
      by_test : (zero : Bool) → Err x ≡ cond {A = Result (Unit {0}) Refusal} zero (Err NameTaken) (Ok tt) → (Err x, rs) ≡ cond {A = Result (Unit {0}) Refusal × List Row} zero (Err NameTaken, rs) (cond (leb limit (length rs)) (Err HeldFull, rs) (Ok tt, rs ++ (row ∷ [])))
      by_test true e = ap (λ a. (a, rs)) e
      by_test false e = absurd (let z : ◌≡◌ {A = ℕ} 0 1 = cc in let never : ⊥ = omega arith in never)

      by : (u : Option Row) → Err x ≡ admitted_by row.name.0 u → (Err x, rs) ≡ added_by limit rs row u
      by (Some s) e = ap (λ a. (a, rs)) e
      by None e = by_test (eqb row.name.0 0) e

  -- one that is admitted is, where there is room
  admitted_as : (full : Bool) → leb limit (length rs) ≡ full → Ok tt ≡ admitted rs row.name.0 → cond {A = Result (Unit {0}) Refusal × List Row} full (Err HeldFull, rs) (Ok tt, rs ++ (row ∷ [])) ≡ added limit rs row
  admitted_as full is = by (row_under rs row.name.0)
    where
      by_test : (zero : Bool) → Ok tt ≡ cond {A = Result (Unit {0}) Refusal} zero (Err NameTaken) (Ok tt) → cond {A = Result (Unit {0}) Refusal × List Row} full (Err HeldFull, rs) (Ok tt, rs ++ (row ∷ [])) ≡ cond zero (Err NameTaken, rs) (cond (leb limit (length rs)) (Err HeldFull, rs) (Ok tt, rs ++ (row ∷ [])))
      by_test true e = absurd (let z : ◌≡◌ {A = ℕ} 0 1 = cc in let never : ⊥ = omega arith in never)
      by_test false e = rw is refl

      by : (u : Option Row) → Ok tt ≡ admitted_by row.name.0 u → cond {A = Result (Unit {0}) Refusal × List Row} full (Err HeldFull, rs) (Ok tt, rs ++ (row ∷ [])) ≡ added_by limit rs row u
      by (Some s) e = absurd (let z : ◌≡◌ {A = ℕ} 0 1 = cc in let never : ⊥ = omega arith in never)
      by None e = by_test (eqb row.name.0 0) e

  -- and where there is none, it is refused
  pub added_full : limit ≤ length rs → Ok tt ≡ admitted rs row.name.0 → (Err HeldFull, rs) ≡ added limit rs row
  added_full l = admitted_as true (le-leb _ _ l)

  pub added-fits : length rs < limit → Ok tt ≡ admitted rs row.name.0 → (Ok tt, rs ++ (row ∷ [])) ≡ added limit rs row
  added-fits l = admitted_as false (lt-leb _ _ l)

-- a row that was taken is behind the others
pub appended-ok : (limit : ℕ) (rs ts : List Row) (r : Row) (u : Unit {0}) → ◌≡◌ {A = Result (Unit {0}) Refusal × List Row} (Ok u, ts) (appended limit rs r) → ts ≡ rs ++ (r ∷ [])
appended-ok limit rs ts r u e = by (leb limit (length rs)) e
  where
    by : (b : Bool) → ◌≡◌ {A = Result (Unit {0}) Refusal × List Row} (Ok u, ts) (cond b (Err HeldFull, rs) (Ok tt, rs ++ (r ∷ []))) → ts ≡ rs ++ (r ∷ [])
    by true e = absurd (let k = ap (λ o. o.0) e in cc)
    by false e = ap (λ o. o.1) e
