-- Laws of rows: where a name is found, what adding and removing a row does to the places, and tests that every row passes.
use Rattle.std.proofs.Common.{◌≡◌, ℕ, suc, ◌+◌, ◌<◌, ◌≤◌, Bool, true, false, cond, eqb, leb, ◌==◌, ◌≢◌, List, [], ◌∷◌, ◌++◌, map, length, get_or, take, drop, Some, None, Ok, Err, Option, Result, refl, ap, ◌∙◌, subst, ⊎_elim, arith}
use Rattle.std.specs.List.{position_from, AllByRecursion as All}
use Rattle.std.proofs.lemmas.Bool.{cases_eq, eq-eqb, ne_eqb, cond_both, cond-true, cond-false, and_parts, and_from, leb-false}
use Rattle.store.specs.declared.refusal.Refusal.{Refusal}
use Rattle.store.specs.declared.refusal.Refusal.TheVariants.{HeldFull, NameTaken}
use Rattle.bottom.specs.declared.row.Row.{Row}
use Rattle.bottom.specs.Rows.{blank, row_under, rows_without, added, added_by, bit, places, every}

-- the bit of a number at itself
pub bit-same : (x k : ℕ) → x ≡ k → bit x k ≡ 1
bit-same x k e = cond-true (eqb x k) 1 0 (eq-eqb x k e)

-- and at another number
pub bit_other : (x k : ℕ) → x ≢ k → bit x k ≡ 0
bit_other x k e = cond-false (eqb x k) 1 0 (ne_eqb x k e)

-- a bit is at most 1
pub bit_le : (x k : ℕ) → bit x k ≤ 1
bit_le x k = cond_both (eqb x k) 1 0 (λ b. b ≤ 1) (λ e. omega arith) (λ e. omega arith)

-- a bit that is set
pub bit_is : (x k : ℕ) → 0 < bit x k → x ≡ k
bit_is x k h = ⊎_elim (λ e. e) (λ ne. absurd (let z : bit x k ≡ 0 = bit_other x k ne in let never : ⊥ = omega arith in never)) (cases_eq x k)

-- what an index from a on says of the first row of a name, u, and of the rows without it, w
abbrev pub Located : ℕ → List Row → Option Row → List Row → Option ℕ → Type 0
Located a rs u w None = (u ≡ None) × (w ≡ rs)
Located a rs u w (Some i) = (j : ℕ) × ((i ≡ a + j) × ((j < length rs) × ((u ≡ Some (get_or rs j (blank 0))) × (w ≡ take j rs ++ drop (suc j) rs))))

-- the index says so
pub located : (a : ℕ) (rs : List Row) (n : ℕ) → Located a rs (row_under rs n) (rows_without rs n) (position_from (λ r. r.name.0 == n) a rs)
located a [] n = (refl, refl)
located a (r ∷ rs) n = by (eqb r.name.0 n) (row_under rs n) (rows_without rs n) (position_from (λ r. r.name.0 == n) (a + 1) rs) (located (a + 1) rs n)
  where
    by : (b : Bool) (u : Option Row) (w : List Row) (o : Option ℕ) → Located (a + 1) rs u w o → Located a (r ∷ rs) (cond b (Some r) u) (cond b rs (r ∷ w)) (cond b (Some a) o)
    by true u w o h = (0, (omega arith, (omega arith, (refl, refl))))
    by false u w None h = (h.0, ap (λ x. r ∷ x) h.1)
    by false u w (Some i) h =
        let j : ℕ = h.0 in
        let e : i ≡ a + 1 + j = h.1.0 in
        let l : j < length rs = h.1.1.0 in
        (suc j, (omega arith, (omega arith, (h.1.1.1.0, ap (λ x. r ∷ x) h.1.1.1.1))))

-- the places of a list with one row more
pub places_push : (rs : List Row) (r : Row) (k : ℕ) → places (rs ++ (r ∷ [])) k ≡ places rs k + bit r.at k
places_push [] r k = omega arith
places_push (x ∷ rs) r k = let e = places_push rs r k in omega arith

-- the places of a list with one row less
pub places-without : (rs : List Row) (n : ℕ) (r : Row) (k : ℕ) → row_under rs n ≡ Some r → places rs k ≡ bit r.at k + places (rows_without rs n) k
places-without [] n r k e = absurd (let z : ◌≡◌ {A = ℕ} 0 1 = cc in let never : ⊥ = omega arith in never)
places-without (x ∷ rs) n r k e = by (eqb x.name.0 n) (places-without rs n r k) e
  where
    by : (b : Bool) → (row_under rs n ≡ Some r → places rs k ≡ bit r.at k + places (rows_without rs n) k) → cond b (Some x) (row_under rs n) ≡ Some r → bit x.at k + places rs k ≡ bit r.at k + places (cond b rs (x ∷ rows_without rs n)) k
    by true rest q = let same : x ≡ r = cc in let s = ap (λ (y : Row). bit y.at k) same in omega arith
    by false rest q = let h = rest q in omega arith

-- and so many rows in all
pub length-without : (rs : List Row) (n : ℕ) (r : Row) → row_under rs n ≡ Some r → length rs ≡ length (rows_without rs n) + 1
length-without [] n r e = absurd (let z : ◌≡◌ {A = ℕ} 0 1 = cc in let never : ⊥ = omega arith in never)
length-without (x ∷ rs) n r e = by (eqb x.name.0 n) (length-without rs n r) e
  where
    by : (b : Bool) → (row_under rs n ≡ Some r → length rs ≡ length (rows_without rs n) + 1) → cond b (Some x) (row_under rs n) ≡ Some r → length (x ∷ rs) ≡ length (cond b rs (x ∷ rows_without rs n)) + 1
    by true rest q = omega arith
    by false rest q = let h = rest q in omega arith

-- every list has at most so many rows at a place as it has rows
pub places_le : (rs : List Row) (k : ℕ) → places rs k ≤ length rs
places_le [] k = omega arith
places_le (r ∷ rs) k = let a = bit_le r.at k in let b = places_le rs k in omega arith

-- a row's own place is met
pub places_own : (rs : List Row) → All (λ r. 0 < places rs r.at) rs
places_own rs = by rs (λ k. places rs k) (λ k. omega arith)
  where
    by : (xs : List Row) (count : ℕ → ℕ) → ((k : ℕ) → places xs k ≤ count k) → All (λ r. 0 < count r.at) xs
    by [] count h = tt
    by (x ∷ xs) count h = (
      let a = h x.at in let b = bit-same x.at x.at refl in let g : 0 < count x.at = omega arith in g,
      by xs count (λ k. (let a = h k in let g : places xs k ≤ count k = omega arith in g)),
    )

-- a place that is not met is no row's
pub places_none : (rs : List Row) (k : ℕ) → places rs k ≡ 0 → All (λ r. r.at ≢ k) rs
places_none [] k h = tt
places_none (r ∷ rs) k h = ((λ e. (let b = bit-same r.at k e in let never : ⊥ = omega arith in never)), places_none rs k (omega arith))

-- what holds of every row holds of the rows without one, and of the row that goes
pub all_without : (P : Row → Type 0) (rs : List Row) (n : ℕ) → All P rs → All P (rows_without rs n)
all_without P [] n h = tt
all_without P (r ∷ rs) n h = by (eqb r.name.0 n) (all_without P rs n h.1)
  where
    by : (b : Bool) → All P (rows_without rs n) → All P (cond b rs (r ∷ rows_without rs n))
    by true rest = h.1
    by false rest = (h.0, rest)

-- of a list with a row more
pub all_popped : (P : Row → Type 0) (rs : List Row) (r : Row) → All P (rs ++ (r ∷ [])) → All P rs × P r
all_popped P [] r h = (tt, h.0)
all_popped P (x ∷ rs) r h = let a = all_popped P rs r h.1 in ((h.0, a.0), a.1)

-- and of the row that goes
pub all_under : (P : Row → Type 0) (rs : List Row) (n : ℕ) (r : Row) → row_under rs n ≡ Some r → All P rs → P r
all_under P [] n r e h = absurd (let z : ◌≡◌ {A = ℕ} 0 1 = cc in let never : ⊥ = omega arith in never)
all_under P (x ∷ rs) n r e h = by (eqb x.name.0 n) (λ q. all_under P rs n r q h.1) e
  where
    by : (b : Bool) → (row_under rs n ≡ Some r → P r) → cond b (Some x) (row_under rs n) ≡ Some r → P r
    by true rest q = let same : x ≡ r = cc in subst P same h.0
    by false rest q = rest q

-- nothing to remove
pub without_none : (rs : List Row) (n : ℕ) → row_under rs n ≡ None → rows_without rs n ≡ rs
without_none [] n e = refl
without_none (r ∷ rs) n e = by (eqb r.name.0 n) (without_none rs n) e
  where
    by : (b : Bool) → (row_under rs n ≡ None → rows_without rs n ≡ rs) → cond b (Some r) (row_under rs n) ≡ None → cond b rs (r ∷ rows_without rs n) ≡ r ∷ rs
    by true rest q = absurd (let z : ◌≡◌ {A = ℕ} 0 1 = cc in let never : ⊥ = omega arith in never)
    by false rest q = ap (λ xs. r ∷ xs) (rest q)

-- the rows after a row was added, for which there was room, and after it was refused
pub added_ok : (limit : ℕ) (rs ws : List Row) (r : Row) → (Ok tt, ws) ≡ added limit rs r → (ws ≡ rs ++ (r ∷ [])) × (length rs < limit)
added_ok limit rs ws r = by (row_under rs r.name.0)
  where
    never : (x : Refusal) (us : List Row) → ◌≡◌ {A = Result (Unit {0}) Refusal × List Row} (Ok tt, ws) (Err x, us) → ⊥
    never x us e = let q : Ok tt ≡ Err x = ap (λ y. y.0) e in let z : ◌≡◌ {A = ℕ} 0 1 = cc in omega arith

    by_tests : (zero full : Bool) → leb limit (length rs) ≡ full → (Ok tt, ws) ≡ cond {A = Result (Unit {0}) Refusal × List Row} zero (Err NameTaken, rs) (cond full (Err HeldFull, rs) (Ok tt, rs ++ (r ∷ []))) → (ws ≡ rs ++ (r ∷ [])) × (length rs < limit)
    by_tests true full q e = absurd (never NameTaken rs e)
    by_tests false true q e = absurd (never HeldFull rs e)
    by_tests false false q e = (ap (λ x. x.1) e, leb-false limit (length rs) q)

    by : (u : Option Row) → (Ok tt, ws) ≡ added_by limit rs r u → (ws ≡ rs ++ (r ∷ [])) × (length rs < limit)
    by (Some s) e = absurd (never NameTaken rs e)
    by None e = by_tests (eqb r.name.0 0) (leb limit (length rs)) refl e

-- a refused row leaves the rows as they were
pub added-refused : (limit : ℕ) (rs ws : List Row) (r : Row) (x : Refusal) → (Err x, ws) ≡ added limit rs r → ws ≡ rs
added-refused limit rs ws r x = by (row_under rs r.name.0)
  where
    by_tests : (zero full : Bool) → (Err x, ws) ≡ cond {A = Result (Unit {0}) Refusal × List Row} zero (Err NameTaken, rs) (cond full (Err HeldFull, rs) (Ok tt, rs ++ (r ∷ []))) → ws ≡ rs
    by_tests true full e = ap (λ y. y.1) e
    by_tests false true e = ap (λ y. y.1) e
    by_tests false false e = absurd (let q : Err x ≡ Ok tt = ap (λ y. y.0) e in let z : ◌≡◌ {A = ℕ} 0 1 = cc in let never : ⊥ = omega arith in never)

    by : (u : Option Row) → (Err x, ws) ≡ added_by limit rs r u → ws ≡ rs
    by (Some s) e = ap (λ y. y.1) e
    by None e = by_tests (eqb r.name.0 0) (leb limit (length rs)) e

-- two facts of every row
pub all_both : (P Q S : Row → Type 0) → ((r : Row) → P r → Q r → S r) → (rs : List Row) → All P rs → All Q rs → All S rs
all_both P Q S f [] p q = tt
all_both P Q S f (r ∷ rs) p q = (f r p.0 q.0, all_both P Q S f rs p.1 q.1)

-- a test that every row passes says what it tests of every row
pub every-from : (test : Row → Bool) (P : Row → Type 0) → ((r : Row) → test r ≡ true → P r) → (rs : List Row) → every test rs ≡ true → All P rs
every-from test P f [] e = tt
every-from test P f (r ∷ rs) e = let b = and_parts _ _ e in (f r b.0, every-from test P f rs b.1)

-- and the other way round
pub every_to : (test : Row → Bool) (P : Row → Type 0) → ((r : Row) → P r → test r ≡ true) → (rs : List Row) → All P rs → every test rs ≡ true
every_to test P f [] h = refl
every_to test P f (r ∷ rs) h = and_from _ _ (f r h.0) (every_to test P f rs h.1)

-- rows that are read alike
pub map_alike : {X : Type 0} (f g : Row → X) (rs : List Row) → All (λ r. f r ≡ g r) rs → map f rs ≡ map g rs
map_alike f g [] h = refl
map_alike f g (r ∷ rs) h = ap (λ x. x ∷ map f rs) h.0 ∙ ap (λ xs. g r ∷ xs) (map_alike f g rs h.1)
