-- Rows of held names, the oldest first.
use Rattle.std.specs.Prelude.{ℕ, ◌+◌, Bool, true, cond, ◌&&◌, List, [], ◌∷◌, ◌++◌, length, Some, None, Ok, Err, Option, Result, ◌==◌, nat_le}
use Rattle.store.specs.declared.refusal.Refusal.{Refusal}
use Rattle.store.specs.declared.refusal.Refusal.TheVariants.{HeldFull, NameTaken}
use Rattle.bottom.specs.declared.row.Row.{Row}

-- a row without a name, at a place
abbrev pub blank : ℕ → Row
blank place = record { name = record { 0 = 0 }; at = place; len = 0 }

-- the first row of a name
abbrev pub row_under : List Row → ℕ → Option Row
row_under [] n = None
row_under (r ∷ rs) n = cond (r.name.0 == n) (Some r) (row_under rs n)

-- the rows without the first one of a name
abbrev pub rows_without : List Row → ℕ → List Row
rows_without [] n = []
rows_without (r ∷ rs) n = cond (r.name.0 == n) rs (r ∷ rows_without rs n)

-- what is answered to a new name, by the row that it has already: one that is 0 or held is refused
abbrev pub admitted_by : ℕ → Option Row → Result (Unit {0}) Refusal
admitted_by n (Some s) = Err NameTaken
admitted_by n None = cond (n == 0) (Err NameTaken) (Ok tt)

-- the same, among some rows
abbrev pub admitted : List Row → ℕ → Result (Unit {0}) Refusal
admitted rs n = admitted_by n (row_under rs n)

-- one row more, unless there are as many as the limit already
abbrev pub appended : ℕ → List Row → Row → Result (Unit {0}) Refusal × List Row
appended limit rs r = cond (nat_le limit (length rs)) (Err HeldFull, rs) (Ok tt, rs ++ (r ∷ []))

-- what adding a row answers, and the rows after it, by the row that its name has already
abbrev pub added_by : ℕ → List Row → Row → Option Row → Result (Unit {0}) Refusal × List Row
added_by limit rs r (Some s) = (Err NameTaken, rs)
added_by limit rs r None =
    cond (r.name.0 == 0)
    (Err NameTaken, rs)
    (appended limit rs r)

-- a name that is 0 or held is refused first, and then one row more than the limit
abbrev pub added : ℕ → List Row → Row → Result (Unit {0}) Refusal × List Row
added limit rs r = added_by limit rs r (row_under rs r.name.0)

-- 1 if two numbers are the same, else 0
abbrev pub bit : ℕ → ℕ → ℕ
bit x k = cond (x == k) 1 0

-- how many rows have a number as their place
abbrev pub places : List Row → ℕ → ℕ
places [] k = 0
places (r ∷ rs) k = bit r.at k + places rs k

-- whether every row passes a test
abbrev pub every : (Row → Bool) → List Row → Bool
every test [] = true
every test (r ∷ rs) = test r && every test rs
