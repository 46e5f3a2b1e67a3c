-- A store of cells, read as a list of elements.
use Rattle.std.specs.Prelude.{◌≡◌, ℕ, List, map, Ok, Err, Result}
use Rattle.cell.specs.Filled.{filled}
use Rattle.cell.specs.declared.cell.Cell.{Cell}
use Rattle.store.specs.declared.refusal.Refusal.{Refusal}
use Rattle.store.specs.declared.refused.Refused.{Refused}
use Rattle.store.specs.Meaning.{Meaning, Held, Outcome}

-- a held pair, each cell of its list read
abbrev pub held_as : {A B : Type 0} → (A → B) → Held A → Held B
held_as read h = record { name = h.name; cells = map read h.cells }

-- a meaning, each cell of its lists read
abbrev pub read_as : {A B : Type 0} → (A → B) → Meaning A → Meaning B
read_as read m = record {
  current = map read m.current;
  held = map (held_as read) m.held;
  depth_limit = m.depth_limit;
  held_limit = m.held_limit;
  height = m.height;
  limit_level = m.limit_level;
}

-- an answer, its cell read
abbrev pub answer_as : {A B : Type 0} → (A → B) → Result A Refusal → Result B Refusal
answer_as read (Ok c) = Ok (read c)
answer_as read (Err e) = Err e

-- an answer, its refusal put in another type
abbrev pub refused_as : {B R : Type 0} → (Refusal → R) → Result B Refusal → Result B R
refused_as wrap (Ok x) = Ok x
refused_as wrap (Err e) = Err (wrap e)

-- the same of an outcome
abbrev pub outcome_as : {A B R : Type 0} → (Refusal → R) → Outcome A B → Result B R × Meaning A
outcome_as wrap o = (refused_as wrap o.0, o.1)

-- each cell of a store is the one that its element is written as
abbrev pub Written : {E : Type 0} → (Cell → E) → (E → List ℕ) → Meaning Cell → Type 0
Written read words m = read_as (λ c. filled (words (read c))) m ≡ m

-- a refusal of a store of elements of one kind
abbrev pub refused_of : {E : Type 0} → Refusal → Refused E
refused_of e = record { why = e; of = record {} }
