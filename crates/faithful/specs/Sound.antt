-- How the two stores and the rows of a run fit together, and which states it comes to.
use Rattle.std.specs.Prelude.{◌≡◌, ℕ, List, ℤ, None}
use Rattle.store.specs.Meaning.{Held}
use Rattle.code.specs.declared.instruction.Instruction.{Instruction}
use Rattle.machine.specs.State.{State, Limits, start}
use Rattle.machine.specs.Course.{course}
use Rattle.held.specs.Rows.{row_name}
use Rattle.laws.specs.Rows.{Matched}
use Rattle.engine.specs.Parts.{Parts, state_from, limits_from}

-- the name of a held pair
abbrev pub pair_name : {A : Type 0} → Held A → ℕ
pair_name h = h.name

-- both stores hold the names of the rows, in their order
abbrev pub Together : Parts → Type 0
Together p = Matched pair_name pair_name row_name p.frames.held p.winds.held p.rows

-- the states that a run comes to: those of its courses from the start, as long as they have not ended
abbrev pub Comes : Limits → List Instruction → State → Type 0
Comes l code s =
    (numbers : List ℤ) × (n : ℕ) × ((course l code n (start numbers)).state ≡ s) × ((course l code n (start numbers)).end ≡ None)

-- an engine that stands in such a state, its stores and its rows together
pub record Sound (code : List Instruction) (p : Parts) : Type 0 where
  pub comes : Comes (limits_from p) code (state_from p)
  pub together : Together p
