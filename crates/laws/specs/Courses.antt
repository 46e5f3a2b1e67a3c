-- What courses of steps from one state have in common, whatever their limits and however many steps each was allowed.
use Rattle.std.specs.Prelude.{◌≡◌, ℕ, ◌+◌, ◌≤◌, List, ◌++◌, Some}
use Rattle.code.specs.declared.instruction.Instruction.{Instruction}
use Rattle.machine.specs.declared.end.End.{End}
use Rattle.machine.specs.State.{State, Limits}
use Rattle.machine.specs.Course.{Course, course, go_on}
use Rattle.laws.specs.Limits.{IsLimit, Wider}

-- one list is a beginning of another
abbrev pub Begins : {A : Type 0} → List A → List A → Type 0
Begins {A} xs ys = (zs : List A) × (ys ≡ xs ++ zs)

-- two courses that have come equally far: equal states, equal outputs, and the same winds entered and left
pub record Level (r q : Course) : Type 0 where
  pub state : r.state ≡ q.state
  pub output : r.output ≡ q.output
  pub trail : r.trail ≡ q.trail

-- courses of equally many steps have come equally far
abbrev pub SameCount : Type 0
SameCount =
    (l m : Limits) (code : List Instruction) (n k : ℕ) (s : State)
    → (course l code n s).steps ≡ (course m code k s).steps → Level (course l code n s) (course m code k s)

-- what the shorter course writes is a beginning of what the longer one writes
abbrev pub OneOutput : Type 0
OneOutput =
    (l m : Limits) (code : List Instruction) (n k : ℕ) (s : State)
    → (course l code n s).steps ≤ (course m code k s).steps → Begins (course l code n s).output (course m code k s).output

-- where a course has ended by an end that is no limit's, no course makes more steps
abbrev pub NoLonger : Type 0
NoLonger =
    (l m : Limits) (code : List Instruction) (n k : ℕ) (s : State) (e : End)
    → (course l code n s).end ≡ Some e → (IsLimit e → ⊥) → (course m code k s).steps ≤ (course l code n s).steps

-- and one whose limits are nowhere smaller ends only alike, after equally many steps
abbrev pub EndsAlike : Type 0
EndsAlike =
    (l m : Limits) (code : List Instruction) (n k : ℕ) (s : State) (e d : End)
    → Wider l m → (course l code n s).end ≡ Some e → (IsLimit e → ⊥) → (course m code k s).end ≡ Some d
    → (d ≡ e) × ((course m code k s).steps ≡ (course l code n s).steps)

-- all of these
pub record CoursesAgree : Type 0 where
  pub same_count : SameCount
  pub one_output : OneOutput
  pub no_longer : NoLonger
  pub ends_alike : EndsAlike

-- two portions in a row are one course
abbrev pub PortionsJoin : Type 0
PortionsJoin =
    (l : Limits) (code : List Instruction) (n k : ℕ) (s : State) → course l code (n + k) s ≡ go_on l code k (course l code n s)
