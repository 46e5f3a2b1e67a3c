-- Steps in a row.
use Rattle.std.specs.Prelude.{ℕ, zero, suc, ◌+◌, List, [], ◌++◌, Some, None, Option}
use Rattle.code.specs.declared.instruction.Instruction.{Instruction}
use Rattle.machine.specs.declared.end.End.{End}
use Rattle.machine.specs.declared.end.End.TheVariants.{Finished}
use Rattle.machine.specs.State.{State, Limits}
use Rattle.machine.specs.Apply.{Event}
use Rattle.machine.specs.Step.{Outcome, went, finished, refused, step}

-- what steps in a row came to: the state after them, how many were made, what they wrote, the winds that they entered and
-- left in their order, and the end if there was one
pub record Course : Type 0 where
  pub state : State
  pub steps : ℕ
  pub output : List ℕ
  pub trail : List Event
  pub end : Option End

-- a course with one step made before it
abbrev pub after_step : List ℕ → List Event → Course → Course
after_step bytes es r = record { state = r.state; steps = suc r.steps; output = bytes ++ r.output; trail = es ++ r.trail; end = r.end }

-- a course without a line or a wind
abbrev pub quiet : State → ℕ → Option End → Course
quiet s n end = record { state = s; steps = n; output = []; trail = []; end = end }

-- the course that a first step begins
abbrev pub follow : Outcome → State → (State → Course) → Course
follow (went t bytes es) s rest = after_step bytes es (rest t)
follow (finished t) s rest = quiet t 1 (Some Finished)
follow (refused e) s rest = quiet s 0 (Some e)

-- the course of at most so many steps
abbrev pub course : Limits → List Instruction → ℕ → State → Course
course l code zero s = quiet s 0 None
course l code (suc n) s = follow (step l code s) s (course l code n)

-- a course, and another from where it has come
abbrev pub joined : Course → Course → Course
joined r q = record { state = q.state; steps = r.steps + q.steps; output = r.output ++ q.output; trail = r.trail ++ q.trail; end = q.end }

-- a course taken further; one that has ended stays as it is
abbrev pub further : Option End → Limits → List Instruction → ℕ → Course → Course
further None l code n r = joined r (course l code n r.state)
further (Some e) l code n r = r

-- a course taken further by at most so many steps
abbrev pub go_on : Limits → List Instruction → ℕ → Course → Course
go_on l code n r = further r.end l code n r
