-- What lists of calls on runs have in common, whatever their budgets, their buffers and their limits.
-- A moment of a run is the beginning of its list of calls up to there, so each law below holds at every moment.
use Rattle.std.specs.Prelude.{◌≡◌, ℕ, suc, ◌≤◌, true, false, List, [], length, take, drop, ℤ, Some, None, Ok}
use Rattle.code.specs.declared.instruction.Instruction.{Instruction}
use Rattle.machine.specs.declared.end.End.{End}
use Rattle.machine.specs.declared.end.End.TheVariants.{UnfitStores}
use Rattle.machine.specs.State.{Limits, start}
use Rattle.machine.specs.Checks.{signed_word}
use Rattle.machine.specs.Printed.{line}
use Rattle.machine.specs.Course.{course}
use Rattle.machine.specs.Opening.{Offer, Run, both_fit, limits_of, started, opened}
use Rattle.machine.specs.Calls.{Call, Answer, Ran, ran, least_buffer, bytes_told, steps_told, tallied, looked, forced, served, step_count, joined_output}
use Rattle.laws.specs.Limits.{IsLimit, Wider}
use Rattle.laws.specs.Courses.{Begins}
use Rattle.laws.specs.Counts.{Conserved, Balanced}

-- the answers to a list of calls, and the run after it
abbrev pub Served : Type 0
Served = List Answer × Run

-- its step count
abbrev pub steps_of : Served → ℕ
steps_of x = step_count x.0

-- its joined output
abbrev pub output_of : Served → List ℕ
output_of x = joined_output x.0

-- a run call makes no more steps than its budget, and changes no byte of its buffer but the first ones, as many as it tells: none
-- if it is refused
pub record BufferKept (budget : ℕ) (buffer : List ℕ) (x : Ran) : Type 0 where
  pub size : length x.1 ≡ length buffer
  pub rest : drop (bytes_told x.0) x.1 ≡ drop (bytes_told x.0) buffer
  pub steps : steps_told x.0 ≤ budget

-- that of every run call
abbrev pub BuffersKept : Type 0
BuffersKept = (r : Run) (budget : ℕ) (buffer : List ℕ) → BufferKept budget buffer (ran r budget buffer)

-- the line of a signed word fits in the least buffer, so a call that is accepted always has room for the first line
abbrev pub LinesFit : Type 0
LinesFit = (z : ℤ) → signed_word z ≡ Ok z → length (line z) ≤ least_buffer

-- a run on fit stores is at its start, with the limits that they give; one on others has ended with 43
pub record OpeningDecides : Type 0 where
  pub fit : (code : List Instruction) (numbers : List ℤ) (frames winds : Offer)
      → both_fit frames winds ≡ true → opened code numbers frames winds ≡ started code numbers (limits_of frames winds)
  pub unfit : (code : List Instruction) (numbers : List ℤ) (frames winds : Offer)
      → both_fit frames winds ≡ false → (opened code numbers frames winds).end ≡ Some UnfitStores

-- a run that has ended, as one on unfit stores has, makes no step, writes nothing and stays as it is
pub record Idle (r : Run) (x : Served) : Type 0 where
  pub steps : steps_of x ≡ 0
  pub output : output_of x ≡ []
  pub run : x.1 ≡ r

-- that of every run that has ended, and every list of calls
abbrev pub EndedStays : Type 0
EndedStays = (r : Run) (e : End) (calls : List Call) → r.end ≡ Some e → Idle r (served r calls)

-- the answers to the beginning of a list of calls are the beginning of the answers to all
abbrev pub InOrder : Type 0
InOrder = (r : Run) (calls : List Call) (i : ℕ) → (served r (take i calls)).0 ≡ take i (served r calls).0

-- what a list of calls has come to is one course of as many steps as its step count: it is in the state of that course, has
-- written what it wrote, goes on only if that course does, and has ended only as the course ends that may make one step more (a
-- step that is refused ends a run and is not counted)
pub record OneCourse (code : List Instruction) (numbers : List ℤ) (l : Limits) (x : Served) : Type 0 where
  pub made : (course l code (steps_of x) (start numbers)).steps ≡ steps_of x
  pub output : (course l code (steps_of x) (start numbers)).output ≡ output_of x
  pub state : (course l code (steps_of x) (start numbers)).state ≡ x.1.state
  pub going : x.1.end ≡ None → (course l code (steps_of x) (start numbers)).end ≡ None
  pub ended : (e : End) → x.1.end ≡ Some e → (course l code (suc (steps_of x)) (start numbers)).end ≡ Some e
  -- the tally tells the step count
  pub told : x.1.state.counts.steps ≡ steps_of x
  -- names and winds are conserved, and each wind is balanced over those steps
  pub conserved : Conserved x.1.state
  pub balanced : Balanced (course l code (steps_of x) (start numbers))
  -- code and limits never change
  pub same_code : x.1.code ≡ code
  pub same_limits : x.1.limits ≡ l

-- that of every run from its start, and every list of calls
abbrev pub CallsJoin : Type 0
CallsJoin =
    (code : List Instruction) (numbers : List ℤ) (l : Limits) (calls : List Call)
    → OneCourse code numbers l (served (started code numbers l) calls)

-- two runs that tell the same: the outputs are equal, and so is whatever tally (the end apart), look and force would answer
pub record SameAnswers (x y : Served) : Type 0 where
  pub output : output_of x ≡ output_of y
  pub tally : tallied x.1.state None ≡ tallied y.1.state None
  pub look : (i : ℕ) → looked x.1 i ≡ looked y.1 i
  pub force : (i : ℕ) → forced x.1 i ≡ forced y.1 i
  pub state : x.1.state ≡ y.1.state

-- two runs of one code from equal numbers, the first under the limits l and the second under m
pub record Agree (code : List Instruction) (numbers : List ℤ) (l m : Limits) (x y : Served) : Type 0 where
  -- at equal step counts they tell the same, and have entered and left the same winds in the same order
  pub same_answers : steps_of x ≡ steps_of y → SameAnswers x y
  pub same_events : steps_of x ≡ steps_of y → (course l code (steps_of x) (start numbers)).trail ≡ (course m code (steps_of y) (start numbers)).trail
  -- one output begins the other
  pub one_output : steps_of x ≤ steps_of y → Begins (output_of x) (output_of y)
  -- an end that is no limit's binds the other run
  pub no_longer : (e : End) → x.1.end ≡ Some e → (IsLimit e → ⊥) → steps_of y ≤ steps_of x
  pub ends_alike : (e d : End) → Wider l m → x.1.end ≡ Some e → (IsLimit e → ⊥) → y.1.end ≡ Some d → (d ≡ e) × (steps_of y ≡ steps_of x)

-- that of every two such runs, and every two lists of calls
abbrev pub TwoRunsAgree : Type 0
TwoRunsAgree =
    (code : List Instruction) (numbers : List ℤ) (l m : Limits) (calls others : List Call)
    → Agree code numbers l m (served (started code numbers l) calls) (served (started code numbers m) others)
