-- The head promise: what two runs of one code from equal numbers have in common, on any four stores and whatever is asked of each.
use Rattle.std.specs.Prelude.{◌≡◌, ℕ, ◌+◌, ◌≤◌, true, false, List, length, take, ℤ, Some, None}
use Rattle.std.specs.List.{slice_get}
use Rattle.std.specs.Option.{option_map}
use Rattle.code.specs.declared.instruction.Instruction.{Instruction}
use Rattle.machine.specs.declared.end.End.{End}
use Rattle.machine.specs.declared.end.End.TheVariants.{UnfitStores}
use Rattle.machine.specs.declared.tally.Tally.{Tally}
use Rattle.machine.specs.State.{Limits}
use Rattle.machine.specs.Opening.{Offer, Run, both_fit, limits_of, started, opened}
use Rattle.machine.specs.Calls.{Call, look, force, Answer, to_tally, served}
use Rattle.laws.specs.Limits.{IsLimit, Wider}
use Rattle.laws.specs.Courses.{Begins}
use Rattle.laws.specs.Calls.{Served, steps_of, output_of, Idle, OneCourse, SameAnswers}

-- all that was asked of a run and given by it: its two stores as they were offered, its calls, their answers, and the run after them
pub record Transcript : Type 0 where
  pub frames : Offer
  pub winds : Offer
  pub calls : List Call
  pub answers : List Answer
  pub run : Run

-- the transcript of a list of calls, with what it came to
abbrev pub transcript : Offer → Offer → List Call → Served → Transcript
transcript frames winds calls x = record { frames = frames; winds = winds; calls = calls; answers = x.0; run = x.1 }

-- its stores were fit for a run
abbrev pub OnFit : Transcript → Type 0
OnFit a = both_fit a.frames a.winds ≡ true

-- they were not, so it was opened with 43
abbrev pub OnUnfit : Transcript → Type 0
OnUnfit a = both_fit a.frames a.winds ≡ false

-- the limits that its stores gave it, with their levels
abbrev pub given_limits : Transcript → Limits
given_limits a = limits_of a.frames a.winds

-- a tally is right: it tells the step count, its figures of names and of winds add up, and it tells an end just if the run has
-- ended, and with that one
pub record RightTally (x : Served) (t : Tally) : Type 0 where
  pub steps_told : t.steps ≡ steps_of x
  pub names : t.names.made ≡ t.names.used + t.names.forgotten + t.names.held
  pub winds : t.winds.entered ≡ t.winds.left + t.winds.current
  pub end_told : option_map (λ e. e.end) t.ending ≡ x.1.end

-- a tally, its end and last place aside
abbrev pub figures : Tally → Tally
figures t = record { steps = t.steps; names = t.names; winds = t.winds; ending = None }

-- the end e of the run at x, which is no limit's, binds the run at y: it has made no more steps, and if none of its limits is
-- smaller, it can have ended only with e and at that step count
pub record Bound (e : End) (l m : Limits) (x y : Served) : Type 0 where
  pub no_longer : steps_of y ≤ steps_of x
  pub ends_alike : (d : End) → Wider l m → y.1.end ≡ Some d → (d ≡ e) × (steps_of y ≡ steps_of x)

module _ (code : List Instruction) (numbers : List ℤ) where
  -- the run, just opened
  abbrev pub opening : Transcript → Run
  opening a = opened code numbers a.frames a.winds

  -- a moment of it: the first i answers that it gave, and the run as the first i calls left it
  abbrev pub moment : Transcript → ℕ → Served
  moment a i = (take i a.answers, (served (opening a) (take i a.calls)).1)

  -- one run gave what the definition says, and nothing else
  pub record AsDefined (a : Transcript) : Type 0 where
    -- its answers, the bytes of its buffers among them, are those of the definition
    pub answers : (a.answers, a.run) ≡ served (opening a) a.calls
    -- the moment after its last call has all answers, and the run as it is in the end
    pub last_moment : moment a (length a.calls) ≡ (a.answers, a.run)
    -- on fit stores they follow from code, numbers, and the stores' limits and levels alone
    pub from_limits : OnFit a → opening a ≡ started code numbers (given_limits a)
    -- and at every moment it has come to one course of as many steps as it told: with its bytes, its state and its end, with
    -- names and winds conserved, and each wind left as often as it was entered, or once less while it is in force
    pub one_course : OnFit a → (i : ℕ) → OneCourse code numbers (given_limits a) (moment a i)
    -- on unfit stores it ended with 43 at once
    pub ended_at_once : OnUnfit a → (opening a).end ≡ Some UnfitStores
    -- and makes no step, writes no byte and stays so at every moment
    pub idle : OnUnfit a → (i : ℕ) → Idle (opening a) (moment a i)
    -- every tally that was given is right
    pub tallies : (i : ℕ) (t : Tally) → slice_get a.answers i ≡ Some (to_tally t) → RightTally (moment a i) t

  -- what two runs tell at moments of equal step counts
  pub record TellAlike (a b : Transcript) (i j : ℕ) : Type 0 where
    -- the joined outputs are equal, and so is whatever tally (its end and last place aside), look and force would answer
    pub would_answer : SameAnswers (moment a i) (moment b j)
    -- and so are the answers that were given there: to tally, its end and last place aside,
    pub tallies_given : (t u : Tally) → slice_get a.answers i ≡ Some (to_tally t) → slice_get b.answers j ≡ Some (to_tally u) → figures t ≡ figures u
    -- to look at the same index,
    pub looks_given : (k : ℕ) → slice_get a.calls i ≡ Some (look k) → slice_get b.calls j ≡ Some (look k) → slice_get a.answers i ≡ slice_get b.answers j
    -- and to force at the same index
    pub forces_given : (k : ℕ) → slice_get a.calls i ≡ Some (force k) → slice_get b.calls j ≡ Some (force k) → slice_get a.answers i ≡ slice_get b.answers j

  -- two runs at a moment of each
  pub record AgreeAt (a b : Transcript) (i j : ℕ) : Type 0 where
    -- at equal step counts they tell alike
    pub tell_alike : steps_of (moment a i) ≡ steps_of (moment b j) → TellAlike a b i j
    -- the joined output of the one that has made fewer steps is a beginning of the other's
    pub first_begins : steps_of (moment a i) ≤ steps_of (moment b j) → Begins (output_of (moment a i)) (output_of (moment b j))
    pub second_begins : steps_of (moment b j) ≤ steps_of (moment a i) → Begins (output_of (moment b j)) (output_of (moment a i))
    -- an end of the one that is no limit's (0, 30 to 34, 44) binds the other
    pub first_binds : (e : End) → (moment a i).1.end ≡ Some e → (IsLimit e → ⊥) → Bound e (given_limits a) (given_limits b) (moment a i) (moment b j)
    pub second_binds : (e : End) → (moment b j).1.end ≡ Some e → (IsLimit e → ⊥) → Bound e (given_limits b) (given_limits a) (moment b j) (moment a i)

  -- each run gave what the definition says; and where neither was opened with 43, they agree at every two moments
  pub record AgreeThroughout (a b : Transcript) : Type 0 where
    pub first : AsDefined a
    pub second : AsDefined b
    pub agree : OnFit a → OnFit b → (i j : ℕ) → AgreeAt a b i j

-- that of every code and numbers, every four stores and every two lists of calls
abbrev pub TwoRunsAgreeThroughout : Type 0
TwoRunsAgreeThroughout =
    (code : List Instruction) (numbers : List ℤ) (frames winds frames' winds' : Offer) (calls others : List Call) (x y : Served)
    → x ≡ served (opened code numbers frames winds) calls → y ≡ served (opened code numbers frames' winds') others
    → AgreeThroughout code numbers (transcript frames winds calls x) (transcript frames' winds' others y)
