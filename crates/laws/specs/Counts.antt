-- What a run's counts, its names and its winds tell at every state that a run from the start comes to.
use Rattle.std.specs.Prelude.{◌≡◌, ℕ, suc, ◌+◌, ◌≤◌, cond, ◌⊎◌, List, [], ◌∷◌, length, ℤ, ◌==◌}
use Rattle.std.specs.List.{AllByRecursion}
use Rattle.cell.specs.declared.value.Value.{Value}
use Rattle.cell.specs.declared.frame.Frame.{Frame}
use Rattle.cell.specs.declared.wind.Wind.{Wind}
use Rattle.code.specs.declared.instruction.Instruction.{Instruction}
use Rattle.machine.specs.Names.{value_names, frame_names, mode_names}
use Rattle.machine.specs.State.{State, Capture, Limits, Counts, wind_number, start}
use Rattle.machine.specs.Apply.{Event, enters, leaves}
use Rattle.machine.specs.Step.{most_steps}
use Rattle.machine.specs.Course.{Course, course}

-- something that holds of every course from the start
abbrev pub Always : (Limits → Course → Type 0) → Type 0
Always P = (l : Limits) (code : List Instruction) (numbers : List ℤ) (n : ℕ) → P l (course l code n (start numbers))

-- every name made was used, was forgotten or is held, and every wind entered was left or is in force
pub record Conserved (s : State) : Type 0 where
  pub names : s.counts.made ≡ s.counts.used + s.counts.forgotten + length s.held
  pub winds : s.counts.entered ≡ s.counts.left + length s.winds

-- that always
abbrev pub CountsConserved : Type 0
CountsConserved = Always (λ l r. Conserved r.state)

-- no step makes a name or enters a wind twice, so no count passes the steps, and those never pass the most that a run can make
pub record WithinSteps (c : Counts) : Type 0 where
  pub steps : c.steps ≤ most_steps
  pub made : c.made ≤ c.steps
  pub numbered : c.numbered ≤ c.steps
  pub entered : c.entered ≤ c.steps

-- that always, and the steps are those of the course
abbrev pub CountsWithinSteps : Type 0
CountsWithinSteps = Always (λ l r. (r.state.counts.steps ≡ r.steps) × WithinSteps r.state.counts)

-- every name that stands anywhere in a state was made
module _ (s : State) where
  -- a name that was made by now
  abbrev pub Made : ℕ → Type 0
  Made n = n ≤ s.counts.made

  -- so were the names in a value
  abbrev pub ValueMade : Value → Type 0
  ValueMade v = AllByRecursion Made (value_names v)

  -- so were the names in a frame
  abbrev pub FrameMade : Frame → Type 0
  FrameMade f = AllByRecursion Made (frame_names f)

  -- and so were all names in the state
  pub record NamesMade : Type 0 where
    pub registers : AllByRecursion ValueMade s.registers
    pub globals : AllByRecursion ValueMade s.globals
    pub frames : AllByRecursion FrameMade s.frames
    pub mode : AllByRecursion Made (mode_names s.mode)
    pub held : AllByRecursion (λ (c : Capture). (c.name.0 ≤ s.counts.made) × AllByRecursion FrameMade c.frames) s.held

-- that always
abbrev pub AllNamesMade : Type 0
AllNamesMade = Always (λ l r. NamesMade r.state)

-- how many winds were entered in all
abbrev pub entering : List Event → ℕ
entering [] = 0
entering (enters n ∷ es) = suc (entering es)
entering (leaves n ∷ es) = entering es

-- how often the wind of a number was entered
abbrev pub entering_of : ℕ → List Event → ℕ
entering_of k [] = 0
entering_of k (enters n ∷ es) = cond (n.0 == k) 1 0 + entering_of k es
entering_of k (leaves n ∷ es) = entering_of k es

-- how many winds were left in all
abbrev pub leaving : List Event → ℕ
leaving [] = 0
leaving (enters n ∷ es) = leaving es
leaving (leaves n ∷ es) = suc (leaving es)

-- how often the wind of a number was left
abbrev pub leaving_of : ℕ → List Event → ℕ
leaving_of k [] = 0
leaving_of k (enters n ∷ es) = leaving_of k es
leaving_of k (leaves n ∷ es) = cond (n.0 == k) 1 0 + leaving_of k es

-- the wind of a number is among these
abbrev pub InForce : ℕ → List Wind → Type 0
InForce k [] = ⊥
InForce k (w ∷ ws) = (wind_number w ≡ k) ⊎ InForce k ws

-- a wind in force was entered once more than it was left, and any other as often; and the totals are those of the trail
pub record Balanced (r : Course) : Type 0 where
  pub in_force : (k : ℕ) → InForce k r.state.winds → entering_of k r.trail ≡ leaving_of k r.trail + 1
  pub elsewhere : (k : ℕ) → (InForce k r.state.winds → ⊥) → entering_of k r.trail ≡ leaving_of k r.trail
  pub entered : r.state.counts.entered ≡ entering r.trail
  pub left : r.state.counts.left ≡ leaving r.trail

-- that always
abbrev pub WindsBalanced : Type 0
WindsBalanced = Always (λ l r. Balanced r)
