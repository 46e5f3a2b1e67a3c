-- What no run from the start ever meets.
use Rattle.std.specs.Prelude.{◌≡◌, ℕ, suc, ◌+◌, ◌<◌, ◌≤◌, List, [], ◌∷◌, length, Some, None, Ok, Err, ◌≢◌}
use Rattle.std.specs.List.{AllByRecursion}
use Rattle.cell.specs.declared.name.Name.{Name}
use Rattle.cell.specs.declared.value.Value.{Value}
use Rattle.cell.specs.declared.frame.Frame.{Frame}
use Rattle.cell.specs.declared.frame.Frame.TheVariants.{Saved, Back, Mark, In, Out, Hold, Toss, Enter}
use Rattle.cell.specs.declared.wind.Wind.{Wind}
use Rattle.code.specs.declared.instruction.Instruction.{Instruction}
use Rattle.machine.specs.declared.act.Act.{Act}
use Rattle.machine.specs.declared.wind_move.WindMove.TheVariants.{Reenter}
use Rattle.machine.specs.declared.frame_move.FrameMove.TheVariants.{Restore}
use Rattle.machine.specs.declared.mode.Mode.{Mode}
use Rattle.machine.specs.declared.mode.Mode.TheVariants.{Going, Returning, Throwing}
use Rattle.machine.specs.declared.end.End.{End}
use Rattle.machine.specs.declared.end.End.TheVariants.{Finished, WrongKind, SumOutOfRange, WrongFrame, NotHeld, OffTheEnd, FrameLimit, WindLimit, HeldLimit, UnfitStores, StepLimit}
use Rattle.machine.specs.Named.{find}
use Rattle.machine.specs.State.{State, Capture, Limits, capture_name, wind_numbers}
use Rattle.machine.specs.Plan.{plan}
use Rattle.laws.specs.Counts.{Always}

-- what is current, held and saved keeps within the limits
pub record Within (l : Limits) (s : State) : Type 0 where
  pub frames : length s.frames ≤ l.frames
  pub winds : length s.winds ≤ l.winds
  pub held : length s.held ≤ l.held
  pub saved : AllByRecursion (λ (c : Capture). (length c.frames ≤ l.frames) × (length c.winds ≤ l.winds)) s.held

-- that always
abbrev pub LimitsKept : Type 0
LimitsKept = Always (λ l r. Within l r.state)

-- there is a wind in force
abbrev pub SomeWind : State → Type 0
SomeWind s = (w : Wind) × (ws : List Wind) × (s.winds ≡ w ∷ ws)

-- the ends that a plan can have: 30 to 34
abbrev pub PlanEnd : End → Type 0
PlanEnd Finished = ⊥
PlanEnd WrongKind = Unit {0}
PlanEnd SumOutOfRange = Unit {0}
PlanEnd WrongFrame = Unit {0}
PlanEnd NotHeld = Unit {0}
PlanEnd OffTheEnd = Unit {0}
PlanEnd (FrameLimit level) = ⊥
PlanEnd (WindLimit level) = ⊥
PlanEnd HeldLimit = ⊥
PlanEnd UnfitStores = ⊥
PlanEnd StepLimit = ⊥

-- what cannot happen at a state that a run comes to
pub record Unreached (l : Limits) (s : State) : Type 0 where
  -- a return to an Out finds its wind in force
  pub out_finds_wind : (fs : List Frame) → s.mode ≡ Returning → s.frames ≡ Out ∷ fs → SomeWind s
  -- a throw never ends for want of a wind to leave
  pub throw_finds_wind : (code : List Instruction) (n : Name) (v : Value) → s.mode ≡ Throwing n v → plan code s ≢ Err WrongFrame
  -- a saved wind that is entered again has its place
  pub reentry_has_place : (code : List Instruction) (a : Act) (w : Wind) → plan code s ≡ Ok (Some a) → a.winds ≡ Reenter w → length s.winds < l.winds
  -- a plan ends with 30 to 34 only
  pub plan_ends : (code : List Instruction) (e : End) → plan code s ≡ Err e → PlanEnd e
  -- the next name is not held yet
  pub next_name_free : find capture_name s.held (s.counts.made + 1) ≡ None

-- no throw is under way
abbrev pub AtRest : Mode → Type 0
AtRest (Going p) = Unit {0}
AtRest Returning = Unit {0}
AtRest (Throwing n v) = ⊥

-- none waits among the frames
abbrev pub NoThrow : List Frame → Type 0
NoThrow [] = Unit {0}
NoThrow (Saved v ∷ fs) = NoThrow fs
NoThrow (Back p ∷ fs) = NoThrow fs
NoThrow (Mark n ∷ fs) = NoThrow fs
NoThrow (In before body then ∷ fs) = NoThrow fs
NoThrow (Out ∷ fs) = NoThrow fs
NoThrow (Hold v ∷ fs) = NoThrow fs
NoThrow (Toss n v ∷ fs) = ⊥
NoThrow (Enter n v ∷ fs) = ⊥

-- how many bodies of winds are running
abbrev pub bodies : List Frame → ℕ
bodies [] = 0
bodies (Saved v ∷ fs) = bodies fs
bodies (Back p ∷ fs) = bodies fs
bodies (Mark n ∷ fs) = bodies fs
bodies (In before body then ∷ fs) = bodies fs
bodies (Out ∷ fs) = suc (bodies fs)
bodies (Hold v ∷ fs) = bodies fs
bodies (Toss n v ∷ fs) = bodies fs
bodies (Enter n v ∷ fs) = bodies fs

-- which winds are in force
pub record WindsStand (s : State) : Type 0 where
  -- but for throws, those whose bodies are running: no before and no after runs with its own wind in force
  pub as_bodies : AtRest s.mode → NoThrow s.frames → length s.winds ≡ bodies s.frames
  -- and a throw comes to its end only with the winds that were saved, by their numbers
  pub as_saved : (code : List Instruction) (a : Act) (n : Name) (c : Capture) → plan code s ≡ Ok (Some a) → a.frames ≡ Restore n
      → find capture_name s.held n.0 ≡ Some c → wind_numbers s.winds ≡ wind_numbers c.winds

-- that always
abbrev pub RightWinds : Type 0
RightWinds = Always (λ l r. WindsStand r.state)

-- that always
abbrev pub NeverReached : Type 0
NeverReached = Always (λ l r. Unreached l r.state)
