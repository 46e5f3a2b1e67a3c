-- What limits can change: only where a limit ends a run.
use Rattle.std.specs.Prelude.{◌≡◌, ℕ, ◌≤◌, List}
use Rattle.code.specs.declared.instruction.Instruction.{Instruction}
use Rattle.machine.specs.declared.end.End.{End}
use Rattle.machine.specs.declared.end.End.TheVariants.{Finished, WrongKind, SumOutOfRange, WrongFrame, NotHeld, OffTheEnd, FrameLimit, WindLimit, HeldLimit, UnfitStores, StepLimit}
use Rattle.machine.specs.State.{State, Limits}
use Rattle.machine.specs.Apply.{Event}
use Rattle.machine.specs.Step.{went, finished, refused, step}

-- the ends that come of the stores that a run has: 40 to 43
abbrev pub IsLimit : End → Type 0
IsLimit Finished = ⊥
IsLimit WrongKind = ⊥
IsLimit SumOutOfRange = ⊥
IsLimit WrongFrame = ⊥
IsLimit NotHeld = ⊥
IsLimit OffTheEnd = ⊥
IsLimit (FrameLimit level) = Unit {0}
IsLimit (WindLimit level) = Unit {0}
IsLimit HeldLimit = Unit {0}
IsLimit UnfitStores = Unit {0}
IsLimit StepLimit = ⊥

-- m is nowhere smaller than l
pub record Wider (l m : Limits) : Type 0 where
  pub frames : l.frames ≤ m.frames
  pub winds : l.winds ≤ m.winds
  pub held : l.held ≤ m.held

-- where a step is made under two limits, it is the same step
abbrev pub SameStep : Type 0
SameStep =
    (l m : Limits) (code : List Instruction) (s t u : State) (b c : List ℕ) (e f : List Event)
    → step l code s ≡ went t b e → step m code s ≡ went u c f → (t ≡ u) × (b ≡ c) × (e ≡ f)

-- an end that is no limit's comes under all limits
abbrev pub SameEnd : Type 0
SameEnd =
    (l m : Limits) (code : List Instruction) (s : State) (e : End)
    → (IsLimit e → ⊥) → step l code s ≡ refused e → step m code s ≡ refused e

-- so does the end 0
abbrev pub SameFinish : Type 0
SameFinish =
    (l m : Limits) (code : List Instruction) (s t : State) → step l code s ≡ finished t → step m code s ≡ finished t

-- a step that is made is made under wider limits
abbrev pub WiderStep : Type 0
WiderStep =
    (l m : Limits) (code : List Instruction) (s t : State) (b : List ℕ) (e : List Event)
    → Wider l m → step l code s ≡ went t b e → step m code s ≡ went t b e

-- all of these
pub record LimitsOnlyEnd : Type 0 where
  pub same_step : SameStep
  pub same_end : SameEnd
  pub same_finish : SameFinish
  pub wider_step : WiderStep
