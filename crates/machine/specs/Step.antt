-- A step: its plan, held against the limits and then carried out.
use Rattle.std.specs.Prelude.{ℕ, cond, List, Some, None, Ok, Err, Option, nat_le}
use Rattle.code.specs.declared.instruction.Instruction.{Instruction}
use Rattle.machine.specs.declared.act.Act.{Act}
use Rattle.machine.specs.declared.end.End.{End}
use Rattle.machine.specs.declared.end.End.TheVariants.{StepLimit}
use Rattle.machine.specs.State.{State, Limits}
use Rattle.machine.specs.Acts.{Plan}
use Rattle.machine.specs.Plan.{plan}
use Rattle.machine.specs.Printed.{printed}
use Rattle.machine.specs.Apply.{apply, halted, Event, events}
use Rattle.machine.specs.Admission.{refusal}

-- what a step comes to
pub data Outcome : Type 0 where
  -- it was made: the state after it, the bytes that it wrote, and the winds that it entered or left
  went : State → List ℕ → List Event → Outcome
  -- it was made, and ended the run well
  finished : State → Outcome
  -- it was not made, and the run ends
  refused : End → Outcome

-- an act, unless a limit refuses it
abbrev pub admit : State → Act → Option End → Outcome
admit s a None = went (apply s a) (printed a.line) (events s a.winds)
admit s a (Some e) = refused e

-- a plan, held against the limits and carried out
abbrev pub settle : Limits → State → Plan → Outcome
settle l s (Err e) = refused e
settle l s (Ok None) = finished (halted s)
settle l s (Ok (Some a)) = admit s a (refusal l s a)

-- how many steps a run can make
abbrev pub most_steps : ℕ
most_steps = 4000000000

-- the next step
abbrev pub step : Limits → List Instruction → State → Outcome
step l code s = cond (nat_le most_steps s.counts.steps) (refused StepLimit) (settle l s (plan code s))
