-- A step with the line that it prints, and steps in a row, by the parts of an engine.
use Rattle.std.specs.Prelude.{ℕ, zero, suc, ◌+◌, cond, List, Some, None, Ok, Err, Option, Result, nat_le}
use Rattle.code.specs.declared.instruction.Instruction.{Instruction}
use Rattle.machine.specs.declared.end.End.{End}
use Rattle.machine.specs.declared.end.End.TheVariants.{StepLimit, Finished as EndedWell}
use Rattle.machine.specs.declared.mode.Mode.{Mode}
use Rattle.machine.specs.declared.wind_move.WindMove.TheVariants.{Stay}
use Rattle.machine.specs.declared.name_move.NameMove.TheVariants.{Keep as KeepNames}
use Rattle.machine.specs.declared.reason.Reason.{Reason}
use Rattle.machine.specs.declared.reason.Reason.TheVariants.{BudgetUsed, BufferFull, Ended}
use Rattle.machine.specs.Printed.{line}
use Rattle.machine.specs.Step.{most_steps}
use Rattle.printer.specs.Written.{written}
use Rattle.engine.specs.declared.step.Step.{Step}
use Rattle.engine.specs.declared.step.Step.TheVariants.{Made, Line, Finished}
use Rattle.steps.specs.declared.stopped.Stopped.{Stopped}
use Rattle.steps.specs.declared.turn.Turn.{Turn}
use Rattle.steps.specs.declared.turn.Turn.TheVariants.{Went, NoRoom, Finished as TurnedLast}
use Rattle.engine.specs.Parts.{Parts, turned}
use Rattle.engine.specs.Acting.{Carried, carried}
use Rattle.steps.specs.Planning.{planning}

-- the next step
abbrev pub stepping : List Instruction → Parts → Carried Step
stepping code p = cond (nat_le most_steps p.counts.steps) (Err StepLimit, p) (carried (planning code p) p)

-- what a step with its line came to, or the end that refused it, the buffer after it, and the parts
abbrev pub Turned : Type 0
Turned = Result Turn End × List ℕ × Parts

-- the step is made if its line was written
abbrev pub after_line : Option ℕ × List ℕ → ℕ → Mode → Parts → Turned
after_line (Some n, buffer) at mode p = (Ok (Went (at + n)), buffer, turned p mode Stay KeepNames)
after_line (None, buffer) at mode p = (Ok NoRoom, buffer, p)

-- a step, and its line at an index of the buffer
abbrev pub printing : Carried Step → List ℕ → ℕ → Turned
printing (Ok Made, p) buffer at = (Ok (Went at), buffer, p)
printing (Ok (Line z mode), p) buffer at = after_line (written buffer at (line z)) at mode p
printing (Ok Finished, p) buffer at = (Ok TurnedLast, buffer, p)
printing (Err e, p) buffer at = (Err e, buffer, p)

-- the next step, with its line
abbrev pub turning : List Instruction → Parts → List ℕ → ℕ → Turned
turning code p buffer at = printing (stepping code p) buffer at

-- where steps in a row stopped, the buffer after them, and the parts
abbrev pub Advanced : Type 0
Advanced = Stopped × List ℕ × Parts

-- so many steps were made, and so many bytes written
abbrev pub stop : ℕ → ℕ → Reason → Option End → List ℕ → Parts → Advanced
stop steps bytes reason end buffer p = (record { progress = record { steps = steps; bytes = bytes; reason = reason }; end = end }, buffer, p)

-- after a step, where so many steps were made before it and so many bytes written, and what comes next
abbrev pub by_turn : Turned → ℕ → ℕ → (Parts → List ℕ → ℕ → Advanced) → Advanced
by_turn (Ok (Went at), buffer, p) steps bytes rest = rest p buffer at
by_turn (Ok NoRoom, buffer, p) steps bytes rest = stop steps bytes BufferFull None buffer p
by_turn (Ok TurnedLast, buffer, p) steps bytes rest = stop (steps + 1) bytes Ended (Some EndedWell) buffer p
by_turn (Err e, buffer, p) steps bytes rest = stop steps bytes Ended (Some e) buffer p

-- at most so many steps more, after so many that were made and so many bytes that were written
abbrev pub advancing : List Instruction → ℕ → ℕ → Parts → List ℕ → ℕ → Advanced
advancing code zero steps p buffer at = stop steps at BudgetUsed None buffer p
advancing code (suc n) steps p buffer at = by_turn (turning code p buffer at) steps at (advancing code n (suc steps))
