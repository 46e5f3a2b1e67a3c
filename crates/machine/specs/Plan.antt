-- What the next step would do, whatever the limits are.
-- The limits are held against it afterwards (Admission), so a limit's end comes after every other.
use Rattle.std.specs.Prelude.{List}
use Rattle.std.specs.List.{slice_get}
use Rattle.code.specs.declared.instruction.Instruction.{Instruction}
use Rattle.machine.specs.declared.mode.Mode.{Mode}
use Rattle.machine.specs.declared.mode.Mode.TheVariants.{Going, Returning, Throwing}
use Rattle.machine.specs.State.{State}
use Rattle.machine.specs.Acts.{Plan}
use Rattle.machine.specs.Going.{fetched}
use Rattle.machine.specs.Returning.{return}
use Rattle.machine.specs.Throwing.{throw}

-- by the mode
abbrev pub plan_in : Mode → List Instruction → State → Plan
plan_in (Going p) code s = fetched (slice_get code p.0) s p
plan_in Returning code s = return s.frames s
plan_in (Throwing n v) code s = throw n v s

-- by the mode that the state has
abbrev pub plan : List Instruction → State → Plan
plan code s = plan_in s.mode code s
