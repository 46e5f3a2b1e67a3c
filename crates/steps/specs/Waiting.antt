-- The frame that a step looks at.
use Rattle.std.specs.Prelude.{List, None, Option}
use Rattle.cell.specs.declared.frame.Frame.{Frame}
use Rattle.store.specs.Meaning.{top}
use Rattle.machine.specs.declared.mode.Mode.{Mode}
use Rattle.machine.specs.declared.mode.Mode.TheVariants.{Going, Returning, Throwing}

-- the top frame, where it is returned to: in the other modes no step asks for it
abbrev pub waiting : Mode → List Frame → Option Frame
waiting (Going at) frames = None
waiting Returning frames = top frames
waiting (Throwing n v) frames = None
