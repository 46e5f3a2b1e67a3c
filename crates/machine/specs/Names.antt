-- The names of continuations that stand in values, frames and modes.
use Rattle.std.specs.Prelude.{ℕ, Bool, true, false, cond, List, [], ◌∷◌, ◌==◌}
use Rattle.cell.specs.declared.value.Value.{Value}
use Rattle.cell.specs.declared.value.Value.TheVariants.{Empty, Number, Procedure, Continuation}
use Rattle.cell.specs.declared.frame.Frame.{Frame}
use Rattle.cell.specs.declared.frame.Frame.TheVariants.{Saved, Back, Mark, In, Out, Hold, Toss, Enter}
use Rattle.machine.specs.declared.mode.Mode.{Mode}
use Rattle.machine.specs.declared.mode.Mode.TheVariants.{Going, Returning, Throwing}

-- the name in a value
abbrev pub value_names : Value → List ℕ
value_names Empty = []
value_names (Number z) = []
value_names (Procedure p) = []
value_names (Continuation n) = n.0 ∷ []

-- the names in a frame
abbrev pub frame_names : Frame → List ℕ
frame_names (Saved v) = value_names v
frame_names (Back p) = []
frame_names (Mark n) = n.0 ∷ []
frame_names (In before body after) = []
frame_names Out = []
frame_names (Hold v) = value_names v
frame_names (Toss n v) = n.0 ∷ value_names v
frame_names (Enter n v) = n.0 ∷ value_names v

-- the name that a frame marks
abbrev pub mark_names : Frame → List ℕ
mark_names (Saved v) = []
mark_names (Back p) = []
mark_names (Mark n) = n.0 ∷ []
mark_names (In before body after) = []
mark_names Out = []
mark_names (Hold v) = []
mark_names (Toss n v) = []
mark_names (Enter n v) = []

-- the names in a mode
abbrev pub mode_names : Mode → List ℕ
mode_names (Going p) = []
mode_names Returning = []
mode_names (Throwing n v) = n.0 ∷ value_names v

-- whether a name stands in a list of names
abbrev pub stands : ℕ → List ℕ → Bool
stands n [] = false
stands n (m ∷ ms) = cond (m == n) true (stands n ms)
