-- The Mark of one frame.
use Rattle.std.specs.Prelude.{ℕ, Bool, false, Some, None, Option}
use Rattle.cell.specs.declared.frame.Frame.{Frame}
use Rattle.machine.specs.Names.{mark_names, stands}

-- whether a frame, if there is one, is a Mark of a name
abbrev pub marks_at : Option Frame → ℕ → Bool
marks_at None n = false
marks_at (Some f) n = stands n (mark_names f)
