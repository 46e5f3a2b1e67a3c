-- A store's refusal as an end of the run.
use Rattle.std.specs.Prelude.{ℕ}
use Rattle.store.specs.declared.refusal.Refusal.{Refusal}
use Rattle.store.specs.declared.refusal.Refusal.TheVariants.{Full, Empty, HeldFull, NameTaken, NotHeld as NameNotHeld, NoIndex}
use Rattle.cell.specs.declared.frame.Frame.{Frame}
use Rattle.cell.specs.declared.wind.Wind.{Wind}
use Rattle.store.specs.declared.refused.Refused.{Refused}
use Rattle.machine.specs.declared.end.End.{End}
use Rattle.machine.specs.declared.end.End.TheVariants.{FrameLimit, WindLimit, HeldLimit, WrongFrame, NotHeld}

-- the end that a refusal comes to, given the end for a full list, which keeps the refusal's level
abbrev pub end_by : (ℕ → End) → Refusal → End
end_by full (Full level) = full level
end_by full Empty = WrongFrame
end_by full HeldFull = HeldLimit
end_by full NameTaken = HeldLimit
end_by full NameNotHeld = NotHeld
end_by full NoIndex = WrongFrame

-- that of a refusal of the frame store
abbrev pub frame_end : Refused Frame → End
frame_end e = end_by FrameLimit e.why

-- that of a refusal of the wind store
abbrev pub wind_end : Refused Wind → End
wind_end e = end_by WindLimit e.why
