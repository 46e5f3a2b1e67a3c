-- The number of each end, reason and refusal.
use Rattle.std.specs.Prelude.{ℕ}
use Rattle.machine.specs.declared.end.End.{End}
use Rattle.machine.specs.declared.end.End.TheVariants.{Finished, WrongKind, SumOutOfRange, WrongFrame, NotHeld, OffTheEnd, FrameLimit, WindLimit, HeldLimit, UnfitStores, StepLimit}
use Rattle.machine.specs.declared.reason.Reason.{Reason}
use Rattle.machine.specs.declared.reason.Reason.TheVariants.{BudgetUsed, BufferFull, Ended}
use Rattle.machine.specs.declared.run_refusal.RunRefusal.{RunRefusal}
use Rattle.machine.specs.declared.run_refusal.RunRefusal.TheVariants.{HasEnded, BudgetOutOfRange, BufferTooShort}
use Rattle.machine.specs.declared.index_refusal.IndexRefusal.{IndexRefusal}
use Rattle.machine.specs.declared.index_refusal.IndexRefusal.TheVariants.{Beyond}

-- the number of an end
abbrev pub end_number : End → ℕ
end_number Finished = 0
end_number WrongKind = 30
end_number SumOutOfRange = 31
end_number WrongFrame = 32
end_number NotHeld = 33
end_number OffTheEnd = 34
end_number (FrameLimit level) = 40
end_number (WindLimit level) = 41
end_number HeldLimit = 42
end_number UnfitStores = 43
end_number StepLimit = 44

-- the number of a reason
abbrev pub reason_number : Reason → ℕ
reason_number BudgetUsed = 0
reason_number BufferFull = 1
reason_number Ended = 2

-- the number of a refused run call
abbrev pub run_refusal_number : RunRefusal → ℕ
run_refusal_number HasEnded = 20
run_refusal_number BudgetOutOfRange = 21
run_refusal_number BufferTooShort = 22

-- the number of a refused look or force
abbrev pub index_refusal_number : IndexRefusal → ℕ
index_refusal_number Beyond = 23
