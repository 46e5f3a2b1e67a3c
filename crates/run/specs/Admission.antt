-- Which run calls are accepted.
use Rattle.std.specs.Prelude.{ℕ, cond, ◌||◌, Ok, Err, Result, nat_lt}
use Rattle.machine.specs.declared.run_refusal.RunRefusal.{RunRefusal}
use Rattle.machine.specs.declared.run_refusal.RunRefusal.TheVariants.{BudgetOutOfRange, BufferTooShort}
use Rattle.machine.specs.Calls.{most_budget, least_buffer}

-- of a run that has not ended: a call with a budget and a buffer of some size, the budget looked at first
abbrev pub admitted : ℕ → ℕ → Result Unit RunRefusal
admitted budget size =
    cond (nat_lt budget 1 || nat_lt most_budget budget) (Err BudgetOutOfRange)
    (cond (nat_lt size least_buffer) (Err BufferTooShort)
    (Ok tt))
