-- What the winds in force and the winds saved under a name have in common. Both lists have the bottom first.
use Rattle.std.specs.Prelude.{ℕ, List, Some, None, Ok, Err, Option, Result}
use Rattle.cell.specs.declared.wind.Wind.{Wind}
use Rattle.store.specs.declared.refusal.Refusal.{Refusal}
use Rattle.store.specs.declared.refusal.Refusal.TheVariants.{NotHeld}
use Rattle.store.specs.Meaning.{Meaning, saved_under}
use Rattle.machine.specs.State.{wind_numbers}
use Rattle.machine.specs.Throwing.{common}

-- the length of the common beginning, from what is saved under the name
abbrev pub common_by : List Wind → Option (List Wind) → Result ℕ Refusal
common_by ws None = Err NotHeld
common_by ws (Some saved) = Ok (common (wind_numbers ws) (wind_numbers saved))

-- the length of the common beginning of the current list and the one saved under a name
abbrev pub common_with : Meaning Wind → ℕ → Result ℕ Refusal
common_with m n = common_by m.current (saved_under m.held n)
