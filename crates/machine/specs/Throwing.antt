-- Throwing: the way of a throw to its continuation, wind by wind.
use Rattle.std.specs.Prelude.{ℕ, suc, Bool, true, false, cond, List, [], ◌∷◌, reverse, length, Some, None, Option, ◌==◌, nat_lt}
use Rattle.cell.specs.declared.name.Name.{Name}
use Rattle.cell.specs.declared.value.Value.{Value}
use Rattle.cell.specs.declared.frame.Frame.TheVariants.{Toss, Enter}
use Rattle.cell.specs.declared.wind.Wind.{Wind}
use Rattle.machine.specs.declared.write.Write.TheVariants.{Register as ToRegister}
use Rattle.machine.specs.declared.frame_move.FrameMove.TheVariants.{Push, Restore}
use Rattle.machine.specs.declared.wind_move.WindMove.TheVariants.{Leave}
use Rattle.machine.specs.declared.mode.Mode.TheVariants.{Going, Returning}
use Rattle.machine.specs.State.{State, Capture, wind_numbers}
use Rattle.machine.specs.Checks.{◌>>=◌, held_under, top_wind}
use Rattle.machine.specs.Acts.{Plan, moves, writing, framing, winding, naming, does}
use Rattle.machine.specs.Going.{zeroth}
use Rattle.machine.specs.Returning.{spends, wind_at}

-- the length of the longest common beginning of two lists of wind numbers
abbrev pub common : List ℕ → List ℕ → ℕ
common [] ys = 0
common (x ∷ xs) [] = 0
common (x ∷ xs) (y ∷ ys) = cond (x == y) (suc (common xs ys)) 0

-- how many winds of two lists that stand top first are common, from the bottom
abbrev pub shared : List Wind → List Wind → ℕ
shared xs ys = common (reverse (wind_numbers xs)) (reverse (wind_numbers ys))

-- whether winds in force have to be left, the next saved wind to be entered if any, and what the name holds
abbrev pub unwind : Bool → Option Wind → Capture → Name → Value → State → Plan
-- the top wind is left, and then its after follows
unwind true next c n v s = top_wind s.winds >>= λ w. does (winding Leave (framing (Push (Toss n v)) (moves (Going w.after))))
-- the before of the next saved wind follows
unwind false (Some w) c n v s = does (framing (Push (Enter n v)) (moves (Going w.before)))
-- all winds are as they were saved: the frames become those saved, the value is the result, and a one-shot name is used up
unwind false None c n v s = does (writing (ToRegister zeroth v) (naming (spends c n) (framing (Restore n) (moves Returning))))

-- a step of a throw to a name, with a value
abbrev pub throw : Name → Value → State → Plan
throw n v s =
    held_under s.held n >>= λ c.
    unwind (nat_lt (shared s.winds c.winds) (length s.winds)) (wind_at c.winds (shared s.winds c.winds)) c n v s
