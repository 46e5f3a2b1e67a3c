-- Returning: what each frame does when it is returned to.
use Rattle.std.specs.Prelude.{ℕ, cond, List, [], ◌∷◌, reverse, length, Some, None, Ok, Err, Option}
use Rattle.std.specs.List.{slice_get}
use Rattle.cell.specs.declared.name.Name.{Name}
use Rattle.cell.specs.declared.frame.Frame.{Frame}
use Rattle.cell.specs.declared.frame.Frame.TheVariants.{Saved, Back, Mark, In, Out, Hold, Toss, Enter}
use Rattle.cell.specs.declared.wind.Wind.{Wind}
use Rattle.machine.specs.declared.write.Write.TheVariants.{Register as ToRegister}
use Rattle.machine.specs.declared.frame_move.FrameMove.TheVariants.{Pop, Replace}
use Rattle.machine.specs.declared.wind_move.WindMove.{WindMove}
use Rattle.machine.specs.declared.wind_move.WindMove.TheVariants.{Stay, Open, Reenter, Leave}
use Rattle.machine.specs.declared.name_move.NameMove.{NameMove}
use Rattle.machine.specs.declared.name_move.NameMove.TheVariants.{Keep as KeepNames, Use}
use Rattle.machine.specs.declared.mode.Mode.TheVariants.{Going, Returning, Throwing}
use Rattle.machine.specs.declared.end.End.TheVariants.{WrongFrame}
use Rattle.machine.specs.State.{State, Capture}
use Rattle.machine.specs.Checks.{◌>>=◌, held_under, top_wind}
use Rattle.machine.specs.Acts.{Plan, moves, writing, framing, winding, naming, does}
use Rattle.machine.specs.Going.{zeroth, reg}

-- a name that serves for one throw is used up
abbrev pub spends : Capture → Name → NameMove
spends c n = cond c.once (Use n) KeepNames

-- the wind at an index from the bottom
abbrev pub wind_at : List Wind → ℕ → Option Wind
wind_at ws i = slice_get (reverse ws) i

-- a saved wind, if there is one, is entered again
abbrev pub again : Option Wind → WindMove
again None = Stay
again (Some w) = Reenter w

-- what the top frame does
abbrev pub resume : Frame → State → Plan
-- a value that waits for its `pop` is nothing to return to
resume (Saved v) s = Err WrongFrame
-- the code goes on at the address
resume (Back p) s = does (framing Pop (moves (Going p)))
-- what was called under the name returns past its capture, which uses the name up
resume (Mark n) s = held_under s.held n >>= λ c. does (naming (spends c n) (framing Pop (moves Returning)))
-- the before has returned: the wind is entered, and its body follows
resume (In before body then) s = does (winding (Open before then) (framing (Replace Out) (moves (Going body))))
-- the body has returned: the wind is left, and then its after follows, while the body's value waits
resume Out s =
    top_wind s.winds >>= λ w. does (winding Leave (framing (Replace (Hold (reg s zeroth))) (moves (Going w.after))))
-- the after has returned: the body's value is the result
resume (Hold v) s = does (writing (ToRegister zeroth v) (framing Pop (moves Returning)))
-- the after of a wind that a throw left has returned: the throw goes on
resume (Toss n v) s = does (framing Pop (moves (Throwing n v)))
-- the before of a wind that a throw enters has returned: the wind is in force again, and the throw goes on
resume (Enter n v) s =
    held_under s.held n >>= λ c.
    does (winding (again (wind_at c.winds (length s.winds))) (framing Pop (moves (Throwing n v))))

-- with no frame the run ends well
abbrev pub return : List Frame → State → Plan
return [] s = Ok None
return (f ∷ fs) s = resume f s
