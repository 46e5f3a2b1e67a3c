-- The plan of the next step, by the parts of an engine: the machine's plan, where it looks at frames, winds and names.
use Rattle.std.specs.Prelude.{ℕ, Bool, true, false, cond, List, length, Some, None, Ok, Err, Option, Result, nat_lt}
use Rattle.std.specs.List.{slice_get}
use Rattle.std.specs.Option.{ok_or}
use Rattle.cell.specs.declared.address.Address.{Address}
use Rattle.cell.specs.declared.name.Name.{Name}
use Rattle.cell.specs.declared.value.Value.{Value}
use Rattle.cell.specs.declared.frame.Frame.{Frame}
use Rattle.cell.specs.declared.frame.Frame.TheVariants.{Saved, Back, Mark, In, Out, Hold, Toss, Enter}
use Rattle.cell.specs.declared.wind.Wind.{Wind}
use Rattle.store.specs.declared.refusal.Refusal.{Refusal}
use Rattle.store.specs.Meaning.{top, saved_cell_in}
use Rattle.store.specs.Typed.{refused_as, refused_of}
use Rattle.code.specs.declared.instruction.Instruction.{Instruction}
use Rattle.code.specs.declared.instruction.Instruction.TheVariants.{Set, Proc, Load, Store as StoreTo, Add, Sub, Less, Jump, Zero, Push as PushFrom, Pop as PopTo, Print, Call, Tail, CallCc, CallOnce, Forget as ForgetIn, DynamicWind, Return, Stop}
use Rattle.machine.specs.declared.end.End.TheVariants.{WrongFrame, NotHeld, OffTheEnd}
use Rattle.machine.specs.declared.write.Write.TheVariants.{Register as ToRegister}
use Rattle.machine.specs.declared.frame_move.FrameMove.TheVariants.{Push, PushBoth, Pop, Replace, Restore}
use Rattle.machine.specs.declared.wind_move.WindMove.{WindMove}
use Rattle.machine.specs.declared.wind_move.WindMove.TheVariants.{Stay, Open, Reenter, Leave}
use Rattle.machine.specs.declared.name_move.NameMove.{NameMove}
use Rattle.machine.specs.declared.name_move.NameMove.TheVariants.{Keep as KeepNames, SaveMany, SaveOnce, Use, Forget}
use Rattle.machine.specs.declared.mode.Mode.{Mode}
use Rattle.machine.specs.declared.mode.Mode.TheVariants.{Going, Returning, Throwing}
use Rattle.machine.specs.Acts.{Plan, moves, writing, framing, winding, naming, does}
use Rattle.machine.specs.Checks.{Checked, ◌>>=◌, procedure, continuation}
use Rattle.machine.specs.Going.{zeroth, reg, after, execute}
use Rattle.machine.specs.Named.{find}
use Rattle.machine.specs.StoreEnds.{wind_end}
use Rattle.held.specs.declared.held_row.HeldRow.{HeldRow}
use Rattle.held.specs.Rows.{row_name}
use Rattle.held.specs.Winds.{common_with}
use Rattle.engine.specs.Parts.{Parts, state_from}
use Rattle.engine.specs.Acting.{capturing, fresh_mark}

-- the row of a name, which has to be held
abbrev pub row_under : Parts → Name → Checked HeldRow
row_under p n = ok_or (find row_name p.rows n.0) NotHeld

-- a name that serves for one throw is used up
abbrev pub spending : HeldRow → NameMove
spending row = cond row.once (Use row.name) KeepNames

-- the value of a Saved on top
abbrev pub saved_value : Option Frame → Checked Value
saved_value None = Err WrongFrame
saved_value (Some (Saved v)) = Ok v
saved_value (Some (Back q)) = Err WrongFrame
saved_value (Some (Mark n)) = Err WrongFrame
saved_value (Some (In before body then)) = Err WrongFrame
saved_value (Some Out) = Err WrongFrame
saved_value (Some (Hold v)) = Err WrongFrame
saved_value (Some (Toss n v)) = Err WrongFrame
saved_value (Some (Enter n v)) = Err WrongFrame

-- the top wind, which has to be there
abbrev pub wind_on_top : Parts → Checked Wind
wind_on_top p = ok_or (top p.winds.current) WrongFrame

-- what an instruction at an address does
abbrev pub executing : Instruction → Parts → Address → Plan
executing (PopTo r) p at = saved_value (top p.frames.current) >>= λ v. does (framing Pop (writing (ToRegister r v) (moves (Going (after at)))))
executing (CallCc r) p at = procedure (reg (state_from p) r) >>= λ q. capturing SaveMany (Push (Back (after at))) p q
executing (CallOnce r) p at =
    procedure (reg (state_from p) r) >>= λ q. capturing SaveOnce (PushBoth (Back (after at)) (fresh_mark p)) p q
executing (ForgetIn r) p at =
    continuation (reg (state_from p) r) >>= λ n. row_under p n >>= λ row. does (naming (Forget n) (moves (Going (after at))))
executing (Set r z) p at = execute (Set r z) (state_from p) at
executing (Proc r q) p at = execute (Proc r q) (state_from p) at
executing (Load r g) p at = execute (Load r g) (state_from p) at
executing (StoreTo g r) p at = execute (StoreTo g r) (state_from p) at
executing (Add a b c) p at = execute (Add a b c) (state_from p) at
executing (Sub a b c) p at = execute (Sub a b c) (state_from p) at
executing (Less a b c) p at = execute (Less a b c) (state_from p) at
executing (Jump q) p at = execute (Jump q) (state_from p) at
executing (Zero r q) p at = execute (Zero r q) (state_from p) at
executing (PushFrom r) p at = execute (PushFrom r) (state_from p) at
executing (Print r) p at = execute (Print r) (state_from p) at
executing (Call r) p at = execute (Call r) (state_from p) at
executing (Tail r) p at = execute (Tail r) (state_from p) at
executing (DynamicWind a b c) p at = execute (DynamicWind a b c) (state_from p) at
executing Return p at = execute Return (state_from p) at
executing Stop p at = execute Stop (state_from p) at

-- the instruction at an address, if the code has one there
abbrev pub fetching : Option Instruction → Parts → Address → Plan
fetching None p at = Err OffTheEnd
fetching (Some i) p at = executing i p at

-- a saved wind, if there is one, is entered again
abbrev pub reentering : Result Wind Refusal → WindMove
reentering (Ok w) = Reenter w
reentering (Err e) = Stay

-- what the top frame does
abbrev pub resuming : Frame → Parts → Plan
resuming (Saved v) p = Err WrongFrame
resuming (Back at) p = does (framing Pop (moves (Going at)))
resuming (Mark n) p = row_under p n >>= λ row. does (naming (spending row) (framing Pop (moves Returning)))
resuming (In before body then) p = does (winding (Open before then) (framing (Replace Out) (moves (Going body))))
resuming Out p =
    wind_on_top p >>= λ w. does (winding Leave (framing (Replace (Hold (reg (state_from p) zeroth))) (moves (Going w.after))))
resuming (Hold v) p = does (writing (ToRegister zeroth v) (framing Pop (moves Returning)))
resuming (Toss n v) p = does (framing Pop (moves (Throwing n v)))
resuming (Enter n v) p =
    row_under p n >>= λ row.
    does (winding (reentering (saved_cell_in p.winds n.0 (length p.winds.current))) (framing Pop (moves (Throwing n v))))

-- with no frame the run ends well
abbrev pub returning : Option Frame → Parts → Plan
returning None p = Ok None
returning (Some f) p = resuming f p

-- how many winds in force are common with those saved under a name
abbrev pub sharing : Parts → Name → Checked ℕ
sharing p n = refused_as (λ e. wind_end (refused_of e)) (common_with p.winds n.0)

-- whether winds in force have to be left, and the next saved wind to be entered if any
abbrev pub unwinding : Bool → Result Wind Refusal → HeldRow → Name → Value → Parts → Plan
unwinding true next row n v p =
    wind_on_top p >>= λ w. does (winding Leave (framing (Push (Toss n v)) (moves (Going w.after))))
unwinding false (Ok w) row n v p = does (framing (Push (Enter n v)) (moves (Going w.before)))
unwinding false (Err e) row n v p =
    does (writing (ToRegister zeroth v) (naming (spending row) (framing (Restore n) (moves Returning))))

-- a step of a throw to a name, with a value
abbrev pub throwing : Name → Value → Parts → Plan
throwing n v p =
    row_under p n >>= λ row. sharing p n >>= λ c.
    unwinding (nat_lt c (length p.winds.current)) (saved_cell_in p.winds n.0 c) row n v p

-- by the mode
abbrev pub planning_in : Mode → List Instruction → Parts → Plan
planning_in (Going at) code p = fetching (slice_get code at.0) p at
planning_in Returning code p = returning (top p.frames.current) p
planning_in (Throwing n v) code p = throwing n v p

-- by the mode that the engine has
abbrev pub planning : List Instruction → Parts → Plan
planning code p = planning_in p.mode code p
