-- Going: what each instruction does.
use Rattle.std.specs.Prelude.{◌+◌, Bool, false, cond, List, [], ◌∷◌, ℤ, pos, negsuc, ◌+ℤ◌, ◌-ℤ◌, Some, None, Ok, Err, Option, ◌==◌, int_lt, slice_index_or}
use Rattle.cell.specs.declared.address.Address.{Address}
use Rattle.cell.specs.declared.name.Name.{Name}
use Rattle.cell.specs.declared.value.Value.{Value}
use Rattle.cell.specs.declared.value.Value.TheVariants.{Empty, Number, Procedure, Continuation}
use Rattle.cell.specs.declared.frame.Frame.{Frame}
use Rattle.cell.specs.declared.frame.Frame.TheVariants.{Saved, Back, Mark, In, Out, Hold, Toss, Enter}
use Rattle.code.specs.declared.register.Register.{Register}
use Rattle.code.specs.declared.instruction.Instruction.{Instruction}
use Rattle.code.specs.declared.instruction.Instruction.TheVariants.{Set, Proc, Load, Store, Add, Sub, Less, Jump, Zero, Push, Pop, Print, Call, Tail, CallCc, CallOnce, Forget, DynamicWind, Return, Stop}
use Rattle.machine.specs.declared.write.Write.TheVariants.{Register as ToRegister, Global as ToGlobal}
use Rattle.machine.specs.declared.frame_move.FrameMove.{FrameMove}
use Rattle.machine.specs.declared.frame_move.FrameMove.TheVariants.{Keep as KeepFrames, Push as PushOne, PushBoth, Pop as PopOne}
use Rattle.machine.specs.declared.name_move.NameMove.{NameMove}
use Rattle.machine.specs.declared.name_move.NameMove.TheVariants.{SaveMany, SaveOnce, Forget as ForgetName}
use Rattle.machine.specs.declared.mode.Mode.TheVariants.{Going, Returning, Throwing}
use Rattle.machine.specs.declared.end.End.TheVariants.{WrongKind, WrongFrame, OffTheEnd}
use Rattle.machine.specs.State.{State}
use Rattle.machine.specs.Checks.{◌>>=◌, number, procedure, continuation, signed_word, held_under}
use Rattle.machine.specs.Acts.{Plan, moves, writing, framing, naming, printing, does}

-- r0
abbrev pub zeroth : Register
zeroth = record { 0 = 0 }

-- what a register holds
abbrev pub reg : State → Register → Value
reg s r = slice_index_or s.registers r.0 Empty

-- the address after this one
abbrev pub after : Address → Address
after p = record { 0 = p.0 + 1 }

-- the name that is made next
abbrev pub next_name : State → Name
next_name s = record { 0 = s.counts.made + 1 }

-- a value is written to a register, and the next instruction follows
abbrev pub writes : Address → Register → Value → Plan
writes p r v = does (writing (ToRegister r v) (moves (Going (after p))))

-- what two registers hold, which have to be numbers
abbrev pub both_numbers : State → Register → Register → (ℤ → ℤ → Plan) → Plan
both_numbers s b c then = number (reg s b) >>= λ x. number (reg s c) >>= λ y. then x y

-- whether a number is 0
abbrev pub is_zero : ℤ → Bool
is_zero (pos n) = n == 0
is_zero (negsuc n) = false

-- `pop` takes its value from a Saved on top
abbrev pub pops : List Frame → Address → Register → Plan
pops [] p r = Err WrongFrame
pops (Saved v ∷ fs) p r = does (framing PopOne (writing (ToRegister r v) (moves (Going (after p)))))
pops (Back q ∷ fs) p r = Err WrongFrame
pops (Mark n ∷ fs) p r = Err WrongFrame
pops (In before body then ∷ fs) p r = Err WrongFrame
pops (Out ∷ fs) p r = Err WrongFrame
pops (Hold v ∷ fs) p r = Err WrongFrame
pops (Toss n v ∷ fs) p r = Err WrongFrame
pops (Enter n v ∷ fs) p r = Err WrongFrame

-- `call` and `tail` of a value, with what r0 holds: a procedure is gone to by the move, and a continuation is thrown to
abbrev pub enters_by : FrameMove → Value → Value → Plan
enters_by push Empty v = Err WrongKind
enters_by push (Number z) v = Err WrongKind
enters_by push (Procedure q) v = does (framing push (moves (Going q)))
enters_by push (Continuation n) v = does (moves (Throwing n v))

-- `cc` and `cc1` of a procedure: a new name is held and written to r0
abbrev pub captures : NameMove → FrameMove → State → Address → Plan
captures save push s q =
    does (naming save (writing (ToRegister zeroth (Continuation (next_name s))) (framing push (moves (Going q)))))

-- what an instruction at an address does
abbrev pub execute : Instruction → State → Address → Plan
-- `set`: the number goes to the register
execute (Set r z) s p = writes p r (Number z)
-- `proc`: the procedure at the label goes to the register
execute (Proc r q) s p = writes p r (Procedure q)
-- `load`: what the global holds goes to the register
execute (Load r g) s p = writes p r (slice_index_or s.globals g.0 Empty)
-- `store`: what the register holds goes to the global
execute (Store g r) s p = does (writing (ToGlobal g (reg s r)) (moves (Going (after p))))
-- `add`, `sub`: the sum or difference of two numbers goes to the register
execute (Add a b c) s p = both_numbers s b c (λ x y. signed_word (x +ℤ y) >>= λ z. writes p a (Number z))
execute (Sub a b c) s p = both_numbers s b c (λ x y. signed_word (x -ℤ y) >>= λ z. writes p a (Number z))
-- `less`: 1 or 0 goes to the register
execute (Less a b c) s p = both_numbers s b c (λ x y. writes p a (Number (cond (int_lt x y) (pos 1) (pos 0))))
-- `jump`: the label follows
execute (Jump q) s p = does (moves (Going q))
-- `zero`: the label follows if the number is 0
execute (Zero r q) s p = number (reg s r) >>= λ z. does (moves (Going (cond (is_zero z) q (after p))))
-- `push`, `pop`: a value goes to the frames, and back to a register
execute (Push r) s p = does (framing (PushOne (Saved (reg s r))) (moves (Going (after p))))
execute (Pop r) s p = pops s.frames p r
-- `print`: the number's line is written
execute (Print r) s p = number (reg s r) >>= λ z. does (printing z (moves (Going (after p))))
-- `call`, `tail`: with and without a return to the next instruction
execute (Call r) s p = enters_by (PushOne (Back (after p))) (reg s r) (reg s zeroth)
execute (Tail r) s p = enters_by KeepFrames (reg s r) (reg s zeroth)
-- `cc`, `cc1`: the continuation of the next instruction, for many throws or for one
execute (CallCc r) s p = procedure (reg s r) >>= λ q. captures SaveMany (PushOne (Back (after p))) s q
execute (CallOnce r) s p = procedure (reg s r) >>= λ q. captures SaveOnce (PushBoth (Back (after p)) (Mark (next_name s))) s q
-- `forget`: the name is held no more
execute (Forget r) s p = continuation (reg s r) >>= λ n. held_under s.held n >>= λ c. does (naming (ForgetName n) (moves (Going (after p))))
-- `wind`: the before follows, and the frame In waits for its return
execute (DynamicWind a b c) s p =
    procedure (reg s a) >>= λ before. procedure (reg s b) >>= λ body. procedure (reg s c) >>= λ then.
    does (framing (PushBoth (Back (after p)) (In before body then)) (moves (Going before)))
-- `ret`: the top frame is returned to
execute Return s p = does (moves Returning)
-- `stop`: the run ends, and no after is called
execute Stop s p = Ok None

-- the instruction at an address, if the code has one there
abbrev pub fetched : Option Instruction → State → Address → Plan
fetched None s p = Err OffTheEnd
fetched (Some i) s p = execute i s p
