-- When instructions may stand in a code of a given length.
use Rattle.std.specs.Prelude.{ℕ, Bool, true, ◌&&◌, List, nat_le, nat_lt}
use Rattle.std.specs.List.{list_all}
use Rattle.cell.specs.declared.address.Address.{Address}
use Rattle.code.specs.declared.register.Register.{Register}
use Rattle.code.specs.declared.global.Global.{Global}
use Rattle.code.specs.declared.instruction.Instruction.{Instruction}
use Rattle.code.specs.declared.instruction.Instruction.TheVariants.{Set, Proc, Load, Store, Add, Sub, Less, Jump, Zero, Push, Pop, Print, Call, Tail, CallCc, CallOnce, Forget, DynamicWind, Return, Stop}

-- r0 to r7
abbrev pub is_register : Register → Bool
is_register r = nat_lt r.0 8

-- g0 to g31
abbrev pub is_global : Global → Bool
is_global g = nat_lt g.0 32

-- an instruction of the code, or the end of the code
abbrev pub reaches : ℕ → Address → Bool
reaches n a = nat_le a.0 n

-- every operand is in range, in a code of n instructions
abbrev pub fits : ℕ → Instruction → Bool
fits n (Set r z) = is_register r
fits n (Proc r a) = is_register r && reaches n a
fits n (Load r g) = is_register r && is_global g
fits n (Store g r) = is_global g && is_register r
fits n (Add d x y) = is_register d && (is_register x && is_register y)
fits n (Sub d x y) = is_register d && (is_register x && is_register y)
fits n (Less d x y) = is_register d && (is_register x && is_register y)
fits n (Jump a) = reaches n a
fits n (Zero r a) = is_register r && reaches n a
fits n (Push r) = is_register r
fits n (Pop r) = is_register r
fits n (Print r) = is_register r
fits n (Call r) = is_register r
fits n (Tail r) = is_register r
fits n (CallCc r) = is_register r
fits n (CallOnce r) = is_register r
fits n (Forget r) = is_register r
fits n (DynamicWind b m a) = is_register b && (is_register m && is_register a)
fits n Return = true
fits n Stop = true

-- all of these fit
abbrev pub all_fit : ℕ → List Instruction → Bool
all_fit n = list_all (fits n)
