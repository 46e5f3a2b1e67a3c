-- An instruction line: its word, its operands, and what it says while the labels are not known yet.
use Rattle.std.specs.Prelude.{ℕ, ◌+◌, cond, List, [], ◌∷◌, length, Some, None, Ok, Err, Option, Result, ◌==◌, ◌≡◌, nat_lt}
use Rattle.std.specs.Option.{ok_or}
use Rattle.cell.specs.declared.address.Address.{Address}
use Rattle.code.specs.declared.register.Register.{Register}
use Rattle.code.specs.declared.global.Global.{Global}
use Rattle.code.specs.declared.instruction.Instruction.{Instruction}
use Rattle.code.specs.declared.instruction.Instruction.TheVariants as I
use Rattle.lexer.specs.declared.fault.Fault.{Fault}
use Rattle.lexer.specs.declared.fault.Fault.TheVariants.{BadOperand, UnknownWord}
use Rattle.lexer.specs.declared.label_name.LabelName.{LabelName}
use Rattle.sheet.specs.declared.mnemonic.Mnemonic.{Mnemonic}
use Rattle.sheet.specs.declared.mnemonic.Mnemonic.TheVariants.{Set, Proc, Load, Store, Add, Sub, Less, Jump, Zero, Push, Pop, Print, Call, Tail, CallCc, CallOnce, Forget, DynamicWind, Return, Stop}
use Rattle.sheet.specs.declared.unresolved.Unresolved.{Unresolved}
use Rattle.lexer.specs.Checks.{◌>>=◌}
use Rattle.lexer.specs.Number.{magnitude, number}
use Rattle.lexer.specs.Names.{label_name}
use Rattle.lexer.specs.Split.{words, word_at}
use Rattle.sheet.specs.Words.{mnemonic, arity}

-- Operands.

-- a number below a limit; whatever is wrong with it is a wrong form
abbrev pub small : ℕ → Result ℕ Fault → Result ℕ Fault
small limit (Ok n) = cond (nat_lt n limit) (Ok n) (Err BadOperand)
small limit (Err e) = Err BadOperand

-- a letter, and a number below a limit
abbrev pub lettered : ℕ → ℕ → List ℕ → Result ℕ Fault
lettered letter limit [] = Err BadOperand
lettered letter limit (b ∷ bs) = cond (b == letter) (small limit (magnitude bs)) (Err BadOperand)

-- `r` (114) and 0 to 7
abbrev pub register : List ℕ → Result Register Fault
register w = lettered 114 8 w >>= λ n. Ok (record { 0 = n })

-- `g` (103) and 0 to 31
abbrev pub global : List ℕ → Result Global Fault
global w = lettered 103 32 w >>= λ n. Ok (record { 0 = n })

-- a label that is named
abbrev pub label : List ℕ → Result LabelName Fault
label w = ok_or (label_name w) BadOperand

-- three registers, from the left
abbrev pub registers : List ℕ → List ℕ → List ℕ → Result (Register × Register × Register) Fault
registers a b c = register a >>= λ x. register b >>= λ y. register c >>= λ z. Ok (x, y, z)

-- Instructions.

-- an instruction that names no label
abbrev pub plain : Instruction → Result Unresolved Fault
plain i = Ok (record { instruction = i; label = None })

-- an answer made of three registers, by a rule that says which instruction can be made of them
abbrev pub OfThree : (Register → Register → Register → Instruction → Type 0) → Result (Register × Register × Register) Fault → Result Unresolved Fault → Type 0
OfThree Makes (Ok r) answer = (i : Instruction) × Makes r.0 r.1 r.2 i × (answer ≡ plain i)
OfThree Makes (Err e) answer = answer ≡ Err e

-- where a label's address comes once it is known
abbrev pub unknown : Address
unknown = record { 0 = 0 }

-- an instruction that waits for a label's address
abbrev pub waiting : Instruction → LabelName → Result Unresolved Fault
waiting i name = Ok (record { instruction = i; label = Some name })

-- the operands of each word, in order
abbrev pub with_operands : Mnemonic → List ℕ → List ℕ → List ℕ → Result Unresolved Fault
with_operands Set a b c = register a >>= λ r. number b >>= λ n. plain (I.Set r n)
with_operands Proc a b c = register a >>= λ r. label b >>= λ l. waiting (I.Proc r unknown) l
with_operands Load a b c = register a >>= λ r. global b >>= λ g. plain (I.Load r g)
with_operands Store a b c = global a >>= λ g. register b >>= λ r. plain (I.Store g r)
with_operands Add a b c = registers a b c >>= λ r. plain (I.Add r.0 r.1 r.2)
with_operands Sub a b c = registers a b c >>= λ r. plain (I.Sub r.0 r.1 r.2)
with_operands Less a b c = registers a b c >>= λ r. plain (I.Less r.0 r.1 r.2)
with_operands Jump a b c = label a >>= λ l. waiting (I.Jump unknown) l
with_operands Zero a b c = register a >>= λ r. label b >>= λ l. waiting (I.Zero r unknown) l
with_operands Push a b c = register a >>= λ r. plain (I.Push r)
with_operands Pop a b c = register a >>= λ r. plain (I.Pop r)
with_operands Print a b c = register a >>= λ r. plain (I.Print r)
with_operands Call a b c = register a >>= λ r. plain (I.Call r)
with_operands Tail a b c = register a >>= λ r. plain (I.Tail r)
with_operands CallCc a b c = register a >>= λ r. plain (I.CallCc r)
with_operands CallOnce a b c = register a >>= λ r. plain (I.CallOnce r)
with_operands Forget a b c = register a >>= λ r. plain (I.Forget r)
with_operands DynamicWind a b c = registers a b c >>= λ r. plain (I.DynamicWind r.0 r.1 r.2)
with_operands Return a b c = plain I.Return
with_operands Stop a b c = plain I.Stop

-- first the word itself, then the number of operands, then the operands from the left
abbrev pub by_word : Option Mnemonic → List (List ℕ) → Result Unresolved Fault
by_word None ws = Err UnknownWord
by_word (Some m) ws = cond (length ws == arity m + 1) (with_operands m (word_at ws 1) (word_at ws 2) (word_at ws 3)) (Err BadOperand)

-- what an instruction line says
abbrev pub instruction : List ℕ → Result Unresolved Fault
instruction text = by_word (mnemonic (word_at (words text) 0)) (words text)
