-- The twenty words that begin an instruction.
use Rattle.std.specs.Prelude.{ℕ, List, [], ◌∷◌, codes, Option}
use Rattle.std.specs.List.{find}
use Rattle.sheet.specs.declared.mnemonic.Mnemonic.{Mnemonic}
use Rattle.sheet.specs.declared.mnemonic.Mnemonic.TheVariants.{Set, Proc, Load, Store, Add, Sub, Less, Jump, Zero, Push, Pop, Print, Call, Tail, CallCc, CallOnce, Forget, DynamicWind, Return, Stop}
use Rattle.lexer.specs.Bytes.{same}

-- how each is spelled
abbrev pub spelling : Mnemonic → List ℕ
spelling Set = codes "set"
spelling Proc = codes "proc"
spelling Load = codes "load"
spelling Store = codes "store"
spelling Add = codes "add"
spelling Sub = codes "sub"
spelling Less = codes "less"
spelling Jump = codes "jump"
spelling Zero = codes "zero"
spelling Push = codes "push"
spelling Pop = codes "pop"
spelling Print = codes "print"
spelling Call = codes "call"
spelling Tail = codes "tail"
spelling CallCc = codes "cc"
spelling CallOnce = codes "cc1"
spelling Forget = codes "forget"
spelling DynamicWind = codes "wind"
spelling Return = codes "ret"
spelling Stop = codes "stop"

-- how many operands each has
abbrev pub arity : Mnemonic → ℕ
arity Set = 2
arity Proc = 2
arity Load = 2
arity Store = 2
arity Add = 3
arity Sub = 3
arity Less = 3
arity Jump = 1
arity Zero = 2
arity Push = 1
arity Pop = 1
arity Print = 1
arity Call = 1
arity Tail = 1
arity CallCc = 1
arity CallOnce = 1
arity Forget = 1
arity DynamicWind = 3
arity Return = 0
arity Stop = 0

-- all of them
abbrev pub vocabulary : List Mnemonic
vocabulary = Set ∷ Proc ∷ Load ∷ Store ∷ Add ∷ Sub ∷ Less ∷ Jump ∷ Zero ∷ Push ∷ Pop ∷ Print ∷ Call ∷ Tail ∷ CallCc ∷ CallOnce ∷ Forget ∷ DynamicWind ∷ Return ∷ Stop ∷ []

-- the first of these that is spelled so
abbrev pub spelled : List ℕ → List Mnemonic → Option Mnemonic
spelled w = find (λ m. same w (spelling m))

-- the word that bytes spell, if they spell one
abbrev pub mnemonic : List ℕ → Option Mnemonic
mnemonic w = spelled w vocabulary
