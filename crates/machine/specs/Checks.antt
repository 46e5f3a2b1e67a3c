-- The checks of a step, each with the end that it can give. Of several checks in a row the first that fails tells the end.
use Rattle.std.specs.Prelude.{cond, List, [], ◌∷◌, ℤ, pos, negsuc, Ok, Err, Result, int_le}
use Rattle.std.specs.Option.{ok_or}
use Rattle.cell.specs.declared.address.Address.{Address}
use Rattle.cell.specs.declared.name.Name.{Name}
use Rattle.cell.specs.declared.value.Value.{Value}
use Rattle.cell.specs.declared.value.Value.TheVariants.{Empty, Number, Procedure, Continuation}
use Rattle.cell.specs.declared.wind.Wind.{Wind}
use Rattle.machine.specs.declared.end.End.{End}
use Rattle.machine.specs.declared.end.End.TheVariants.{WrongKind, SumOutOfRange, WrongFrame, NotHeld}
use Rattle.machine.specs.Named.{find}
use Rattle.machine.specs.State.{Capture, capture_name}

-- what a check answers: something, or an end
abbrev pub Checked : Type 0 → Type 0
Checked A = Result A End

-- a check, and what comes after it if it passes
infixl 10 ◌>>=◌
abbrev pub ◌>>=◌ : {A B : Type 0} → Checked A → (A → Checked B) → Checked B
Ok a >>= f = f a
Err e >>= f = Err e

-- the value has to be a number
abbrev pub number : Value → Checked ℤ
number Empty = Err WrongKind
number (Number z) = Ok z
number (Procedure p) = Err WrongKind
number (Continuation n) = Err WrongKind

-- the value has to be a procedure
abbrev pub procedure : Value → Checked Address
procedure Empty = Err WrongKind
procedure (Number z) = Err WrongKind
procedure (Procedure p) = Ok p
procedure (Continuation n) = Err WrongKind

-- the value has to be a continuation
abbrev pub continuation : Value → Checked Name
continuation Empty = Err WrongKind
continuation (Number z) = Err WrongKind
continuation (Procedure p) = Err WrongKind
continuation (Continuation n) = Ok n

-- the number has to be a signed word
abbrev pub signed_word : ℤ → Checked ℤ
signed_word z = cond (int_le z (pos 2147483647)) (cond (int_le (negsuc 2147483647) z) (Ok z) (Err SumOutOfRange)) (Err SumOutOfRange)

-- the name has to be held
abbrev pub held_under : List Capture → Name → Checked Capture
held_under held n = ok_or (find capture_name held n.0) NotHeld

-- There has to be a wind in force. In every state that a run comes to there is one wherever this is asked.
abbrev pub top_wind : List Wind → Checked Wind
top_wind [] = Err WrongFrame
top_wind (w ∷ ws) = Ok w
