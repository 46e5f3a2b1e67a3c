-- Reading a sheet: from its bytes to the code, or to the first refusal.
use Rattle.std.specs.Prelude.{ℕ, ◌+◌, cond, List, [], ◌∷◌, ◌++◌, length, Some, None, Ok, Err, Option, Result, codes, decimal, nat_le}
use Rattle.cell.specs.declared.address.Address.{Address}
use Rattle.code.specs.declared.instruction.Instruction.{Instruction}
use Rattle.code.specs.declared.instruction.Instruction.TheVariants.{Set, Proc, Load, Store, Add, Sub, Less, Jump, Zero, Push, Pop, Print, Call, Tail, CallCc, CallOnce, Forget, DynamicWind, Return, Stop}
use Rattle.sheet.specs.declared.draft.Draft.{Draft}
use Rattle.lexer.specs.declared.fault.Fault.{Fault}
use Rattle.lexer.specs.declared.fault.Fault.TheVariants.{BadByte, UnknownWord, BadOperand, NumberOutOfRange, BadLabel, TooManyInstructions}
use Rattle.sheet.specs.declared.label.Label.{Label}
use Rattle.lexer.specs.declared.label_name.LabelName.{LabelName}
use Rattle.sheet.specs.declared.refusal.SheetRefusal.{SheetRefusal}
use Rattle.sheet.specs.declared.refusal.SheetRefusal.TheVariants.{TooLong, AtLine, MissingLabel, NoInstruction}
use Rattle.sheet.specs.Assembly.{Assembly, empty, target, line_taken}
use Rattle.lexer.specs.Checks.{◌>>=◌}
use Rattle.lexer.specs.Split.{lines}

-- Refusals.

-- a fault, met in a line
abbrev pub at_line : Fault → ℕ → SheetRefusal
at_line f n = AtLine f n

-- the number of a refusal
abbrev pub refusal_number : SheetRefusal → ℕ
refusal_number TooLong = 1
refusal_number (AtLine BadByte n) = 2
refusal_number (AtLine UnknownWord n) = 3
refusal_number (AtLine BadOperand n) = 4
refusal_number (AtLine NumberOutOfRange n) = 5
refusal_number (AtLine BadLabel n) = 6
refusal_number (MissingLabel n) = 7
refusal_number (AtLine TooManyInstructions n) = 8
refusal_number NoInstruction = 8

-- the line of a refusal, 0 where it is about the whole sheet
abbrev pub refusal_line : SheetRefusal → ℕ
refusal_line TooLong = 0
refusal_line (AtLine f n) = n
refusal_line (MissingLabel n) = n
refusal_line NoInstruction = 0

-- how a refusal is told, as `sheet 3 line 7`
abbrev pub refusal_text : SheetRefusal → List ℕ
refusal_text r = codes "sheet " ++ (decimal (refusal_number r) ++ (codes " line " ++ decimal (refusal_line r)))

-- The lines, in order.

-- goes on after a line that was taken; a fault is told with its line
abbrev pub or_refused : ℕ → Result Assembly Fault → (Assembly → Result Assembly SheetRefusal) → Result Assembly SheetRefusal
or_refused n (Ok a) go_on = go_on a
or_refused n (Err f) go_on = Err (at_line f n)

-- the lines from number n on, added to what the lines before them gave
abbrev pub assembled : Assembly → ℕ → List (List ℕ) → Result Assembly SheetRefusal
assembled a n [] = Ok a
assembled a n (l ∷ ls) = or_refused n (line_taken a n l) (λ b. assembled b (n + 1) ls)

-- The labels, once all are known.

-- an instruction with the address that it waited for
abbrev pub aimed : Instruction → Address → Instruction
aimed (Set r z) a = Set r z
aimed (Proc r p) a = Proc r a
aimed (Load r g) a = Load r g
aimed (Store g r) a = Store g r
aimed (Add d x y) a = Add d x y
aimed (Sub d x y) a = Sub d x y
aimed (Less d x y) a = Less d x y
aimed (Jump p) a = Jump a
aimed (Zero r p) a = Zero r a
aimed (Push r) a = Push r
aimed (Pop r) a = Pop r
aimed (Print r) a = Print r
aimed (Call r) a = Call r
aimed (Tail r) a = Tail r
aimed (CallCc r) a = CallCc r
aimed (CallOnce r) a = CallOnce r
aimed (Forget r) a = Forget r
aimed (DynamicWind b m t) a = DynamicWind b m t
aimed Return a = Return
aimed Stop a = Stop

-- the label is there, or is missing
abbrev pub aimed_at : Instruction → ℕ → Option Address → Result Instruction SheetRefusal
aimed_at i line (Some a) = Ok (aimed i a)
aimed_at i line None = Err (MissingLabel line)

-- an instruction, and the label that it waits for if any
abbrev pub resolved_by : List Label → Instruction → ℕ → Option LabelName → Result Instruction SheetRefusal
resolved_by ls i line None = Ok i
resolved_by ls i line (Some n) = aimed_at i line (target ls n)

-- a draft with its label put in
abbrev pub resolved : List Label → Draft → Result Instruction SheetRefusal
resolved ls d = resolved_by ls d.unresolved.instruction d.line d.unresolved.label

-- the instructions from these drafts on, added to those before them
abbrev pub resolved_onto : List Instruction → List Label → List Draft → Result (List Instruction) SheetRefusal
resolved_onto is ls [] = Ok is
resolved_onto is ls (d ∷ ds) = resolved ls d >>= λ i. resolved_onto (is ++ (i ∷ [])) ls ds

-- The whole sheet.

-- a sheet has at least one instruction
abbrev pub not_empty : List Instruction → Result (List Instruction) SheetRefusal
not_empty [] = Err NoInstruction
not_empty (i ∷ is) = Ok (i ∷ is)

-- what the bytes of a sheet are read as
abbrev pub reading : List ℕ → Result (List Instruction) SheetRefusal
reading sheet =
    cond (nat_le (length sheet) 16384)
    (assembled empty 1 (lines sheet) >>= λ a. resolved_onto [] a.labels a.drafts >>= not_empty)
    (Err TooLong)
