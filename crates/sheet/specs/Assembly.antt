-- Lines taken in order: the labels and the instructions so far.
use Rattle.std.specs.Prelude.{ℕ, cond, not, ◌&&◌, List, [], ◌∷◌, ◌++◌, length, is_some, Some, None, Ok, Err, Option, Result, nat_lt}
use Rattle.std.specs.List.{find}
use Rattle.std.specs.Option.{option_map}
use Rattle.cell.specs.declared.address.Address.{Address}
use Rattle.sheet.specs.declared.draft.Draft.{Draft}
use Rattle.lexer.specs.declared.fault.Fault.{Fault}
use Rattle.lexer.specs.declared.fault.Fault.TheVariants.{BadByte, BadLabel, TooManyInstructions}
use Rattle.sheet.specs.declared.label.Label.{Label}
use Rattle.lexer.specs.declared.label_name.LabelName.{LabelName}
use Rattle.sheet.specs.declared.unresolved.Unresolved.{Unresolved}
use Rattle.lexer.specs.Checks.{◌>>=◌}
use Rattle.lexer.specs.Kinds.{Kind, kind, blank, comment, label, instruction, printable}
use Rattle.lexer.specs.Bytes.{same}
use Rattle.lexer.specs.Names.{label_name}
use Rattle.sheet.specs.Operands.{instruction as read_instruction}

-- the labels and the instructions of the lines so far, each in order
pub record Assembly : Type 0 where
  pub labels : List Label
  pub drafts : List Draft

-- before the first line
abbrev pub empty : Assembly
empty = record { labels = []; drafts = [] }

-- where a label is, if it is defined
abbrev pub target : List Label → LabelName → Option Address
target ls n = option_map (λ l. l.address) (find (λ l. same l.name.letters n.letters) ls)

-- A label marks the place of the next instruction. It has a well-formed name that is new, and there are at most 64.
abbrev pub defined : Assembly → Option LabelName → Result Assembly Fault
defined a None = Err BadLabel
defined a (Some n) =
    cond (not (is_some (target a.labels n)) && nat_lt (length a.labels) 64)
    (Ok (record { labels = a.labels ++ (record { name = n; address = record { 0 = length a.drafts } } ∷ []); drafts = a.drafts }))
    (Err BadLabel)

-- An instruction is kept with its line, since a label that it names may turn out to be missing.
abbrev pub added : Assembly → ℕ → Unresolved → Result Assembly Fault
added a line u =
    cond (nat_lt (length a.drafts) 256)
    (Ok (record { labels = a.labels; drafts = a.drafts ++ (record { unresolved = u; line = line } ∷ []) }))
    (Err TooManyInstructions)

-- a line of a kind, of number n
abbrev pub by_kind : Assembly → ℕ → Kind → Result Assembly Fault
by_kind a n blank = Ok a
by_kind a n comment = Ok a
by_kind a n (label name) = defined a (label_name name)
by_kind a n (instruction text) = read_instruction text >>= added a n

-- one line, of number n
abbrev pub line_taken : Assembly → ℕ → List ℕ → Result Assembly Fault
line_taken a n line = cond (printable line) (by_kind a n (kind line)) (Err BadByte)
