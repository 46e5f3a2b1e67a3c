-- The kinds of line, and the bytes that a line may have.
use Rattle.std.specs.Prelude.{ℕ, Bool, cond, List, [], ◌∷◌, ◌==◌}
use Rattle.lexer.specs.declared.line.Line.{Line}
use Rattle.lexer.specs.declared.line.Line.TheVariants.{Blank, Comment, Label, Code}
use Rattle.lexer.specs.Bytes.{all_within}

-- a line by its kind; a label's name and an instruction's text are still bytes
pub data Kind : Type 0 where
  blank : Kind
  comment : Kind
  label : List ℕ → Kind
  instruction : List ℕ → Kind

-- `;` (59) begins a comment and `:` (58) a label; what is not empty and begins otherwise is an instruction
abbrev pub kind : List ℕ → Kind
kind [] = blank
kind (b ∷ bs) = cond (b == 59) comment (cond (b == 58) (label bs) (instruction (b ∷ bs)))

-- what the reader's own line stands for
abbrev pub kind_of : Line → Kind
kind_of Blank = blank
kind_of Comment = comment
kind_of (Label name) = label name.now
kind_of (Code text) = instruction text.now

-- spaces (32) and the visible characters of ASCII (up to 126)
abbrev pub printable : List ℕ → Bool
printable = all_within 32 126
