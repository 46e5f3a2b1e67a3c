-- The names of labels.
use Rattle.std.specs.Prelude.{ℕ, ◌-◌, Bool, cond, ◌&&◌, List, ◌++◌, length, replicate, Some, None, Option, nat_le, nat_lt}
use Rattle.lexer.specs.declared.label_name.LabelName.{LabelName}
use Rattle.lexer.specs.Bytes.{all_within}

-- `a` (97) to `z` (122)
abbrev pub all_letters : List ℕ → Bool
all_letters = all_within 97 122

-- 1 to 12 letters
abbrev pub is_name : List ℕ → Bool
is_name w = nat_lt 0 (length w) && (nat_le (length w) 12 && all_letters w)

-- the name that letters make: these, filled up with zeros
abbrev pub named : List ℕ → LabelName
named w = record { letters = w ++ replicate (12 - length w) 0 }

-- the name that bytes make, if they make one
abbrev pub label_name : List ℕ → Option LabelName
label_name w = cond (is_name w) (Some (named w)) None
