-- What `print` writes.
use Rattle.std.specs.Prelude.{ℕ, List, [], ◌∷◌, ◌++◌, ℤ, Some, None, Option}
use Rattle.std.specs.Fmt.{signed_decimal}

-- the line of a number: its digits in base ten, after `-` if it is below 0, and byte 10
abbrev pub line : ℤ → List ℕ
line z = signed_decimal z ++ (10 ∷ [])

-- the bytes of a line, if there is one to print
abbrev pub printed : Option ℤ → List ℕ
printed None = []
printed (Some z) = line z
