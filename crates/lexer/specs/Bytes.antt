-- Bytes compared, and bytes that lie in a range.
use Rattle.std.specs.Prelude.{ℕ, Bool, ◌&&◌, List, nat_le}
use Rattle.std.specs.List.{list_all}
use Rattle.std.specs.Str.{bytes_eq}

-- from the lowest to the highest
abbrev pub within : ℕ → ℕ → ℕ → Bool
within low high b = nat_le low b && nat_le b high

-- so do all of these
abbrev pub all_within : ℕ → ℕ → List ℕ → Bool
all_within low high = list_all (within low high)

-- whether two lists of bytes are the same
abbrev pub same : List ℕ → List ℕ → Bool
same = bytes_eq
