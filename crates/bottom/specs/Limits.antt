-- The limits that a bottom store may be given.
use Rattle.std.specs.Prelude.{ℕ, ◌+◌, ◌*◌, Bool, cond, ◌&&◌, List, drop, nat_le}

-- a depth limit from 16 to 4,096, and a held limit from 2 to 64
abbrev pub in_range : ℕ → ℕ → Bool
in_range depth held = nat_le 16 depth && (nat_le depth 4096 && (nat_le 2 held && nat_le held 64))

-- the cells that a store must have room for: the current list and every saved one, each as long as it may be
abbrev pub cells_needed : ℕ → ℕ → ℕ
cells_needed depth held = depth * (held + 1)

-- limits in range, and a memory that has what they need
abbrev pub accepted : ℕ → ℕ → ℕ → ℕ → Bool
accepted memory need depth held = in_range depth held && nat_le need memory

-- how much of its memory a new store needs, and the rest, which it never touches
abbrev pub split_at : {A : Type 0} → Bool → ℕ → List A → ℕ × List A
split_at taken need memory = (cond taken need 0, drop (cond taken need 0) memory)
