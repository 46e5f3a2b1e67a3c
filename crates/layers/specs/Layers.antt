-- What a layer means, from the meaning of the store below it.
use Rattle.std.specs.Prelude.{ℕ, ◌+◌, ◌-◌, ◌^◌, min, cond, List, ◌++◌, length, nat_lt}
use Rattle.store.specs.Meaning.{Meaning, with_current}

-- one above a height; the greatest word stays
abbrev pub above : ℕ → ℕ
above h = min (h + 1) (2 ^ 32 - 1)

-- a depth quota over a store
abbrev pub limited : {A : Type 0} → ℕ → Meaning A → Meaning A
limited quota m = record {
  current = m.current;
  held = m.held;
  depth_limit = min quota m.depth_limit;
  held_limit = m.held_limit;
  height = above m.height;
  limit_level = cond (nat_lt quota m.depth_limit) (above m.height) m.limit_level;
}

-- a layer that adds nothing but its height
abbrev pub raised : {A : Type 0} → Meaning A → Meaning A
raised m = record {
  current = m.current;
  held = m.held;
  depth_limit = m.depth_limit;
  held_limit = m.held_limit;
  height = above m.height;
  limit_level = m.limit_level;
}

-- how many cells more a store has room for
abbrev pub room_left : {A : Type 0} → Meaning A → ℕ
room_left m = m.depth_limit - length m.current

-- the store below a cache, with the cache's cells moved down
abbrev pub lowered : {A : Type 0} → List A → Meaning A → Meaning A
lowered cells m = with_current m (m.current ++ cells)

-- a cache with some cells of its own over a store
abbrev pub topped : {A : Type 0} → List A → Meaning A → Meaning A
topped cells m = raised (lowered cells m)
