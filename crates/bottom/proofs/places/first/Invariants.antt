use Rattle.std.proofs.Common.{◌≡◌, ◌≤◌, ◌-◌, min, reverse}
use Rattle.std.specs.List.{range_with_len}
use Rattle.bottom.proofs.places.first.Given as goal

-- the places from the one that was pushed last to the highest stand in falling order
abbrev pub invariant-loop-place : goal.invariant-loop-place
invariant-loop-place l = (l.places.items ≡ reverse (range_with_len l.place (min l.count 64 - l.place))) × (l.place ≤ min l.count 64)
