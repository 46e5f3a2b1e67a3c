-- The limits of a new store.
use Rattle.std.proofs.Common.{◌≡◌, ℕ, ◌≤◌, min, Bool, true, false, cond, refl, arith}
use Rattle.std.proofs.lemmas.Bool.{and_parts, leb-true}
use Rattle.bottom.specs.Limits.{accepted, cells_needed}

-- limits that were granted: they are small, and there is room for the cells that they need
pub record Granted (room depth held : ℕ) : Type 0 where
  pub flat : depth ≤ 4096
  pub few : held ≤ 64
  pub enough : cells_needed depth held ≤ room

module _ (room depth held : ℕ) where
  -- the limits that were asked for, or both 0
  abbrev pub limits_by : Bool → ℕ × ℕ
  limits_by b = cond b (depth, held) (0, 0)

  by_limits : (b : Bool) → accepted room (cells_needed depth held) depth held ≡ b → Granted room (limits_by b).0 (limits_by b).1
  by_limits true e =
      let a = and_parts _ _ e in
      let b = and_parts _ _ a.0 in
      let d = and_parts _ _ b.1 in
      let h = and_parts _ _ d.1 in
      record { flat = leb-true depth 4096 d.0; few = leb-true held 64 h.1; enough = leb-true _ room a.1 }
  by_limits false e = record { flat = omega arith; few = omega arith; enough = omega arith }

  -- what was granted
  pub granted_fits : Granted room (limits_by (accepted room (cells_needed depth held) depth held)).0 (limits_by (accepted room (cells_needed depth held) depth held)).1
  granted_fits = by_limits (accepted room (cells_needed depth held) depth held) refl

-- the limit of a table that was asked for so many names
pub limit_is : (held limit : ℕ) → held ≤ 64 → limit ≡ min held 64 → limit ≡ held
limit_is held limit l e = omega arith
