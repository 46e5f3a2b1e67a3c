-- What carrying an act out needs of an engine's parts; every state that a run comes to has it before its last step.
use Rattle.std.proofs.Common.{◌≡◌, ◌+◌, ◌<◌, ◌≤◌, ◌^◌, length, None}
use Rattle.machine.specs.Named.{find}
use Rattle.machine.specs.State.{Counts}
use Rattle.held.specs.Rows.{row_name}
use Rattle.engine.specs.Parts.{Parts}
use Rattle.faithful.specs.Sound.{Together}

-- no count comes to the end of its word by one step more
pub record Small (c : Counts) : Type 0 where
  pub steps : c.steps + 1 < 2 ^ 32
  pub made : c.made + 1 < 2 ^ 32
  pub used : c.used + 1 < 2 ^ 32
  pub forgotten : c.forgotten + 1 < 2 ^ 32
  pub numbered : c.numbered + 1 < 2 ^ 32
  pub entered : c.entered + 1 < 2 ^ 32
  pub left : c.left + 1 < 2 ^ 32

pub record Facts (p : Parts) : Type 0 where
  pub together : Together p
  pub within : length p.frames.current ≤ p.frames.depth_limit
  pub small : Small p.counts
  -- the next name is not held
  pub free : find row_name p.rows (p.counts.made + 1) ≡ None
