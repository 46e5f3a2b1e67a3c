-- Opening a run on two stores.
use Rattle.std.specs.Prelude.{ℕ, min, Bool, cond, ◌&&◌, List, [], length, ℤ, Some, None, Option, ◌==◌, nat_le}
use Rattle.cell.specs.declared.cell.Cell.{Cell}
use Rattle.store.specs.Meaning.{Meaning}
use Rattle.code.specs.declared.instruction.Instruction.{Instruction}
use Rattle.machine.specs.declared.end.End.{End}
use Rattle.machine.specs.declared.end.End.TheVariants.{UnfitStores}
use Rattle.machine.specs.State.{State, Limits, start}

-- what a store offers a run that is opened on it
pub record Offer : Type 0 where
  -- its current list, the bottom first, and how many names it holds
  pub cells : List Cell
  pub names : ℕ
  pub depth_limit : ℕ
  pub held_limit : ℕ
  pub limit_level : ℕ

-- what a store offers, by its meaning
abbrev pub offer_of : Meaning Cell → Offer
offer_of m = record {
  cells = m.current;
  names = length m.held;
  depth_limit = m.depth_limit;
  held_limit = m.held_limit;
  limit_level = m.limit_level;
}

-- the least depth limit for frames
abbrev pub least_frames : ℕ
least_frames = 16

-- the least depth limit for winds
abbrev pub least_winds : ℕ
least_winds = 4

-- the least held limit of either store
abbrev pub least_held : ℕ
least_held = 2

-- the most names that a run can hold, whatever its stores can
abbrev pub most_held : ℕ
most_held = 64

-- whether a store is fit for a run: empty, without names, and with limits that are large enough
abbrev pub fit : ℕ → Offer → Bool
fit least_depth o =
    (length o.cells == 0) && (o.names == 0 && (nat_le least_held o.held_limit && nat_le least_depth o.depth_limit))

-- whether both stores are fit
abbrev pub both_fit : Offer → Offer → Bool
both_fit frames winds = fit least_frames frames && fit least_winds winds

-- the limits that the two stores give a run
abbrev pub limits_of : Offer → Offer → Limits
limits_of frames winds = record {
  frames = frames.depth_limit;
  frames_level = frames.limit_level;
  winds = winds.depth_limit;
  winds_level = winds.limit_level;
  held = min most_held (min frames.held_limit winds.held_limit);
}

-- a run: its code and limits, which never change, its state, and its end once it has ended
pub record Run : Type 0 where
  pub code : List Instruction
  pub limits : Limits
  -- what stood in its two stores when it was opened, below all that it pushes itself: nothing, if they were fit
  pub frames_below : List Cell
  pub winds_below : List Cell
  pub state : State
  pub end : Option End

-- a run at its start
abbrev pub started : List Instruction → List ℤ → Limits → Run
started code numbers l = record { code = code; limits = l; frames_below = []; winds_below = []; state = start numbers; end = None }

-- A run that was opened on unfit stores: it has ended at once, and leaves them as they are. Nothing will read its globals, so it has none.
abbrev pub unfit : List Instruction → Offer → Offer → Run
unfit code frames winds = record {
  code = code;
  limits = limits_of frames winds;
  frames_below = frames.cells;
  winds_below = winds.cells;
  state = start [];
  end = Some UnfitStores;
}

-- a run just opened
abbrev pub opened : List Instruction → List ℤ → Offer → Offer → Run
opened code numbers frames winds = cond (both_fit frames winds) (started code numbers (limits_of frames winds)) (unfit code frames winds)
