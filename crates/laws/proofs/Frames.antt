-- A walk down the frames with the winds in force: each Out takes one wind, and a frame of a throw cuts the walk.
use Rattle.std.proofs.Common.{List, [], ◌∷◌}
use Rattle.std.specs.List.{AllByRecursion as All}
use Rattle.cell.specs.declared.frame.Frame.{Frame}
use Rattle.cell.specs.declared.frame.Frame.TheVariants.{Saved, Back, Mark, In, Out, Hold, Toss, Enter}

-- the frames that the walk passes by
abbrev pub Passed : Frame → Type 0
Passed (Saved v) = Unit {0}
Passed (Back p) = Unit {0}
Passed (Mark n) = Unit {0}
Passed (In before body then) = Unit {0}
Passed Out = ⊥
Passed (Hold v) = Unit {0}
Passed (Toss n v) = ⊥
Passed (Enter n v) = ⊥

-- what is asked where the frames end, and at a frame that cuts the walk, with the frames and the winds that are left
module _ {W : Type 0} (Bottom : List W → Type 0) (Cut : Frame → List Frame → List W → Type 0) where
  abbrev pub Walk : List Frame → List W → Type 0
  Walk [] ws = Bottom ws
  Walk (Saved v ∷ fs) ws = Walk fs ws
  Walk (Back p ∷ fs) ws = Walk fs ws
  Walk (Mark n ∷ fs) ws = Walk fs ws
  Walk (In before body then ∷ fs) ws = Walk fs ws
  Walk (Out ∷ fs) [] = ⊥
  Walk (Out ∷ fs) (w ∷ ws) = Walk fs ws
  Walk (Hold v ∷ fs) ws = Walk fs ws
  Walk (Toss n v ∷ fs) ws = Cut (Toss n v) fs ws
  Walk (Enter n v ∷ fs) ws = Cut (Enter n v) fs ws

  pub walk_push : (f : Frame) (fs : List Frame) (ws : List W) → Passed f → Walk fs ws → Walk (f ∷ fs) ws
  walk_push (Saved v) fs ws p h = h
  walk_push (Back q) fs ws p h = h
  walk_push (Mark n) fs ws p h = h
  walk_push (In before body then) fs ws p h = h
  walk_push Out fs ws p h = absurd p
  walk_push (Hold v) fs ws p h = h
  walk_push (Toss n v) fs ws p h = absurd p
  walk_push (Enter n v) fs ws p h = absurd p

  pub walk_pop : (f : Frame) (fs : List Frame) (ws : List W) → Passed f → Walk (f ∷ fs) ws → Walk fs ws
  walk_pop (Saved v) fs ws p h = h
  walk_pop (Back q) fs ws p h = h
  walk_pop (Mark n) fs ws p h = h
  walk_pop (In before body then) fs ws p h = h
  walk_pop Out fs ws p h = absurd p
  walk_pop (Hold v) fs ws p h = h
  walk_pop (Toss n v) fs ws p h = absurd p
  walk_pop (Enter n v) fs ws p h = absurd p

-- a walk goes on where what is asked is weaker, at the frames of which P holds
module _ {W : Type 0} (Bottom : List W → Type 0) (Cut Cut' : Frame → List Frame → List W → Type 0) (P : Frame → Type 0)
    (weaker : (f : Frame) (fs : List Frame) (ws : List W) → P f → Cut f fs ws → Cut' f fs ws) where
  pub walk_weaker : (fs : List Frame) (ws : List W) → All P fs → Walk Bottom Cut fs ws → Walk Bottom Cut' fs ws
  walk_weaker [] ws p h = h
  walk_weaker (Saved v ∷ fs) ws p h = walk_weaker fs ws p.1 h
  walk_weaker (Back q ∷ fs) ws p h = walk_weaker fs ws p.1 h
  walk_weaker (Mark n ∷ fs) ws p h = walk_weaker fs ws p.1 h
  walk_weaker (In before body then ∷ fs) ws p h = walk_weaker fs ws p.1 h
  walk_weaker (Out ∷ fs) [] p h = absurd h
  walk_weaker (Out ∷ fs) (w ∷ ws) p h = walk_weaker fs ws p.1 h
  walk_weaker (Hold v ∷ fs) ws p h = walk_weaker fs ws p.1 h
  walk_weaker (Toss n v ∷ fs) ws p h = weaker (Toss n v) fs ws p.0 h
  walk_weaker (Enter n v ∷ fs) ws p h = weaker (Enter n v) fs ws p.0 h
