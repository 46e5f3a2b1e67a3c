-- The acts that a plan gives, by their shape.
use Rattle.std.proofs.Common.{◌≡◌, ℤ, List, ◌∷◌, reverse, Some, None, Ok, Err}
use Rattle.cell.specs.declared.address.Address.{Address}
use Rattle.cell.specs.declared.name.Name.{Name}
use Rattle.cell.specs.declared.frame.Frame.{Frame}
use Rattle.cell.specs.declared.wind.Wind.{Wind}
use Rattle.machine.specs.declared.act.Act.{Act}
use Rattle.machine.specs.declared.mode.Mode.{Mode}
use Rattle.machine.specs.declared.write.Write.{Write}
use Rattle.machine.specs.declared.frame_move.FrameMove.TheVariants.{Push, PushBoth, Pop, Replace, Restore}
use Rattle.machine.specs.declared.wind_move.WindMove.TheVariants.{Open, Reenter, Leave}
use Rattle.machine.specs.declared.name_move.NameMove.TheVariants.{SaveMany, SaveOnce, Use, Forget}
use Rattle.machine.specs.Acts.{Plan, moves, writing, framing, winding, naming, printing}
use Rattle.machine.specs.Named.{find}
use Rattle.machine.specs.State.{Capture, capture_name}
use Rattle.engine.specs.Parts.{Parts, state_from}

-- there is a frame on top
abbrev pub SomeFrame : Parts → Type 0
SomeFrame p = (f : Frame) × (fs : List Frame) × (reverse p.frames.current ≡ f ∷ fs)

-- there is a wind in force
abbrev pub SomeWind : Parts → Type 0
SomeWind p = (w : Wind) × (ws : List Wind) × (reverse p.winds.current ≡ w ∷ ws)

-- a name is held
abbrev pub IsHeld : Parts → Name → Type 0
IsHeld p n = (c : Capture) × (find capture_name (state_from p).held n.0 ≡ Some c)

pub data Legal (p : Parts) : Act → Type 0 where
  plain : (w : Write) (m : Mode) → Legal p (writing w (moves m))
  prints : (z : ℤ) (m : Mode) → Legal p (printing z (moves m))
  pushes : (f : Frame) (m : Mode) → Legal p (framing (Push f) (moves m))
  pushes_both : (f g : Frame) (m : Mode) → Legal p (framing (PushBoth f g) (moves m))
  pops : (w : Write) (m : Mode) → SomeFrame p → Legal p (framing Pop (writing w (moves m)))
  opens : (before after : Address) (f : Frame) (m : Mode) → SomeFrame p → Legal p (winding (Open before after) (framing (Replace f) (moves m)))
  closes : (f : Frame) (m : Mode) → SomeFrame p → SomeWind p → Legal p (winding Leave (framing (Replace f) (moves m)))
  throws_out : (f : Frame) (m : Mode) → SomeWind p → Legal p (winding Leave (framing (Push f) (moves m)))
  reenters : (w : Wind) (m : Mode) → SomeFrame p → Legal p (winding (Reenter w) (framing Pop (moves m)))
  saves_many : (f : Frame) (w : Write) (m : Mode) → Legal p (naming SaveMany (writing w (framing (Push f) (moves m))))
  saves_once : (f g : Frame) (w : Write) (m : Mode) → Legal p (naming SaveOnce (writing w (framing (PushBoth f g) (moves m))))
  forgets : (n : Name) (m : Mode) → IsHeld p n → Legal p (naming (Forget n) (moves m))
  uses : (n : Name) (m : Mode) → IsHeld p n → SomeFrame p → Legal p (naming (Use n) (framing Pop (moves m)))
  lands : (n : Name) (w : Write) (m : Mode) → IsHeld p n → Legal p (writing w (framing (Restore n) (moves m)))
  lands_using : (n : Name) (w : Write) (m : Mode) → IsHeld p n → Legal p (writing w (naming (Use n) (framing (Restore n) (moves m))))

-- a plan whose act, if it has one, is such
abbrev pub LegalPlan : Parts → Plan → Type 0
LegalPlan p (Err e) = Unit {0}
LegalPlan p (Ok None) = Unit {0}
LegalPlan p (Ok (Some a)) = Legal p a
