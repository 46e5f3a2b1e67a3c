-- A step with its line, over a buffer that has room or has not.
use Rattle.std.proofs.Common.{◌≡◌, ℕ, ◌+◌, ◌<◌, ◌≤◌, Bool, true, false, cond, nat_le, List, length, Some, None, Ok, Err, sym, refl, add-zero}
use Rattle.std.proofs.lemmas.Bool.{leb-true, leb-false}
use Rattle.machine.specs.declared.mode.Mode.{Mode}
use Rattle.machine.specs.declared.wind_move.WindMove.TheVariants.{Stay}
use Rattle.machine.specs.declared.name_move.NameMove.TheVariants.{Keep as KeepNames}
use Rattle.machine.specs.Printed.{line}
use Rattle.machine.specs.State.{State}
use Rattle.machine.specs.Apply.{Event}
use Rattle.machine.specs.Step.{Outcome, went, finished, refused}
use Rattle.printer.specs.Written.{overwrite, written}
use Rattle.printer.proofs.Overwrites.{overwrite_none}
use Rattle.engine.specs.declared.step.Step.TheVariants.{Made, Line, Finished}
use Rattle.steps.specs.declared.turn.Turn.TheVariants.{Went, NoRoom, Finished as TurnedLast}
use Rattle.engine.specs.Parts.{Parts, state_from, turned}
use Rattle.engine.specs.Acting.{Carried}
use Rattle.steps.specs.Advancing.{Turned, after_line, printing}
use Rattle.engine.specs.declared.step.Step.{Step}
use Rattle.faithful.proofs.Follows.{Reach, Follows}

module _ (p : Parts) (buffer : List ℕ) (at : ℕ) where
  -- beside the machine's outcome
  abbrev pub Turns : Outcome → Turned → Type 0
  Turns (went t b es) (Ok (Went next), new, q) = (next ≡ at + length b) × (next ≤ length buffer) × (new ≡ overwrite buffer at b) × Reach p q t
  Turns (went t b es) (Ok NoRoom, new, q) = (length buffer < at + length b) × (new ≡ buffer) × (q ≡ p)
  Turns (went t b es) (Ok TurnedLast, new, q) = ⊥
  Turns (went t b es) (Err e, new, q) = ⊥
  Turns (finished t) (Ok (Went next), new, q) = ⊥
  Turns (finished t) (Ok NoRoom, new, q) = ⊥
  Turns (finished t) (Ok TurnedLast, new, q) = (new ≡ buffer) × Reach p q t
  Turns (finished t) (Err e, new, q) = ⊥
  Turns (refused d) (Ok x, new, q) = ⊥
  Turns (refused d) (Err e, new, q) = (d ≡ e) × (new ≡ buffer) × Reach p q (state_from p)

  -- the line is written, or there is no room for it
  lined : (t : State) (b : List ℕ) (es : List Event) (m : Mode) (q : Parts) → Reach p (turned q m Stay KeepNames) t → q ≡ p
      → Turns (went t b es) (after_line (written buffer at b) at m q)
  lined t b es m q h e = go (nat_le (at + length b) (length buffer)) refl
    where
      go : (x : Bool) → nat_le (at + length b) (length buffer) ≡ x
          → Turns (went t b es) (after_line (cond x (Some (length b), overwrite buffer at b) (None, buffer)) at m q)
      go true f = (refl, leb-true _ _ f, refl, h)
      go false f = (leb-false _ _ f, refl, e)

  pub turns : (o : Outcome) (x : Carried Step) → at ≤ length buffer → Follows p o x → Turns o (printing x buffer at)
  turns (went t b es) (Ok Made, q) k h = rw h.0 (sym (add-zero at), k, sym (overwrite_none buffer at), h.1)
  turns (went t b es) (Ok (Line z m), q) k h = rw (h.0, h.1) (lined t (line z) es m p h.2 refl)
  turns (went t b es) (Ok Finished, q) k h = absurd h
  turns (went t b es) (Err e, q) k h = absurd h
  turns (finished t) (Ok Made, q) k h = absurd h
  turns (finished t) (Ok (Line z m), q) k h = absurd h
  turns (finished t) (Ok Finished, q) k h = (refl, h)
  turns (finished t) (Err e, q) k h = absurd h
  turns (refused d) (Ok a, q) k h = absurd h
  turns (refused d) (Err e, q) k h = (h.0, refl, h.1)
