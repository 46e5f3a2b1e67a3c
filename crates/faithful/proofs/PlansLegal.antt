-- The acts that the machine plans for the state of an engine have one of the shapes in Legal.
use Rattle.std.proofs.Common.{◌≡◌, Bool, true, false, cond, ltb, List, [], ◌∷◌, reverse, length, ℤ, ◌+ℤ◌, ◌-ℤ◌, Some, None, Ok, Err, Option, refl}
use Rattle.std.specs.List.{slice_get}
use Rattle.std.specs.Option.{ok_or}
use Rattle.cell.specs.declared.address.Address.{Address}
use Rattle.cell.specs.declared.name.Name.{Name}
use Rattle.cell.specs.declared.value.Value.{Value}
use Rattle.cell.specs.declared.value.Value.TheVariants.{Empty, Number, Procedure, Continuation}
use Rattle.cell.specs.declared.frame.Frame.{Frame}
use Rattle.cell.specs.declared.frame.Frame.TheVariants.{Saved, Back, Mark, In, Out, Hold, Toss, Enter}
use Rattle.cell.specs.declared.wind.Wind.{Wind}
use Rattle.code.specs.declared.register.Register.{Register}
use Rattle.code.specs.declared.instruction.Instruction.{Instruction}
use Rattle.code.specs.declared.instruction.Instruction.TheVariants.{Set, Proc, Load, Store as StoreTo, Add, Sub, Less, Jump, Zero, Push as PushFrom, Pop as PopTo, Print, Call, Tail, CallCc, CallOnce, Forget as ForgetIn, DynamicWind, Return, Stop}
use Rattle.machine.specs.declared.end.End.TheVariants.{NotHeld}
use Rattle.machine.specs.declared.write.Write.TheVariants.{Register as ToRegister}
use Rattle.machine.specs.declared.frame_move.FrameMove.TheVariants.{Keep, Push, Pop, Restore}
use Rattle.machine.specs.declared.name_move.NameMove.TheVariants.{Keep as KeepNames, Use}
use Rattle.machine.specs.declared.mode.Mode.{Mode}
use Rattle.machine.specs.declared.mode.Mode.TheVariants.{Going, Returning, Throwing}
use Rattle.machine.specs.Acts.{Plan, moves, writing, framing, winding, naming, does}
use Rattle.machine.specs.Named.{find}
use Rattle.machine.specs.State.{Capture, capture_name}
use Rattle.machine.specs.Checks.{Checked, ◌>>=◌, number, procedure, continuation, signed_word, held_under, top_wind}
use Rattle.machine.specs.Going.{zeroth, reg, pops, enters_by, execute, fetched, both_numbers}
use Rattle.machine.specs.Returning.{wind_at, again, resume, return}
use Rattle.machine.specs.Throwing.{shared, unwind, throw}
use Rattle.machine.specs.Plan.{plan, plan_in}
use Rattle.engine.specs.Parts.{Parts, state_from}
use Rattle.faithful.proofs.Facts.{Facts}
use Rattle.faithful.proofs.Legal.{SomeFrame, SomeWind, IsHeld, LegalPlan, plain, prints, pushes, pushes_both, pops as pops_top, opens, closes, throws_out, reenters, saves_many, saves_once, forgets, uses, lands, lands_using}

module _ (p : Parts) where
  -- what follows a check
  checked : {A : Type 0} (m : Checked A) (f : A → Plan) → ((a : A) → LegalPlan p (f a)) → LegalPlan p (m >>= f)
  checked (Ok a) f h = h a
  checked (Err e) f h = tt

  -- what follows the look-up of a name
  holding : (n : Name) (f : Capture → Plan) → (IsHeld p n → (c : Capture) → LegalPlan p (f c)) → LegalPlan p (held_under (state_from p).held n >>= f)
  holding n f h = by (find capture_name (state_from p).held n.0) refl
    where
      by : (o : Option Capture) → find capture_name (state_from p).held n.0 ≡ o → LegalPlan p (ok_or o NotHeld >>= f)
      by None e = tt
      by (Some c) e = h (c, e) c

  -- what follows a look at the top wind
  topping : (f : Wind → Plan) → (SomeWind p → (w : Wind) → LegalPlan p (f w)) → LegalPlan p (top_wind (state_from p).winds >>= f)
  topping f h = by (reverse p.winds.current) refl
    where
      by : (ws : List Wind) → reverse p.winds.current ≡ ws → LegalPlan p (top_wind ws >>= f)
      by [] e = tt
      by (w ∷ ws) e = h (w, ws, e) w

  legal_pops : (fs : List Frame) (at : Address) (r : Register) → reverse p.frames.current ≡ fs → LegalPlan p (pops fs at r)
  legal_pops [] at r e = tt
  legal_pops (Saved v ∷ fs) at r e = pops_top _ _ (Saved v, fs, e)
  legal_pops (f ∷ fs) at r e = tt

  legal_call : (f : Frame) (v u : Value) → LegalPlan p (enters_by (Push f) v u)
  legal_call f Empty u = tt
  legal_call f (Number z) u = tt
  legal_call f (Procedure q) u = pushes _ _
  legal_call f (Continuation n) u = plain _ _

  legal_tail : (v u : Value) → LegalPlan p (enters_by Keep v u)
  legal_tail Empty u = tt
  legal_tail (Number z) u = tt
  legal_tail (Procedure q) u = plain _ _
  legal_tail (Continuation n) u = plain _ _

  legal_numbers : (b c : Register) (f : ℤ → ℤ → Plan) → ((x y : ℤ) → LegalPlan p (f x y)) → LegalPlan p (both_numbers (state_from p) b c f)
  legal_numbers b c f h = checked (number (reg (state_from p) b)) _ (λ x. checked (number (reg (state_from p) c)) _ (h x))

  legal_execute : (i : Instruction) (at : Address) → LegalPlan p (execute i (state_from p) at)
  legal_execute (Set r z) at = plain _ _
  legal_execute (Proc r q) at = plain _ _
  legal_execute (Load r g) at = plain _ _
  legal_execute (StoreTo g r) at = plain _ _
  legal_execute (Add a b c) at = legal_numbers b c _ (λ x y. checked (signed_word (x +ℤ y)) _ (λ z. plain _ _))
  legal_execute (Sub a b c) at = legal_numbers b c _ (λ x y. checked (signed_word (x -ℤ y)) _ (λ z. plain _ _))
  legal_execute (Less a b c) at = legal_numbers b c _ (λ x y. plain _ _)
  legal_execute (Jump q) at = plain _ _
  legal_execute (Zero r q) at = checked (number (reg (state_from p) r)) _ (λ z. plain _ _)
  legal_execute (PushFrom r) at = pushes _ _
  legal_execute (PopTo r) at = legal_pops (reverse p.frames.current) at r refl
  legal_execute (Print r) at = checked (number (reg (state_from p) r)) _ (λ z. prints _ _)
  legal_execute (Call r) at = legal_call _ (reg (state_from p) r) (reg (state_from p) zeroth)
  legal_execute (Tail r) at = legal_tail (reg (state_from p) r) (reg (state_from p) zeroth)
  legal_execute (CallCc r) at = checked (procedure (reg (state_from p) r)) _ (λ q. saves_many _ _ _)
  legal_execute (CallOnce r) at = checked (procedure (reg (state_from p) r)) _ (λ q. saves_once _ _ _ _)
  legal_execute (ForgetIn r) at = checked (continuation (reg (state_from p) r)) _ (λ n. holding n _ (λ h c. forgets n _ h))
  legal_execute (DynamicWind a b c) at =
      checked (procedure (reg (state_from p) a)) _ (λ x. checked (procedure (reg (state_from p) b)) _ (λ y. checked (procedure (reg (state_from p) c)) _ (λ z. pushes_both _ _ _)))
  legal_execute Return at = plain _ _
  legal_execute Stop at = tt

  legal_fetched : (o : Option Instruction) (at : Address) → LegalPlan p (fetched o (state_from p) at)
  legal_fetched None at = tt
  legal_fetched (Some i) at = legal_execute i at

  -- a Mark is popped, which may use its name up
  legal_mark : (once : Bool) (n : Name) → IsHeld p n → SomeFrame p → LegalPlan p (does (naming (cond once (Use n) KeepNames) (framing Pop (moves Returning))))
  legal_mark true n h t = uses n _ h t
  legal_mark false n h t = pops_top _ _ t

  -- a wind is entered again, if there is one
  legal_again : (o : Option Wind) (n : Name) (v : Value) → SomeFrame p → LegalPlan p (does (winding (again o) (framing Pop (moves (Throwing n v)))))
  legal_again None n v t = pops_top _ _ t
  legal_again (Some w) n v t = reenters _ _ t

  legal_resume : (f : Frame) → SomeFrame p → LegalPlan p (resume f (state_from p))
  legal_resume (Saved v) t = tt
  legal_resume (Back at) t = pops_top _ _ t
  legal_resume (Mark n) t = holding n _ (λ h c. legal_mark c.once n h t)
  legal_resume (In before body then) t = opens _ _ _ _ t
  legal_resume Out t = topping _ (λ s w. closes _ _ t s)
  legal_resume (Hold v) t = pops_top _ _ t
  legal_resume (Toss n v) t = pops_top _ _ t
  legal_resume (Enter n v) t = holding n _ (λ h c. legal_again (wind_at c.winds (length (state_from p).winds)) n v t)

  legal_return : (fs : List Frame) → reverse p.frames.current ≡ fs → LegalPlan p (return fs (state_from p))
  legal_return [] e = tt
  legal_return (f ∷ fs) e = legal_resume f (f, fs, e)

  -- the saved frames are restored, which may use the name up
  legal_land : (once : Bool) (n : Name) (v : Value) → IsHeld p n → LegalPlan p (does (writing (ToRegister zeroth v) (naming (cond once (Use n) KeepNames) (framing (Restore n) (moves Returning)))))
  legal_land true n v h = lands_using n _ _ h
  legal_land false n v h = lands n _ _ h

  legal_unwind : (b : Bool) (o : Option Wind) (c : Capture) (n : Name) (v : Value) → IsHeld p n → LegalPlan p (unwind b o c n v (state_from p))
  legal_unwind true o c n v h = topping _ (λ s w. throws_out _ _ s)
  legal_unwind false (Some w) c n v h = pushes _ _
  legal_unwind false None c n v h = legal_land c.once n v h

  legal_throw : (n : Name) (v : Value) → LegalPlan p (throw n v (state_from p))
  legal_throw n v = holding n _ (λ h c. legal_unwind (ltb (shared (state_from p).winds c.winds) (length (state_from p).winds)) (wind_at c.winds (shared (state_from p).winds c.winds)) c n v h)

  legal_in : (m : Mode) (code : List Instruction) → LegalPlan p (plan_in m code (state_from p))
  legal_in (Going at) code = legal_fetched (slice_get code at.0) at
  legal_in Returning code = legal_return (reverse p.frames.current) refl
  legal_in (Throwing n v) code = legal_throw n v

pub plan_legal : (code : List Instruction) (p : Parts) → Facts p → LegalPlan p (plan code (state_from p))
plan_legal code p facts = legal_in p p.mode code
