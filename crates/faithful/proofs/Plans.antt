-- The plan by an engine's parts is the machine's plan of the state that they stand for.
use Rattle.std.proofs.Common.{◌≡◌, ℕ, Bool, true, false, ltb, List, [], ◌∷◌, reverse, length, Some, None, Ok, Err, Option, sym, refl, ap, ◌∙◌, mod-eq_of_lt}
use Rattle.std.specs.List.{slice_get}
use Rattle.std.specs.Option.{ok_or}
use Rattle.std.proofs.lemmas.List.{reverse-reverse, length-reverse}
use Rattle.cell.specs.declared.address.Address.{Address}
use Rattle.cell.specs.declared.name.Name.{Name}
use Rattle.cell.specs.declared.value.Value.{Value}
use Rattle.cell.specs.declared.value.Value.TheVariants.{Continuation}
use Rattle.cell.specs.declared.frame.Frame.{Frame}
use Rattle.cell.specs.declared.frame.Frame.TheVariants.{Saved, Back, Mark, Out, Hold, Toss, Enter}
use Rattle.cell.specs.declared.wind.Wind.{Wind}
use Rattle.store.specs.declared.refusal.Refusal.TheVariants.{NoIndex}
use Rattle.store.specs.Meaning.{saved_under, saved_cell_in, cell_by}
use Rattle.store.specs.Typed.{refused_as, refused_of}
use Rattle.code.specs.declared.register.Register.{Register}
use Rattle.code.specs.declared.instruction.Instruction.{Instruction}
use Rattle.code.specs.declared.instruction.Instruction.TheVariants.{Pop as PopTo, CallCc, CallOnce, Forget as ForgetIn}
use Rattle.machine.specs.declared.end.End.TheVariants.{WrongFrame, NotHeld}
use Rattle.machine.specs.declared.write.Write.TheVariants.{Register as ToRegister}
use Rattle.machine.specs.declared.frame_move.FrameMove.TheVariants.{Push, PushBoth, Pop, Replace}
use Rattle.machine.specs.declared.wind_move.WindMove.TheVariants.{Leave}
use Rattle.machine.specs.declared.name_move.NameMove.TheVariants.{SaveMany, SaveOnce}
use Rattle.machine.specs.declared.mode.Mode.{Mode}
use Rattle.machine.specs.declared.mode.Mode.TheVariants.{Going, Returning, Throwing}
use Rattle.machine.specs.Acts.{Plan, moves, writing, framing, winding, naming, does}
use Rattle.machine.specs.Checks.{Checked, ◌>>=◌, procedure, continuation, held_under, top_wind}
use Rattle.machine.specs.Going.{zeroth, reg, after, next_name, pops, execute, fetched}
use Rattle.machine.specs.Plan.{plan, plan_in}
use Rattle.machine.specs.Returning.{wind_at, again, resume, return}
use Rattle.machine.specs.State.{Capture, wind_number, wind_numbers}
use Rattle.machine.specs.StoreEnds.{wind_end}
use Rattle.machine.specs.Throwing.{common, shared, unwind, throw}
use Rattle.held.specs.declared.held_row.HeldRow.{HeldRow}
use Rattle.held.specs.Winds.{common_by}
use Rattle.engine.specs.Parts.{Parts, state_from}
use Rattle.engine.specs.Acting.{fresh}
use Rattle.steps.specs.Planning.{row_under, saved_value, wind_on_top, executing, fetching, reentering, resuming, returning, sharing, unwinding, throwing, planning, planning_in}
use Rattle.faithful.proofs.Facts.{Facts}
use Rattle.faithful.proofs.PlansNames.{Looked, unknown, known, looked, row_of, capture_of}
use Rattle.faithful.proofs.PlansTops.{head, top_is, turned_twice}

-- what follows a check
then_alike : {A B : Type 0} (m : Checked A) (f g : A → Checked B) → ((a : A) → f a ≡ g a) → (m >>= f) ≡ (m >>= g)
then_alike (Ok a) f g h = h a
then_alike (Err e) f g h = refl

-- a `pop`, by the head of the frames
pop_alike : (fs : List Frame) (at : Address) (r : Register) → (saved_value (head fs) >>= λ v. does (framing Pop (writing (ToRegister r v) (moves (Going (after at)))))) ≡ pops fs at r
pop_alike [] at r = refl
pop_alike (Saved v ∷ fs) at r = refl
pop_alike (f ∷ fs) at r = refl

-- the top wind, by the head of the winds
head_alike : (ws : List Wind) → ok_or (head ws) WrongFrame ≡ top_wind ws
head_alike [] = refl
head_alike (w ∷ ws) = refl

-- a saved wind, which may not be there
again_alike : (o : Option Wind) → reentering (ok_or o NoIndex) ≡ again o
again_alike None = refl
again_alike (Some w) = refl

module _ (p : Parts) (facts : Facts p) where
  fresh_is : fresh p ≡ next_name (state_from p)
  fresh_is = ap (λ n. record { 0 = n }) (mod-eq_of_lt facts.small.made)

  wind_is : wind_on_top p ≡ top_wind (state_from p).winds
  wind_is = ap (λ o. ok_or o WrongFrame) (top_is p.winds.current) ∙ head_alike (reverse p.winds.current)

  -- what is done with the row of a name, and with its capture
  under : (n : Name) (f : HeldRow → Plan) (g : Capture → Plan)
      → ((once : Bool) (fs : List Frame) (ws : List Wind) → saved_under p.winds.held n.0 ≡ Some ws → f (row_of n.0 once) ≡ g (capture_of n.0 once fs ws))
      → (row_under p n >>= f) ≡ (held_under (state_from p).held n >>= g)
  under n f g h = by (looked n.0 p.frames.held p.winds.held p.rows facts.together)
    where
      by : Looked n.0 p.frames.held p.winds.held p.rows → (row_under p n >>= f) ≡ (held_under (state_from p).held n >>= g)
      by (unknown a b c d) = ap (λ o. ok_or o NotHeld >>= f) c ∙ sym (ap (λ o. ok_or o NotHeld >>= g) d)
      by (known once fs ws a b c d) = ap (λ o. ok_or o NotHeld >>= f) c ∙ h once fs ws b ∙ sym (ap (λ o. ok_or o NotHeld >>= g) d)

  -- the other instructions look at no frame, wind or name
  executing-alike : (i : Instruction) (at : Address) → executing i p at ≡ execute i (state_from p) at
  executing-alike (PopTo r) at =
      ap (λ o. saved_value o >>= λ v. does (framing Pop (writing (ToRegister r v) (moves (Going (after at)))))) (top_is p.frames.current) ∙ pop_alike (reverse p.frames.current) at r
  executing-alike (CallCc r) at =
      ap (λ n. procedure (reg (state_from p) r) >>= λ q. does (naming SaveMany (writing (ToRegister zeroth (Continuation n)) (framing (Push (Back (after at))) (moves (Going q)))))) fresh_is
  executing-alike (CallOnce r) at =
      ap (λ n. procedure (reg (state_from p) r) >>= λ q. does (naming SaveOnce (writing (ToRegister zeroth (Continuation n)) (framing (PushBoth (Back (after at)) (Mark n)) (moves (Going q)))))) fresh_is
  executing-alike (ForgetIn r) at = then_alike (continuation (reg (state_from p) r)) _ _ (λ n. under n _ _ (λ once fs ws e. refl))
  executing-alike i at = refl

  fetching-alike : (o : Option Instruction) (at : Address) → fetching o p at ≡ fetched o (state_from p) at
  fetching-alike None at = refl
  fetching-alike (Some i) at = executing-alike i at

  -- the saved wind at an index
  saved_wind : (n : Name) (ws : List Wind) (i : ℕ) → saved_under p.winds.held n.0 ≡ Some ws → saved_cell_in p.winds n.0 i ≡ ok_or (wind_at (reverse ws) i) NoIndex
  saved_wind n ws i e = ap (λ o. cell_by o i) e ∙ ap (λ vs. ok_or (slice_get vs i) NoIndex) (sym (reverse-reverse ws))

  -- and at the index where the winds in force end
  saved_next : (n : Name) (ws : List Wind) → saved_under p.winds.held n.0 ≡ Some ws
      → reentering (saved_cell_in p.winds n.0 (length p.winds.current)) ≡ again (wind_at (reverse ws) (length (state_from p).winds))
  saved_next n ws e =
      ap reentering (saved_wind n ws (length p.winds.current) e)
      ∙ again_alike (wind_at (reverse ws) (length p.winds.current))
      ∙ ap (λ i. again (wind_at (reverse ws) i)) (sym (length-reverse p.winds.current))

  resuming-alike : (f : Frame) → resuming f p ≡ resume f (state_from p)
  resuming-alike (Mark n) = under n _ _ (λ once fs ws e. refl)
  resuming-alike Out = ap (λ m. m >>= λ w. does (winding Leave (framing (Replace (Hold (reg (state_from p) zeroth))) (moves (Going w.after))))) wind_is
  resuming-alike (Enter n v) = under n _ _ (λ once fs ws e. ap (λ m. does (winding m (framing Pop (moves (Throwing n v))))) (saved_next n ws e))
  resuming-alike f = refl

  returning-alike : (fs : List Frame) → returning (head fs) p ≡ return fs (state_from p)
  returning-alike [] = refl
  returning-alike (f ∷ fs) = resuming-alike f

  -- how many winds are common
  sharing_is : (n : Name) (ws : List Wind) → saved_under p.winds.held n.0 ≡ Some ws → sharing p n ≡ Ok (shared (state_from p).winds (reverse ws))
  sharing_is n ws e =
      ap (λ o. refused_as (λ r. wind_end (refused_of r)) (common_by p.winds.current o)) e
      ∙ ap (λ ns. Ok (common ns (wind_numbers ws))) (sym (turned_twice wind_number p.winds.current))
      ∙ ap (λ ns. Ok (common (reverse (wind_numbers (reverse p.winds.current))) ns)) (sym (turned_twice wind_number ws))

  unwinding-alike : (b : Bool) (o : Option Wind) (once : Bool) (fs : List Frame) (ws : List Wind) (n : Name) (v : Value)
      → unwinding b (ok_or o NoIndex) (row_of n.0 once) n v p ≡ unwind b o (capture_of n.0 once fs ws) n v (state_from p)
  unwinding-alike true o once fs ws n v = ap (λ m. m >>= λ w. does (winding Leave (framing (Push (Toss n v)) (moves (Going w.after))))) wind_is
  unwinding-alike false (Some w) once fs ws n v = refl
  unwinding-alike false None once fs ws n v = refl

  -- the way of a throw, from what is held under its name
  way_alike : (once : Bool) (fs : List Frame) (ws : List Wind) (n : Name) (v : Value) → saved_under p.winds.held n.0 ≡ Some ws
      → (sharing p n >>= λ c. unwinding (ltb c (length p.winds.current)) (saved_cell_in p.winds n.0 c) (row_of n.0 once) n v p)
      ≡ unwind (ltb (shared (state_from p).winds (reverse ws)) (length (state_from p).winds)) (wind_at (reverse ws) (shared (state_from p).winds (reverse ws))) (capture_of n.0 once fs ws) n v (state_from p)
  way_alike once fs ws n v e =
      let c = shared (state_from p).winds (reverse ws) in
      ap (λ m. m >>= λ k. unwinding (ltb k (length p.winds.current)) (saved_cell_in p.winds n.0 k) (row_of n.0 once) n v p) (sharing_is n ws e)
      ∙ ap (λ r. unwinding (ltb c (length p.winds.current)) r (row_of n.0 once) n v p) (saved_wind n ws c e)
      ∙ unwinding-alike (ltb c (length p.winds.current)) (wind_at (reverse ws) c) once fs ws n v
      ∙ ap (λ i. unwind (ltb c i) (wind_at (reverse ws) c) (capture_of n.0 once fs ws) n v (state_from p)) (sym (length-reverse p.winds.current))

  throwing-alike : (n : Name) (v : Value) → throwing n v p ≡ throw n v (state_from p)
  throwing-alike n v = under n _ _ (λ once fs ws e. way_alike once fs ws n v e)

  planning-alike : (m : Mode) (code : List Instruction) → planning_in m code p ≡ plan_in m code (state_from p)
  planning-alike (Going at) code = fetching-alike (slice_get code at.0) at
  planning-alike Returning code = ap (λ o. returning o p) (top_is p.frames.current) ∙ returning-alike (reverse p.frames.current)
  planning-alike (Throwing n v) code = throwing-alike n v

pub plans_alike : (code : List Instruction) (p : Parts) → Facts p → planning code p ≡ plan code (state_from p)
plans_alike code p facts = planning-alike p facts p.mode code
