-- What a plan can come to, said once: every law of the machine looks at these cases, and only this file looks at instructions.
use Rattle.std.proofs.Common.{◌≡◌, ℕ, zero, suc, ◌≤◌, Bool, true, false, cond, ltb, List, [], ◌∷◌, length, get_or, ℤ, pos, negsuc, ◌+ℤ◌, ◌-ℤ◌, Some, None, Ok, Err, Option, refl}
use lib.Signed.{le_z}
use Rattle.std.specs.List.{slice_get, AllByRecursion as All}
use Rattle.std.specs.Option.{ok_or}
use Rattle.std.proofs.lemmas.Bool.{ltb-false}
use Rattle.cell.specs.declared.address.Address.{Address}
use Rattle.cell.specs.declared.name.Name.{Name}
use Rattle.cell.specs.declared.value.Value.{Value}
use Rattle.cell.specs.declared.value.Value.TheVariants.{Empty, Number, Procedure, Continuation}
use Rattle.cell.specs.declared.frame.Frame.{Frame}
use Rattle.cell.specs.declared.frame.Frame.TheVariants.{Saved, Back, Mark, In, Out, Hold, Toss, Enter}
use Rattle.cell.specs.declared.wind.Wind.{Wind}
use Rattle.code.specs.declared.register.Register.{Register}
use Rattle.code.specs.declared.instruction.Instruction.{Instruction}
use Rattle.code.specs.declared.instruction.Instruction.TheVariants.{Set, Proc, Load, Store, Add, Sub, Less, Jump, Zero, Push, Pop, Print, Call, Tail, CallCc, CallOnce, Forget, DynamicWind, Return, Stop}
use Rattle.machine.specs.declared.act.Act.{Act}
use Rattle.machine.specs.declared.write.Write.{Write}
use Rattle.machine.specs.declared.write.Write.TheVariants.{Nothing, Register as ToRegister, Global as ToGlobal}
use Rattle.machine.specs.declared.frame_move.FrameMove.{FrameMove}
use Rattle.machine.specs.declared.frame_move.FrameMove.TheVariants.{Keep, Push as PushOne, PushBoth, Pop as PopOne, Replace, Restore}
use Rattle.machine.specs.declared.wind_move.WindMove.{WindMove}
use Rattle.machine.specs.declared.wind_move.WindMove.TheVariants.{Stay, Open, Leave}
use Rattle.machine.specs.declared.name_move.NameMove.{NameMove}
use Rattle.machine.specs.declared.name_move.NameMove.TheVariants.{Keep as KeepNames, SaveMany, SaveOnce, Forget as ForgetName}
use Rattle.machine.specs.declared.mode.Mode.{Mode}
use Rattle.machine.specs.declared.mode.Mode.TheVariants.{Going, Returning, Throwing}
use Rattle.machine.specs.declared.end.End.TheVariants.{SumOutOfRange, NotHeld}
use Rattle.machine.specs.Named.{find}
use Rattle.machine.specs.Names.{value_names, mode_names}
use Rattle.machine.specs.State.{State, Capture, capture_name}
use Rattle.machine.specs.Checks.{Checked, ◌>>=◌, number, procedure, continuation, signed_word, held_under, top_wind}
use Rattle.machine.specs.Acts.{Plan}
use Rattle.machine.specs.Going.{zeroth, reg, next_name, pops, enters_by, execute, fetched, both_numbers}
use Rattle.machine.specs.Returning.{spends, wind_at, again, resume, return}
use Rattle.machine.specs.Throwing.{shared, unwind, throw}
use Rattle.machine.specs.Plan.{plan, plan_in}
use Rattle.laws.specs.Counts.{Made, ValueMade, FrameMade, NamesMade}
use Rattle.laws.specs.Reached.{PlanEnd, AtRest}
use Rattle.laws.proofs.Frames.{Passed}

-- the names in what is written
abbrev pub write_names : Write → List ℕ
write_names Nothing = []
write_names (ToRegister r v) = value_names v
write_names (ToGlobal g v) = value_names v

-- an act, from its parts
abbrev pub act : Write → FrameMove → WindMove → NameMove → Mode → Option ℤ → Act
act write frames winds names mode line = record { write = write; frames = frames; winds = winds; names = names; mode = mode; line = line }

module _ (s : State) where
  -- the name holds this
  abbrev pub Holds : Name → Capture → Type 0
  Holds n c = find capture_name s.held n.0 ≡ Some c

  -- what a step can do while no throw is under way
  pub data Rested : Act → Type 0 where
    -- a write, a line and a new mode, and nothing else
    writes : (w : Write) (m : Mode) (line : Option ℤ) → All (Made s) (write_names w) → All (Made s) (mode_names m) → Rested (act w Keep Stay KeepNames m line)
    -- one or two frames are pushed
    pushes : (f : Frame) (p : Address) → Passed f → FrameMade s f → Rested (act Nothing (PushOne f) Stay KeepNames (Going p) None)
    pushes_both : (f g : Frame) (p : Address) → Passed f → Passed g → FrameMade s f → FrameMade s g → Rested (act Nothing (PushBoth f g) Stay KeepNames (Going p) None)
    -- a frame is popped
    pops_one : (f : Frame) (fs : List Frame) (w : Write) (m : Mode) → s.frames ≡ f ∷ fs → Passed f → All (Made s) (write_names w) → All (Made s) (mode_names m)
        → Rested (act w PopOne Stay KeepNames m None)
    -- a Mark is popped, which may use its name up
    passes_mark : (n : Name) (c : Capture) (fs : List Frame) → s.frames ≡ Mark n ∷ fs → Holds n c → Rested (act Nothing PopOne Stay (spends c n) Returning None)
    -- a name is made
    captures-many : (p q : Address) → Rested (act (ToRegister zeroth (Continuation (next_name s))) (PushOne (Back p)) Stay SaveMany (Going q) None)
    captures-once : (p q : Address) → Rested (act (ToRegister zeroth (Continuation (next_name s))) (PushBoth (Back p) (Mark (next_name s))) Stay SaveOnce (Going q) None)
    -- a name is forgotten
    forgets : (n : Name) (c : Capture) (p : Address) → Holds n c → Rested (act Nothing Keep Stay (ForgetName n) (Going p) None)
    -- a wind is entered, and left, by its own body
    opens : (before body then : Address) (fs : List Frame) → s.frames ≡ In before body then ∷ fs → Rested (act Nothing (Replace Out) (Open before then) KeepNames (Going body) None)
    closes : (w : Wind) (ws : List Wind) (fs : List Frame) → s.frames ≡ Out ∷ fs → s.winds ≡ w ∷ ws → ValueMade s (reg s zeroth)
        → Rested (act Nothing (Replace (Hold (reg s zeroth))) Leave KeepNames (Going w.after) None)
    -- a throw goes on after an after, or after a before
    tosses : (n : Name) (v : Value) (fs : List Frame) → s.frames ≡ Toss n v ∷ fs → All (Made s) (mode_names (Throwing n v)) → Rested (act Nothing PopOne Stay KeepNames (Throwing n v) None)
    reenters : (n : Name) (v : Value) (fs : List Frame) (c : Capture) (next : Option Wind) → s.frames ≡ Enter n v ∷ fs → Holds n c
        → wind_at c.winds (length s.winds) ≡ next → All (Made s) (mode_names (Throwing n v)) → Rested (act Nothing PopOne (again next) KeepNames (Throwing n v) None)

  -- what a step of a throw to n with v can do
  pub data Thrown (n : Name) (v : Value) : Act → Type 0 where
    -- it leaves a wind
    throws_out : (c : Capture) (w : Wind) (ws : List Wind) → Holds n c → s.winds ≡ w ∷ ws → Thrown n v (act Nothing (PushOne (Toss n v)) Leave KeepNames (Going w.after) None)
    -- it is about to enter one
    throws_in : (c : Capture) (w : Wind) → Holds n c → length s.winds ≤ shared s.winds c.winds
        → Thrown n v (act Nothing (PushOne (Enter n v)) Stay KeepNames (Going w.before) None)
    -- it comes to its end
    lands : (c : Capture) → Holds n c → length s.winds ≤ shared s.winds c.winds → wind_at c.winds (shared s.winds c.winds) ≡ None
        → Thrown n v (act (ToRegister zeroth v) (Restore n) Stay (spends c n) Returning None)

  pub data Planned (a : Act) : Type 0 where
    rested : AtRest s.mode → Rested a → Planned a
    thrown : (n : Name) (v : Value) → All (Made s) (mode_names (Throwing n v)) → Thrown n v a → Planned a

-- P of the act, if there is one; an end is one that a plan can have
abbrev pub Acts : (Act → Type 0) → Plan → Type 0
Acts P (Err e) = PlanEnd e
Acts P (Ok None) = Unit {0}
Acts P (Ok (Some a)) = P a

-- a check that fails gives such an end
abbrev Plain : {A : Type 0} → Checked A → Type 0
Plain (Ok a) = Unit {0}
Plain (Err e) = PlanEnd e

checked : {A : Type 0} (P : Act → Type 0) (m : Checked A) (f : A → Plan) → Plain m → ((a : A) → m ≡ Ok a → Acts P (f a)) → Acts P (m >>= f)
checked P (Ok a) f p h = h a refl
checked P (Err e) f p h = p

plain-number : (v : Value) → Plain (number v)
plain-number Empty = tt
plain-number (Number z) = tt
plain-number (Procedure p) = tt
plain-number (Continuation n) = tt

plain-procedure : (v : Value) → Plain (procedure v)
plain-procedure Empty = tt
plain-procedure (Number z) = tt
plain-procedure (Procedure p) = tt
plain-procedure (Continuation n) = tt

plain-continuation : (v : Value) → Plain (continuation v)
plain-continuation Empty = tt
plain-continuation (Number z) = tt
plain-continuation (Procedure p) = tt
plain-continuation (Continuation n) = tt

plain_word : (z : ℤ) → Plain (signed_word z)
plain_word z = go (le_z z (pos 2147483647)) (le_z (negsuc 2147483647) z)
  where
    go : (b c : Bool) → Plain (cond b (cond c (Ok z) (Err SumOutOfRange)) (Err SumOutOfRange))
    go true true = tt
    go true false = tt
    go false c = tt

plain-held : (cs : List Capture) (n : Name) → Plain (held_under cs n)
plain-held cs n = go (find capture_name cs n.0)
  where
    go : (o : Option Capture) → Plain (ok_or o NotHeld)
    go None = tt
    go (Some c) = tt

plain_top : (ws : List Wind) → Plain (top_wind ws)
plain_top [] = tt
plain_top (w ∷ ws) = tt

-- a held name is found
holds : (s : State) (n : Name) (c : Capture) (o : Option Capture) → ok_or o NotHeld ≡ Ok c → o ≡ Some c
holds s n c None e = cc
holds s n c (Some d) e = cc

some_wind : (ws : List Wind) (w : Wind) → top_wind ws ≡ Ok w → (vs : List Wind) × (ws ≡ w ∷ vs)
some_wind [] w e = cc
some_wind (v ∷ vs) w e = (vs, cc)

-- the value in a register or a global
value_at : (P : ℕ → Type 0) (vs : List Value) (i : ℕ) → All (λ v. All P (value_names v)) vs → All P (value_names (get_or vs i Empty))
value_at P [] i h = tt
value_at P (v ∷ vs) zero h = h.0
value_at P (v ∷ vs) (suc i) h = value_at P vs i h.1

module _ (s : State) (k : NamesMade s) where
  in_register : (r : Register) → ValueMade s (reg s r)
  in_register r = value_at (Made s) s.registers r.0 k.registers

  rested_pops : (p : Address) (r : Register) (fs : List Frame) → s.frames ≡ fs → All (FrameMade s) fs → Acts (Rested s) (pops fs p r)
  rested_pops p r [] e h = tt
  rested_pops p r (Saved v ∷ fs) e h = pops_one (Saved v) fs _ _ e tt h.0 tt
  rested_pops p r (Back q ∷ fs) e h = tt
  rested_pops p r (Mark n ∷ fs) e h = tt
  rested_pops p r (In before body then ∷ fs) e h = tt
  rested_pops p r (Out ∷ fs) e h = tt
  rested_pops p r (Hold v ∷ fs) e h = tt
  rested_pops p r (Toss n v ∷ fs) e h = tt
  rested_pops p r (Enter n v ∷ fs) e h = tt

  rested_call : (p : Address) (v u : Value) → ValueMade s v → ValueMade s u → Acts (Rested s) (enters_by (PushOne (Back p)) v u)
  rested_call p Empty u h i = tt
  rested_call p (Number z) u h i = tt
  rested_call p (Procedure q) u h i = pushes (Back p) q tt tt
  rested_call p (Continuation n) u h i = writes _ _ _ tt (h.0, i)

  rested_tail : (v u : Value) → ValueMade s v → ValueMade s u → Acts (Rested s) (enters_by Keep v u)
  rested_tail Empty u h i = tt
  rested_tail (Number z) u h i = tt
  rested_tail (Procedure q) u h i = writes _ _ _ tt tt
  rested_tail (Continuation n) u h i = writes _ _ _ tt (h.0, i)

  numbers_checked : (b c : Register) (f : ℤ → ℤ → Plan) → ((x y : ℤ) → Acts (Rested s) (f x y)) → Acts (Rested s) (both_numbers s b c f)
  numbers_checked b c f h = checked _ (number (reg s b)) _ (plain-number (reg s b)) (λ x e. checked _ (number (reg s c)) _ (plain-number (reg s c)) (λ y g. h x y))

  rested_execute : (i : Instruction) (p : Address) → Acts (Rested s) (execute i s p)
  rested_execute (Set r z) p = writes _ _ _ tt tt
  rested_execute (Proc r q) p = writes _ _ _ tt tt
  rested_execute (Load r g) p = writes _ _ _ (value_at (Made s) s.globals g.0 k.globals) tt
  rested_execute (Store g r) p = writes _ _ _ (in_register r) tt
  rested_execute (Add a b c) p = numbers_checked b c _ (λ x y. checked _ (signed_word (x +ℤ y)) _ (plain_word (x +ℤ y)) (λ z e. writes _ _ _ tt tt))
  rested_execute (Sub a b c) p = numbers_checked b c _ (λ x y. checked _ (signed_word (x -ℤ y)) _ (plain_word (x -ℤ y)) (λ z e. writes _ _ _ tt tt))
  rested_execute (Less a b c) p = numbers_checked b c _ (λ x y. writes _ _ _ tt tt)
  rested_execute (Jump q) p = writes _ _ _ tt tt
  rested_execute (Zero r q) p = checked _ (number (reg s r)) _ (plain-number (reg s r)) (λ z e. writes _ _ _ tt tt)
  rested_execute (Push r) p = pushes (Saved (reg s r)) _ tt (in_register r)
  rested_execute (Pop r) p = rested_pops p r s.frames refl k.frames
  rested_execute (Print r) p = checked _ (number (reg s r)) _ (plain-number (reg s r)) (λ z e. writes _ _ _ tt tt)
  rested_execute (Call r) p = rested_call _ (reg s r) (reg s zeroth) (in_register r) (in_register zeroth)
  rested_execute (Tail r) p = rested_tail (reg s r) (reg s zeroth) (in_register r) (in_register zeroth)
  rested_execute (CallCc r) p = checked _ (procedure (reg s r)) _ (plain-procedure (reg s r)) (λ q e. captures-many _ q)
  rested_execute (CallOnce r) p = checked _ (procedure (reg s r)) _ (plain-procedure (reg s r)) (λ q e. captures-once _ q)
  rested_execute (Forget r) p =
      checked _ (continuation (reg s r)) _ (plain-continuation (reg s r)) (λ n e. checked _ (held_under s.held n) _ (plain-held s.held n) (λ c f. forgets n c _ (holds s n c _ f)))
  rested_execute (DynamicWind a b c) p =
      checked _ (procedure (reg s a)) _ (plain-procedure (reg s a)) (λ x e. checked _ (procedure (reg s b)) _ (plain-procedure (reg s b)) (λ y f. checked _ (procedure (reg s c)) _ (plain-procedure (reg s c)) (λ z g. pushes_both _ (In x y z) _ tt tt tt tt)))
  rested_execute Return p = writes _ _ _ tt tt
  rested_execute Stop p = tt

  rested_fetched : (o : Option Instruction) (p : Address) → Acts (Rested s) (fetched o s p)
  rested_fetched None p = tt
  rested_fetched (Some i) p = rested_execute i p

  rested_resume : (f : Frame) (fs : List Frame) → s.frames ≡ f ∷ fs → FrameMade s f → Acts (Rested s) (resume f s)
  rested_resume (Saved v) fs e h = tt
  rested_resume (Back p) fs e h = pops_one (Back p) fs _ _ e tt tt tt
  rested_resume (Mark n) fs e h = checked _ (held_under s.held n) _ (plain-held s.held n) (λ c f. passes_mark n c fs e (holds s n c _ f))
  rested_resume (In before body then) fs e h = opens before body then fs e
  rested_resume Out fs e h = checked _ (top_wind s.winds) _ (plain_top s.winds) (λ w f. let g = some_wind s.winds w f in closes w g.0 fs e g.1 (in_register zeroth))
  rested_resume (Hold v) fs e h = pops_one (Hold v) fs _ _ e tt h tt
  rested_resume (Toss n v) fs e h = tosses n v fs e h
  rested_resume (Enter n v) fs e h = checked _ (held_under s.held n) _ (plain-held s.held n) (λ c f. reenters n v fs c _ e (holds s n c _ f) refl h)

  rested_return : (fs : List Frame) → s.frames ≡ fs → All (FrameMade s) fs → Acts (Rested s) (return fs s)
  rested_return [] e h = tt
  rested_return (f ∷ fs) e h = rested_resume f fs e h.0

  thrown_unwind : (n : Name) (v : Value) (c : Capture) (b : Bool) (o : Option Wind) → Holds s n c → ltb (shared s.winds c.winds) (length s.winds) ≡ b
      → wind_at c.winds (shared s.winds c.winds) ≡ o → Acts (Thrown s n v) (unwind b o c n v s)
  thrown_unwind n v c true o h e f = checked _ (top_wind s.winds) _ (plain_top s.winds) (λ w g. let i = some_wind s.winds w g in throws_out c w i.0 h i.1)
  thrown_unwind n v c false (Some w) h e f = throws_in c w h (ltb-false _ _ e)
  thrown_unwind n v c false None h e f = lands c h (ltb-false _ _ e) f

  thrown_throw : (n : Name) (v : Value) → Acts (Thrown s n v) (throw n v s)
  thrown_throw n v = checked _ (held_under s.held n) _ (plain-held s.held n) (λ c e. thrown_unwind n v c _ _ (holds s n c _ e) refl refl)

  acts_map : (P Q : Act → Type 0) → ((a : Act) → P a → Q a) → (p : Plan) → Acts P p → Acts Q p
  acts_map P Q f (Err e) h = h
  acts_map P Q f (Ok None) h = tt
  acts_map P Q f (Ok (Some a)) h = f a h

  pub planned : (code : List Instruction) → Acts (Planned s) (plan code s)
  planned code = go s.mode refl k.mode
    where
      rest : (m : Mode) → s.mode ≡ m → AtRest m → AtRest s.mode
      rest m e h = rw e h

      go : (m : Mode) → s.mode ≡ m → All (Made s) (mode_names m) → Acts (Planned s) (plan_in m code s)
      go (Going p) e h = acts_map (Rested s) (Planned s) (λ a h. rested (rest (Going p) e tt) h) (plan_in (Going p) code s) (rested_fetched (slice_get code p.0) p)
      go Returning e h = acts_map (Rested s) (Planned s) (λ a h. rested (rest Returning e tt) h) (plan_in Returning code s) (rested_return s.frames refl k.frames)
      go (Throwing n v) e h = acts_map (Thrown s n v) (Planned s) (λ a i. thrown n v h i) (plan_in (Throwing n v) code s) (thrown_throw n v)
