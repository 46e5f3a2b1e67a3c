-- A one-shot continuation comes back at most once.
use Rattle.std.proofs.Common.{◌≡◌, ℕ, zero, suc, ◌≤◌, Bool, true, false, cond, ltb, leb, List, [], ◌∷◌, reverse, length, Some, None, Ok, Err, Option, sym, refl, ap, ◌∙◌, inl, inr, arith}
use Rattle.std.proofs.lemmas.List.{length-map, length-reverse}
use Rattle.std.proofs.lemmas.Option.{slice_get_past}
use Rattle.std.proofs.lemmas.Bool.{cond-true, eq-eqb, le-ltb}
use Rattle.cell.specs.declared.name.Name.{Name}
use Rattle.cell.specs.declared.value.Value.{Value}
use Rattle.cell.specs.declared.frame.Frame.{Frame}
use Rattle.cell.specs.declared.frame.Frame.TheVariants.{Mark}
use Rattle.code.specs.declared.instruction.Instruction.{Instruction}
use Rattle.machine.specs.declared.act.Act.{Act}
use Rattle.machine.specs.declared.end.End.{End}
use Rattle.machine.specs.declared.end.End.TheVariants.{StepLimit}
use Rattle.machine.specs.declared.name_move.NameMove.TheVariants.{Keep as KeepNames, Use}
use Rattle.machine.specs.declared.mode.Mode.TheVariants.{Returning, Throwing}
use Rattle.machine.specs.Named.{find}
use Rattle.machine.specs.State.{State, Capture, Limits, capture_name, wind_number, wind_numbers, start}
use Rattle.machine.specs.Acts.{Plan}
use Rattle.machine.specs.Returning.{spends, wind_at}
use Rattle.machine.specs.Throwing.{common, shared}
use Rattle.machine.specs.Plan.{plan}
use Rattle.machine.specs.Apply.{frames_after, apply, Event}
use Rattle.machine.specs.Admission.{refusal}
use Rattle.machine.specs.Step.{Outcome, went, finished, refused, admit, settle, most_steps, step}
use Rattle.machine.specs.Course.{follow, course}
use Rattle.laws.specs.OneShot.{Released, ComesBack, OneShotOnce}
use Rattle.laws.proofs.Named.{find-removed}
use Rattle.laws.proofs.Sound.{Sound, made_up, Was, was}
use Rattle.laws.proofs.Steps.{Reached, Good, MadeStep, made-step, good_step, good_course, start_reached}

-- a step that went carried out the act that was planned
went_is : (l : Limits) (code : List Instruction) (s t : State) (b : List ℕ) (es : List Event) → step l code s ≡ went t b es
    → (a : Act) × (plan code s ≡ Ok (Some a)) × (t ≡ apply s a)
went_is l code s t b es = limit (leb most_steps s.counts.steps)
  where
    admitted : (a : Act) (o : Option End) → plan code s ≡ Ok (Some a) → admit s a o ≡ went t b es → (a : Act) × (plan code s ≡ Ok (Some a)) × (t ≡ apply s a)
    admitted a None p e = (a, p, cc)
    admitted a (Some d) p e = cc

    settled : (p : Plan) → plan code s ≡ p → settle l s p ≡ went t b es → (a : Act) × (plan code s ≡ Ok (Some a)) × (t ≡ apply s a)
    settled (Err d) p e = cc
    settled (Ok None) p e = cc
    settled (Ok (Some a)) p e = admitted a (refusal l s a) p e

    limit : (c : Bool) → cond c (refused StepLimit) (settle l s (plan code s)) ≡ went t b es → (a : Act) × (plan code s ≡ Ok (Some a)) × (t ≡ apply s a)
    limit true e = cc
    limit false e = settled (plan code s) refl e

common_self : (xs : List ℕ) → common xs xs ≡ length xs
common_self [] = refl
common_self (x ∷ xs) = rw (eq-eqb x x refl, common_self xs)

-- an act that spends a name
abbrev Spends : Capture → Name → Plan → Type 0
Spends c n p = (a : Act) × (p ≡ Ok (Some a)) × (a.names ≡ spends c n)

module _ (s : State) (code : List Instruction) (n : Name) (c : Capture) (found : find capture_name s.held n.0 ≡ Some c) where
  spends_mark : (fs : List Frame) → s.mode ≡ Returning → s.frames ≡ Mark n ∷ fs → Spends c n (plan code s)
  spends_mark fs e f =
      rw (e, f, found) (_, refl, refl)

  spends-throw : (v : Value) → s.mode ≡ Throwing n v → wind_numbers s.winds ≡ wind_numbers c.winds → Spends c n (plan code s)
  spends-throw v e f =
      let deep : shared s.winds c.winds ≡ length s.winds =
      ap (λ xs. common (reverse (wind_numbers s.winds)) (reverse xs)) (sym f) ∙ common_self (reverse (wind_numbers s.winds)) ∙ length-reverse (wind_numbers s.winds) ∙ length-map s.winds wind_number in
      let long : length s.winds ≡ length c.winds = sym (length-map s.winds wind_number) ∙ ap length f ∙ length-map c.winds wind_number in
      let out : ltb (shared s.winds c.winds) (length s.winds) ≡ false = le-ltb _ _ (omega arith) in
      let past : wind_at c.winds (shared s.winds c.winds) ≡ None = slice_get_past (reverse c.winds) _ (omega (arith, length-reverse c.winds)) in
      rw (e, found, out, past) (_, refl, refl)

  comes_back : ComesBack s n c → Spends c n (plan code s)
  comes_back (inl x) = spends_mark x.0 x.1 x.2
  comes_back (inr x) = spends-throw x.0 x.1 x.2

spent : (l : Limits) (code : List Instruction) (s : State) (k : Sound s) (n : Name) (c : Capture) (t : State) (b : List ℕ) (es : List Event)
    → find capture_name s.held n.0 ≡ Some c → c.once ≡ true → ComesBack s n c → step l code s ≡ went t b es → Released t n.0
spent l code s k n c t b es found once back e =
    let w = went_is l code s t b es e in
    let x = comes_back s code n c found back in
    let same : x.0 ≡ w.0 = cc in
    let used : w.0.names ≡ Use n = sym (ap (λ (a : Act). a.names) same) ∙ x.2 ∙ cond-true c.once (Use n) KeepNames once in
    rw (w.2, used) (find-removed capture_name s.held n.0 (k.names n.0).0)

-- a name that was made and is not held stays so
none_found : (n : ℕ) (o : Option Capture) → ((c : Capture) → o ≡ Some c → ⊥) → o ≡ None
none_found n None h = refl
none_found n (Some c) h = absurd (h c refl)

abbrev Gone : ℕ → State → Type 0
Gone n s = (n ≤ s.counts.made) × Released s n

gone-step : (l : Limits) (code : List Instruction) (s : State) (n : ℕ) → Sound s → Gone n s → MadeStep (λ t es. Gone n t) (step l code s)
gone-step l code s n k g =
    made-step (λ t es. Gone n t) l code s (λ u. g)
    (λ a u p e. (
      let up = made_up s.counts.made a.names in omega (arith, g.0),
      none_found n _ (λ c f.
          let w : Was s k (frames_after s a.frames) n c = was s k (frames_after s a.frames) a.names n c g.0 f in
          let z : ◌≡◌ {A = Option Capture} (Some w.before) None = sym w.found ∙ g.1 in
          cc),
    ))

gone-course : (l : Limits) (code : List Instruction) (m : ℕ) (s : State) (n : ℕ) → Reached l s → Gone n s → Gone n (course l code m s).state
gone-course l code zero s n k g = g
gone-course l code (suc m) s n k g = go (step l code s) (good_step l code s k) (gone-step l code s n k.sound g) (gone-course l code m)
  where
    go : (o : Outcome) → MadeStep (Good l s 1) o → MadeStep (λ t es. Gone n t) o
        → ((t : State) (n : ℕ) → Reached l t → Gone n t → Gone n (course l code m t).state) → Gone n (follow o s (course l code m)).state
    go (went t b es) h i ih = ih t n h.0 i
    go (finished t) h i ih = i
    go (refused e) h i ih = g

pub one_shot_once : OneShotOnce
one_shot_once = record {
  spent = λ l m code other numbers k n c t b es f o back e.
      spent m other (course l code k (start numbers)).state (good_course l code k (start numbers) (start_reached l numbers)).0.sound n c t b es f o back e;
  for_good = λ l code numbers k more n h r.
      (gone-course l code more (course l code k (start numbers)).state n (good_course l code k (start numbers) (start_reached l numbers)).0 (h, r)).1;
}
