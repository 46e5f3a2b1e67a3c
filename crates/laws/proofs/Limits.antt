-- A plan does not know the limits, so a step can differ under two limits only by a limit's end.
use Rattle.std.proofs.Common.{◌≡◌, ℕ, zero, suc, ◌+◌, Bool, true, false, cond, leb, ◌⊎◌, List, length, Some, None, Ok, Err, Option, sym, refl, ap, inl, inr, arith}
use Rattle.std.proofs.lemmas.Bool.{leb-true, ltb-true, le-leb, lt-ltb}
use Rattle.code.specs.declared.instruction.Instruction.{Instruction}
use Rattle.machine.specs.declared.act.Act.{Act}
use Rattle.machine.specs.declared.end.End.{End}
use Rattle.machine.specs.declared.end.End.TheVariants.{StepLimit}
use Rattle.machine.specs.declared.wind_move.WindMove.{WindMove}
use Rattle.machine.specs.declared.wind_move.WindMove.TheVariants.{Stay, Open, Reenter, Leave}
use Rattle.machine.specs.declared.name_move.NameMove.{NameMove}
use Rattle.machine.specs.declared.name_move.NameMove.TheVariants.{Keep as KeepNames, SaveMany, SaveOnce, Use, Forget}
use Rattle.machine.specs.State.{State, Limits}
use Rattle.machine.specs.Acts.{Plan}
use Rattle.machine.specs.Plan.{plan}
use Rattle.machine.specs.Admission.{growth, frames_pass, winds_pass, names_pass, first_refusal, refusal}
use Rattle.machine.specs.Step.{Outcome, went, finished, refused, admit, settle, most_steps, step}
use Rattle.laws.specs.Limits.{IsLimit, Wider, SameStep, SameEnd, SameFinish, WiderStep, LimitsOnlyEnd}

-- two outcomes from one state, under two limits
abbrev pub Alike : Outcome → Outcome → Type 0
Alike (went s b e) (went t c f) = (s ≡ t) × (b ≡ c) × (e ≡ f)
Alike (went s b e) (finished t) = ⊥
Alike (went s b e) (refused d) = IsLimit d
Alike (finished s) (went t c f) = ⊥
Alike (finished s) (finished t) = s ≡ t
Alike (finished s) (refused d) = ⊥
Alike (refused d) (went t c f) = IsLimit d
Alike (refused d) (finished t) = ⊥
Alike (refused d) (refused e) = (d ≡ e) ⊎ (IsLimit d × IsLimit e)

-- none, or a limit's end
abbrev LimitIfAny : Option End → Type 0
LimitIfAny None = Unit {0}
LimitIfAny (Some e) = IsLimit e

refusal_limit : (l : Limits) (s : State) (a : Act) → LimitIfAny (refusal l s a)
refusal_limit l s a = go (frames_pass l s (growth a.frames)) (winds_pass l s a.winds) (names_pass l s a.names)
  where
    go : (f w n : Bool) → LimitIfAny (first_refusal l f w n)
    go true true true = tt
    go true true false = tt
    go true false n = tt
    go false w n = tt

alike_admit : (s : State) (a : Act) (o p : Option End) → LimitIfAny o → LimitIfAny p → Alike (admit s a o) (admit s a p)
alike_admit s a None None h k = (refl, refl, refl)
alike_admit s a None (Some e) h k = k
alike_admit s a (Some d) None h k = h
alike_admit s a (Some d) (Some e) h k = inr (h, k)

alike_settle : (l m : Limits) (s : State) (p : Plan) → Alike (settle l s p) (settle m s p)
alike_settle l m s (Err e) = inl refl
alike_settle l m s (Ok None) = refl
alike_settle l m s (Ok (Some a)) = alike_admit s a (refusal l s a) (refusal m s a) (refusal_limit l s a) (refusal_limit m s a)

pub alike : (l m : Limits) (code : List Instruction) (s : State) → Alike (step l code s) (step m code s)
alike l m code s = go (leb most_steps s.counts.steps)
  where
    go : (b : Bool) → Alike (cond b (refused StepLimit) (settle l s (plan code s))) (cond b (refused StepLimit) (settle m s (plan code s)))
    go true = inl refl
    go false = alike_settle l m s (plan code s)

pub same_step : SameStep
same_step l m code s t u b c e f p q =
    let h = alike l m code s in
    rw (p, q) at h

pub same_end : SameEnd
same_end l m code s e no_limit p =
    let h = alike l m code s in
    go (step m code s) (rw p at h)
  where
    go : (o : Outcome) → Alike (refused e) o → o ≡ refused e
    go (went t c f) h = absurd (no_limit h)
    go (finished t) h = absurd h
    go (refused d) (inl h) = ap refused (sym h)
    go (refused d) (inr h) = absurd (no_limit h.0)

pub same_finish : SameFinish
same_finish l m code s t p =
    let h = alike l m code s in
    go (step m code s) (rw p at h)
  where
    go : (o : Outcome) → Alike (finished t) o → o ≡ finished t
    go (went u c f) h = absurd h
    go (finished u) h = ap finished (sym h)
    go (refused d) h = absurd h

-- Wider limits.

frames_wider : (l m : Limits) (s : State) (k : ℕ) → Wider l m → frames_pass l s k ≡ true → frames_pass m s k ≡ true
frames_wider l m s zero w h = refl
frames_wider l m s (suc k) w h = le-leb _ _ (omega (arith, leb-true (length s.frames + suc k) l.frames h))

winds_wider : (l m : Limits) (s : State) (w : WindMove) → Wider l m → winds_pass l s w ≡ true → winds_pass m s w ≡ true
winds_wider l m s Stay w h = refl
winds_wider l m s (Open before after) w h = lt-ltb _ _ (omega (arith, ltb-true (length s.winds) l.winds h))
winds_wider l m s (Reenter x) w h = lt-ltb _ _ (omega (arith, ltb-true (length s.winds) l.winds h))
winds_wider l m s Leave w h = refl

names_wider : (l m : Limits) (s : State) (n : NameMove) → Wider l m → names_pass l s n ≡ true → names_pass m s n ≡ true
names_wider l m s KeepNames w h = refl
names_wider l m s SaveMany w h = lt-ltb _ _ (omega (arith, ltb-true (length s.held) l.held h))
names_wider l m s SaveOnce w h = lt-ltb _ _ (omega (arith, ltb-true (length s.held) l.held h))
names_wider l m s (Use n) w h = refl
names_wider l m s (Forget n) w h = refl

-- an act that is admitted is admitted under wider limits
abbrev Went : Outcome → Type 0
Went (went s b e) = Unit {0}
Went (finished s) = ⊥
Went (refused e) = ⊥

wider_admit : (l m : Limits) (s : State) (a : Act) → Wider l m → Went (admit s a (refusal l s a)) → Went (admit s a (refusal m s a))
wider_admit l m s a w =
    go (frames_pass l s (growth a.frames)) (winds_pass l s a.winds) (names_pass l s a.names)
    (frames_pass m s (growth a.frames)) (winds_pass m s a.winds) (names_pass m s a.names)
    (frames_wider l m s (growth a.frames) w) (winds_wider l m s a.winds w) (names_wider l m s a.names w)
  where
    go : (f v n f' v' n' : Bool) → (f ≡ true → f' ≡ true) → (v ≡ true → v' ≡ true) → (n ≡ true → n' ≡ true)
        → Went (admit s a (first_refusal l f v n)) → Went (admit s a (first_refusal m f' v' n'))
    go false v n f' v' n' h i j k = absurd k
    go true false n f' v' n' h i j k = absurd k
    go true true false f' v' n' h i j k = absurd k
    go true true true f' v' n' h i j k = rw (h refl, i refl, j refl) tt

wider_settle : (l m : Limits) (s : State) (p : Plan) → Wider l m → Went (settle l s p) → Went (settle m s p)
wider_settle l m s (Err e) w h = h
wider_settle l m s (Ok None) w h = h
wider_settle l m s (Ok (Some a)) w h = wider_admit l m s a w h

wider_went : (l m : Limits) (code : List Instruction) (s : State) → Wider l m → Went (step l code s) → Went (step m code s)
wider_went l m code s w = go (leb most_steps s.counts.steps)
  where
    go : (b : Bool) → Went (cond b (refused StepLimit) (settle l s (plan code s))) → Went (cond b (refused StepLimit) (settle m s (plan code s)))
    go true h = h
    go false h = wider_settle l m s (plan code s) w h

pub wider_step : WiderStep
wider_step l m code s t b e w p =
    let h = alike l m code s in
    go (step m code s) (wider_went l m code s w (rw p tt)) (rw p at h)
  where
    go : (o : Outcome) → Went o → Alike (went t b e) o → o ≡ went t b e
    go (went u c f) i h = cc (h.0, h.1, h.2)
    go (finished u) i h = absurd i
    go (refused d) i h = absurd i

pub limits_only_end : LimitsOnlyEnd
limits_only_end = record { same_step = same_step; same_end = same_end; same_finish = same_finish; wider_step = wider_step }
