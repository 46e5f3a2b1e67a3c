-- What holds of every step that is made, and so of every course of steps.
use Rattle.std.proofs.Common.{◌≡◌, ℕ, zero, suc, ◌+◌, ◌<◌, ◌≤◌, Bool, true, false, cond, leb, List, [], ◌∷◌, ◌++◌, map, length, ℤ, Some, None, Ok, Err, Option, refl, ap, arith, length-append}
use Rattle.std.specs.List.{AllByRecursion as All}
use Rattle.std.proofs.lemmas.Bool.{leb-true, leb-false, ltb-true}
use Rattle.cell.specs.declared.frame.Frame.{Frame}
use Rattle.cell.specs.declared.wind.Wind.{Wind}
use Rattle.cell.specs.declared.value.Value.TheVariants.{Number}
use Rattle.code.specs.declared.instruction.Instruction.{Instruction}
use Rattle.machine.specs.declared.act.Act.{Act}
use Rattle.machine.specs.declared.end.End.{End}
use Rattle.machine.specs.declared.end.End.TheVariants.{StepLimit}
use Rattle.machine.specs.declared.frame_move.FrameMove.{FrameMove}
use Rattle.machine.specs.declared.frame_move.FrameMove.TheVariants.{Keep, Push, PushBoth, Pop, Replace, Restore}
use Rattle.machine.specs.declared.wind_move.WindMove.{WindMove}
use Rattle.machine.specs.declared.wind_move.WindMove.TheVariants.{Stay, Open, Reenter, Leave}
use Rattle.machine.specs.declared.name_move.NameMove.{NameMove}
use Rattle.machine.specs.declared.name_move.NameMove.TheVariants.{Keep as KeepNames, SaveMany, SaveOnce, Use, Forget}
use Rattle.machine.specs.Named.{find}
use Rattle.machine.specs.Names.{value_names}
use Rattle.machine.specs.State.{State, Capture, Limits, Counts, capture_name, wind_numbers, start}
use Rattle.machine.specs.Acts.{Plan}
use Rattle.machine.specs.Plan.{plan}
use Rattle.machine.specs.Apply.{below, replaced, saved_frames, frames_after, winds_after, held_after, counted, made_after, numbered_after, entered_after, left_after, apply, halted, Event, enters, leaves, leaves_top, events}
use Rattle.machine.specs.Admission.{growth, frames_pass, winds_pass, names_pass, first_refusal, refusal}
use Rattle.machine.specs.Step.{Outcome, went, finished, refused, admit, settle, most_steps, step}
use Rattle.machine.specs.Course.{follow, course}
use Rattle.laws.specs.Counts.{WithinSteps, entering, entering_of, leaving, leaving_of}
use Rattle.laws.specs.Reached.{Within}
use Rattle.laws.proofs.Counting.{count}
use Rattle.laws.proofs.Named.{find-all, length_without_le}
use Rattle.laws.proofs.Planned.{Acts, Planned, planned}
use Rattle.laws.proofs.Sound.{Sound, Legal, Entered, apply-sound, halted-sound, length-promoted, all-held_after}
use Rattle.laws.proofs.Keeps.{legal}

-- P of the next state and the events, where a step is made
abbrev pub MadeStep : (State → List Event → Type 0) → Outcome → Type 0
MadeStep P (went t b es) = P t es
MadeStep P (finished t) = P t []
MadeStep P (refused e) = Unit {0}

-- it is enough to look at the act that is planned and admitted
pub made-step : (P : State → List Event → Type 0) (l : Limits) (code : List Instruction) (s : State)
    → (s.counts.steps < most_steps → P (halted s) [])
    → ((a : Act) → s.counts.steps < most_steps → plan code s ≡ Ok (Some a) → refusal l s a ≡ None → P (apply s a) (events s a.winds))
    → MadeStep P (step l code s)
made-step P l code s h k = limit (leb most_steps s.counts.steps) refl
  where
    admitted : (a : Act) (o : Option End) → s.counts.steps < most_steps → plan code s ≡ Ok (Some a) → refusal l s a ≡ o → MadeStep P (admit s a o)
    admitted a None u p e = k a u p e
    admitted a (Some d) u p e = tt

    settled : (p : Plan) → s.counts.steps < most_steps → plan code s ≡ p → MadeStep P (settle l s p)
    settled (Err e) u q = tt
    settled (Ok None) u q = h u
    settled (Ok (Some a)) u q = admitted a (refusal l s a) u q refl

    limit : (b : Bool) → leb most_steps s.counts.steps ≡ b → MadeStep P (cond b (refused StepLimit) (settle l s (plan code s)))
    limit true e = tt
    limit false e = settled (plan code s) (leb-false most_steps s.counts.steps e) refl

pub acts_of : (P : Act → Type 0) (p : Plan) (a : Act) → p ≡ Ok (Some a) → Acts P p → P a
acts_of P p a e h = rw e at h

-- What some steps do to the winds, by their numbers and in all, and how many steps they are.
pub record Traced (s t : State) (n : ℕ) (es : List Event) : Type 0 where
  pub each : (k : ℕ) → entering_of k es + count k (wind_numbers s.winds) ≡ leaving_of k es + count k (wind_numbers t.winds)
  pub entered : t.counts.entered ≡ s.counts.entered + entering es
  pub left : t.counts.left ≡ s.counts.left + leaving es
  pub steps : t.counts.steps ≡ s.counts.steps + n

traced_top : (k : ℕ) (ws : List Wind) → entering_of k (leaves_top ws) + count k (wind_numbers ws) ≡ leaving_of k (leaves_top ws) + count k (wind_numbers (below ws))
traced_top k [] = refl
traced_top k (w ∷ ws) = omega arith

traced_each : (k : ℕ) (s : State) (w : WindMove) → entering_of k (events s w) + count k (wind_numbers s.winds) ≡ leaving_of k (events s w) + count k (wind_numbers (winds_after s w))
traced_each k s Stay = refl
traced_each k s (Open before after) = omega arith
traced_each k s (Reenter w) = omega arith
traced_each k s Leave = traced_top k s.winds

none_entered : (ws : List Wind) → entering (leaves_top ws) ≡ 0
none_entered [] = refl
none_entered (w ∷ ws) = refl

traced_entered : (k : ℕ) (s : State) (w : WindMove) → entered_after k w ≡ k + entering (events s w)
traced_entered k s Stay = omega arith
traced_entered k s (Open before after) = refl
traced_entered k s (Reenter w) = refl
traced_entered k s Leave = omega (arith, none_entered s.winds)

traced_left : (k : ℕ) (s : State) (w : WindMove) → Entered s w → left_after k w ≡ k + leaving (events s w)
traced_left k s Stay h = omega arith
traced_left k s (Open before after) h = omega arith
traced_left k s (Reenter w) h = omega arith
traced_left k s Leave h = let e : leaving (leaves_top s.winds) ≡ 1 = ap (λ ws. leaving (leaves_top ws)) h.2 in omega arith

traced_apply : (s : State) (a : Act) → Entered s a.winds → Traced s (apply s a) 1 (events s a.winds)
traced_apply s a h = record {
  each = λ k. traced_each k s a.winds;
  entered = traced_entered s.counts.entered s a.winds;
  left = traced_left s.counts.left s a.winds h;
  steps = refl;
}

traced_halted : (s : State) → Traced s (halted s) 1 []
traced_halted s = record { each = λ k. refl; entered = omega arith; left = omega arith; steps = refl }

traced_stay : (s : State) → Traced s s 0 []
traced_stay s = record { each = λ k. refl; entered = omega arith; left = omega arith; steps = omega arith }

entering-++ : (es fs : List Event) → entering (es ++ fs) ≡ entering es + entering fs
entering-++ [] fs = omega arith
entering-++ (enters n ∷ es) fs = omega (arith, entering-++ es fs)
entering-++ (leaves n ∷ es) fs = entering-++ es fs

leaving-++ : (es fs : List Event) → leaving (es ++ fs) ≡ leaving es + leaving fs
leaving-++ [] fs = omega arith
leaving-++ (enters n ∷ es) fs = leaving-++ es fs
leaving-++ (leaves n ∷ es) fs = omega (arith, leaving-++ es fs)

entering_of-++ : (k : ℕ) (es fs : List Event) → entering_of k (es ++ fs) ≡ entering_of k es + entering_of k fs
entering_of-++ k [] fs = omega arith
entering_of-++ k (enters n ∷ es) fs = omega (arith, entering_of-++ k es fs)
entering_of-++ k (leaves n ∷ es) fs = entering_of-++ k es fs

leaving_of-++ : (k : ℕ) (es fs : List Event) → leaving_of k (es ++ fs) ≡ leaving_of k es + leaving_of k fs
leaving_of-++ k [] fs = omega arith
leaving_of-++ k (enters n ∷ es) fs = leaving_of-++ k es fs
leaving_of-++ k (leaves n ∷ es) fs = omega (arith, leaving_of-++ k es fs)

traced_++ : (s t u : State) (n : ℕ) (es fs : List Event) → Traced s t 1 es → Traced t u n fs → Traced s u (suc n) (es ++ fs)
traced_++ s t u n es fs p q = record {
  each = λ k. let a = p.each k in let b = q.each k in rw (entering_of-++, leaving_of-++) (omega arith);
  entered = rw entering-++ (omega arith);
  left = rw leaving-++ (omega arith);
  steps = omega (arith, p.steps, q.steps);
}

-- No step counts anything twice.

module _ (k n : ℕ) (h : k ≤ n) where
  made-once : (m : NameMove) → made_after k m ≤ n + 1
  made-once KeepNames = omega arith
  made-once SaveMany = omega arith
  made-once SaveOnce = omega arith
  made-once (Use x) = omega arith
  made-once (Forget x) = omega arith

  numbered-once : (w : WindMove) → numbered_after k w ≤ n + 1
  numbered-once Stay = omega arith
  numbered-once (Open before after) = omega arith
  numbered-once (Reenter x) = omega arith
  numbered-once Leave = omega arith

  entered-once : (w : WindMove) → entered_after k w ≤ n + 1
  entered-once Stay = omega arith
  entered-once (Open before after) = omega arith
  entered-once (Reenter x) = omega arith
  entered-once Leave = omega arith

counted-within : (c : Counts) (w : WindMove) (m : NameMove) → c.steps < most_steps → WithinSteps c → WithinSteps (counted c w m)
counted-within c w m u h = record {
  steps = omega arith;
  made = made-once c.made c.steps h.made m;
  numbered = numbered-once c.numbered c.steps h.numbered w;
  entered = entered-once c.entered c.steps h.entered w;
}

-- An act that is admitted keeps within the limits.

passes : (l : Limits) (f w n : Bool) → first_refusal l f w n ≡ None → (f ≡ true) × (w ≡ true) × (n ≡ true)
passes l false w n e = cc
passes l true false n e = cc
passes l true true false e = cc
passes l true true true e = (refl, refl, refl)

length-below : {A : Type 0} (xs : List A) → length (below xs) ≤ length xs
length-below [] = omega arith
length-below (x ∷ xs) = omega arith

length-replaced : (f : Frame) (fs : List Frame) → length (replaced f fs) ≤ length fs
length-replaced f [] = omega arith
length-replaced f (x ∷ fs) = omega arith

module _ (l : Limits) (s : State) (k : Within l s) where
  abbrev Fitting : Capture → Type 0
  Fitting c = (length c.frames ≤ l.frames) × (length c.winds ≤ l.winds)

  room : (g : ℕ) → frames_pass l s g ≡ true → length s.frames + g ≤ l.frames
  room zero e = omega (arith, k.frames)
  room (suc g) e = leb-true (length s.frames + suc g) l.frames e

  length-saved : (o : Option Capture) (n : ℕ) → find capture_name s.held n ≡ o → length (saved_frames o s.frames) ≤ l.frames
  length-saved None n e = k.frames
  length-saved (Some c) n e = (find-all capture_name Fitting s.held n c e k.saved).0

  length-frames : (m : FrameMove) → length s.frames + growth m ≤ l.frames → length (frames_after s m) ≤ l.frames
  length-frames Keep h = omega arith
  length-frames (Push f) h = omega arith
  length-frames (PushBoth f g) h = omega arith
  length-frames Pop h = omega (arith, length-below s.frames)
  length-frames (Replace f) h = omega (arith, length-replaced f s.frames)
  length-frames (Restore n) h = length-saved (find capture_name s.held n.0) n.0 refl

  length-winds : (w : WindMove) → winds_pass l s w ≡ true → length (winds_after s w) ≤ l.winds
  length-winds Stay e = k.winds
  length-winds (Open before after) e = ltb-true (length s.winds) l.winds e
  length-winds (Reenter w) e = ltb-true (length s.winds) l.winds e
  length-winds Leave e = let h = k.winds in let i = length-below s.winds in omega arith

  length-held : (fs : List Frame) (m : NameMove) → names_pass l s m ≡ true → length (held_after s fs m) ≤ l.held
  length-held fs KeepNames e = k.held
  length-held fs SaveMany e = rw (length-append, length-promoted) (omega (arith, ltb-true (length s.held) l.held e))
  length-held fs SaveOnce e = rw length-append (omega (arith, ltb-true (length s.held) l.held e))
  length-held fs (Use n) e = let h = k.held in let i = length_without_le capture_name s.held n.0 in omega arith
  length-held fs (Forget n) e = let h = k.held in let i = length_without_le capture_name s.held n.0 in omega arith

  within-apply : (a : Act) → refusal l s a ≡ None → Within l (apply s a)
  within-apply a e =
      let p = passes l (frames_pass l s (growth a.frames)) (winds_pass l s a.winds) (names_pass l s a.names) e in
      let fs : List Frame = frames_after s a.frames in
      let f : length fs ≤ l.frames = length-frames a.frames (room (growth a.frames) p.0) in
      record {
        frames = f;
        winds = length-winds a.winds p.1;
        held = length-held fs a.names p.2;
        saved = all-held_after Fitting s fs a.names (λ c h. h) (λ x. (f, k.winds)) (λ x. (let i = length-below fs in omega arith, k.winds)) k.saved;
      }

  within-halted : Within l (halted s)
  within-halted = record { frames = k.frames; winds = k.winds; held = k.held; saved = k.saved }

-- Where a run can stand.
pub record Reached (l : Limits) (s : State) : Type 0 where
  pub sound : Sound s
  pub within : Within l s
  pub counts : WithinSteps s.counts

-- A step from such a state leads to another, and is traced.
abbrev pub Good : Limits → State → ℕ → State → List Event → Type 0
Good l s n t es = Reached l t × Traced s t n es

pub good_step : (l : Limits) (code : List Instruction) (s : State) → Reached l s → MadeStep (Good l s 1) (step l code s)
good_step l code s k =
    made-step (Good l s 1) l code s
    (λ u. (record { sound = halted-sound s k.sound; within = within-halted l s k.within; counts = counted-within s.counts Stay KeepNames u k.counts }, traced_halted s))
    (λ a u p e.
    let g : Legal s a = legal s k.sound a (acts_of (Planned s) (plan code s) a p (planned s k.sound.known code)) in (
      record { sound = apply-sound s a k.sound g; within = within-apply l s k.within a e; counts = counted-within s.counts a.winds a.names u k.counts },
      traced_apply s a g.entered,
    ))

pub good_course : (l : Limits) (code : List Instruction) (n : ℕ) (s : State) → Reached l s
    → Good l s (course l code n s).steps (course l code n s).state (course l code n s).trail
good_course l code zero s k = (k, traced_stay s)
good_course l code (suc n) s k = go (step l code s) (good_step l code s k) (good_course l code n)
  where
    go : (o : Outcome) → MadeStep (Good l s 1) o
        → ((t : State) → Reached l t → Good l t (course l code n t).steps (course l code n t).state (course l code n t).trail)
        → Good l s (follow o s (course l code n)).steps (follow o s (course l code n)).state (follow o s (course l code n)).trail
    go (went t b es) h ih =
        let g : Good l t (course l code n t).steps (course l code n t).state (course l code n t).trail = ih t h.0 in
        (g.0, traced_++ s t (course l code n t).state (course l code n t).steps es (course l code n t).trail h.1 g.1)
    go (finished t) h ih = h
    go (refused e) h ih = (k, traced_stay s)

numbers-made : (ns : List ℤ) → All (λ v. All (λ (n : ℕ). n ≤ 0) (value_names v)) (map Number ns)
numbers-made [] = tt
numbers-made (z ∷ ns) = (tt, numbers-made ns)

pub start_reached : (l : Limits) (numbers : List ℤ) → Reached l (start numbers)
start_reached l numbers = record {
  sound = record {
    conserved = record { names = refl; winds = refl };
    known = record { registers = (tt, (tt, (tt, (tt, (tt, (tt, (tt, (tt, tt)))))))); globals = numbers-made numbers; frames = tt; mode = tt; held = tt };
    names = λ k. (omega arith, λ l. refl);
    winds = λ k. (omega arith, λ l. refl);
    captures = tt;
    fits = tt;
  };
  within = record { frames = omega arith; winds = omega arith; held = omega arith; saved = tt };
  counts = record { steps = omega arith; made = omega arith; numbered = omega arith; entered = omega arith };
}
