-- Lists of calls: each comes to one course of steps.
use Rattle.std.proofs.Common.{◌≡◌, ℕ, zero, suc, ◌+◌, ◌-◌, ◌≤◌, Bool, true, false, cond, ◌||◌, ltb, List, [], ◌∷◌, ◌++◌, length, drop, ℤ, is_some, Some, None, Option, sym, refl, ap, ◌∙◌, subst, append_assoc, add-zero, zero-add, arith, length-append}
use Rattle.std.proofs.lemmas.List.{append-nil, take_at, drop_at, length-drop}
use Rattle.std.proofs.lemmas.Bool.{ltb-false, cond-true, cond-false}
use Rattle.code.specs.declared.instruction.Instruction.{Instruction}
use Rattle.machine.specs.declared.end.End.{End}
use Rattle.machine.specs.declared.reason.Reason.TheVariants.{BufferFull}
use Rattle.machine.specs.declared.run_refusal.RunRefusal.{RunRefusal}
use Rattle.machine.specs.declared.run_refusal.RunRefusal.TheVariants.{HasEnded, BudgetOutOfRange, BufferTooShort}
use Rattle.machine.specs.State.{State, Limits, start}
use Rattle.machine.specs.Step.{Outcome, went, finished, refused, step}
use Rattle.machine.specs.Course.{Course, course, joined}
use Rattle.machine.specs.Opening.{Run, both_fit, started}
use Rattle.machine.specs.Calls.{Portion, closing, with_step, portion_by, portion, most_budget, least_buffer, Ran, accepted, declined, ran, tallied, looked, forced, Call, run, tally, look, force, Answer, told, answered, served, steps_in, output_in}
use Rattle.laws.specs.Courses.{Level}
use Rattle.laws.specs.Counts.{Conserved}
use Rattle.laws.specs.Calls.{Served, steps_of, output_of, BufferKept, BuffersKept, OpeningDecides, Idle, EndedStays, InOrder, OneCourse, CallsJoin, Agree, TwoRunsAgree}
use Rattle.laws.proofs.Courses.{same_count, one_output, no_longer, ends_alike, portions_join, steps-made, all_made, ended_there}
use Rattle.laws.proofs.Counts.{counts-conserved, counts_within_steps, winds-balanced}

-- One run call.

-- the tests of a run call
abbrev by_tests : Run → ℕ → List ℕ → Bool → Bool → Bool → Ran
by_tests r budget buffer has bad short =
    cond has (declined HasEnded r buffer) (cond bad (declined BudgetOutOfRange r buffer) (cond short (declined BufferTooShort r buffer)
    (accepted (portion r.limits r.code budget (length buffer) r.state) r buffer)))

-- a portion keeps within its room and its budget
module _ (l : Limits) (code : List Instruction) where
  portion-fits : (budget room : ℕ) (s : State) → (length (portion l code budget room s).bytes ≤ room) × ((portion l code budget room s).steps ≤ budget)
  portion-fits zero room s = (omega arith, omega arith)
  portion-fits (suc budget) room s = by (step l code s) (portion-fits budget)
    where
      by : (o : Outcome) → ((room : ℕ) (s : State) → (length (portion l code budget room s).bytes ≤ room) × ((portion l code budget room s).steps ≤ budget))
          → (length (portion_by o s room (portion l code budget)).bytes ≤ room) × ((portion_by o s room (portion l code budget)).steps ≤ suc budget)
      by (went t b es) ih = go (ltb room (length b)) refl
        where
          go : (x : Bool) → ltb room (length b) ≡ x
              → (length (cond x (closing 0 BufferFull s None) (with_step b (portion l code budget (room - length b) t))).bytes ≤ room)
              × ((cond x (closing 0 BufferFull s None) (with_step b (portion l code budget (room - length b) t))).steps ≤ suc budget)
          go true e = (omega arith, omega arith)
          go false e =
              let i = ih (room - length b) t in
              let f = ltb-false room (length b) e in
              (rw length-append (omega (arith, i.0)), omega (arith, i.1))
      by (finished t) ih = (omega arith, omega arith)
      by (refused e) ih = (omega arith, omega arith)

kept-accepted : (budget : ℕ) (r : Run) (buffer : List ℕ) (p : Portion) → length p.bytes ≤ length buffer → p.steps ≤ budget → BufferKept budget buffer (accepted p r buffer)
kept-accepted budget r buffer p h k = record {
  size = simp (length-append, length-drop) (omega arith);
  rest = drop_at p.bytes (drop (length p.bytes) buffer) (length p.bytes) refl;
  steps = k;
}

kept-declined : (budget : ℕ) (buffer : List ℕ) (r : Run) (e : RunRefusal) → BufferKept budget buffer (declined e r buffer)
kept-declined budget buffer r e = record { size = refl; rest = refl; steps = omega arith }

pub buffers_kept : BuffersKept
buffers_kept r budget buffer = go (is_some r.end) (ltb budget 1 || ltb most_budget budget) (ltb (length buffer) least_buffer)
  where
    go : (has bad short : Bool) → BufferKept budget buffer (by_tests r budget buffer has bad short)
    go true bad short = kept-declined budget buffer r HasEnded
    go false true short = kept-declined budget buffer r BudgetOutOfRange
    go false false true = kept-declined budget buffer r BufferTooShort
    go false false false =
        let f = portion-fits r.limits r.code budget (length buffer) r.state in
        kept-accepted budget r buffer (portion r.limits r.code budget (length buffer) r.state) f.0 f.1

-- Where a run stands.

-- a course that made so many steps, wrote this, and came to this state and this end
pub record Matches (c : Course) (n : ℕ) (out : List ℕ) (s : State) (e : Option End) : Type 0 where
  pub steps : c.steps ≡ n
  pub output : c.output ≡ out
  pub state : c.state ≡ s
  pub end : c.end ≡ e

module _ (l : Limits) (code : List Instruction) where
  -- some course from s does
  abbrev pub Stands : State → ℕ → List ℕ → State → Option End → Type 0
  Stands s steps output t end = (n : ℕ) × Matches (course l code n s) steps output t end

  abbrev Comes : State → Portion → Type 0
  Comes s p = Stands s p.steps p.bytes p.state p.end

  -- a portion is a course
  portion-comes : (budget room : ℕ) (s : State) → Comes s (portion l code budget room s)
  portion-comes zero room s = (0, record { steps = refl; output = refl; state = refl; end = refl })
  portion-comes (suc budget) room s = by (step l code s) refl (portion-comes budget)
    where
      by : (o : Outcome) → step l code s ≡ o → ((room : ℕ) (s : State) → Comes s (portion l code budget room s)) → Comes s (portion_by o s room (portion l code budget))
      by (went t b es) e ih = go (ltb room (length b))
        where
          go : (x : Bool) → Comes s (cond x (closing 0 BufferFull s None) (with_step b (portion l code budget (room - length b) t)))
          go true = (0, record { steps = refl; output = refl; state = refl; end = refl })
          go false =
              let p : Portion = portion l code budget (room - length b) t in
              let i : Comes t p = ih (room - length b) t in
              (suc i.0, rw e (record { steps = ap suc i.1.steps; output = cc i.1.output; state = i.1.state; end = i.1.end }))
      by (finished t) e ih =
          (1, rw e (record { steps = refl; output = refl; state = refl; end = refl }))
      by (refused d) e ih =
          (1, rw e (record { steps = refl; output = refl; state = refl; end = refl }))

  -- a course, and a portion from where it has come
  stands_on : (s : State) (n : ℕ) (out : List ℕ) (t : State) (p : Portion) → Stands s n out t None → Comes t p → Stands s (n + p.steps) (out ++ p.bytes) p.state p.end
  stands_on s n out t p a b =
      let r : Course = course l code a.0 s in
      let m : Matches (course l code b.0 r.state) p.steps p.bytes p.state p.end = rw a.1.state b.1 in
      let q : Matches (joined r (course l code b.0 r.state)) (n + p.steps) (out ++ p.bytes) p.state p.end =
      record { steps = cc (a.1.steps, m.steps); output = cc (a.1.output, m.output); state = m.state; end = m.end } in
      (a.0 + b.0, rw (portions_join l code a.0 b.0 s, a.1.end) q)

  module _ (s₀ : State) where
    -- a run that stands so
    abbrev at : State → Option End → Run
    at s end = record { code = code; limits = l; frames_below = []; winds_below = []; state = s; end = end }

    -- a call was answered, or a list of calls
    pub record After (n : ℕ) (out : List ℕ) (r : Run) : Type 0 where
      pub state : State
      pub end : Option End
      pub is : r ≡ at state end
      pub stands : Stands s₀ n out state end

    -- nothing happened
    same : (n : ℕ) (out : List ℕ) (s : State) (end : Option End) → Stands s₀ n out s end → After (n + 0) (out ++ []) (at s end)
    same n out s end h = rw (add-zero, append-nil) (record { state = s; end = end; is = refl; stands = h })

    asked_run : (n : ℕ) (out : List ℕ) (s : State) (end : Option End) (budget : ℕ) (buffer : List ℕ) → Stands s₀ n out s end
        → After (n + steps_in (told (ran (at s end) budget buffer)).0) (out ++ output_in (told (ran (at s end) budget buffer)).0) (told (ran (at s end) budget buffer)).1
    asked_run n out s end budget buffer h = go (is_some end) (ltb budget 1 || ltb most_budget budget) (ltb (length buffer) least_buffer) refl
      where
        none_is : (o : Option End) → is_some o ≡ false → o ≡ None
        none_is None e = refl
        none_is (Some d) e = cc

        go : (has bad short : Bool) → is_some end ≡ has
            → After (n + steps_in (told (by_tests (at s end) budget buffer has bad short)).0) (out ++ output_in (told (by_tests (at s end) budget buffer has bad short)).0)
            (told (by_tests (at s end) budget buffer has bad short)).1
        go true bad short e = same n out s end h
        go false true short e = same n out s end h
        go false false true e = same n out s end h
        go false false false e =
            let p : Portion = portion l code budget (length buffer) s in
            rw (take_at p.bytes (drop (length p.bytes) buffer) (length p.bytes) refl)
            (record { state = p.state; end = p.end; is = refl; stands = stands_on s₀ n out s p (rw (none_is end e) at h) (portion-comes budget (length buffer) s) })

    asked : (n : ℕ) (out : List ℕ) (s : State) (end : Option End) (c : Call) → Stands s₀ n out s end
        → After (n + steps_in (answered (at s end) c).0) (out ++ output_in (answered (at s end) c).0) (answered (at s end) c).1
    asked n out s end (run budget buffer) h = asked_run n out s end budget buffer h
    asked n out s end tally h = same n out s end h
    asked n out s end (look i) h = same n out s end h
    asked n out s end (force i) h = same n out s end h

    abbrev AllAsked : List Call → Type 0
    AllAsked calls = (n : ℕ) (out : List ℕ) (s : State) (end : Option End) → Stands s₀ n out s end
        → After (n + steps_of (served (at s end) calls)) (out ++ output_of (served (at s end) calls)) (served (at s end) calls).1

    -- one answer, and those after it
    regroup : (n k j : ℕ) (out b d : List ℕ) (r : Run) → After ((n + k) + j) ((out ++ b) ++ d) r → After (n + (k + j)) (out ++ (b ++ d)) r
    regroup n k j out b d r h =
        let e : (n + k) + j ≡ n + (k + j) = omega arith in
        rw (e, append_assoc out b d) at h

    asked_more : (a : Answer) (r : Run) (cs : List Call) (n : ℕ) (out : List ℕ) → After (n + steps_in a) (out ++ output_in a) r → AllAsked cs
        → After (n + (steps_in a + steps_of (served r cs))) (out ++ (output_in a ++ output_of (served r cs))) (served r cs).1
    asked_more a r cs n out x ih =
        let y = ih (n + steps_in a) (out ++ output_in a) x.state x.end x.stands in
        regroup n (steps_in a) (steps_of (served r cs)) out (output_in a) (output_of (served r cs)) (served r cs).1 (rw x.is y)

    asked_all : (calls : List Call) → AllAsked calls
    asked_all [] = same
    asked_all (c ∷ cs) = λ n out s end h. asked_more (answered (at s end) c).0 (answered (at s end) c).1 cs n out (asked n out s end c h) (asked_all cs)

    pub comes_to : (calls : List Call) → After (steps_of (served (at s₀ None) calls)) (output_of (served (at s₀ None) calls)) (served (at s₀ None) calls).1
    comes_to calls =
        let x = asked_all calls 0 [] s₀ None (0, record { steps = refl; output = refl; state = refl; end = refl }) in
        rw zero-add at x

-- The laws.

module _ (code : List Instruction) (numbers : List ℤ) where
  one_course : (l : Limits) (x : Served) → After l code (start numbers) (steps_of x) (output_of x) x.1 → OneCourse code numbers l x
  one_course l x h =
      let s₀ : State = start numbers in
      let n : ℕ = h.stands.0 in
      let m = h.stands.1 in
      let counted = steps-made l code n s₀ in
      let made : (course l code (steps_of x) s₀).steps ≡ steps_of x = rw m.steps at counted in
      let same : Level (course l code (steps_of x) s₀) (course l code n s₀) = same_count l l code (steps_of x) n s₀ (made ∙ sym m.steps) in
      let state : (course l code (steps_of x) s₀).state ≡ x.1.state = same.state ∙ m.state ∙ sym (ap (λ (r : Run). r.state) h.is) in
      let end : (course l code n s₀).end ≡ x.1.end = m.end ∙ sym (ap (λ (r : Run). r.end) h.is) in
      let Q : ℕ → Type 0 = λ k. (course l code k s₀).end ≡ None in
      let R : End → ℕ → Type 0 = λ e k. (course l code (suc k) s₀).end ≡ Some e in
      let T : State → Type 0 = λ s. s.counts.steps ≡ (course l code (steps_of x) s₀).steps in
      let C : State → Type 0 = Conserved in
      record {
        made = made;
        output = same.output ∙ m.output;
        state = state;
        going = λ e. subst Q (sym (all_made l code n s₀ (end ∙ e)) ∙ m.steps) (end ∙ e);
        ended = λ d e. subst (R d) m.steps (ended_there l code n s₀ d (end ∙ e));
        told = subst T state (counts_within_steps l code numbers (steps_of x)).0 ∙ made;
        conserved = subst C state (counts-conserved l code numbers (steps_of x));
        balanced = winds-balanced l code numbers (steps_of x);
        same_code = ap (λ (r : Run). r.code) h.is;
        same_limits = ap (λ (r : Run). r.limits) h.is;
      }

  agree : (l m : Limits) (x y : Served) → After l code (start numbers) (steps_of x) (output_of x) x.1 → After m code (start numbers) (steps_of y) (output_of y) y.1 → Agree code numbers l m x y
  agree l m x y h k =
      let s₀ : State = start numbers in
      let a = h.stands.1 in
      let b = k.stands.1 in
      let n : ℕ = h.stands.0 in
      let j : ℕ = k.stands.0 in
      let end : (course l code n s₀).end ≡ x.1.end = a.end ∙ sym (ap (λ (r : Run). r.end) h.is) in
      let other : (course m code j s₀).end ≡ y.1.end = b.end ∙ sym (ap (λ (r : Run). r.end) k.is) in
      record {
        same_answers = λ e.
            let v : Level (course l code n s₀) (course m code j s₀) = same_count l m code n j s₀ (a.steps ∙ e ∙ sym b.steps) in
            let t : h.state ≡ k.state = sym a.state ∙ v.state ∙ b.state in
            let s : x.1.state ≡ y.1.state = ap (λ (r : Run). r.state) h.is ∙ t ∙ sym (ap (λ (r : Run). r.state) k.is) in
            record {
              output = sym a.output ∙ v.output ∙ b.output;
              tally = ap (λ t. tallied t None) s;
              look = λ i. ap (λ r. looked r i) h.is ∙ ap (λ u. looked (at l code s₀ u None) i) t ∙ sym (ap (λ r. looked r i) k.is);
              force = λ i. ap (λ r. forced r i) h.is ∙ ap (λ u. forced (at l code s₀ u None) i) t ∙ sym (ap (λ r. forced r i) k.is);
              state = s;
            };
        same_events = λ e. (same_count l m code (steps_of x) (steps_of y) s₀ ((one_course l x h).made ∙ e ∙ sym (one_course m y k).made)).trail;
        one_output = λ e.
            let v = one_output l m code n j s₀ (omega (arith, a.steps, b.steps, e)) in
            (v.0, sym b.output ∙ v.1 ∙ ap (λ z. z ++ v.0) a.output);
        no_longer = λ d e f. omega (arith, a.steps, b.steps, no_longer l m code n j s₀ d (end ∙ e) f);
        ends_alike = λ d c w e f g.
            let v = ends_alike l m code n j s₀ d c w (end ∙ e) f (other ∙ g) in
            (v.0, sym b.steps ∙ v.1 ∙ a.steps);
      }

pub calls_join : CallsJoin
calls_join code numbers l calls = one_course code numbers l (served (started code numbers l) calls) (comes_to l code (start numbers) calls)

pub two_runs_agree : TwoRunsAgree
two_runs_agree code numbers l m calls others =
    agree code numbers l m (served (started code numbers l) calls) (served (started code numbers m) others)
    (comes_to l code (start numbers) calls) (comes_to m code (start numbers) others)

pub in_order : InOrder
in_order r [] zero = refl
in_order r [] (suc i) = refl
in_order r (c ∷ cs) zero = refl
in_order r (c ∷ cs) (suc i) = ap (λ (l : List Answer). (answered r c).0 ∷ l) (in_order (answered r c).1 cs i)

idle-ran : (r : Run) (e : End) (budget : ℕ) (buffer : List ℕ) → r.end ≡ Some e → ran r budget buffer ≡ declined HasEnded r buffer
idle-ran r e budget buffer h = cond-true (is_some r.end) _ _ (ap is_some h)

-- an answer that tells nothing new
idle-first : (r : Run) (x : Answer × Run) (rest : Served) → steps_in x.0 ≡ 0 → output_in x.0 ≡ [] → Idle r rest → Idle r (x.0 ∷ rest.0, rest.1)
idle-first r x rest e f h = record {
  steps = omega (arith, e, h.steps);
  output = ap (λ b. b ++ output_of rest) f ∙ h.output;
  run = h.run;
}

pub ended_stays : EndedStays
ended_stays r e [] h = record { steps = refl; output = refl; run = refl }
ended_stays r e (run budget buffer ∷ cs) h =
    rw (idle-ran r e budget buffer h) (idle-first r (told (declined HasEnded r buffer)) (served r cs) refl refl (ended_stays r e cs h))
ended_stays r e (tally ∷ cs) h = idle-first r (answered r tally) (served r cs) refl refl (ended_stays r e cs h)
ended_stays r e (look i ∷ cs) h = idle-first r (answered r (look i)) (served r cs) refl refl (ended_stays r e cs h)
ended_stays r e (force i ∷ cs) h = idle-first r (answered r (force i)) (served r cs) refl refl (ended_stays r e cs h)

pub opening_decides : OpeningDecides
opening_decides = record {
  fit = λ code numbers frames winds h. cond-true (both_fit frames winds) _ _ h;
  unfit = λ code numbers frames winds h. ap (λ (r : Run). r.end) (cond-false (both_fit frames winds) _ _ h);
}
