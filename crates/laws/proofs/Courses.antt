-- Courses of steps from one state.
use Rattle.std.proofs.Common.{◌≡◌, ℕ, zero, suc, ◌+◌, ◌≤◌, List, [], Some, None, Option, sym, refl, ap, ◌∙◌, append_assoc, suc-add, zero-add, arith}
use Rattle.code.specs.declared.instruction.Instruction.{Instruction}
use Rattle.machine.specs.declared.end.End.{End}
use Rattle.machine.specs.State.{State, Limits}
use Rattle.machine.specs.Apply.{Event}
use Rattle.machine.specs.Step.{Outcome, went, finished, refused, step}
use Rattle.machine.specs.Course.{Course, after_step, follow, course, further, go_on}
use Rattle.laws.specs.Limits.{IsLimit, Wider}
use Rattle.laws.specs.Courses.{Begins, Level, SameCount, OneOutput, NoLonger, EndsAlike, CoursesAgree, PortionsJoin}
use Rattle.laws.proofs.Limits.{Alike, alike, same_end, same_finish, wider_step}

-- a course that makes no step stands where it was
none_made : (l : Limits) (code : List Instruction) (n : ℕ) (s : State) → (course l code n s).steps ≡ 0 → Level (course l code n s) (course l code zero s)
none_made l code zero s e = record { state = refl; output = refl; trail = refl }
none_made l code (suc n) s e = go (step l code s) e
  where
    go : (o : Outcome) → (follow o s (course l code n)).steps ≡ 0 → Level (follow o s (course l code n)) (course l code zero s)
    go (went t b e) h = absurd (omega arith)
    go (finished t) h = absurd (omega arith)
    go (refused d) h = record { state = refl; output = refl; trail = refl }

level_sym : (r q : Course) → Level r q → Level q r
level_sym r q h = record { state = sym h.state; output = sym h.output; trail = sym h.trail }

pub same_count : SameCount
same_count l m code zero k s e = level_sym (course m code k s) (course m code zero s) (none_made m code k s (sym e))
same_count l m code (suc n) zero s e = none_made l code (suc n) s e
same_count l m code (suc n) (suc k) s e = go (step l code s) (step m code s) (alike l m code s) e (same_count l m code n k)
  where
    go : (o o' : Outcome) → Alike o o' → (follow o s (course l code n)).steps ≡ (follow o' s (course m code k)).steps
        → ((t : State) → (course l code n t).steps ≡ (course m code k t).steps → Level (course l code n t) (course m code k t))
        → Level (follow o s (course l code n)) (follow o' s (course m code k))
    go (went t b e) (went u c f) h p ih =
        let i : Level (course l code n t) (course m code k t) = ih t (grind (arith, h.0)) in
        record { state = cc (h.0, i.state); output = cc (h.0, h.1, i.output); trail = cc (h.0, h.2, i.trail) }
    go (went t b e) (finished u) h p ih = absurd h
    go (went t b e) (refused d) h p ih = absurd (omega arith)
    go (finished t) (went u c f) h p ih = absurd h
    go (finished t) (finished u) h p ih = record { state = h; output = refl; trail = refl }
    go (finished t) (refused d) h p ih = absurd h
    go (refused d) (went u c f) h p ih = absurd (omega arith)
    go (refused d) (finished u) h p ih = absurd h
    go (refused d) (refused e) h p ih = record { state = refl; output = refl; trail = refl }

pub one_output : OneOutput
one_output l m code zero k s h = ((course m code k s).output, refl)
one_output l m code (suc n) zero s h = go (step l code s) h
  where
    go : (o : Outcome) → (follow o s (course l code n)).steps ≤ 0 → Begins (follow o s (course l code n)).output []
    go (went t b e) h = absurd (omega arith)
    go (finished t) h = ([], refl)
    go (refused d) h = ([], refl)
one_output l m code (suc n) (suc k) s h = go (step l code s) (step m code s) (alike l m code s) h (one_output l m code n k)
  where
    go : (o o' : Outcome) → Alike o o' → (follow o s (course l code n)).steps ≤ (follow o' s (course m code k)).steps
        → ((t : State) → (course l code n t).steps ≤ (course m code k t).steps → Begins (course l code n t).output (course m code k t).output)
        → Begins (follow o s (course l code n)).output (follow o' s (course m code k)).output
    go (went t b e) (went u c f) a h ih =
        let i : Begins (course l code n t).output (course m code k t).output = ih t (grind (arith, a.0)) in
        (i.0, cc (a.0, a.1, i.1, append_assoc b (course l code n t).output i.0))
    go (went t b e) (finished u) a h ih = absurd a
    go (went t b e) (refused d) a h ih = absurd (omega arith)
    go (finished t) o' a h ih = ((follow o' s (course m code k)).output, refl)
    go (refused d) o' a h ih = ((follow o' s (course m code k)).output, refl)

pub no_longer : NoLonger
no_longer l m code zero k s e p q = cc
no_longer l m code (suc n) zero s e p q = omega arith
no_longer l m code (suc n) (suc k) s e p q = go (step l code s) (step m code s) (alike l m code s) p (no_longer l m code n k)
  where
    go : (o o' : Outcome) → Alike o o' → (follow o s (course l code n)).end ≡ Some e
        → ((t : State) (d : End) → (course l code n t).end ≡ Some d → (IsLimit d → ⊥) → (course m code k t).steps ≤ (course l code n t).steps)
        → (follow o' s (course m code k)).steps ≤ (follow o s (course l code n)).steps
    go (went t b es) (went u c fs) a h ih =
        rw (← a.0) (omega (arith, ih t e h q))
    go (went t b es) (finished u) a h ih = absurd a
    go (went t b es) (refused d) a h ih = omega arith
    go (finished t) (went u c fs) a h ih = absurd a
    go (finished t) (finished u) a h ih = omega arith
    go (finished t) (refused d) a h ih = absurd a
    go (refused d) (went u c fs) a h ih = let i : d ≡ e = cc h in absurd (q (rw i at a))
    go (refused d) (finished u) a h ih = absurd a
    go (refused d) (refused x) a h ih = omega arith

pub ends_alike : EndsAlike
ends_alike l m code zero k s e d w p q r = cc
ends_alike l m code (suc n) zero s e d w p q r = cc
ends_alike l m code (suc n) (suc k) s e d w p q r = go (step l code s) refl p r (ends_alike l m code n k)
  where
    go : (o : Outcome) → step l code s ≡ o → (follow o s (course l code n)).end ≡ Some e → (follow (step m code s) s (course m code k)).end ≡ Some d
        → ((t : State) (e d : End) → Wider l m → (course l code n t).end ≡ Some e → (IsLimit e → ⊥) → (course m code k t).end ≡ Some d → (d ≡ e) × ((course m code k t).steps ≡ (course l code n t).steps))
        → (d ≡ e) × ((follow (step m code s) s (course m code k)).steps ≡ (follow o s (course l code n)).steps)
    go (went t b es) f h i ih =
        let x = wider_step l m code s t b es w f in
        let y = ih t e d w h q (rw x at i) in
        rw x (y.0, ap suc y.1)
    go (finished t) f h i ih =
        let x = same_finish l m code s t f in
        let j = rw x at i in
        rw x (cc (h, j), refl)
    go (refused c) f h i ih =
        let u : e ≡ c = cc h in
        let x = same_end l m code s c (rw u at q) f in
        let j = rw x at i in
        rw x (cc (h, j), refl)

-- Portions.

join_step : (l : Limits) (code : List Instruction) (k : ℕ) (b : List ℕ) (es : List Event) (r : Course) (o : Option End) → r.end ≡ o
    → after_step b es (further o l code k r) ≡ further o l code k (after_step b es r)
join_step l code k b es r None e =
    let q : Course = course l code k r.state in
    let i : suc (r.steps + q.steps) ≡ suc r.steps + q.steps = omega arith in
    cc (i, append_assoc b r.output q.output, append_assoc es r.trail q.trail)
join_step l code k b es r (Some d) e = refl

no_more : (r : Course) → r ≡ record { state = r.state; steps = 0 + r.steps; output = r.output; trail = r.trail; end = r.end }
no_more r =
    let P : ℕ → Course = λ n. record { state = r.state; steps = n; output = r.output; trail = r.trail; end = r.end } in
    ap P (sym (zero-add r.steps))

pub portions_join : PortionsJoin
portions_join l code zero k s = rw (zero-add k) (no_more (course l code k s))
portions_join l code (suc n) k s = rw suc-add (go (step l code s) (portions_join l code n k))
  where
    go : (o : Outcome) → ((t : State) → course l code (n + k) t ≡ go_on l code k (course l code n t))
        → follow o s (course l code (n + k)) ≡ go_on l code k (follow o s (course l code n))
    go (went t b es) ih = ap (after_step b es) (ih t) ∙ join_step l code k b es (course l code n t) (course l code n t).end refl
    go (finished t) ih = refl
    go (refused d) ih = refl

-- A course of as many steps as another made.

module _ (l : Limits) (code : List Instruction) where
  -- it makes them all
  pub steps-made : (n : ℕ) (s : State) → (course l code (course l code n s).steps s).steps ≡ (course l code n s).steps
  steps-made zero s = refl
  steps-made (suc n) s = go (step l code s) refl (steps-made n)
    where
      go : (o : Outcome) → step l code s ≡ o → ((t : State) → (course l code (course l code n t).steps t).steps ≡ (course l code n t).steps)
          → (course l code (follow o s (course l code n)).steps s).steps ≡ (follow o s (course l code n)).steps
      go (went t b es) e ih = ap (λ o. (follow o s (course l code (course l code n t).steps)).steps) e ∙ ap suc (ih t)
      go (finished t) e ih = ap (λ o. (follow o s (course l code zero)).steps) e
      go (refused d) e ih = refl

  -- a course that has not ended made all that it could
  pub all_made : (n : ℕ) (s : State) → (course l code n s).end ≡ None → (course l code n s).steps ≡ n
  all_made zero s h = refl
  all_made (suc n) s h = go (step l code s) h (all_made n)
    where
      go : (o : Outcome) → (follow o s (course l code n)).end ≡ None → ((t : State) → (course l code n t).end ≡ None → (course l code n t).steps ≡ n)
          → (follow o s (course l code n)).steps ≡ suc n
      go (went t b es) h ih = ap suc (ih t h)
      go (finished t) h ih = cc
      go (refused d) h ih = cc

  -- one that has ended had done so by the step after those that it made
  pub ended_there : (n : ℕ) (s : State) (e : End) → (course l code n s).end ≡ Some e → (course l code (suc (course l code n s).steps) s).end ≡ Some e
  ended_there zero s e h = cc
  ended_there (suc n) s e h = go (step l code s) refl h (ended_there n)
    where
      go : (o : Outcome) → step l code s ≡ o → (follow o s (course l code n)).end ≡ Some e
          → ((t : State) (e : End) → (course l code n t).end ≡ Some e → (course l code (suc (course l code n t).steps) t).end ≡ Some e)
          → (course l code (suc (follow o s (course l code n)).steps) s).end ≡ Some e
      go (went t b es) f h ih = ap (λ o. (follow o s (course l code (suc (course l code n t).steps))).end) f ∙ ih t e h
      go (finished t) f h ih = ap (λ o. (follow o s (course l code (suc zero))).end) f ∙ h
      go (refused d) f h ih = ap (λ o. (follow o s (course l code zero)).end) f ∙ h

pub courses_agree : CoursesAgree
courses_agree = record { same_count = same_count; one_output = one_output; no_longer = no_longer; ends_alike = ends_alike }
