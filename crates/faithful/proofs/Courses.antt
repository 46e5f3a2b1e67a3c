-- The states that a run comes to: each step of a run that goes on comes to another, and the laws of the machine hold there.
use Rattle.std.proofs.Common.{◌≡◌, ℕ, ◌+◌, List, None, refl, subst}
use Rattle.code.specs.declared.instruction.Instruction.{Instruction}
use Rattle.machine.specs.Named.{find}
use Rattle.machine.specs.State.{State, Limits, capture_name, start}
use Rattle.machine.specs.Apply.{Event}
use Rattle.machine.specs.Step.{went, step}
use Rattle.machine.specs.Course.{Course, course, joined}
use Rattle.laws.specs.Counts.{Conserved, WithinSteps}
use Rattle.laws.specs.Reached.{Within}
use Rattle.laws.proofs.Courses.{portions_join}
use Rattle.laws.proofs.Counts.{counts-conserved, counts_within_steps, limits-kept, never_reached}
use Rattle.faithful.specs.Sound.{Comes}

module _ (l : Limits) (code : List Instruction) where
  -- one step more
  pub comes_on : (s t : State) (b : List ℕ) (es : List Event) → Comes l code s → step l code s ≡ went t b es → Comes l code t
  comes_on s t b es h e =
      let numbers = h.0 in
      let n : ℕ = h.1 in
      let r : Course = course l code n (start numbers) in
      let f : course l code (n + 1) (start numbers) ≡ joined r (course l code 1 s) = rw (portions_join l code n 1 (start numbers), h.3, h.2) refl in
      (numbers, n + 1, rw (f, e) refl, rw (f, e) refl)

  -- what the laws tell of such a state
  pub record Lawful (s : State) : Type 0 where
    pub conserved : Conserved s
    pub counts : WithinSteps s.counts
    pub within : Within l s
    pub free : find capture_name s.held (s.counts.made + 1) ≡ None

  pub lawful : (s : State) → Comes l code s → Lawful s
  lawful s h = subst Lawful h.2 (record {
    conserved = counts-conserved l code h.0 h.1;
    counts = (counts_within_steps l code h.0 h.1).1;
    within = limits-kept l code h.0 h.1;
    free = (never_reached l code h.0 h.1).next_name_free;
  })
