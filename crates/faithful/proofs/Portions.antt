-- Steps in a row carried out are the machine's portion.
use Rattle.std.proofs.Common.{◌≡◌, ℕ, zero, suc, ◌+◌, ◌-◌, ◌≤◌, true, false, nat_lt, List, length, None, Ok, Err, sym, refl, ap, ◌∙◌, subst, arith, length-append, zero-add}
use Rattle.std.proofs.lemmas.Bool.{lt-ltb, le-ltb}
use Rattle.code.specs.declared.instruction.Instruction.{Instruction}
use Rattle.machine.specs.State.{State, Limits}
use Rattle.machine.specs.Step.{Outcome, went, finished, refused, step}
use Rattle.machine.specs.Calls.{Portion, portion_by, portion}
use Rattle.printer.specs.Written.{overwrite}
use Rattle.printer.proofs.Overwrites.{overwrite_none, overwrite_more, length-overwrite}
use Rattle.steps.specs.declared.turn.Turn.TheVariants.{Went, NoRoom, Finished as TurnedLast}
use Rattle.engine.specs.Parts.{Parts, state_from, limits_from}
use Rattle.steps.specs.Advancing.{Turned, Advanced, by_turn, turning, advancing}
use Rattle.faithful.specs.Sound.{Comes, Sound}
use Rattle.faithful.specs.Faithful.{CarriesOut, PortionsCarriedOut}
use Rattle.faithful.proofs.Follows.{Reach}
use Rattle.faithful.proofs.Courses.{comes_on}
use Rattle.faithful.proofs.Steps.{step_follows}
use Rattle.faithful.proofs.Turns.{Turns, turns}

-- the same of steps that come after so many, with so many bytes in the buffer
pub record Continues (code : List Instruction) (p : Parts) (buffer : List ℕ) (steps at : ℕ) (q : Portion) (a : Advanced) : Type 0 where
  pub made : a.0.progress.steps ≡ steps + q.steps
  pub bytes : a.0.progress.bytes ≡ at + length q.bytes
  pub reason : a.0.progress.reason ≡ q.reason
  pub end : a.0.end ≡ q.end
  pub buffer_after : a.1 ≡ overwrite buffer at q.bytes
  pub reach : Reach p a.2 q.state
  pub sound : q.end ≡ None → Sound code a.2

module _ (l : Limits) (code : List Instruction) where
  -- what is to be shown of a budget
  abbrev Budget : ℕ → Type 0
  Budget n = (steps : ℕ) (p : Parts) (buffer : List ℕ) (at : ℕ) → limits_from p ≡ l → Sound code p → at ≤ length buffer
      → Continues code p buffer steps at (portion l code n (length buffer - at) (state_from p)) (advancing code n steps p buffer at)

  reached_sound : (p q : Parts) (t : State) → limits_from p ≡ l → Reach p q t → Comes l code t → Sound code q
  reached_sound p q t e h c = record { comes = rw (h.limits, e, h.state) c; together = h.together }

  -- by what the first step came to
  by_first : (n steps : ℕ) (p : Parts) (buffer : List ℕ) (at : ℕ) (o : Outcome) (x : Turned)
      → limits_from p ≡ l → Sound code p → at ≤ length buffer → step l code (state_from p) ≡ o → Turns p buffer at o x → Budget n
      → Continues code p buffer steps at (portion_by o (state_from p) (length buffer - at) (portion l code n)) (by_turn x steps at (advancing code n (suc steps)))
  by_first n steps p buffer at (went t b es) (Ok (Went next), new, q) e s k f h ih =
      let fits : nat_lt (length buffer - at) (length b) ≡ false = le-ltb (length buffer - at) (length b) (omega (arith, h.0, h.1)) in
      let c : Comes l code t = comes_on l code (state_from p) t b es (subst (λ m. Comes m code (state_from p)) e s.comes) f in
      let same : length new ≡ length buffer = ap length h.2 ∙ length-overwrite buffer b at (omega (arith, h.0, h.1)) in
      let rest = ih (suc steps) q new next (h.3.limits ∙ e) (reached_sound p q t e h.3 c) (omega (arith, same, h.1)) in
      let room : length buffer - at - length b ≡ length new - next = omega (arith, same, h.0, h.1) in
      let inner : Portion = portion l code n (length new - next) (state_from q) in
      rw (fits, room, sym h.3.state) (record {
        made = omega (arith, rest.made);
        bytes = omega (arith, rest.bytes, h.0, length-append b inner.bytes);
        reason = rest.reason;
        end = rest.end;
        buffer_after =
            rest.buffer_after ∙ ap (λ xs. overwrite xs next inner.bytes) h.2 ∙ ap (λ i. overwrite (overwrite buffer at b) i inner.bytes) h.0
            ∙ overwrite_more buffer b inner.bytes at (omega (arith, h.0, h.1));
        reach = record { state = rest.reach.state; limits = rest.reach.limits ∙ h.3.limits; together = rest.reach.together };
        sound = rest.sound;
      })
  by_first n steps p buffer at (went t b es) (Ok NoRoom, new, q) e s k f h ih =
      let full : nat_lt (length buffer - at) (length b) ≡ true = lt-ltb (length buffer - at) (length b) (omega (arith, h.0, k)) in
      rw (full, h.1, h.2) (record {
        made = omega arith;
        bytes = omega arith;
        reason = refl;
        end = refl;
        buffer_after = sym (overwrite_none buffer at);
        reach = record { state = refl; limits = refl; together = s.together };
        sound = λ _. s;
      })
  by_first n steps p buffer at (went t b es) (Ok TurnedLast, new, q) e s k f h ih = absurd h
  by_first n steps p buffer at (went t b es) (Err d, new, q) e s k f h ih = absurd h
  by_first n steps p buffer at (finished t) (Ok (Went next), new, q) e s k f h ih = absurd h
  by_first n steps p buffer at (finished t) (Ok NoRoom, new, q) e s k f h ih = absurd h
  by_first n steps p buffer at (finished t) (Ok TurnedLast, new, q) e s k f h ih = rw h.0 (record {
    made = refl;
    bytes = omega arith;
    reason = refl;
    end = refl;
    buffer_after = sym (overwrite_none buffer at);
    reach = h.1;
    sound = λ y. cc;
  })
  by_first n steps p buffer at (finished t) (Err d, new, q) e s k f h ih = absurd h
  by_first n steps p buffer at (refused c) (Ok y, new, q) e s k f h ih = absurd h
  by_first n steps p buffer at (refused c) (Err d, new, q) e s k f h ih = rw (h.0, h.1) (record {
    made = omega arith;
    bytes = omega arith;
    reason = refl;
    end = refl;
    buffer_after = sym (overwrite_none buffer at);
    reach = h.2;
    sound = λ y. cc;
  })

  continues : (n : ℕ) → Budget n
  continues zero steps p buffer at e s k = record {
    made = omega arith;
    bytes = omega arith;
    reason = refl;
    end = refl;
    buffer_after = sym (overwrite_none buffer at);
    reach = record { state = refl; limits = refl; together = s.together };
    sound = λ _. s;
  }
  continues (suc n) steps p buffer at e s k =
      by_first n steps p buffer at (step l code (state_from p)) (turning code p buffer at) e s k refl
      (turns p buffer at (step l code (state_from p)) _ k (rw (sym e) (step_follows code p s))) (continues n)

pub portions_carried_out : PortionsCarriedOut
portions_carried_out code p budget buffer s =
    let h = continues (limits_from p) code budget 0 p buffer 0 refl s (omega arith) in
    let whole : length buffer - 0 ≡ length buffer = omega arith in
    subst (λ room. CarriesOut code p buffer (portion (limits_from p) code budget room (state_from p)) (advancing code budget 0 p buffer 0)) whole (record {
      steps = h.made ∙ zero-add _;
      bytes = h.bytes ∙ zero-add _;
      reason = h.reason;
      end = h.end;
      buffer_after = h.buffer_after ∙ rw zero-add refl;
      state = h.reach.state;
      limits = h.reach.limits;
      together = h.reach.together;
      sound = h.sound;
    })
