-- A step carried out is the machine's step.
use Rattle.std.proofs.Common.{◌≡◌, ℕ, ◌+◌, ◌<◌, Bool, true, false, cond, nat_le, List, Some, None, Ok, Err, refl, arith}
use Rattle.std.proofs.lemmas.Bool.{leb-false}
use Rattle.std.proofs.lemmas.List.{length-reverse}
use Rattle.code.specs.declared.instruction.Instruction.{Instruction}
use Rattle.machine.specs.declared.end.End.TheVariants.{StepLimit}
use Rattle.machine.specs.declared.wind_move.WindMove.TheVariants.{Stay}
use Rattle.machine.specs.declared.name_move.NameMove.TheVariants.{Keep as KeepNames}
use Rattle.machine.specs.Acts.{Plan}
use Rattle.machine.specs.Named.{find}
use Rattle.machine.specs.Plan.{plan}
use Rattle.machine.specs.State.{capture_name}
use Rattle.machine.specs.Step.{refused, settle, step, most_steps}
use Rattle.held.specs.Rows.{row_name}
use Rattle.engine.specs.Parts.{Parts, state_from, limits_from}
use Rattle.engine.specs.Acting.{carried}
use Rattle.steps.specs.Planning.{planning}
use Rattle.steps.specs.Advancing.{stepping}
use Rattle.faithful.specs.Sound.{Together, Sound}
use Rattle.faithful.proofs.Facts.{Facts}
use Rattle.faithful.proofs.Legal.{LegalPlan}
use Rattle.faithful.proofs.Follows.{Follows}
use Rattle.faithful.proofs.Courses.{lawful}
use Rattle.faithful.proofs.PlansNames.{Looked, unknown, known, looked}
use Rattle.faithful.proofs.Plans.{plans_alike}
use Rattle.faithful.proofs.PlansLegal.{plan_legal}
use Rattle.faithful.proofs.ActsCounts.{counted_alike}
use Rattle.faithful.proofs.Acts.{act_follows}

-- a name that no capture has is in no row
unheld_row : (p : Parts) (n : ℕ) → Together p → find capture_name (state_from p).held n ≡ None → find row_name p.rows n ≡ None
unheld_row p n h e = by (looked n p.frames.held p.winds.held p.rows h)
  where
    by : Looked n p.frames.held p.winds.held p.rows → find row_name p.rows n ≡ None
    by (unknown f w row c) = row
    by (known once fs ws f w row c) = cc (c, e)

-- as long as a step more can be made
facts : (code : List Instruction) (p : Parts) → Sound code p → p.counts.steps < most_steps → Facts p
facts code p h few =
    let k = lawful (limits_from p) code (state_from p) h.comes in
    record {
      together = h.together;
      within = omega (arith, k.within.frames, length-reverse p.frames.current);
      small = record {
        steps = omega (arith, few);
        made = omega (arith, few, k.counts.made);
        used = omega (arith, few, k.counts.made, k.conserved.names);
        forgotten = omega (arith, few, k.counts.made, k.conserved.names);
        numbered = omega (arith, few, k.counts.numbered);
        entered = omega (arith, few, k.counts.entered);
        left = omega (arith, few, k.counts.entered, k.conserved.winds);
      };
      free = unheld_row p (p.counts.made + 1) h.together k.free;
    }

settled : (p : Parts) (x : Plan) → Facts p → LegalPlan p x → Follows p (settle (limits_from p) (state_from p) x) (carried x p)
settled p (Err e) f h = (refl, record { state = refl; limits = refl; together = f.together })
settled p (Ok None) f h = record { state = rw (counted_alike p.counts Stay KeepNames f.small) refl; limits = refl; together = f.together }
settled p (Ok (Some a)) f h = act_follows p a f h

pub step_follows : (code : List Instruction) (p : Parts) → Sound code p → Follows p (step (limits_from p) code (state_from p)) (stepping code p)
step_follows code p h = go (nat_le most_steps p.counts.steps) refl
  where
    go : (b : Bool) → nat_le most_steps p.counts.steps ≡ b
        → Follows p (cond b (refused StepLimit) (settle (limits_from p) (state_from p) (plan code (state_from p)))) (cond b (Err StepLimit, p) (carried (planning code p) p))
    go true e = (refl, record { state = refl; limits = refl; together = h.together })
    go false e =
        let f : Facts p = facts code p h (leb-false most_steps p.counts.steps e) in
        rw (plans_alike code p f) (settled p (plan code (state_from p)) f (plan_legal code p f))
