-- The calls on an engine are those on the run that it stands for.
use Rattle.std.proofs.Common.{suc, arith, ◌≡◌, ℕ, List, [], ◌∷◌, length, None, Option, Ok, refl, sym, ap, ◌∙◌, subst}
use Rattle.std.proofs.lemmas.List.{length-reverse}
use Rattle.code.specs.declared.instruction.Instruction.{Instruction}
use Rattle.machine.specs.declared.end.End.{End}
use Rattle.machine.specs.declared.progress.Progress.{Progress}
use Rattle.machine.specs.declared.reason.Reason.{Reason}
use Rattle.machine.specs.Opening.{Run}
use Rattle.machine.specs.Calls.{Portion, portion, Ran, ran, accepted, tallied}
use Rattle.engine.specs.Parts.{Parts, captured, state_from, limits_from}
use Rattle.engine.specs.Tallies.{tally_of}
use Rattle.steps.specs.Advancing.{Advanced, advancing}
use Rattle.laws.specs.Rows.{joined, Matched}
use Rattle.held.specs.declared.held_row.HeldRow.{HeldRow}
use Rattle.held.specs.Rows.{row_name}
use Rattle.cell.specs.declared.frame.Frame.{Frame}
use Rattle.cell.specs.declared.wind.Wind.{Wind}
use Rattle.store.specs.Meaning.{Held}
use Rattle.faithful.specs.Faithful.{CarriesOut}
use Rattle.faithful.specs.Sound.{pair_name, Together}
use Rattle.faithful.proofs.Portions.{portions_carried_out}
use Rattle.run.specs.Admission.{admitted}
use Rattle.run.specs.Stages.{run_of, Kept}

-- a progress, by its fields
told : (p : Progress) (steps bytes : ℕ) (reason : Reason) → p.steps ≡ steps → p.bytes ≡ bytes → p.reason ≡ reason
    → p ≡ record { steps = steps; bytes = bytes; reason = reason }
told p steps bytes reason e f g =
    let h : ◌≡◌ {A = Progress} (record { steps = p.steps; bytes = p.bytes; reason = p.reason }) (record { steps = steps; bytes = bytes; reason = reason }) = cc (e, f, g) in
    h

-- steps in a row are an accepted run call
accepted_as : (code : List Instruction) (p : Parts) (buffer : List ℕ) (q : Portion) (a : Advanced) → CarriesOut code p buffer q a
    → ◌≡◌ {A = Ran} (Ok a.0.progress, a.1, run_of code a.2 a.0.end) (accepted q (run_of code p None) buffer)
accepted_as code p buffer q a h =
    cc (told a.0.progress q.steps (length q.bytes) q.reason h.steps h.bytes h.reason, h.end, h.buffer_after, h.state, h.limits)

-- a run call that is accepted
accepted_is : (r : Run) (budget : ℕ) (buffer : List ℕ) → r.end ≡ None → Ok tt ≡ admitted budget (length buffer)
    → ran r budget buffer ≡ accepted (portion r.limits r.code budget (length buffer) r.state) r buffer
accepted_is r budget buffer e f = grind (arith, e, f)

module _ (code : List Instruction) (p : Parts) (budget : ℕ) (buffer : List ℕ) (a : Advanced) (kept : Kept code p None)
    (is : a ≡ advancing code budget 0 p buffer 0) where
  abbrev carried_out : CarriesOut code p buffer (portion (limits_from p) code budget (length buffer) (state_from p)) a
  carried_out = subst (CarriesOut code p buffer (portion (limits_from p) code budget (length buffer) (state_from p))) (sym is)
      (portions_carried_out code p budget buffer (kept.sound refl))

  pub ran_as : Ok tt ≡ admitted budget (length buffer) → ◌≡◌ {A = Ran} (Ok a.0.progress, a.1, run_of code a.2 a.0.end) (ran (run_of code p None) budget buffer)
  ran_as e = accepted_as code p buffer _ a carried_out ∙ sym (accepted_is (run_of code p None) budget buffer refl e)

  pub kept_on : Kept code a.2 a.0.end
  kept_on = record { together = carried_out.together; sound = λ e. carried_out.sound (sym carried_out.end ∙ e) }

-- the names of the rows are those that the machine holds
joined_length : (fs : List (Held Frame)) (ws : List (Held Wind)) (rows : List HeldRow) → Matched pair_name pair_name row_name fs ws rows
    → length (joined captured fs ws rows) ≡ length rows
joined_length [] [] [] h = refl
joined_length [] [] (z ∷ zs) h = absurd h
joined_length [] (y ∷ ys) zs h = absurd h
joined_length (x ∷ xs) [] zs h = absurd h
joined_length (x ∷ xs) (y ∷ ys) [] h = absurd h
joined_length (x ∷ xs) (y ∷ ys) (z ∷ zs) h = ap suc (joined_length xs ys zs h.2)

-- an engine's tally is that of the machine's state
pub tally_as : (p : Parts) (end : Option End) → Together p → tally_of p end ≡ tallied (state_from p) end
tally_as p end h = cc (joined_length p.frames.held p.winds.held p.rows h, length-reverse p.winds.current)
