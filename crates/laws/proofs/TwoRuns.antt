-- Two runs, at every two moments.
use Rattle.std.proofs.Common.{◌≡◌, ℕ, zero, suc, Bool, true, false, List, [], ◌∷◌, length, take, ℤ, Some, None, Option, sym, refl, ap, ◌∙◌, subst, subst₂}
use Rattle.std.proofs.lemmas.Bool.{cond-false}
use Rattle.std.specs.List.{slice_get}
use Rattle.std.specs.Option.{option_map}
use Rattle.std.proofs.Math.Seq.{take-length}
use Rattle.code.specs.declared.instruction.Instruction.{Instruction}
use Rattle.machine.specs.declared.end.End.{End}
use Rattle.machine.specs.declared.end.End.TheVariants.{UnfitStores}
use Rattle.machine.specs.declared.tally.Tally.{Tally}
use Rattle.machine.specs.State.{State, Limits}
use Rattle.machine.specs.Opening.{Offer, Run, both_fit, limits_of, started, unfit, opened}
use Rattle.machine.specs.Calls.{Call, run, tally, look, force, Answer, to_run, to_tally, to_look, to_force, tallied, ending, answered, served}
use Rattle.laws.specs.Limits.{IsLimit}
use Rattle.laws.specs.Counts.{Conserved}
use Rattle.laws.specs.Calls.{Served, steps_of, Idle, OneCourse, SameAnswers, Agree}
use Rattle.laws.specs.TwoRuns.{Transcript, transcript, OnFit, given_limits, RightTally, figures, Bound, moment, AsDefined, TellAlike, AgreeAt, AgreeThroughout, TwoRunsAgreeThroughout}
use Rattle.laws.proofs.Served.{in_order, ended_stays, opening_decides, calls_join, two_runs_agree}

-- Single answers.

-- the answer at an index is that to the call at this index, of the run as the calls before left it
answer_at : (r : Run) (calls : List Call) (i : ℕ) (q : Call) → slice_get calls i ≡ Some q
    → slice_get (served r calls).0 i ≡ Some (answered (served r (take i calls)).1 q).0
answer_at r [] i q h = cc
answer_at r (c ∷ cs) zero q h = cc h
answer_at r (c ∷ cs) (suc i) q h = answer_at (answered r c).1 cs i q h

-- the tally in an answer, or another if there is none
abbrev tally_in : Answer → Tally → Tally
tally_in (to_run p buffer) d = d
tally_in (to_tally t) d = t
tally_in (to_look p) d = d
tally_in (to_force p) d = d

-- a tally that a run answers is its own
own_tally : (r : Run) (c : Call) → tally_in (answered r c).0 (tallied r.state r.end) ≡ tallied r.state r.end
own_tally r (run budget buffer) = refl
own_tally r tally = refl
own_tally r (look k) = refl
own_tally r (force k) = refl

tally-at : (r : Run) (calls : List Call) (i : ℕ) (t : Tally) → slice_get (served r calls).0 i ≡ Some (to_tally t)
    → t ≡ tallied (served r (take i calls)).1.state (served r (take i calls)).1.end
tally-at r [] i t h = cc
tally-at r (c ∷ cs) zero t h =
    let i : (answered r c).0 ≡ to_tally t = cc in
    sym (ap (λ a. tally_in a (tallied r.state r.end)) i) ∙ own_tally r c
tally-at r (c ∷ cs) (suc i) t h = tally-at (answered r c).1 cs i t h

-- an end is told just if there is one
end-told : (end : Option End) (s : State) → option_map (λ e. e.end) (ending end s) ≡ end
end-told None s = refl
end-told (Some e) s = refl

-- Ends.

bound : (code : List Instruction) (numbers : List ℤ) (e : End) (l m : Limits) (x y : Served) → Agree code numbers l m x y
    → x.1.end ≡ Some e → (IsLimit e → ⊥) → Bound e l m x y
bound code numbers e l m x y h ended n = record { no_longer = h.no_longer e ended n; ends_alike = λ d w g. h.ends_alike e d w ended n g }

-- Moments.

module _ (code : List Instruction) (numbers : List ℤ) where
  -- the transcript of calls on a run, as the definition has it
  abbrev defined : Offer → Offer → List Call → Transcript
  defined frames winds calls = transcript frames winds calls (served (opened code numbers frames winds) calls)

  module _ (frames winds : Offer) (calls : List Call) where
    abbrev r : Run
    r = opened code numbers frames winds

    abbrev at-moment : ℕ → Served
    at-moment = moment code numbers (defined frames winds calls)

    -- a moment is what the calls up to there come to
    moment_is : (i : ℕ) → served r (take i calls) ≡ at-moment i
    moment_is i = ap (λ (l : List Answer). (l, (served r (take i calls)).1)) (in_order r calls i)

    fit-moment : (i : ℕ) → both_fit frames winds ≡ true → served (started code numbers (limits_of frames winds)) (take i calls) ≡ at-moment i
    fit-moment i h = ap (λ r. served r (take i calls)) (sym (opening_decides.fit code numbers frames winds h)) ∙ moment_is i

    one_course : (i : ℕ) → both_fit frames winds ≡ true → OneCourse code numbers (limits_of frames winds) (at-moment i)
    one_course i h = subst (OneCourse code numbers (limits_of frames winds)) (fit-moment i h) (calls_join code numbers (limits_of frames winds) (take i calls))

    idle : (i : ℕ) → both_fit frames winds ≡ false → Idle r (at-moment i)
    idle i h = subst (Idle r) (moment_is i) (ended_stays r UnfitStores (take i calls) (opening_decides.unfit code numbers frames winds h))

    -- at every moment a tally would tell the step count, and names and winds are conserved
    standing : (i : ℕ) → ((at-moment i).1.state.counts.steps ≡ steps_of (at-moment i)) × Conserved (at-moment i).1.state
    standing i = go (both_fit frames winds) refl
      where
        go : (b : Bool) → both_fit frames winds ≡ b → ((at-moment i).1.state.counts.steps ≡ steps_of (at-moment i)) × Conserved (at-moment i).1.state
        go true h = let c = one_course i h in (c.told, c.conserved)
        go false h =
            let d = idle i h in
            rw (d.run, d.steps, cond-false (both_fit frames winds) (started code numbers (limits_of frames winds)) (unfit code frames winds) h)
            (refl, record { names = refl; winds = refl })

    pub as_defined : AsDefined code numbers (defined frames winds calls)
    as_defined = record {
      answers = refl;
      last_moment = sym (moment_is (length calls)) ∙ ap (served r) (take-length calls);
      from_limits = opening_decides.fit code numbers frames winds;
      one_course = λ h i. one_course i h;
      ended_at_once = opening_decides.unfit code numbers frames winds;
      idle = λ h i. idle i h;
      tallies = λ i t h.
          let s = standing i in
          subst (RightTally (at-moment i)) (sym (tally-at r calls i t h))
          (record { steps_told = s.0; names = s.1.names; winds = s.1.winds; end_told = end-told (at-moment i).1.end (at-moment i).1.state });
    }

  -- Two runs.

  module _ (frames winds frames' winds' : Offer) (calls others : List Call) where
    abbrev a : Transcript
    a = defined frames winds calls

    abbrev b : Transcript
    b = defined frames' winds' others

    tell_alike : (i j : ℕ) → SameAnswers (moment code numbers a i) (moment code numbers b j) → TellAlike code numbers a b i j
    tell_alike i j h =
        let r = opened code numbers frames winds in
        let q = opened code numbers frames' winds' in
        record {
          would_answer = h;
          tallies_given = λ t u e f. ap figures (tally-at r calls i t e) ∙ h.tally ∙ sym (ap figures (tally-at q others j u f));
          looks_given = λ k e f. answer_at r calls i (look k) e ∙ ap (λ z. Some (to_look z)) (h.look k) ∙ sym (answer_at q others j (look k) f);
          forces_given = λ k e f. answer_at r calls i (force k) e ∙ ap (λ z. Some (to_force z)) (h.force k) ∙ sym (answer_at q others j (force k) f);
        }

    agree_at : OnFit a → OnFit b → (i j : ℕ) → AgreeAt code numbers a b i j
    agree_at fit fit' i j =
        let l : Limits = given_limits a in
        let m : Limits = given_limits b in
        let e = fit-moment frames winds calls i fit in
        let f = fit-moment frames' winds' others j fit' in
        let there = subst₂ (Agree code numbers l m) e f (two_runs_agree code numbers l m (take i calls) (take j others)) in
        let back = subst₂ (Agree code numbers m l) f e (two_runs_agree code numbers m l (take j others) (take i calls)) in
        record {
          tell_alike = λ h. tell_alike i j (there.same_answers h);
          first_begins = there.one_output;
          second_begins = back.one_output;
          first_binds = λ d h n. bound code numbers d l m (moment code numbers a i) (moment code numbers b j) there h n;
          second_binds = λ d h n. bound code numbers d m l (moment code numbers b j) (moment code numbers a i) back h n;
        }

    agree_throughout : AgreeThroughout code numbers a b
    agree_throughout = record { first = as_defined frames winds calls; second = as_defined frames' winds' others; agree = agree_at }

pub two_runs_agree_throughout : TwoRunsAgreeThroughout
two_runs_agree_throughout code numbers frames winds frames' winds' calls others x y e f =
    let P : Served → Served → Type 0 = λ x y. AgreeThroughout code numbers (transcript frames winds calls x) (transcript frames' winds' others y) in
    subst₂ P (sym e) (sym f) (agree_throughout code numbers frames winds frames' winds' calls others)
