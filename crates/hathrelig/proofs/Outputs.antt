-- What both runs print.
use Rattle.std.proofs.Common.{◌≡◌, ℕ, List, ◌++◌, length, take, drop, pos, ℤ, Option, ap, subst, replicate, codes, ◌∙◌}
use Rattle.std.proofs.Math.Seq.{take-append_seam}
use Rattle.std.proofs.KnownBytes.{Appends-trans}
use Rattle.std.specs.Io.KnownBytes.{Appends}
use Rattle.code.specs.declared.instruction.Instruction.{Instruction}
use Rattle.machine.specs.Opening.{Offer, Run, opened}
use Rattle.machine.specs.Calls.{Call, Answer, served}
use Rattle.hathrelig.specs.Report.{run_text}
use Rattle.hathrelig.specs.Output.{calls_asked, empty_store, answers_of, runs_text}

-- what a run that was opened and served so has answered
pub answers : (code : List Instruction) (numbers : List ℤ) (frames winds f w : Offer) (calls : List Call) (x : List Answer × Run)
    → x ≡ served (opened code numbers frames winds) calls
    → numbers ≡ replicate 32 (pos 0) → frames ≡ f → winds ≡ w → calls ≡ calls_asked
    → x.0 ≡ answers_of code f w
unfolding answers_of
answers code numbers frames winds f w calls x told zeros same_frames same_winds same_calls =
    let zero = replicate 32 (pos 0) in
    ap (λ r. r.0) (told
    ∙ ap (λ n. served (opened code n frames winds) calls) zeros
    ∙ ap (λ o. served (opened code zero o winds) calls) same_frames
    ∙ ap (λ o. served (opened code zero f o) calls) same_winds
    ∙ ap (served (opened code zero f w)) same_calls)

-- a vector that was lent whole as a slice has what the slice has
pub lent_whole : {A : Type 0} (n : ℕ) (new old : List A) → n ≡ length new → take n (new ++ drop (length new) old) ≡ new
lent_whole n new old same = rw same (take-append_seam new (drop (length new) old))

-- the first run's text, and then the second's
pub both : (a b c : Option (List ℕ)) (code : List Instruction) (xs ys : List Answer)
    → xs ≡ answers_of code (empty_store 48 0) (empty_store 16 0) → ys ≡ answers_of code (empty_store 32 2) (empty_store 16 0)
    → Appends a b (run_text (codes "linked") xs) → Appends b c (run_text (codes "copied") ys) → Appends a c (runs_text code)
both a b c code xs ys first second linked copied =
    Appends-trans a b c _ _
    (subst (λ x. Appends a b (run_text (codes "linked") x)) first linked)
    (subst (λ y. Appends b c (run_text (codes "copied") y)) second copied)
