-- What the program prints for a sheet.
use Rattle.std.specs.Prelude.{ℕ, List, [], ◌∷◌, ◌++◌, replicate, pos, Ok, Err, Result, codes}
use Rattle.code.specs.declared.instruction.Instruction.{Instruction}
use Rattle.machine.specs.Opening.{Offer, opened}
use Rattle.machine.specs.Calls.{Call, run, tally, Answer, served}
use Rattle.sheet.specs.declared.refusal.SheetRefusal.{SheetRefusal}
use Rattle.sheet.specs.Reading.{reading, refusal_text}
use Rattle.hathrelig.specs.Report.{run_text}

-- an empty store, by its depth limit and the level of that
abbrev pub empty_store : ℕ → ℕ → Offer
empty_store depth level = record { cells = []; names = 0; depth_limit = depth; held_limit = 7; limit_level = level }

-- a call for a thousand steps, with room for as many of the longest lines
abbrev pub run_call_asked : Call
run_call_asked = run 1000 (replicate 12000 0)

-- what a run is asked: a hundred such calls, and then a tally
abbrev pub calls_asked : List Call
calls_asked = replicate 100 run_call_asked ++ (tally ∷ [])

-- what a run of a code from zeros answers
unfoldable pub answers_of : List Instruction → Offer → Offer → List Answer
answers_of code frames winds = (served (opened code (replicate 32 (pos 0)) frames winds) calls_asked).0

-- the two runs of a code: on linked stores, and on copied ones, whose frames have a quota of 32 two layers above them
abbrev pub runs_text : List Instruction → List ℕ
runs_text code =
    run_text (codes "linked") (answers_of code (empty_store 48 0) (empty_store 16 0))
    ++ run_text (codes "copied") (answers_of code (empty_store 32 2) (empty_store 16 0))

-- a refused sheet has its refusal in a line, and an accepted one both runs of its code
abbrev pub output_by : Result (List Instruction) SheetRefusal → List ℕ
output_by (Err refusal) = refusal_text refusal ++ (10 ∷ [])
output_by (Ok code) = runs_text code

-- what is printed for the bytes of a sheet
abbrev pub output : List ℕ → List ℕ
output sheet = output_by (reading sheet)
