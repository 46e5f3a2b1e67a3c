-- Small pieces of code with lists of calls, and what each call tells: one table.
use Rattle.std.specs.Prelude.{ℕ, Bool, true, false, ◌&&◌, T, List, [], ◌∷◌, map, take, replicate, pos, negsuc, Some, None, Ok, Err, Option, Result, ◌==◌}
use Rattle.cell.specs.declared.address.Address.{Address}
use Rattle.cell.specs.declared.cell.Cell.{Cell}
use Rattle.cell.specs.Filled.{filled}
use Rattle.code.specs.declared.register.Register.{Register}
use Rattle.code.specs.declared.global.Global.{Global}
use Rattle.code.specs.declared.instruction.Instruction.{Instruction}
use Rattle.code.specs.declared.instruction.Instruction.TheVariants.{Set, Proc, Load, Store, Add, Sub, Less, Zero, Push, Pop, Print, Call as CallRegister, Tail, CallCc, CallOnce, Forget, DynamicWind, Return, Stop}
use Rattle.machine.specs.declared.end.End.{End}
use Rattle.machine.specs.declared.end.End.TheVariants.{Finished, WrongKind, SumOutOfRange, WrongFrame, NotHeld, OffTheEnd, FrameLimit, WindLimit, HeldLimit, UnfitStores, StepLimit}
use Rattle.machine.specs.declared.index_refusal.IndexRefusal.{IndexRefusal}
use Rattle.machine.specs.declared.progress.Progress.{Progress}
use Rattle.machine.specs.declared.run_refusal.RunRefusal.{RunRefusal}
use Rattle.machine.specs.declared.tally.Tally.{Tally}
use Rattle.machine.specs.declared.tally.Ending.{Ending}
use Rattle.machine.specs.Numbers.{end_number, reason_number, run_refusal_number, index_refusal_number}
use Rattle.machine.specs.Opening.{Offer, opened}
use Rattle.machine.specs.Calls.{Call, run, tally, look, force, Answer, to_run, to_tally, to_look, to_force, served}

-- code, the stores that it is run on, some calls, and what each of them is to tell
pub record Example : Type 0 where
  pub code : List Instruction
  pub frames : Offer
  pub winds : Offer
  pub calls : List Call
  pub told : List (List ℕ)

-- a register, by its number
abbrev r : ℕ → Register
r i = record { 0 = i }

-- a global, by its number
abbrev g : ℕ → Global
g i = record { 0 = i }

-- an address, by its number
abbrev at : ℕ → Address
at i = record { 0 = i }

-- an empty store with a depth limit, a held limit and a limit level
abbrev offer : ℕ → ℕ → ℕ → Offer
offer depth held level = record { cells = []; names = 0; depth_limit = depth; held_limit = held; limit_level = level }

-- a store with cells in it, each of one word and zeros, and with room enough
abbrev holding : List ℕ → Offer
holding words = record { cells = map (λ w. filled (w ∷ [])) words; names = 0; depth_limit = 48; held_limit = 7; limit_level = 0 }

-- a run call with a budget and a buffer of so many zeros
abbrev called : ℕ → ℕ → Call
called budget size = run budget (replicate size 0)

-- the level of the limit that an end tells, if it is that of a full list
abbrev level_words : End → List ℕ
level_words Finished = []
level_words WrongKind = []
level_words SumOutOfRange = []
level_words WrongFrame = []
level_words NotHeld = []
level_words OffTheEnd = []
level_words (FrameLimit level) = level ∷ []
level_words (WindLimit level) = level ∷ []
level_words HeldLimit = []
level_words UnfitStores = []
level_words StepLimit = []

-- how a run ended: the number of the end, the last address, and the level; nothing of a run that goes on
abbrev ending_words : Option Ending → List ℕ
ending_words None = []
ending_words (Some e) = end_number e.end ∷ e.address.0 ∷ level_words e.end

-- the figures of a tally: steps, those of names and those of winds, and then how the run ended
abbrev tally_words : Tally → List ℕ
tally_words t =
    t.steps ∷ t.names.made ∷ t.names.used ∷ t.names.forgotten ∷ t.names.held
    ∷ t.winds.entered ∷ t.winds.left ∷ t.winds.current ∷ ending_words t.ending

-- what a run call answers: steps, bytes and reason, and the bytes that it wrote; or the number of its refusal
abbrev run_words : Result Progress RunRefusal → List ℕ → List ℕ
run_words (Ok p) buffer = p.steps ∷ p.bytes ∷ reason_number p.reason ∷ take p.bytes buffer
run_words (Err e) buffer = run_refusal_number e ∷ []

-- what look and force answer: the words of a cell, or the number of the refusal
abbrev index_words : Result Cell IndexRefusal → List ℕ
index_words (Ok c) = c.words
index_words (Err e) = index_refusal_number e ∷ []

-- the words of an answer
abbrev words : Answer → List ℕ
words (to_run answer buffer) = run_words answer buffer
words (to_tally t) = tally_words t
words (to_look answer) = index_words answer
words (to_force answer) = index_words answer

-- whether two lists of words are the same
abbrev same : List ℕ → List ℕ → Bool
same [] [] = true
same [] (y ∷ ys) = false
same (x ∷ xs) [] = false
same (x ∷ xs) (y ∷ ys) = x == y && same xs ys

-- whether two lists of answers have the same words
abbrev all_same : List (List ℕ) → List (List ℕ) → Bool
all_same [] [] = true
all_same [] (y ∷ ys) = false
all_same (x ∷ xs) [] = false
all_same (x ∷ xs) (y ∷ ys) = same x y && all_same xs ys

-- the calls of an example, on a run whose globals are all 0, tell what they are to tell
abbrev pub right : Example → Bool
right e = all_same (map words (served (opened e.code (replicate 32 (pos 0)) e.frames e.winds) e.calls).0) e.told

-- so do all of these
abbrev pub all_right : List Example → Bool
all_right [] = true
all_right (e ∷ es) = right e && all_right es

-- the table; an independent evaluator told what each call is to tell
abbrev pub examples : List Example
examples =
    -- numbers, a value on the frames, a call and a tail call
    record {
      code = Set (r 1) (pos 5) ∷ Set (r 2) (pos 2) ∷ Sub (r 3) (r 1) (r 2) ∷ Print (r 3) ∷ Less (r 4) (r 2) (r 1) ∷ Print (r 4) ∷ Add (r 3) (r 3) (r 1) ∷ Print (r 3) ∷ Push (r 3) ∷ Set (r 3) (pos 0) ∷ Pop (r 5) ∷ Print (r 5) ∷ Proc (r 6) (at 16) ∷ CallRegister (r 6) ∷ Print (r 0) ∷ Stop ∷ Proc (r 7) (at 18) ∷ Tail (r 7) ∷ Set (r 0) (pos 9) ∷ Return ∷ [];
      frames = offer 48 7 0;
      winds = offer 16 7 0;
      calls = called 9 12 ∷ look 0 ∷ called 7 12 ∷ look 0 ∷ look 1 ∷ called 100 12 ∷ tally ∷ [];
      told = (9 ∷ 6 ∷ 0 ∷ 51 ∷ 10 ∷ 49 ∷ 10 ∷ 56 ∷ 10 ∷ []) ∷ (1 ∷ 1 ∷ 8 ∷ 0 ∷ []) ∷ (7 ∷ 2 ∷ 0 ∷ 56 ∷ 10 ∷ []) ∷ (2 ∷ 14 ∷ 0 ∷ 0 ∷ []) ∷ (23 ∷ []) ∷ (5 ∷ 2 ∷ 2 ∷ 57 ∷ 10 ∷ []) ∷ (21 ∷ 0 ∷ 0 ∷ 0 ∷ 0 ∷ 0 ∷ 0 ∷ 0 ∷ 0 ∷ 15 ∷ []) ∷ [];
    }
    -- a name that is forgotten is held no more
    ∷ record {
      code = Proc (r 1) (at 4) ∷ CallCc (r 1) ∷ Forget (r 0) ∷ Forget (r 0) ∷ Return ∷ [];
      frames = offer 48 7 0;
      winds = offer 16 7 0;
      calls = called 1000 1000 ∷ tally ∷ [];
      told = (5 ∷ 0 ∷ 2 ∷ []) ∷ (5 ∷ 1 ∷ 0 ∷ 1 ∷ 0 ∷ 0 ∷ 0 ∷ 0 ∷ 33 ∷ 3 ∷ []) ∷ [];
    }
    -- a continuation that is thrown to once more, in three portions, and a call after the end
    ∷ record {
      code = Proc (r 1) (at 11) ∷ CallCc (r 1) ∷ Print (r 0) ∷ Load (r 2) (g 1) ∷ Zero (r 2) (at 6) ∷ Stop ∷ Set (r 2) (pos 1) ∷ Store (g 1) (r 2) ∷ Load (r 1) (g 0) ∷ Set (r 0) (pos 6) ∷ Tail (r 1) ∷ Store (g 0) (r 0) ∷ Set (r 0) (pos 5) ∷ Return ∷ [];
      frames = offer 48 7 0;
      winds = offer 16 7 0;
      calls = called 7 12 ∷ tally ∷ look 0 ∷ called 9 12 ∷ called 5 12 ∷ tally ∷ look 0 ∷ called 1 12 ∷ [];
      told = (7 ∷ 2 ∷ 0 ∷ 53 ∷ 10 ∷ []) ∷ (7 ∷ 1 ∷ 0 ∷ 0 ∷ 1 ∷ 0 ∷ 0 ∷ 0 ∷ []) ∷ (23 ∷ []) ∷ (9 ∷ 0 ∷ 0 ∷ []) ∷ (4 ∷ 2 ∷ 2 ∷ 54 ∷ 10 ∷ []) ∷ (20 ∷ 1 ∷ 0 ∷ 0 ∷ 1 ∷ 0 ∷ 0 ∷ 0 ∷ 0 ∷ 5 ∷ []) ∷ (23 ∷ []) ∷ (20 ∷ []) ∷ [];
    }
    -- the same with a one-shot continuation, which its Mark has used up
    ∷ record {
      code = Proc (r 1) (at 11) ∷ CallOnce (r 1) ∷ Print (r 0) ∷ Load (r 2) (g 1) ∷ Zero (r 2) (at 6) ∷ Stop ∷ Set (r 2) (pos 1) ∷ Store (g 1) (r 2) ∷ Load (r 1) (g 0) ∷ Set (r 0) (pos 6) ∷ Tail (r 1) ∷ Store (g 0) (r 0) ∷ Set (r 0) (pos 5) ∷ Return ∷ [];
      frames = offer 48 7 0;
      winds = offer 16 7 0;
      calls = called 1000 1000 ∷ tally ∷ [];
      told = (15 ∷ 2 ∷ 2 ∷ 53 ∷ 10 ∷ []) ∷ (15 ∷ 1 ∷ 1 ∷ 0 ∷ 0 ∷ 0 ∷ 0 ∷ 0 ∷ 33 ∷ 10 ∷ []) ∷ [];
    }
    -- a one-shot continuation whose Mark is captured serves for many throws
    ∷ record {
      code = Proc (r 1) (at 3) ∷ CallOnce (r 1) ∷ Return ∷ Proc (r 1) (at 6) ∷ CallCc (r 1) ∷ Return ∷ Return ∷ [];
      frames = offer 48 7 0;
      winds = offer 16 7 0;
      calls = called 1000 1000 ∷ tally ∷ [];
      told = (11 ∷ 0 ∷ 2 ∷ []) ∷ (11 ∷ 2 ∷ 0 ∷ 0 ∷ 2 ∷ 0 ∷ 0 ∷ 0 ∷ 0 ∷ 2 ∷ []) ∷ [];
    }
    -- calls without end, up to the frame limit, whose level is 3
    ∷ record {
      code = Proc (r 1) (at 0) ∷ CallRegister (r 1) ∷ [];
      frames = offer 48 7 3;
      winds = offer 16 7 0;
      calls = called 1000000 12 ∷ tally ∷ look 47 ∷ look 48 ∷ [];
      told = (97 ∷ 0 ∷ 2 ∷ []) ∷ (97 ∷ 0 ∷ 0 ∷ 0 ∷ 0 ∷ 0 ∷ 0 ∷ 0 ∷ 40 ∷ 1 ∷ 3 ∷ []) ∷ (2 ∷ 2 ∷ 0 ∷ 0 ∷ []) ∷ (23 ∷ []) ∷ [];
    }
    -- captures without end, up to the held limit
    ∷ record {
      code = Proc (r 1) (at 0) ∷ CallCc (r 1) ∷ [];
      frames = offer 48 2 0;
      winds = offer 16 7 0;
      calls = called 1000 1000 ∷ tally ∷ [];
      told = (5 ∷ 0 ∷ 2 ∷ []) ∷ (5 ∷ 2 ∷ 0 ∷ 0 ∷ 2 ∷ 0 ∷ 0 ∷ 0 ∷ 42 ∷ 1 ∷ []) ∷ [];
    }
    -- at most 64 names are held, whatever the stores have room for
    ∷ record {
      code = Proc (r 1) (at 0) ∷ CallCc (r 1) ∷ [];
      frames = offer 100 70 0;
      winds = offer 16 80 0;
      calls = called 1000 1000 ∷ tally ∷ [];
      told = (129 ∷ 0 ∷ 2 ∷ []) ∷ (129 ∷ 64 ∷ 0 ∷ 0 ∷ 64 ∷ 0 ∷ 0 ∷ 0 ∷ 42 ∷ 1 ∷ []) ∷ [];
    }
    -- one-shot captures without end, which push two frames each, up to the frame limit
    ∷ record {
      code = Proc (r 1) (at 0) ∷ CallOnce (r 1) ∷ [];
      frames = offer 17 30 0;
      winds = offer 16 30 0;
      calls = called 1000 1000 ∷ tally ∷ [];
      told = (17 ∷ 0 ∷ 2 ∷ []) ∷ (17 ∷ 8 ∷ 0 ∷ 0 ∷ 8 ∷ 0 ∷ 0 ∷ 0 ∷ 40 ∷ 1 ∷ 0 ∷ []) ∷ [];
    }
    -- the same, up to the held limit
    ∷ record {
      code = Proc (r 1) (at 0) ∷ CallOnce (r 1) ∷ [];
      frames = offer 48 7 0;
      winds = offer 16 2 0;
      calls = called 1000 1000 ∷ tally ∷ [];
      told = (5 ∷ 0 ∷ 2 ∷ []) ∷ (5 ∷ 2 ∷ 0 ∷ 0 ∷ 2 ∷ 0 ∷ 0 ∷ 0 ∷ 42 ∷ 1 ∷ []) ∷ [];
    }
    -- a throw uses a one-shot continuation up, too
    ∷ record {
      code = Proc (r 1) (at 5) ∷ CallOnce (r 1) ∷ Print (r 0) ∷ Load (r 5) (g 0) ∷ Tail (r 5) ∷ Store (g 0) (r 0) ∷ Set (r 0) (pos 4) ∷ Load (r 5) (g 0) ∷ Tail (r 5) ∷ [];
      frames = offer 48 7 0;
      winds = offer 16 7 0;
      calls = called 1000 1000 ∷ tally ∷ [];
      told = (11 ∷ 2 ∷ 2 ∷ 52 ∷ 10 ∷ []) ∷ (11 ∷ 1 ∷ 1 ∷ 0 ∷ 0 ∷ 0 ∷ 0 ∷ 0 ∷ 33 ∷ 4 ∷ []) ∷ [];
    }
    -- a throw out of a wind: its after runs when the wind is left, and what it does to r0 does not last
    ∷ record {
      code = Proc (r 1) (at 4) ∷ CallCc (r 1) ∷ Print (r 0) ∷ Stop ∷ Store (g 0) (r 0) ∷ Proc (r 1) (at 10) ∷ Proc (r 2) (at 13) ∷ Proc (r 3) (at 16) ∷ DynamicWind (r 1) (r 2) (r 3) ∷ Return ∷ Set (r 4) (pos 1) ∷ Print (r 4) ∷ Return ∷ Load (r 5) (g 0) ∷ Set (r 0) (pos 7) ∷ Tail (r 5) ∷ Set (r 0) (pos 3) ∷ Print (r 0) ∷ Return ∷ [];
      frames = offer 48 7 0;
      winds = offer 16 7 0;
      calls = called 14 12 ∷ force 0 ∷ called 1 12 ∷ force 0 ∷ look 2 ∷ look 3 ∷ called 100 12 ∷ tally ∷ [];
      told = (14 ∷ 2 ∷ 0 ∷ 49 ∷ 10 ∷ []) ∷ (1 ∷ 10 ∷ 16 ∷ 0 ∷ []) ∷ (1 ∷ 0 ∷ 0 ∷ []) ∷ (23 ∷ []) ∷ (5 ∷ 0 ∷ 0 ∷ 0 ∷ []) ∷ (7 ∷ 1 ∷ 1 ∷ 7 ∷ []) ∷ (8 ∷ 4 ∷ 2 ∷ 51 ∷ 10 ∷ 55 ∷ 10 ∷ []) ∷ (23 ∷ 1 ∷ 0 ∷ 0 ∷ 1 ∷ 1 ∷ 1 ∷ 0 ∷ 0 ∷ 3 ∷ []) ∷ [];
    }
    -- a throw from one wind to another of the same procedures
    ∷ record {
      code = Proc (r 1) (at 14) ∷ Proc (r 2) (at 17) ∷ Proc (r 3) (at 22) ∷ DynamicWind (r 1) (r 2) (r 3) ∷ Load (r 6) (g 1) ∷ Zero (r 6) (at 7) ∷ Stop ∷ Set (r 6) (pos 1) ∷ Store (g 1) (r 6) ∷ Proc (r 1) (at 14) ∷ Proc (r 2) (at 25) ∷ Proc (r 3) (at 22) ∷ DynamicWind (r 1) (r 2) (r 3) ∷ Stop ∷ Set (r 4) (pos 1) ∷ Print (r 4) ∷ Return ∷ Proc (r 1) (at 20) ∷ CallCc (r 1) ∷ Return ∷ Store (g 0) (r 0) ∷ Return ∷ Set (r 4) (pos 3) ∷ Print (r 4) ∷ Return ∷ Load (r 5) (g 0) ∷ Tail (r 5) ∷ [];
      frames = offer 48 7 0;
      winds = offer 16 7 0;
      calls = called 1000 1000 ∷ tally ∷ [];
      told = (56 ∷ 12 ∷ 2 ∷ 49 ∷ 10 ∷ 51 ∷ 10 ∷ 49 ∷ 10 ∷ 51 ∷ 10 ∷ 49 ∷ 10 ∷ 51 ∷ 10 ∷ []) ∷ (56 ∷ 1 ∷ 0 ∷ 0 ∷ 1 ∷ 3 ∷ 3 ∷ 0 ∷ 0 ∷ 6 ∷ []) ∷ [];
    }
    -- a throw back into a wind, and refused calls
    ∷ record {
      code = Proc (r 1) (at 13) ∷ Proc (r 2) (at 16) ∷ Proc (r 3) (at 22) ∷ DynamicWind (r 1) (r 2) (r 3) ∷ Print (r 0) ∷ Load (r 2) (g 1) ∷ Zero (r 2) (at 8) ∷ Stop ∷ Set (r 2) (pos 1) ∷ Store (g 1) (r 2) ∷ Load (r 1) (g 0) ∷ Set (r 0) (pos 8) ∷ Tail (r 1) ∷ Set (r 4) (pos 1) ∷ Print (r 4) ∷ Return ∷ Proc (r 1) (at 19) ∷ CallCc (r 1) ∷ Return ∷ Store (g 0) (r 0) ∷ Set (r 0) (pos 2) ∷ Return ∷ Set (r 4) (pos 3) ∷ Print (r 4) ∷ Set (r 0) (pos 4) ∷ Return ∷ [];
      frames = offer 48 7 0;
      winds = offer 16 7 0;
      calls = called 30 12 ∷ called 1 12 ∷ called 100 11 ∷ called 0 11 ∷ called 0 12 ∷ called 1000001 12 ∷ called 100 12 ∷ tally ∷ [];
      told = (30 ∷ 6 ∷ 0 ∷ 49 ∷ 10 ∷ 51 ∷ 10 ∷ 50 ∷ 10 ∷ []) ∷ (1 ∷ 0 ∷ 0 ∷ []) ∷ (22 ∷ []) ∷ (21 ∷ []) ∷ (21 ∷ []) ∷ (21 ∷ []) ∷ (18 ∷ 6 ∷ 2 ∷ 49 ∷ 10 ∷ 51 ∷ 10 ∷ 56 ∷ 10 ∷ []) ∷ (49 ∷ 1 ∷ 0 ∷ 0 ∷ 1 ∷ 2 ∷ 2 ∷ 0 ∷ 0 ∷ 7 ∷ []) ∷ [];
    }
    -- a line that does not fit whole
    ∷ record {
      code = Set (r 0) (negsuc 2147483647) ∷ Print (r 0) ∷ Print (r 0) ∷ Stop ∷ [];
      frames = offer 48 7 0;
      winds = offer 16 7 0;
      calls = called 10 13 ∷ called 10 12 ∷ tally ∷ [];
      told = (2 ∷ 12 ∷ 1 ∷ 45 ∷ 50 ∷ 49 ∷ 52 ∷ 55 ∷ 52 ∷ 56 ∷ 51 ∷ 54 ∷ 52 ∷ 56 ∷ 10 ∷ []) ∷ (2 ∷ 12 ∷ 2 ∷ 45 ∷ 50 ∷ 49 ∷ 52 ∷ 55 ∷ 52 ∷ 56 ∷ 51 ∷ 54 ∷ 52 ∷ 56 ∷ 10 ∷ []) ∷ (4 ∷ 0 ∷ 0 ∷ 0 ∷ 0 ∷ 0 ∷ 0 ∷ 0 ∷ 0 ∷ 3 ∷ []) ∷ [];
    }
    -- a store that is not fit for a run
    ∷ record {
      code = Stop ∷ [];
      frames = offer 15 7 0;
      winds = offer 16 7 0;
      calls = called 1 12 ∷ tally ∷ [];
      told = (20 ∷ []) ∷ (0 ∷ 0 ∷ 0 ∷ 0 ∷ 0 ∷ 0 ∷ 0 ∷ 0 ∷ 43 ∷ 0 ∷ []) ∷ [];
    }
    -- stores that are not empty: look and force tell the cells that stand in them
    ∷ record {
      code = Stop ∷ [];
      frames = holding (70 ∷ 71 ∷ []);
      winds = holding (80 ∷ []);
      calls = called 1 12 ∷ look 0 ∷ look 1 ∷ look 2 ∷ force 0 ∷ force 1 ∷ tally ∷ [];
      told = (20 ∷ []) ∷ (70 ∷ 0 ∷ 0 ∷ 0 ∷ []) ∷ (71 ∷ 0 ∷ 0 ∷ 0 ∷ []) ∷ (23 ∷ []) ∷ (80 ∷ 0 ∷ 0 ∷ 0 ∷ []) ∷ (23 ∷ []) ∷ (0 ∷ 0 ∷ 0 ∷ 0 ∷ 0 ∷ 0 ∷ 0 ∷ 0 ∷ 43 ∷ 0 ∷ []) ∷ [];
    }
    ∷ []

-- each example of the table is right
abbrev pub ExamplesRun : Type 0
ExamplesRun = T (all_right examples)
