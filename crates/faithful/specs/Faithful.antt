-- Steps in a row on two stores, and the machine's portion.
use Rattle.std.specs.Prelude.{◌≡◌, ℕ, List, ◌++◌, length, drop, None}
use Rattle.code.specs.declared.instruction.Instruction.{Instruction}
use Rattle.machine.specs.Calls.{Portion, portion}
use Rattle.engine.specs.Parts.{Parts, state_from, limits_from}
use Rattle.steps.specs.Advancing.{Advanced, advancing}
use Rattle.faithful.specs.Sound.{Together, Sound}

-- what was carried out, from parts p and over a buffer, is what a portion tells
pub record CarriesOut (code : List Instruction) (p : Parts) (buffer : List ℕ) (q : Portion) (a : Advanced) : Type 0 where
  pub steps : a.0.progress.steps ≡ q.steps
  pub bytes : a.0.progress.bytes ≡ length q.bytes
  pub reason : a.0.progress.reason ≡ q.reason
  pub end : a.0.end ≡ q.end
  -- the bytes stand from the buffer's start, and the rest of the buffer is as it was
  pub buffer_after : a.1 ≡ q.bytes ++ drop (length q.bytes) buffer
  pub state : state_from a.2 ≡ q.state
  -- the stores' limits are what they were, and the stores and the rows are together
  pub limits : limits_from a.2 ≡ limits_from p
  pub together : Together a.2
  -- a run that has not ended can go on
  pub sound : q.end ≡ None → Sound code a.2

-- that of every engine that is sound, every budget and every buffer
abbrev pub PortionsCarriedOut : Type 0
PortionsCarriedOut =
    (code : List Instruction) (p : Parts) (budget : ℕ) (buffer : List ℕ)
    → Sound code p
    → CarriesOut code p buffer (portion (limits_from p) code budget (length buffer) (state_from p)) (advancing code budget 0 p buffer 0)
