-- What each call on a run answers and leaves.
use Rattle.std.specs.Prelude.{ℕ, zero, suc, ◌+◌, ◌-◌, cond, ◌||◌, List, [], ◌∷◌, ◌++◌, map, reverse, length, take, drop, is_some, Some, None, Ok, Err, Option, Result, nat_lt}
use Rattle.std.specs.List.{slice_get}
use Rattle.std.specs.Option.{ok_or, option_map}
use Rattle.cell.specs.declared.frame.Frame.{Frame}
use Rattle.cell.specs.declared.wind.Wind.{Wind}
use Rattle.cell.specs.declared.address.Address.{Address}
use Rattle.cell.specs.declared.cell.Cell.{Cell}
use Rattle.cell.specs.Filled.{filled}
use Rattle.cell.specs.Elements.{frame_words, wind_words}
use Rattle.code.specs.declared.instruction.Instruction.{Instruction}
use Rattle.machine.specs.declared.end.End.{End}
use Rattle.machine.specs.declared.end.End.TheVariants.{Finished}
use Rattle.machine.specs.declared.reason.Reason.{Reason}
use Rattle.machine.specs.declared.reason.Reason.TheVariants.{BudgetUsed, BufferFull, Ended}
use Rattle.machine.specs.declared.progress.Progress.{Progress}
use Rattle.machine.specs.declared.run_refusal.RunRefusal.{RunRefusal}
use Rattle.machine.specs.declared.run_refusal.RunRefusal.TheVariants.{HasEnded, BudgetOutOfRange, BufferTooShort}
use Rattle.machine.specs.declared.index_refusal.IndexRefusal.{IndexRefusal}
use Rattle.machine.specs.declared.index_refusal.IndexRefusal.TheVariants.{Beyond}
use Rattle.machine.specs.declared.tally.Tally.{Tally}
use Rattle.machine.specs.declared.tally.NameTally.{NameTally}
use Rattle.machine.specs.declared.tally.WindTally.{WindTally}
use Rattle.machine.specs.declared.tally.Ending.{Ending}
use Rattle.machine.specs.State.{State, Limits}
use Rattle.machine.specs.Apply.{trying}
use Rattle.machine.specs.Step.{Outcome, went, finished, refused, step}
use Rattle.machine.specs.Opening.{Run}

-- what a run call did: how many steps it made, what they wrote, why it stopped, and the state and the end after them
pub record Portion : Type 0 where
  pub steps : ℕ
  pub bytes : List ℕ
  pub reason : Reason
  pub state : State
  pub end : Option End

-- a portion that has come to its last step, which wrote nothing
abbrev pub closing : ℕ → Reason → State → Option End → Portion
closing steps reason s end = record { steps = steps; bytes = []; reason = reason; state = s; end = end }

-- a portion with one step made before it
abbrev pub with_step : List ℕ → Portion → Portion
with_step bytes p = record { steps = suc p.steps; bytes = bytes ++ p.bytes; reason = p.reason; state = p.state; end = p.end }

-- the portion that a first step begins, with room for so many bytes; a line that does not fit whole stops it before the step
abbrev pub portion_by : Outcome → State → ℕ → (ℕ → State → Portion) → Portion
portion_by (went t bytes es) s room rest =
    cond (nat_lt room (length bytes)) (closing 0 BufferFull s None) (with_step bytes (rest (room - length bytes) t))
portion_by (finished t) s room rest = closing 1 Ended t (Some Finished)
portion_by (refused e) s room rest = closing 0 Ended s (Some e)

-- the portion of at most so many steps, with room for so many bytes
abbrev pub portion : Limits → List Instruction → ℕ → ℕ → State → Portion
portion l code zero room s = closing 0 BudgetUsed s None
portion l code (suc n) room s = portion_by (step l code s) s room (portion l code n)

-- the largest budget of a run call
abbrev pub most_budget : ℕ
most_budget = 1000000

-- the least buffer of a run call: the longest line has so many bytes
abbrev pub least_buffer : ℕ
least_buffer = 12

-- what a run call answers, with what it leaves in its buffer and the run after it
abbrev pub Ran : Type 0
Ran = Result Progress RunRefusal × List ℕ × Run

-- the same run in another state, and with another end
abbrev pub at : Run → State → Option End → Run
at r s end = record { code = r.code; limits = r.limits; frames_below = r.frames_below; winds_below = r.winds_below; state = s; end = end }

-- an accepted run call: the bytes stand from the buffer's start, and the rest of the buffer is as it was
abbrev pub accepted : Portion → Run → List ℕ → Ran
accepted p r buffer = (
  Ok (record { steps = p.steps; bytes = length p.bytes; reason = p.reason }),
  p.bytes ++ drop (length p.bytes) buffer,
  at r p.state p.end,
)

-- a refused run call leaves all as it was
abbrev pub declined : RunRefusal → Run → List ℕ → Ran
declined e r buffer = (Err e, buffer, r)

-- a run call with a budget and a buffer
abbrev pub ran : Run → ℕ → List ℕ → Ran
ran r budget buffer =
    cond (is_some r.end) (declined HasEnded r buffer)
    (cond (nat_lt budget 1 || nat_lt most_budget budget) (declined BudgetOutOfRange r buffer)
    (cond (nat_lt (length buffer) least_buffer) (declined BufferTooShort r buffer)
    (accepted (portion r.limits r.code budget (length buffer) r.state) r buffer)))

-- the steps that a run call's answer tells; a refused one tells none
abbrev pub steps_told : Result Progress RunRefusal → ℕ
steps_told (Ok p) = p.steps
steps_told (Err e) = 0

-- the bytes that it tells; a refused one tells none
abbrev pub bytes_told : Result Progress RunRefusal → ℕ
bytes_told (Ok p) = p.bytes
bytes_told (Err e) = 0

-- the last address that a run was Going at, counting that of a step that was refused; 0 if there was none
abbrev pub last_address : State → Address
last_address s = trying s.mode s.tried

-- how a run ended, if it has
abbrev pub ending : Option End → State → Option Ending
ending end s = option_map (λ e. record { end = e; address = last_address s }) end

-- the figures of names
abbrev pub name_tally : State → NameTally
name_tally s = record { made = s.counts.made; used = s.counts.used; forgotten = s.counts.forgotten; held = length s.held }

-- the figures of winds
abbrev pub wind_tally : State → WindTally
wind_tally s = record { entered = s.counts.entered; left = s.counts.left; current = length s.winds }

-- what tally answers
abbrev pub tallied : State → Option End → Tally
tallied s end = record { steps = s.counts.steps; names = name_tally s; winds = wind_tally s; ending = ending end s }

-- the cell of a frame
abbrev pub frame_cell : Frame → Cell
frame_cell f = filled (frame_words f)

-- the cell of a wind
abbrev pub wind_cell : Wind → Cell
wind_cell w = filled (wind_words w)

-- the cells in a run's frame store, the bottom first
abbrev pub frame_cells : Run → List Cell
frame_cells r = r.frames_below ++ map frame_cell (reverse r.state.frames)

-- the cells in its wind store
abbrev pub wind_cells : Run → List Cell
wind_cells r = r.winds_below ++ map wind_cell (reverse r.state.winds)

-- the cell at an index, if there is one
abbrev pub cell_at : List Cell → ℕ → Result Cell IndexRefusal
cell_at cells i = ok_or (slice_get cells i) Beyond

-- what look answers: the cell at an index of the frame store
abbrev pub looked : Run → ℕ → Result Cell IndexRefusal
looked r i = cell_at (frame_cells r) i

-- what force answers: the cell at an index of the wind store
abbrev pub forced : Run → ℕ → Result Cell IndexRefusal
forced r i = cell_at (wind_cells r) i

-- a call: run has a budget and the bytes of its buffer, look and force an index
pub data Call : Type 0 where
  run : ℕ → List ℕ → Call
  tally : Call
  look : ℕ → Call
  force : ℕ → Call

-- an answer: that to run comes with the bytes of its buffer after the call
pub data Answer : Type 0 where
  to_run : Result Progress RunRefusal → List ℕ → Answer
  to_tally : Tally → Answer
  to_look : Result Cell IndexRefusal → Answer
  to_force : Result Cell IndexRefusal → Answer

-- the answer to a run call, and the run after it
abbrev pub told : Ran → Answer × Run
told r = (to_run r.0 r.1, r.2)

-- the answer to a call, and the run after it
abbrev pub answered : Run → Call → Answer × Run
answered r (run budget buffer) = told (ran r budget buffer)
answered r tally = (to_tally (tallied r.state r.end), r)
answered r (look i) = (to_look (looked r i), r)
answered r (force i) = (to_force (forced r i), r)

-- the answer to one call before those to others
abbrev pub answer_first : Answer → List Answer × Run → List Answer × Run
answer_first a rest = (a ∷ rest.0, rest.1)

-- the answers to a list of calls, one after the other, and the run after them
abbrev pub served : Run → List Call → List Answer × Run
served r [] = ([], r)
served r (c ∷ cs) = answer_first (answered r c).0 (served (answered r c).1 cs)

-- the steps that an answer tells
abbrev pub steps_in : Answer → ℕ
steps_in (to_run r buffer) = steps_told r
steps_in (to_tally t) = 0
steps_in (to_look r) = 0
steps_in (to_force r) = 0

-- the bytes that its call wrote
abbrev pub output_in : Answer → List ℕ
output_in (to_run r buffer) = take (bytes_told r) buffer
output_in (to_tally t) = []
output_in (to_look r) = []
output_in (to_force r) = []

-- a run's step count: the steps that its accepted run calls answered
abbrev pub step_count : List Answer → ℕ
step_count [] = 0
step_count (a ∷ rest) = steps_in a + step_count rest

-- a run's joined output: the bytes that its run calls wrote, in the order of the calls
abbrev pub joined_output : List Answer → List ℕ
joined_output [] = []
joined_output (a ∷ rest) = output_in a ++ joined_output rest
