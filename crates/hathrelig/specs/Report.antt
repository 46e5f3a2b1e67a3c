-- What is printed of a run.
use Rattle.std.specs.Prelude.{ℕ, List, [], ◌∷◌, ◌++◌, Some, None, Option, codes, decimal}
use Rattle.std.specs.List.{flat_map}
use Rattle.machine.specs.Numbers.{end_number}
use Rattle.machine.specs.Calls.{Answer, to_run, to_tally, to_look, to_force, output_in}
use Rattle.machine.specs.declared.tally.Tally.{Tally}
use Rattle.machine.specs.declared.tally.Ending.{Ending}
use Rattle.run.specs.declared.exchange.Exchange.{Exchange}
use Rattle.run.specs.Serving.{answer_in}

-- how a run ended, or that it is still going
abbrev pub verdict : Option Ending → List ℕ
verdict None = codes "open"
verdict (Some ending) = codes "end " ++ decimal (end_number ending.end)

-- the last line of a run, with the steps that it made
abbrev pub last_line : Tally → List ℕ
last_line t = verdict t.ending ++ (codes " steps " ++ (decimal t.steps ++ (10 ∷ [])))

-- what is printed for an answer: the bytes that a run call wrote, and the last line for a tally
abbrev pub answer_text : Answer → List ℕ
answer_text (to_run result buffer) = output_in (to_run result buffer)
answer_text (to_tally tally) = last_line tally
answer_text (to_look result) = []
answer_text (to_force result) = []

-- that of an answer, if there is one
abbrev pub text_if : Option Answer → List ℕ
text_if None = []
text_if (Some answer) = answer_text answer

-- what is printed for an exchange
abbrev pub exchange_text : Exchange → List ℕ
exchange_text exchange = text_if (answer_in exchange)

-- the name of a run's stores in a line, and what its calls were answered
abbrev pub run_text : List ℕ → List Answer → List ℕ
run_text name answers = name ++ (10 ∷ flat_map answer_text answers)
