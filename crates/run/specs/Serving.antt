-- A list of exchanges, each with its answer put in its place.
use Rattle.std.specs.Prelude.{List, [], ◌∷◌, Some, None, Option}
use Rattle.std.specs.Option.{option_map}
use Rattle.std.specs.Vec.{with_items}
use Rattle.machine.specs.Opening.{Run}
use Rattle.machine.specs.Calls.{ran, tallied, looked, forced, Call, run, tally, look, force, Answer, to_run, to_tally, to_look, to_force}
use Rattle.run.specs.declared.exchange.Exchange.{Exchange}
use Rattle.run.specs.declared.exchange.Exchange.TheVariants.{Run as ToRun, Tally as ToTally, Look as ToLook, Force as ToForce}

-- the call that an exchange asks
abbrev pub asked : Exchange → Call
asked (ToRun budget buffer answer) = run budget buffer.items
asked (ToTally answer) = tally
asked (ToLook index answer) = look index
asked (ToForce index answer) = force index

-- the answer that stands in an exchange, if there is one
abbrev pub answer_in : Exchange → Option Answer
answer_in (ToRun budget buffer answer) = option_map (λ a. to_run a buffer.items) answer
answer_in (ToTally answer) = option_map to_tally answer
answer_in (ToLook index answer) = option_map to_look answer
answer_in (ToForce index answer) = option_map to_force answer

-- an answer before others, if there is one
abbrev pub with_first : Option Answer → List Answer → List Answer
with_first None rest = rest
with_first (Some a) rest = a ∷ rest

-- the answers that stand in a list
abbrev pub answers_in : List Exchange → List Answer
answers_in [] = []
answers_in (e ∷ es) = with_first (answer_in e) (answers_in es)

-- one exchange carried out, and the run after it: the answer stands in its place, a run call's bytes in its buffer, and the rest is as it was
abbrev pub exchanged : Run → Exchange → Exchange × Run
exchanged r (ToRun budget buffer answer) =
    let x = ran r budget buffer.items in
    (ToRun budget (with_items buffer x.1) (Some x.0), x.2)
exchanged r (ToTally answer) = (ToTally (Some (tallied r.state r.end)), r)
exchanged r (ToLook index answer) = (ToLook index (Some (looked r index)), r)
exchanged r (ToForce index answer) = (ToForce index (Some (forced r index)), r)

-- an exchange before others
abbrev pub exchange_first : Exchange → List Exchange × Run → List Exchange × Run
exchange_first e rest = (e ∷ rest.0, rest.1)

-- a list carried out one after the other, and the run after it
abbrev pub serving : Run → List Exchange → List Exchange × Run
serving r [] = ([], r)
serving r (e ∷ es) = exchange_first (exchanged r e).0 (serving (exchanged r e).1 es)
