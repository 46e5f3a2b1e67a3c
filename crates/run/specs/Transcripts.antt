-- What was asked of a run and given by it, by a list of exchanges.
use Rattle.std.specs.Prelude.{List, map}
use Rattle.machine.specs.Opening.{Offer, Run}
use Rattle.laws.specs.TwoRuns.{Transcript}
use Rattle.run.specs.declared.exchange.Exchange.{Exchange}
use Rattle.run.specs.Serving.{asked, answers_in}

-- its two stores as they were offered, what the list asked before it was carried out, the answers that stand in it afterwards, and
-- the run after it
abbrev pub transcript_of : Offer → Offer → List Exchange → List Exchange → Run → Transcript
transcript_of frames winds before after r =
    record { frames = frames; winds = winds; calls = map asked before; answers = answers_in after; run = r }
