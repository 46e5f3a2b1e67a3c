-- What an engine tells of its run.
use Rattle.std.specs.Prelude.{length, Option}
use Rattle.std.specs.Option.{option_map}
use Rattle.cell.specs.declared.address.Address.{Address}
use Rattle.machine.specs.declared.end.End.{End}
use Rattle.machine.specs.declared.tally.Tally.{Tally}
use Rattle.machine.specs.declared.tally.Ending.{Ending}
use Rattle.machine.specs.Apply.{trying}
use Rattle.engine.specs.Parts.{Parts}

-- the last address that a step was Going at, counting one that was refused
abbrev pub last_tried : Parts → Address
last_tried p = trying p.mode p.tried

-- how a run ended, if it has
abbrev pub ending_of : Parts → Option End → Option Ending
ending_of p end = option_map (λ e. record { end = e; address = last_tried p }) end

-- the tally of a run with this end, if it has ended; each row is a name that is held
abbrev pub tally_of : Parts → Option End → Tally
tally_of p end = record {
  steps = p.counts.steps;
  names = record { made = p.counts.made; used = p.counts.used; forgotten = p.counts.forgotten; held = length p.rows };
  winds = record { entered = p.counts.entered; left = p.counts.left; current = length p.winds.current };
  ending = ending_of p end;
}
