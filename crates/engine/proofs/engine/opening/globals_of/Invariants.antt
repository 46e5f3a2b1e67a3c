use Rattle.std.proofs.Common.{◌≡◌, ℕ, pos, ◌<◌, length, get_or}
use Rattle.cell.specs.declared.value.Value.{Value}
use Rattle.cell.specs.declared.value.Value.TheVariants.{Number}
use Rattle.engine.proofs.engine.opening.globals_of.Given as goal

abbrev pub invariant-loop-index : goal.invariant-loop-index
invariant-loop-index l = record {
  long : length l.globals ≡ 32;
  each : (k : ℕ) (d : Value) → k < l.index → get_or l.globals k d ≡ Number (get_or l.numbers k (pos 0));
}
