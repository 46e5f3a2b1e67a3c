use Rattle.std.proofs.Common.{◌≡◌, ◌+◌, ◌≤◌, length}
use Rattle.lexer.specs.Split.{lines}
use Rattle.sheet.specs.Assembly.{empty}
use Rattle.sheet.specs.Reading.{assembled}
use Rattle.sheet.proofs.reader.assemble.Given as goal

abbrev pub invariant-loop-number : goal.invariant-loop-number
invariant-loop-number l =
    (assembled empty 1 (lines l.sheet) ≡ assembled l.assembly l.number-iterator.a.start l.number-iterator.b)
    × (l.number-iterator.a.start + length l.number-iterator.b ≤ 16385)
