-- What a guard over a line that is begun stands for.
use Rattle.std.specs.Prelude.{ℕ, ◌+◌, List}
use Rattle.arrayvec.specs.ArrayVec.{array_vec_len}
use Rattle.printer.specs.declared.line_guard.LineGuard.{LineGuard}
use Rattle.printer.specs.Written.{overwrite}

-- the index of the line's next byte
abbrev pub next : LineGuard → ℕ
next g = g.at + array_vec_len g.old

-- the buffer with the old bytes put back over the line
abbrev pub restored : LineGuard → List ℕ
restored g = overwrite g.bytes.now g.at g.old.items
