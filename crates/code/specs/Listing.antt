-- Which lists of instructions are code.
use Rattle.std.specs.Prelude.{cond, ◌&&◌, List, length, Some, None, Option, nat_le}
use Rattle.code.specs.declared.instruction.Instruction.{Instruction}
use Rattle.code.specs.Fits.{all_fit}

-- a list is code if it has at most 256 instructions and each fits
abbrev pub accepted : List Instruction → Option (List Instruction)
accepted is = cond (nat_le (length is) 256 && all_fit (length is) is) (Some is) None
