use Rattle.code.specs.declared.instruction.Instruction.TheVariants.{Add, Sub, Less, DynamicWind}
use Rattle.sheet.proofs.Parts.{of_three_by}
use Rattle.sheet.proofs.instruction_line.operated.Goals as goal

pub returns-in-Add : goal.returns-in-Add
returns-in-Add c = rw c.in-Add.is (of_three_by _ Add _ _ c.of_three.ensures (λ x y z i made. made.3))

pub returns-in-Sub : goal.returns-in-Sub
returns-in-Sub c = rw c.in-Sub.is (of_three_by _ Sub _ _ c.of_three-in-Sub.ensures (λ x y z i made. made.3))

pub returns-in-Less : goal.returns-in-Less
returns-in-Less c = rw c.in-Less.is (of_three_by _ Less _ _ c.of_three-in-Less.ensures (λ x y z i made. made.3))

pub returns-in-DynamicWind : goal.returns-in-DynamicWind
returns-in-DynamicWind c = rw c.in-DynamicWind.is (of_three_by _ DynamicWind _ _ c.of_three-in-DynamicWind.ensures (λ x y z i made. made.3))
