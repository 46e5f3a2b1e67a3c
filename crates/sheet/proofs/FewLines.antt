-- There are no more lines than bytes.
use Rattle.std.proofs.Common.{ℕ, suc, ◌≤◌, Bool, true, false, cond, eqb, List, [], ◌∷◌, length, arith}
use Rattle.lexer.specs.Split.{onto, lines}

length-onto : (b : ℕ) (ps : List (List ℕ)) → length (onto b ps) ≤ suc (length ps)
length-onto b [] = omega arith
length-onto b (p ∷ ps) = omega arith

few_lines_by : (b : ℕ) (bs : List ℕ) (t : Bool) → length (lines bs) ≤ length bs → length (cond t ([] ∷ lines bs) (onto b (lines bs))) ≤ suc (length bs)
few_lines_by b bs true h = omega arith
few_lines_by b bs false h = omega (arith, length-onto b (lines bs))

pub few_lines : (xs : List ℕ) → length (lines xs) ≤ length xs
few_lines [] = omega arith
few_lines (b ∷ bs) = few_lines_by b bs (eqb b 10) (few_lines bs)
