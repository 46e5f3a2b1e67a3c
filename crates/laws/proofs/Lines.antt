-- The line of a signed word has at most 12 bytes.
use Rattle.std.proofs.Common.{◌≡◌, ℕ, ◌≤◌, Bool, true, false, cond, leb, [], ◌∷◌, length, ℤ, pos, negsuc, Ok, Err, Result, refl, arith, length-append}
use lib.Signed.{mag}
use Rattle.std.specs.Fmt.{signed_decimal}
use Rattle.std.proofs.lemmas.Fmt.{length_signed_le}
use Rattle.std.proofs.lemmas.Bool.{leb-true}
use Rattle.machine.specs.declared.end.End.{End}
use Rattle.machine.specs.declared.end.End.TheVariants.{SumOutOfRange}
use Rattle.machine.specs.Printed.{line}
use Rattle.laws.specs.Calls.{LinesFit}

short : (z : ℤ) → mag z ≤ 2147483647 → length (line z) ≤ 12
short z h = let s = length_signed_le 10 z (omega arith) (omega arith) in rw (length-append (signed_decimal z) (10 ∷ [])) (omega arith)

-- a test that passed
passed : (z : ℤ) (a : ℕ) (b : Bool) → leb a 2147483647 ≡ b → ◌≡◌ {A = Result ℤ End} (cond b (Ok z) (Err SumOutOfRange)) (Ok z) → a ≤ 2147483647
passed z a true e f = leb-true a 2147483647 e
passed z a false e f = cc

pub lines_fit : LinesFit
lines_fit (pos n) e = short (pos n) (passed (pos n) n (leb n 2147483647) refl e)
lines_fit (negsuc n) e = short (negsuc n) (passed (negsuc n) n (leb n 2147483647) refl e)
