-- What digits and a sign say as a number.
use Rattle.std.specs.Prelude.{ℕ, ◌+◌, ◌-◌, ◌*◌, Bool, false, cond, not, ◌&&◌, ◌||◌, List, [], ◌∷◌, length, ℤ, pos, neg_ℤ, Ok, Err, Result, ◌==◌, nat_le}
use Rattle.lexer.specs.declared.fault.Fault.{Fault}
use Rattle.lexer.specs.declared.fault.Fault.TheVariants.{BadOperand, NumberOutOfRange}
use Rattle.lexer.specs.Bytes.{all_within}

-- `0` (48) to `9` (57)
abbrev pub all_digits : List ℕ → Bool
all_digits = all_within 48 57

-- one digit, or several of which the first is not 0
abbrev pub well_formed : List ℕ → Bool
well_formed [] = false
well_formed (b ∷ bs) = (length bs == 0 || not (b == 48)) && all_digits (b ∷ bs)

-- the value of digits that follow others of value n
abbrev pub value_after : ℕ → List ℕ → ℕ
value_after n [] = n
value_after n (b ∷ bs) = value_after (n * 10 + (b - 48)) bs

-- at most ten well-formed digits
abbrev pub magnitude : List ℕ → Result ℕ Fault
magnitude ds = cond (well_formed ds) (cond (nat_le (length ds) 10) (Ok (value_after 0 ds)) (Err NumberOutOfRange)) (Err BadOperand)

-- without a sign: at most 2^31 − 1
abbrev pub natural : Result ℕ Fault → Result ℤ Fault
natural (Ok m) = cond (nat_le m 2147483647) (Ok (pos m)) (Err NumberOutOfRange)
natural (Err e) = Err e

-- after `-`: not 0, and at most 2^31
abbrev pub negative : Result ℕ Fault → Result ℤ Fault
negative (Ok m) = cond (m == 0) (Err BadOperand) (cond (nat_le m 2147483648) (Ok (neg_ℤ (pos m))) (Err NumberOutOfRange))
negative (Err e) = Err e

-- a signed word in base ten; `-` is 45
abbrev pub number : List ℕ → Result ℤ Fault
number [] = natural (magnitude [])
number (b ∷ bs) = cond (b == 45) (negative (magnitude bs)) (natural (magnitude (b ∷ bs)))
