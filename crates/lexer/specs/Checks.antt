-- Checks in a row: the first refusal is the answer.
use Rattle.std.specs.Prelude.{Ok, Err, Result}

infixl 10 ◌>>=◌
-- goes on with what a check let through
abbrev pub ◌>>=◌ : {A B E : Type 0} → Result A E → (A → Result B E) → Result B E
Ok a >>= f = f a
Err e >>= f = Err e

-- the same answer, with its value seen through a function
abbrev pub ok_mapped : {A B E : Type 0} → (A → B) → Result A E → Result B E
ok_mapped f (Ok a) = Ok (f a)
ok_mapped f (Err e) = Err e

-- what a call that changes a state answers, and that state after it: a refusal leaves it as it was
abbrev pub or_unchanged : {A E : Type 0} → A → Result A E → Result Unit E × A
or_unchanged old (Ok new) = (Ok tt, new)
or_unchanged old (Err e) = (Err e, old)
