-- Bytes parted at a separator: the pieces, where the first ends, and how many words there are.
use Rattle.std.proofs.Common.{◌≡◌, ℕ, ◌+◌, ◌<◌, ◌≤◌, Bool, true, false, cond, eqb, ltb, not, suc, add-one, List, [], ◌∷◌, length, take, drop, Option, Some, None, sym, refl, ap, ◌∙◌, arith}
use Rattle.std.specs.Option.{option_map}
use Rattle.std.specs.List.{slice_split, position_or_len}
use Rattle.std.proofs.lemmas.List.Splits.{length-slice_split}
use Rattle.std.proofs.lemmas.Bool.{ltb-true, ltb-false}
use Rattle.lexer.specs.Split.{onto, split, split_once, words, spaces}

parts : (u v : List ℕ × List ℕ) → Some u ≡ Some v → (v.0 ≡ u.0) × (v.1 ≡ u.1)
parts u v e = let f : v ≡ u = cc in (ap (λ x. x.0) f, ap (λ x. x.1) f)

-- What is before the first separator is the first piece, and the others are those of what follows.

split_some_by : (s : ℕ) (last : List (List ℕ)) (b : ℕ) (bs : List ℕ) (t : Bool) (o : Option (List ℕ × List ℕ)) → o ≡ split_once s bs
    → ((p r : List ℕ) → split_once s bs ≡ Some (p, r) → split s last bs ≡ p ∷ split s last r)
    → (p r : List ℕ) → cond {A = Option (List ℕ × List ℕ)} t (Some ([], bs)) (option_map (λ q. (b ∷ q.0, q.1)) o) ≡ Some (p, r)
    → cond t ([] ∷ split s last bs) (onto b (split s last bs)) ≡ p ∷ split s last r
split_some_by s last b bs true o is more p r e = let f = parts ([], bs) (p, r) e in rw (f.0, f.1)
split_some_by s last b bs false None is more p r e = cc
split_some_by s last b bs false (Some q) is more p r e =
    let f = parts (b ∷ q.0, q.1) (p, r) e in
    rw (f.0, f.1) (ap (onto b) (more q.0 q.1 (sym is)))

pub split_some : (s : ℕ) (last : List (List ℕ)) (xs p r : List ℕ) → split_once s xs ≡ Some (p, r) → split s last xs ≡ p ∷ split s last r
split_some s last [] p r e = cc
split_some s last (b ∷ bs) p r e = split_some_by s last b bs (eqb b s) (split_once s bs) refl (λ q t f. split_some s last bs q t f) p r e

-- What follows the first separator lies behind it.

rest_by : (s b : ℕ) (bs : List ℕ) (t : Bool) (o : Option (List ℕ × List ℕ)) → o ≡ split_once s bs
    → ((p r : List ℕ) → split_once s bs ≡ Some (p, r) → (length p < length bs) × (r ≡ drop (suc (length p)) bs))
    → (p r : List ℕ) → cond {A = Option (List ℕ × List ℕ)} t (Some ([], bs)) (option_map (λ q. (b ∷ q.0, q.1)) o) ≡ Some (p, r)
    → (length p < suc (length bs)) × (r ≡ drop (suc (length p)) (b ∷ bs))
rest_by s b bs true o is more p r e = let f = parts ([], bs) (p, r) e in rw (f.0, f.1) (omega arith, refl)
rest_by s b bs false None is more p r e = cc
rest_by s b bs false (Some q) is more p r e =
    let f = parts (b ∷ q.0, q.1) (p, r) e in
    let m = more q.0 q.1 (sym is) in
    rw (f.0, f.1) (omega (arith, m.0), m.1)

pub rest_after : (s : ℕ) (xs p r : List ℕ) → split_once s xs ≡ Some (p, r) → (length p < length xs) × (r ≡ drop (suc (length p)) xs)
rest_after s [] p r e = cc
rest_after s (b ∷ bs) p r e = rest_by s b bs (eqb b s) (split_once s bs) refl (λ q t f. rest_after s bs q t f) p r e

-- Where the first separator is.

abbrev pub at : ℕ → List ℕ → ℕ
at s xs = position_or_len (λ b. eqb b s) xs

some_at_by : (s b : ℕ) (bs : List ℕ) (t : Bool) (n : ℕ) → (n < length bs → split_once s bs ≡ Some (take n bs, drop (suc n) bs)) → cond (not t) (1 + n) 0 < suc (length bs)
    → cond {A = Option (List ℕ × List ℕ)} t (Some ([], bs)) (option_map (λ q. (b ∷ q.0, q.1)) (split_once s bs)) ≡ Some (take (cond (not t) (1 + n) 0) (b ∷ bs), drop (suc (cond (not t) (1 + n) 0)) (b ∷ bs))
some_at_by s b bs true n more h = refl
some_at_by s b bs false n more h = let e : 1 + n ≡ suc n = omega arith in rw (more (omega arith), e)

some_at : (s : ℕ) (xs : List ℕ) → at s xs < length xs → split_once s xs ≡ Some (take (at s xs) xs, drop (suc (at s xs)) xs)
some_at s [] h = absurd (omega arith)
some_at s (b ∷ bs) h = some_at_by s b bs (eqb b s) (at s bs) (λ l. some_at s bs l) h

none_at_by : (s b : ℕ) (bs : List ℕ) (t : Bool) (n : ℕ) → (length bs ≤ n → split_once s bs ≡ None) → suc (length bs) ≤ cond (not t) (1 + n) 0
    → cond {A = Option (List ℕ × List ℕ)} t (Some ([], bs)) (option_map (λ q. (b ∷ q.0, q.1)) (split_once s bs)) ≡ None
none_at_by s b bs true n more h = absurd (omega arith)
none_at_by s b bs false n more h = rw (more (omega arith))

none_at : (s : ℕ) (xs : List ℕ) → length xs ≤ at s xs → split_once s xs ≡ None
none_at s [] h = refl
none_at s (b ∷ bs) h = none_at_by s b bs (eqb b s) (at s bs) (λ l. none_at s bs l) h

by_position_if : (s : ℕ) (xs : List ℕ) (t : Bool) → t ≡ ltb (at s xs) (length xs)
    → split_once s xs ≡ option_map (λ n. (take n xs, drop (n + 1) xs)) (cond t (Some (at s xs)) None)
by_position_if s xs true e = rw add-one (some_at s xs (ltb-true _ _ (sym e)))
by_position_if s xs false e = none_at s xs (ltb-false _ _ (sym e))

-- r is what `position` answers
pub by_position : (s : ℕ) (xs : List ℕ) (r : Option ℕ) → r ≡ cond (ltb (at s xs) (length xs)) (Some (at s xs)) None
    → option_map (λ n. (take n xs, drop (n + 1) xs)) r ≡ split_once s xs
by_position s xs r e = rw e (sym (by_position_if s xs (ltb (at s xs) (length xs)) refl))

-- Without a separator the bytes are one word, and, where there are some, one line.

split_none_by : (s : ℕ) (last : List (List ℕ)) (b : ℕ) (bs : List ℕ) (t : Bool) (o : Option (List ℕ × List ℕ))
    → cond {A = Option (List ℕ × List ℕ)} t (Some ([], bs)) (option_map (λ q. (b ∷ q.0, q.1)) o) ≡ None → (t ≡ false) × (o ≡ None)
split_none_by s last b bs true o e = cc
split_none_by s last b bs false None e = (refl, refl)
split_none_by s last b bs false (Some q) e = cc

pub one_word : (s : ℕ) (xs : List ℕ) → split_once s xs ≡ None → split s ([] ∷ []) xs ≡ xs ∷ []
one_word s [] e = refl
one_word s (b ∷ bs) e =
    let no = split_none_by s [] b bs (eqb b s) (split_once s bs) e in
    rw no.0 (ap (onto b) (one_word s bs no.1))

pub one_line : (s b : ℕ) (bs : List ℕ) → split_once s (b ∷ bs) ≡ None → split s [] (b ∷ bs) ≡ (b ∷ bs) ∷ []
one_line s b [] e = let no = split_none_by s [] b [] (eqb b s) None e in rw no.0
one_line s b (c ∷ cs) e =
    let no = split_none_by s [] b (c ∷ cs) (eqb b s) (split_once s (c ∷ cs)) e in
    rw no.0 (ap (onto b) (one_line s c cs no.1))

-- As many words as spaces, and one.

words-split : (xs : List ℕ) → words xs ≡ slice_split (λ b. eqb b 32) xs
words-split [] = refl
words-split (b ∷ bs) = rw (words-split bs)

pub word_count : (xs : List ℕ) → length (words xs) ≡ spaces xs + 1
word_count xs = ap length (words-split xs) ∙ length-slice_split (λ b. eqb b 32) xs
