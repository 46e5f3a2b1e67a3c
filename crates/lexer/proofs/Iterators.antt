-- What the iterators over lines and words hand out, and what is left to come.
use Rattle.std.proofs.Common.{◌≡◌, ℕ, ◌+◌, ◌-◌, ◌<◌, ◌≤◌, suc, List, [], ◌∷◌, length, take, drop, Option, Some, None, Bor, sym, refl, ap, ◌∙◌, subst, arith, length-drop}
use Rattle.std.proofs.lemmas.List.{drop-drop, take_all}
use Rattle.std.specs.Option.{option_map, unwrap_or}
use Rattle.lexer.specs.Split.{lines, split_once, placed, words_left, words_from, IsWithin}
use Rattle.lexer.proofs.Pieces.{split_some, one_word, one_line, rest_after}

-- what two borrowed lists hold
abbrev pub held : Bor (List ℕ) × Bor (List ℕ) → List ℕ × List ℕ
held p = (p.0.now, p.1.now)

pub next-line : (xs : List ℕ) (o : Option (Bor (List ℕ) × Bor (List ℕ))) (all : Bor (List ℕ) × Bor (List ℕ)) → 0 < length xs → all.0.now ≡ xs → all.1.now ≡ []
    → option_map held o ≡ split_once 10 xs → lines xs ≡ (unwrap_or o all).0.now ∷ lines (unwrap_or o all).1.now
next-line [] o all some is none e = absurd (omega arith)
next-line (b ∷ bs) None all some is none e = rw (is, none, one_line 10 b bs (sym e))
next-line (b ∷ bs) (Some p) all some is none e = rw (split_some 10 [] (b ∷ bs) p.0.now p.1.now (sym e))

pub words_left-placed : (at : ℕ) (ws : List (List ℕ)) → words_left (placed at ws) ≡ ws
words_left-placed at [] = refl
words_left-placed at (w ∷ ws) = ap (λ r. w ∷ r) (words_left-placed (at + length w + 1) ws)

-- What is left of the line from the next word on; r is what was taken as its index.
module _ (xs : List ℕ) (at : ℕ) (next r : Option ℕ) (taken : r ≡ next) (was : r ≡ Some at) (within : IsWithin xs next) where
  some : next ≡ Some at
  some = sym taken ∙ was

  at_most : at ≤ length xs
  at_most = let h : IsWithin xs (Some at) = subst (IsWithin xs) some within in h

  rest : take (length xs - at) (drop at xs) ≡ drop at xs
  rest = take_all (length xs - at) (drop at xs) (omega (arith, length-drop at xs))

  pub next_start : (p q : List ℕ) → Some (p, q) ≡ split_once 32 (take (length xs - at) (drop at xs)) → at + length p + 1 ≤ length xs
  next_start p q e = let after = rest_after 32 (drop at xs) p q (sym (rw rest at e)) in omega (arith, after.0, length-drop at xs, at_most)

  pub next_word : (p q : List ℕ) → Some (p, q) ≡ split_once 32 (take (length xs - at) (drop at xs))
      → words_from xs next ≡ (at, p) ∷ words_from xs (Some (at + length p + 1))
  next_word p q e =
      let cut : split_once 32 (drop at xs) ≡ Some (p, q) = sym (rw rest at e) in
      let on : at + suc (length p) ≡ at + length p + 1 = omega arith in
      let behind : q ≡ drop (at + length p + 1) xs = (rest_after 32 (drop at xs) p q cut).1 ∙ drop-drop (suc (length p)) at xs ∙ ap (λ k. drop k xs) on in
      rw (some, split_some 32 ([] ∷ []) (drop at xs) p q cut, behind)

  pub last_word : None ≡ split_once 32 (take (length xs - at) (drop at xs)) → words_from xs next ≡ (at, take (length xs - at) (drop at xs)) ∷ []
  last_word e = rw (some, rest, one_word 32 (drop at xs) (sym (rw rest at e)))
