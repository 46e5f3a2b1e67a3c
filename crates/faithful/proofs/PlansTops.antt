-- Lists that stand bottom first, read from their other end.
use Rattle.std.proofs.Common.{◌≡◌, ◌-◌, List, [], ◌∷◌, ◌++◌, map, reverse, length, Some, None, Option, sym, refl, ap, ◌∙◌, arith}
use Rattle.std.specs.List.{slice_get}
use Rattle.std.proofs.lemmas.List.{reverse-reverse, map-append, length_push}
use Rattle.std.proofs.lemmas.Grind.{reverse_onto}
use Rattle.store.specs.Meaning.{top}

module _ {A : Type 0} where
  -- the first item of a list, if there is any
  abbrev pub head : List A → Option A
  head [] = None
  head (x ∷ xs) = Some x

  at_last : (xs : List A) (x : A) → slice_get (xs ++ (x ∷ [])) (length xs) ≡ Some x
  at_last [] x = refl
  at_last (y ∷ xs) x = at_last xs x

  top_push : (xs : List A) (x : A) → top (xs ++ (x ∷ [])) ≡ Some x
  top_push xs x = let last : length (xs ++ (x ∷ [])) - 1 ≡ length xs = omega (arith, length_push xs x) in ap (slice_get (xs ++ (x ∷ []))) last ∙ at_last xs x

  top_reversed : (ds : List A) → top (reverse ds) ≡ head ds
  top_reversed [] = refl
  top_reversed (d ∷ ds) = ap top (reverse_onto ds d []) ∙ top_push (reverse ds) d

  -- the top of a list heads it in reverse
  pub top_is : (cs : List A) → top cs ≡ head (reverse cs)
  top_is cs = ap top (sym (reverse-reverse cs)) ∙ top_reversed (reverse cs)

map-reverse : {A B : Type 0} (f : A → B) (xs : List A) → map f (reverse xs) ≡ reverse (map f xs)
map-reverse f [] = refl
map-reverse f (x ∷ xs) = ap (map f) (reverse_onto xs x []) ∙ map-append f (reverse xs) (x ∷ []) ∙ ap (λ ys. ys ++ (f x ∷ [])) (map-reverse f xs) ∙ sym (reverse_onto (map f xs) (f x) [])

-- turned twice, with each item changed in between
pub turned_twice : {A B : Type 0} (f : A → B) (xs : List A) → reverse (map f (reverse xs)) ≡ map f xs
turned_twice f xs = ap reverse (map-reverse f xs) ∙ reverse-reverse (map f xs)
