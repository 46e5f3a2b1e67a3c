-- A list with the bottom first, and the same list top first.
use Rattle.std.proofs.Common.{◌≡◌, ◌-◌, List, [], ◌∷◌, ◌++◌, reverse, length, take, Ok, sym, ap, ◌∙◌, arith}
use Rattle.std.proofs.lemmas.List.{reverse-append, reverse-reverse, length-append}
use Rattle.std.proofs.Math.Seq.{take-append_seam}
use Rattle.store.specs.Meaning.{Meaning, with_current, popped, popped_by}
use Rattle.faithful.proofs.PlansTops.{head, top_is}

module _ {A : Type 0} where
  pub reverse_push : (xs : List A) (x : A) → reverse (xs ++ (x ∷ [])) ≡ x ∷ reverse xs
  reverse_push xs x = reverse-append xs (x ∷ [])

  -- a list that is not empty is what is below its top, and the top
  parted : (cs : List A) (x : A) (xs : List A) → reverse cs ≡ x ∷ xs → cs ≡ reverse xs ++ (x ∷ [])
  parted cs x xs e = sym (reverse-reverse cs) ∙ ap reverse e ∙ reverse-append (x ∷ []) xs

  before_last : (xs : List A) (x : A) → length (xs ++ (x ∷ [])) - 1 ≡ length xs
  before_last xs x = omega (arith, length-append xs (x ∷ []))

  pub below-is : (cs : List A) (x : A) (xs : List A) → reverse cs ≡ x ∷ xs → reverse (take (length cs - 1) cs) ≡ xs
  below-is cs x xs e =
      let under : List A = reverse xs in
      ap (λ ys. reverse (take (length ys - 1) ys)) (parted cs x xs e)
      ∙ ap (λ n. reverse (take n (under ++ (x ∷ [])))) (before_last under x)
      ∙ ap reverse (take-append_seam under (x ∷ []))
      ∙ reverse-reverse xs

  -- a pop of such a list
  pub pop-is : (m : Meaning A) (x : A) (xs : List A) → reverse m.current ≡ x ∷ xs
      → popped m ≡ (Ok x, with_current m (take (length m.current - 1) m.current))
  pop-is m x xs e = ap (popped_by m) (top_is m.current ∙ ap head e)
