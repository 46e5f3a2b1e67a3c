-- What a pop makes of a meaning.
use Rattle.std.proofs.Common.{◌≡◌, ◌-◌, ◌<◌, List, [], ◌∷◌, ◌++◌, length, take, Some, Ok, ap, ◌∙◌, arith}
use Rattle.std.proofs.Math.Seq.{get_or-append_seam, take-append_seam}
use Rattle.std.proofs.lemmas.List.{length_push}
use Rattle.std.proofs.lemmas.Option.{slice_get-get_or}
use Rattle.store.specs.Meaning.{Meaning, popped, popped_by, top, with_current}

module _ {A : Type 0} where
  -- a pop where the top cell is in sight
  pub popped_push : (m : Meaning A) (xs : List A) (x : A) → m.current ≡ xs ++ (x ∷ []) → popped m ≡ (Ok x, with_current m xs)
  popped_push m xs x e =
      let last : length m.current - 1 ≡ length xs = omega (arith, ap length e, length_push xs x) in
      let within : length xs < length (xs ++ x ∷ []) = omega (arith, length_push xs x) in
      let found : top m.current ≡ Some x = rw (last, e) (slice_get-get_or (xs ++ x ∷ []) (length xs) x within ∙ ap Some (get_or-append_seam xs x [] x)) in
      let rest : take (length m.current - 1) m.current ≡ xs = rw (last, e) (take-append_seam xs (x ∷ [])) in
      ap (popped_by m) found ∙ ap (λ cs. (Ok x, with_current m cs)) rest
