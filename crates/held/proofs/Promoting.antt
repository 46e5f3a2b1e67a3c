-- Rows promoted one by one.
use Rattle.std.proofs.Common.{◌≡◌, ℕ, ◌+◌, ◌<◌, Bool, true, false, cond, List, ◌++◌, map, length, get_or, take, drop, set, sym, refl, ap, ◌∙◌, arith}
use Rattle.std.proofs.lemmas.List.Edits.{map_over_more}
use Rattle.std.proofs.lemmas.List.{length-append, length-drop, length-map, length-take-le, get_or_default}
use Rattle.std.proofs.lemmas.Bool.{cond-true, cond-false}
use Rattle.machine.specs.Named.{changed}
use Rattle.held.specs.declared.held_row.HeldRow.{HeldRow}
use Rattle.held.specs.Rows.{row_name, for_many}

-- a row of no continuation
abbrev pub blank : HeldRow
blank = record { name = record { 0 = 0 }; once = false }

-- one row further in a promotion; `test` tells which names have a Mark
module _ (test : ℕ → Bool) (xs ys : List HeldRow) (i : ℕ) (l : i < length xs) (so : ys ≡ map (changed row_name test for_many) (take i xs) ++ drop i xs) where
  -- the rows once this one is done too
  abbrev done : List HeldRow
  done = map (changed row_name test for_many) (take (i + 1) xs) ++ drop (i + 1) xs

  -- the row
  abbrev row : HeldRow
  row = get_or ys i blank

  -- it is read where it is
  row_is : row ≡ get_or ys i row
  row_is =
      let n : length (map (changed row_name test for_many) (take i xs)) ≡ i = length-map (take i xs) (changed row_name test for_many) ∙ length-take-le i xs (omega arith) in
      let long : length ys ≡ length xs = ap length so ∙ length-append (map (changed row_name test for_many) (take i xs)) (drop i xs) ∙ simp length-drop (omega arith) in
      get_or_default ys i blank row (omega arith)

  -- it has a Mark
  pub promoted_more : test (row_name row) ≡ true → set ys i (for_many row) ≡ done
  promoted_more e = ap (set ys i) (sym (cond-true _ _ _ e)) ∙ map_over_more (changed row_name test for_many) xs ys i row l so row_is

  -- it has none
  pub unmarked_more : test (row_name row) ≡ false → set ys i row ≡ done
  unmarked_more e = ap (set ys i) (sym (cond-false _ _ _ e)) ∙ map_over_more (changed row_name test for_many) xs ys i row l so row_is

  -- it serves for many throws already
  pub many_more : row.once ≡ false → set ys i row ≡ done
  many_more e = ap (set ys i) (sym (by (test (row_name row)))) ∙ map_over_more (changed row_name test for_many) xs ys i row l so row_is
    where
      by : (b : Bool) → cond b (for_many row) row ≡ row
      by true = ap (λ o. record { name = row.name; once = o }) (sym e)
      by false = refl
