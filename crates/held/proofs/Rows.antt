-- Rows of a name by the library's searches.
use Rattle.std.proofs.Common.{◌≡◌, ℕ, suc, ◌+◌, Bool, true, false, cond, eqb, List, [], ◌∷◌, Some, None, Option, sym, refl, ap, ◌∙◌, subst, arith}
use Rattle.std.specs.List.{position_from, remove}
use Rattle.machine.specs.Named.{without}
use Rattle.held.specs.declared.held_row.HeldRow.{HeldRow}
use Rattle.held.specs.Rows.{row_name}

-- whether a row is that of a name
abbrev pub has_name : ℕ → HeldRow → Bool
has_name n r = eqb (row_name r) n

-- what an index from `a` on says of `w`, the rows without the first that it may be the index of
abbrev pub Parted : ℕ → List HeldRow → List HeldRow → Option ℕ → Type 0
Parted a rs w None = w ≡ rs
Parted a rs w (Some i) = (j : ℕ) × ((i ≡ a + j) × (w ≡ remove rs j))

parted : (a : ℕ) (rs : List HeldRow) (n : ℕ) → Parted a rs (without row_name rs n) (position_from (has_name n) a rs)
parted a [] n = refl
parted a (r ∷ rs) n = by (has_name n r) (without row_name rs n) (position_from (has_name n) (a + 1) rs) (parted (a + 1) rs n)
  where
    by : (b : Bool) (w : List HeldRow) (o : Option ℕ) → Parted (a + 1) rs w o → Parted a (r ∷ rs) (cond b rs (r ∷ w)) (cond b (Some a) o)
    by true w o h = (0, (omega arith, refl))
    by false w None h = ap (λ xs. r ∷ xs) h
    by false w (Some i) h = let j : ℕ = h.0 in let e : i ≡ a + 1 + j = h.1.0 in (suc j, (omega arith, ap (λ xs. r ∷ xs) h.1.1))

-- the rows without that of a name, from the index that was found
module _ (rs : List HeldRow) (n : ℕ) (o : Option ℕ) (found_at : o ≡ position_from (has_name n) 0 rs) where
  pub none_removed : o ≡ None → rs ≡ without row_name rs n
  none_removed e = sym (subst (Parted 0 rs (without row_name rs n)) (sym found_at ∙ e) (parted 0 rs n))

  pub one_removed : (i : ℕ) → o ≡ Some i → remove rs i ≡ without row_name rs n
  one_removed i e =
      let h = subst (Parted 0 rs (without row_name rs n)) (sym found_at ∙ e) (parted 0 rs n) in
      let j : ℕ = h.0 in
      let at : j ≡ i = omega (arith, h.1.0) in
      ap (remove rs) (sym at) ∙ sym h.1.1
