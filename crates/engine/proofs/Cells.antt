-- The cells that elements were read from.
use Rattle.std.proofs.Common.{◌≡◌, ℕ, List, map, Result, sym, ap, ◌∙◌}
use Rattle.std.proofs.lemmas.Simd.{map-map}
use Rattle.cell.specs.Filled.{filled}
use Rattle.cell.specs.declared.cell.Cell.{Cell}
use Rattle.store.specs.Meaning.{Meaning}
use Rattle.store.specs.Typed.{read_as, Written}
use Rattle.machine.specs.declared.index_refusal.IndexRefusal.{IndexRefusal}
use Rattle.machine.specs.Calls.{cell_at}

module _ {E : Type 0} (read : Cell → E) (words : E → List ℕ) (m : Meaning Cell) (written : Written read words m) (es : List E) (of : es ≡ (read_as read m).current) where
  abbrev cell_of : E → Cell
  cell_of e = filled (words e)

  -- written again, the elements are the cells that stand in the store
  rewritten : map cell_of es ≡ m.current
  rewritten = ap (map cell_of) of ∙ (map-map cell_of read m.current ∙ ap (λ n. n.current) written)

  -- so what the store tells at an index is the cell that the element there is written as
  pub told : (i : ℕ) (cell : Result Cell IndexRefusal) → cell ≡ cell_at m.current i → cell ≡ cell_at (map cell_of es) i
  told i cell e = e ∙ ap (λ cells. cell_at cells i) (sym rewritten)
