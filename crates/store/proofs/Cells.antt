-- The cells of a store, from its elements.
use Rattle.std.proofs.Common.{◌≡◌, ℕ, List, [], ◌∷◌, map, sym, refl, ap, ◌∙◌}
use Rattle.std.proofs.lemmas.Simd.{map-map}
use Rattle.cell.specs.Filled.{filled}
use Rattle.cell.specs.declared.cell.Cell.{Cell}
use Rattle.store.specs.Meaning.{Meaning, Held}
use Rattle.store.specs.Typed.{read_as, held_as, Written}

module _ {A B C : Type 0} (f : A → B) (g : B → C) where
  held_twice : (hs : List (Held A)) → map (held_as g) (map (held_as f) hs) ≡ map (held_as (λ x. g (f x))) hs
  held_twice [] = refl
  held_twice (h ∷ hs) =
      ap (λ cs. record { name = h.name; cells = cs } ∷ map (held_as g) (map (held_as f) hs)) (map-map g f h.cells)
      ∙ ap (λ ps. held_as (λ x. g (f x)) h ∷ ps) (held_twice hs)

  pub read_twice : (m : Meaning A) → read_as g (read_as f m) ≡ read_as (λ x. g (f x)) m
  read_twice m = rw (map-map, held_twice)

module _ {E : Type 0} (read : Cell → E) (words : E → List ℕ) (m : Meaning Cell) where
  -- where each cell is the one that its element is written as, the elements tell the cells
  pub cells_of_elements : Written read words m → m ≡ read_as (λ e. filled (words e)) (read_as read m)
  cells_of_elements h = sym (read_twice read (λ e. filled (words e)) m ∙ h)

  -- a store with no cell is such a store
  pub none_written : m.current ≡ [] → m.held ≡ [] → Written read words m
  none_written p q = rw (p, q)
