-- Cells in words after some of the words were overwritten.
use Rattle.std.proofs.Common.{◌≡◌, ℕ, ◌+◌, ◌-◌, ◌*◌, ◌<◌, ◌≤◌, min, ◌⊎◌, List, [], ◌∷◌, ◌++◌, map, length, get_or, take, drop, sym, refl, ap, ◌∙◌, inl, inr, mul-le-mul_left, mul-add, arith}
use lib.Seq.{paste}
use Rattle.std.specs.List.{range_with_len, copy_within}
use Rattle.std.proofs.lemmas.List.FromFn.{length-map-range_with_len, get_or-map-range_with_len}
use Rattle.std.proofs.lemmas.List.Edits.{length-paste, paste_all}
use Rattle.std.proofs.lemmas.List.{same_lists, ext_get_or, length-take, length-drop, length-append, get_or-take, get_or-drop, get_or_append_left, get_or-append_right, append_assoc, take_all}
use Rattle.cell.specs.declared.cell.Cell.{Cell}
use Rattle.bottom.specs.Limits.{cells_needed}
use Rattle.cell.specs.Filled.{width}
use Rattle.copied.specs.Cells.{cell_at, cells}

-- two lists that are made in the same way, place by place
pub map_counting_eq : {X : Type 0} (f g : ℕ → X) (a b n : ℕ) → ((k : ℕ) → k < n → f (a + k) ≡ g (b + k)) → map f (range_with_len a n) ≡ map g (range_with_len b n)
map_counting_eq f g a b n h =
    same_lists _ _ (length-map-range_with_len f a n ∙ sym (length-map-range_with_len g b n))
    (λ k d l. let l' : k < n = rw length-map-range_with_len at l in get_or-map-range_with_len f a n k (a + k) d l' refl ∙ h k l' ∙ sym (get_or-map-range_with_len g b n k (b + k) d l' refl))

-- the words of a list of which n, from a place on, were overwritten by those of another
module _ (ws new : List ℕ) (at n : ℕ) (fits : at + n ≤ length ws) (enough : n ≤ length new) where
  -- the words then
  abbrev after : List ℕ
  after = paste ws at new n

  -- as many words as before
  pub paste-long : length after ≡ length ws
  paste-long = length-paste ws at new n fits enough

  -- the words below are as they were
  pub paste-below : (k : ℕ) → k < at → get_or after k 0 ≡ get_or ws k 0
  paste-below k l =
      let a : length (take at ws) ≡ at = simp length-take (omega arith) in
      let b : length (take at ws ++ take n new) ≡ at + n = simp (length-append, length-take) (omega arith) in
      get_or_append_left (take at ws ++ take n new) (drop (at + n) ws) 0 k (omega arith) ∙ get_or_append_left (take at ws) (take n new) 0 k (omega arith) ∙ get_or-take at ws k 0 l

  -- the overwritten words are the new ones
  pub paste_inside : (j : ℕ) → j < n → get_or after (at + j) 0 ≡ get_or new j 0
  paste_inside j l =
      let a : length (take at ws) ≡ at = simp length-take (omega arith) in
      let b : length (take at ws ++ take n new) ≡ at + n = simp (length-append, length-take) (omega arith) in
      let c : at + j - at ≡ j = omega arith in
      get_or_append_left (take at ws ++ take n new) (drop (at + n) ws) 0 (at + j) (omega arith) ∙ get_or-append_right (take at ws) (take n new) at (at + j) 0 a (omega arith)
      ∙ ap (λ i. get_or (take n new) i 0) c ∙ get_or-take n new j 0 l

  -- the words above are as they were
  pub paste-above : (k : ℕ) → at + n ≤ k → get_or after k 0 ≡ get_or ws k 0
  paste-above k l =
      let b : length (take at ws ++ take n new) ≡ at + n = simp (length-append, length-take) (omega arith) in
      let c : at + n + (k - (at + n)) ≡ k = omega arith in
      get_or-append_right (take at ws ++ take n new) (drop (at + n) ws) (at + n) k 0 b l ∙ get_or-drop (at + n) ws (k - (at + n)) 0 ∙ ap (λ i. get_or ws i 0) c

  -- what lies past them
  pub paste-beyond : (p : ℕ) → at + n ≤ p → drop p after ≡ drop p ws
  paste-beyond p l =
      ext_get_or 0 _ _ (length-drop p after ∙ ap (λ m. m - p) paste-long ∙ sym (length-drop p ws))
      (λ i h. get_or-drop p after i 0 ∙ paste-above (p + i) (omega arith) ∙ sym (get_or-drop p ws i 0))

-- cells with the same words
pub same_cell : (ws vs : List ℕ) (i j : ℕ) → min width (length ws - width * i) ≡ min width (length vs - width * j) → ((r : ℕ) → r < width → get_or ws (width * i + r) 0 ≡ get_or vs (width * j + r) 0) → cell_at ws i ≡ cell_at vs j
same_cell ws vs i j l h =
    ap (λ (xs : List ℕ). (let c : Cell = record { words = xs } in c))
    (ext_get_or 0 _ _ (long ws i ∙ l ∙ sym (long vs j))
    (λ r m. let lt : r < width = let e = long ws i in omega arith in
    get_or-take width (drop (width * i) ws) r 0 lt ∙ get_or-drop (width * i) ws r 0 ∙ h r lt ∙ sym (get_or-take width (drop (width * j) vs) r 0 lt ∙ get_or-drop (width * j) vs r 0)))
  where
    long : (us : List ℕ) (k : ℕ) → length (take width (drop (width * k) us)) ≡ min width (length us - width * k)
    long us k = length-take width (drop (width * k) us) ∙ ap (min width) (length-drop (width * k) us)

-- so many cells overwritten by those of a list of words
module _ (ws new : List ℕ) (to n : ℕ) (fits : width * (to + n) ≤ length ws) (enough : width * n ≤ length new) where
  -- the words then
  abbrev pub written : List ℕ
  written = paste ws (width * to) new (width * n)

  long : length written ≡ length ws
  long = paste-long ws new (width * to) (width * n) (omega arith) enough

  -- the overwritten cells are the new ones
  pub cells_inside : cells written to n ≡ cells new 0 n
  cells_inside =
      map_counting_eq _ _ to 0 n (λ k l.
      let e = long in
      let z : 0 + k ≡ k = omega arith in
      rw z (same_cell written new (to + k) k (omega arith) (λ r m.
      let a : width * (to + k) + r ≡ width * to + (width * k + r) = omega arith in
      ap (λ i. get_or written i 0) a ∙ paste_inside ws new (width * to) (width * n) (omega arith) enough (width * k + r) (omega arith))))

  -- cells that lie wholly below or above are as they were
  pub cells_outside : (a m : ℕ) → (a + m ≤ to) ⊎ (to + n ≤ a) → cells written a m ≡ cells ws a m
  cells_outside a m (inl b) = map_counting_eq _ _ a a m (λ k l. let e = long in same_cell written ws (a + k) (a + k) (omega arith) (λ r h. paste-below ws new (width * to) (width * n) (omega arith) enough (width * (a + k) + r) (omega arith)))
  cells_outside a m (inr b) = map_counting_eq _ _ a a m (λ k l. let e = long in same_cell written ws (a + k) (a + k) (omega arith) (λ r h. paste-above ws new (width * to) (width * n) (omega arith) enough (width * (a + k) + r) (omega arith)))

  -- what lies past them is as it was
  pub written-beyond : (p : ℕ) → width * (to + n) ≤ p → drop p written ≡ drop p ws
  written-beyond p l = paste-beyond ws new (width * to) (width * n) (omega arith) enough p (omega arith)

  -- as many words as before
  pub written-long : length written ≡ length ws
  written-long = long

-- the cells of a list from some cell on
pub cells-from : (ws : List ℕ) (from n : ℕ) → cells (drop (width * from) ws) 0 n ≡ cells ws from n
cells-from ws from n =
    map_counting_eq _ _ 0 from n (λ k l.
    same_cell (drop (width * from) ws) ws (0 + k) (from + k) (let e = length-drop (width * from) ws in omega arith)
    (λ r h. get_or-drop (width * from) ws (width * (0 + k) + r) 0 ∙ ap (λ i. get_or ws i 0) (let q : width * from + (width * (0 + k) + r) ≡ width * (from + k) + r = omega arith in q)))

-- so many cells copied within the words
pub copied_cells : (ws : List ℕ) (from to n : ℕ) → copy_within ws (width * from) (width * (from + n)) (width * to) ≡ paste ws (width * to) (drop (width * from) ws) (width * n)
copied_cells ws from to n = let e : width * (from + n) - width * from ≡ width * n = omega arith in ap (paste ws (width * to) (drop (width * from) ws)) e

-- a cell put over the one at an index
pub put_cell : (ws : List ℕ) (i : ℕ) (c : Cell) → length c.words ≡ width → (take (width * i) ws ++ c.words) ++ drop (width * (i + 1)) ws ≡ paste ws (width * i) c.words width
put_cell ws i c l = let e : width * (i + 1) ≡ width * i + width = omega arith in ap (λ k. (take (width * i) ws ++ c.words) ++ drop k ws) e ∙ append_assoc (take (width * i) ws) c.words (drop (width * i + width) ws) ∙ sym (paste_all ws (width * i) c.words width (sym l))

-- the cell of its own words
pub own_cell : (c : Cell) → length c.words ≡ width → cells c.words 0 1 ≡ c ∷ []
own_cell c l = ap (λ (xs : List ℕ). (let d : Cell = record { words = xs } in d ∷ [])) (take_all width c.words (omega arith))

-- parts do not meet
pub part_below : (depth s t : ℕ) → s < t → cells_needed depth s + depth ≤ cells_needed depth t
part_below depth s t l =
    let m : depth * (s + 2) ≤ depth * (t + 1) = mul-le-mul_left depth (omega arith) in
    let e : depth * (s + 2) ≡ depth * (s + 1) + depth = grind (arith, mul-add) in
    omega arith

-- every part lies past that of the current list
pub part_past : (depth s : ℕ) → depth ≤ cells_needed depth s
part_past depth s = let e : depth * (s + 1) ≡ depth * s + depth = grind (arith, mul-add) in omega arith
