-- A name, looked up in what two stores saved, in the rows, and in the captures that these are together.
use Rattle.std.proofs.Common.{◌≡◌, ℕ, Bool, true, false, cond, eqb, List, [], ◌∷◌, reverse, Some, None, sym, refl, ap, ◌∙◌}
use Rattle.std.proofs.lemmas.Bool.{eq-eqb, eqb-true, cond-true, cond-false}
use Rattle.cell.specs.declared.frame.Frame.{Frame}
use Rattle.cell.specs.declared.wind.Wind.{Wind}
use Rattle.store.specs.Meaning.{Held, saved_under}
use Rattle.machine.specs.Named.{find}
use Rattle.machine.specs.State.{Capture, capture_name}
use Rattle.held.specs.declared.held_row.HeldRow.{HeldRow}
use Rattle.held.specs.Rows.{row_name}
use Rattle.laws.specs.Rows.{joined, Matched}
use Rattle.engine.specs.Parts.{captured}
use Rattle.faithful.specs.Sound.{pair_name}

-- the row of a name
abbrev pub row_of : ℕ → Bool → HeldRow
row_of n once = record { name = record { 0 = n }; once = once }

-- the capture of a name, from what two stores saved
abbrev pub capture_of : ℕ → Bool → List Frame → List Wind → Capture
capture_of n once fs ws = record { name = record { 0 = n }; once = once; frames = reverse fs; winds = reverse ws }

module _ (n : ℕ) (xs : List (Held Frame)) (ys : List (Held Wind)) (zs : List HeldRow) where
  -- all four have the name, or none has
  pub data Looked : Type 0 where
    unknown : saved_under xs n ≡ None → saved_under ys n ≡ None → find row_name zs n ≡ None → find capture_name (joined captured xs ys zs) n ≡ None → Looked
    known : (once : Bool) (fs : List Frame) (ws : List Wind) → saved_under xs n ≡ Some fs → saved_under ys n ≡ Some ws → find row_name zs n ≡ Some (row_of n once)
        → find capture_name (joined captured xs ys zs) n ≡ Some (capture_of n once fs ws) → Looked

-- the first thing has the name
hit : {A : Type 0} (m n : ℕ) (a b : A) → m ≡ n → cond (eqb m n) a b ≡ a
hit m n a b e = cond-true _ _ _ (eq-eqb m n e)

-- or it has another, which is that of two more first things
missed : {A : Type 0} (k m n : ℕ) (a b : A) → k ≡ m → eqb k n ≡ false → cond (eqb m n) a b ≡ b
missed k m n a b e f = cond-false _ _ _ (ap (λ i. eqb i n) (sym e) ∙ f)

pub looked : (n : ℕ) (xs : List (Held Frame)) (ys : List (Held Wind)) (zs : List HeldRow) → Matched pair_name pair_name row_name xs ys zs → Looked n xs ys zs
looked n [] [] [] h = unknown refl refl refl refl
looked n [] [] (z ∷ zs) h = absurd h
looked n [] (y ∷ ys) zs h = absurd h
looked n (x ∷ xs) [] zs h = absurd h
looked n (x ∷ xs) (y ∷ ys) [] h = absurd h
looked n (x ∷ xs) (y ∷ ys) (z ∷ zs) h = by (eqb x.name n) refl (looked n xs ys zs h.2)
  where
    by : (b : Bool) → eqb x.name n ≡ b → Looked n xs ys zs → Looked n (x ∷ xs) (y ∷ ys) (z ∷ zs)
    by true e rest =
        let is : x.name ≡ n = eqb-true x.name n e in
        known z.once x.cells y.cells (hit x.name n _ _ is) (hit y.name n _ _ (sym h.0 ∙ is))
        (hit z.name.0 n _ _ (sym h.1 ∙ is) ∙ ap (λ m. Some (row_of m z.once)) (sym h.1 ∙ is))
        (hit x.name n _ _ is ∙ ap (λ m. Some (capture_of m z.once x.cells y.cells)) is)
    by false e (unknown a b c d) =
        unknown (missed x.name x.name n _ _ refl e ∙ a) (missed x.name y.name n _ _ h.0 e ∙ b) (missed x.name z.name.0 n _ _ h.1 e ∙ c) (missed x.name x.name n _ _ refl e ∙ d)
    by false e (known once fs ws a b c d) =
        known once fs ws (missed x.name x.name n _ _ refl e ∙ a) (missed x.name y.name n _ _ h.0 e ∙ b) (missed x.name z.name.0 n _ _ h.1 e ∙ c) (missed x.name x.name n _ _ refl e ∙ d)
