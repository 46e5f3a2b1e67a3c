-- Names in the two stores and in the rows: held in all three, or in none.
use Rattle.std.proofs.Common.{◌≡◌, ℕ, suc, cond, eqb, List, [], ◌∷◌, reverse, length, Some, None, refl, ap}
use Rattle.cell.specs.declared.frame.Frame.{Frame}
use Rattle.cell.specs.declared.wind.Wind.{Wind}
use Rattle.store.specs.Meaning.{Held, saved_under, without}
use Rattle.machine.specs.Named.{find}
use Rattle.machine.specs.Named as Named
use Rattle.machine.specs.State.{Capture, capture_name}
use Rattle.held.specs.declared.held_row.HeldRow.{HeldRow}
use Rattle.held.specs.Rows.{row_name}
use Rattle.laws.specs.Rows.{joined, Matched}
use Rattle.engine.specs.Parts.{captured}
use Rattle.faithful.specs.Sound.{pair_name}
use Rattle.faithful.proofs.PlansNames.{capture_of, Looked, unknown, known}

abbrev pub Fit : List (Held Frame) → List (Held Wind) → List HeldRow → Type 0
Fit = Matched pair_name pair_name row_name

-- the same number of each
pub lengths : (xs : List (Held Frame)) (ys : List (Held Wind)) (zs : List HeldRow) → Fit xs ys zs
    → (length xs ≡ length zs) × (length ys ≡ length zs) × (length (joined captured xs ys zs) ≡ length zs)
lengths [] [] [] h = (refl, refl, refl)
lengths [] [] (z ∷ zs) h = absurd h
lengths [] (y ∷ ys) zs h = absurd h
lengths (x ∷ xs) [] zs h = absurd h
lengths (x ∷ xs) (y ∷ ys) [] h = absurd h
lengths (x ∷ xs) (y ∷ ys) (z ∷ zs) h = let i = lengths xs ys zs h.2 in (ap suc i.0, ap suc i.1, ap suc i.2)

module _ (n : ℕ) (xs : List (Held Frame)) (ys : List (Held Wind)) (zs : List HeldRow) where
  -- a name that no row has is that of no capture
  pub unnamed : Looked n xs ys zs → find row_name zs n ≡ None → find capture_name (joined captured xs ys zs) n ≡ None
  unnamed (unknown a b c d) e = d
  unnamed (known once fs ws a b c d) e = cc (c, e)

  -- and nothing is saved under the name of no capture
  pub unsaved : Looked n xs ys zs → find capture_name (joined captured xs ys zs) n ≡ None → (saved_under xs n ≡ None) × (saved_under ys n ≡ None)
  unsaved (unknown a b c d) e = (a, b)
  unsaved (known once fs ws a b c d) e = cc (d, e)

  -- what both stores saved under the name of a capture
  pub record Saves (c : Capture) : Type 0 where
    pub frames : List Frame
    pub winds : List Wind
    pub in_frames : saved_under xs n ≡ Some frames
    pub in_winds : saved_under ys n ≡ Some winds
    pub same_frames : reverse frames ≡ c.frames

  pub saves : (c : Capture) → Looked n xs ys zs → find capture_name (joined captured xs ys zs) n ≡ Some c → Saves c
  saves c (unknown a b c' d) e = cc (d, e)
  saves c (known once fs ws a b c' d) e =
      record { frames = fs; winds = ws; in_frames = a; in_winds = b; same_frames = let same : capture_of n once fs ws ≡ c = cc (d, e) in ap (λ k. k.frames) same }

-- what is left without a name
pub store-without : {A : Type 0} (n : ℕ) (hs : List (Held A)) → without hs n ≡ Named.without pair_name hs n
store-without n [] = refl
store-without n (h ∷ hs) = ap (λ ks. cond (eqb h.name n) hs (h ∷ ks)) (store-without n hs)
