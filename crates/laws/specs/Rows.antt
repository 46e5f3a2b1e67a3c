-- A run has its captures in three lists: what its frame store saved under each name, what its wind store saved, and which names
-- serve for one throw only. Joined row by row they are the captures of the machine, whatever is done to all three.
use Rattle.std.specs.Prelude.{◌≡◌, ℕ, Bool, false, List, [], ◌∷◌, ◌++◌, Some, None}
use Rattle.cell.specs.declared.frame.Frame.{Frame}
use Rattle.cell.specs.declared.wind.Wind.{Wind}
use Rattle.machine.specs.Named.{find, without, changed_all}
use Rattle.machine.specs.State.{Capture, capture_name, for_many}

-- a list saved under a name
pub record Kept (A : Type 0) : Type 0 where
  pub name : ℕ
  pub list : List A

-- whether a name serves for one throw only
pub record Flag : Type 0 where
  pub name : ℕ
  pub once : Bool

-- the same flag, for many throws
abbrev pub many : Flag → Flag
many z = record { name = z.name; once = false }

-- one capture
abbrev pub row : Kept Frame → Kept Wind → Flag → Capture
row x y z = record { name = record { 0 = x.name }; once = z.once; frames = x.list; winds = y.list }

module _ {A B C D : Type 0} (make : A → B → C → D) where
  -- three lists, row by row
  abbrev pub joined : List A → List B → List C → List D
  joined [] ys zs = []
  joined (x ∷ xs) [] zs = []
  joined (x ∷ xs) (y ∷ ys) [] = []
  joined (x ∷ xs) (y ∷ ys) (z ∷ zs) = make x y z ∷ joined xs ys zs

module _ {A B C : Type 0} (na : A → ℕ) (nb : B → ℕ) (nc : C → ℕ) where
  -- they have the same names in the same order
  abbrev pub Matched : List A → List B → List C → Type 0
  Matched [] [] [] = Unit {0}
  Matched [] [] (z ∷ zs) = ⊥
  Matched [] (y ∷ ys) zs = ⊥
  Matched (x ∷ xs) [] zs = ⊥
  Matched (x ∷ xs) (y ∷ ys) [] = ⊥
  Matched (x ∷ xs) (y ∷ ys) (z ∷ zs) = (na x ≡ nb y) × (na x ≡ nc z) × Matched xs ys zs

-- the name of a kept list, as a number
abbrev pub kept_name : {A : Type 0} → Kept A → ℕ
kept_name x = x.name

-- the name of a flag, as a number
abbrev pub flag_name : Flag → ℕ
flag_name z = z.name

-- what two stores keep and the flags, as captures
abbrev pub captures : List (Kept Frame) → List (Kept Wind) → List Flag → List Capture
captures = joined row

-- they have the same names in the same order
abbrev pub Together : List (Kept Frame) → List (Kept Wind) → List Flag → Type 0
Together = Matched kept_name kept_name flag_name

-- whatever is done to all three lists, they stay together, and the captures are those of the machine
pub record RowsLaw (xs : List (Kept Frame)) (ys : List (Kept Wind)) (zs : List Flag) : Type 0 where
  -- a name is made
  pub pushed : (x : Kept Frame) (y : Kept Wind) (z : Flag) → x.name ≡ y.name → x.name ≡ z.name
      → Together (xs ++ (x ∷ [])) (ys ++ (y ∷ [])) (zs ++ (z ∷ []))
      × (captures (xs ++ (x ∷ [])) (ys ++ (y ∷ [])) (zs ++ (z ∷ [])) ≡ captures xs ys zs ++ (row x y z ∷ []))
  -- a name is released
  pub removed : (n : ℕ)
      → Together (without kept_name xs n) (without kept_name ys n) (without flag_name zs n)
      × (captures (without kept_name xs n) (without kept_name ys n) (without flag_name zs n) ≡ without capture_name (captures xs ys zs) n)
  -- some names serve for many throws from now on
  pub promoted : (test : ℕ → Bool)
      → Together xs ys (changed_all flag_name test many zs)
      × (captures xs ys (changed_all flag_name test many zs) ≡ changed_all capture_name test for_many (captures xs ys zs))
  -- a name is looked up
  pub unheld : (n : ℕ) → find kept_name xs n ≡ None → find capture_name (captures xs ys zs) n ≡ None
  pub found : (n : ℕ) (x : Kept Frame) (y : Kept Wind) (z : Flag) → find kept_name xs n ≡ Some x → find kept_name ys n ≡ Some y → find flag_name zs n ≡ Some z
      → find capture_name (captures xs ys zs) n ≡ Some (row x y z)

-- that of every three lists
abbrev pub RowsJoined : Type 0
RowsJoined = (xs : List (Kept Frame)) (ys : List (Kept Wind)) (zs : List Flag) → Together xs ys zs → RowsLaw xs ys zs
