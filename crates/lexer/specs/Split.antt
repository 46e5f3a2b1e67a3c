-- Bytes parted at a separator: a sheet into lines, a line into words.
use Rattle.std.specs.Prelude.{ℕ, ◌+◌, ◌≤◌, cond, List, [], ◌∷◌, length, drop, map, Some, None, Option, ◌==◌, slice_index_or, ⊤}
use Rattle.std.specs.List.{count_by}
use Rattle.std.specs.Option.{option_map}

-- one byte more at the front of the first piece
abbrev pub onto : ℕ → List (List ℕ) → List (List ℕ)
onto b [] = (b ∷ []) ∷ []
onto b (p ∷ ps) = (b ∷ p) ∷ ps

-- the pieces between the separators s, where the end of the bytes gives the pieces `last`
abbrev pub split : ℕ → List (List ℕ) → List ℕ → List (List ℕ)
split s last [] = last
split s last (b ∷ bs) = cond (b == s) ([] ∷ split s last bs) (onto b (split s last bs))

-- byte 10 ends a line, and the last line may lack it
abbrev pub lines : List ℕ → List (List ℕ)
lines = split 10 []

-- each space parts two words, so that a word may be empty
abbrev pub words : List ℕ → List (List ℕ)
words = split 32 ([] ∷ [])

-- the word at an index; a word that is not there is empty
abbrev pub word_at : List (List ℕ) → ℕ → List ℕ
word_at ws i = slice_index_or ws i []

-- the bytes before the first separator and those after it, if there is one
abbrev pub split_once : ℕ → List ℕ → Option (List ℕ × List ℕ)
split_once s [] = None
split_once s (b ∷ bs) = cond (b == s) (Some ([], bs)) (option_map (λ p. (b ∷ p.0, p.1)) (split_once s bs))

-- words parted by one space each, with the index of each in the line, where the first starts at `at`
abbrev pub placed : ℕ → List (List ℕ) → List (ℕ × List ℕ)
placed at [] = []
placed at (w ∷ ws) = (at, w) ∷ placed (at + length w + 1) ws

-- the words of a line from an index on; none where there is no index
abbrev pub words_from : List ℕ → Option ℕ → List (ℕ × List ℕ)
words_from line None = []
words_from line (Some at) = placed at (words (drop at line))

-- an index that lies in the line or at its end, or none
abbrev pub IsWithin : List ℕ → Option ℕ → Type 0
IsWithin line None = ⊤
IsWithin line (Some at) = at ≤ length line

-- words without their indices
abbrev pub words_left : List (ℕ × List ℕ) → List (List ℕ)
words_left = map (λ w. w.1)

-- how many spaces there are
abbrev pub spaces : List ℕ → ℕ
spaces = count_by (λ b. b == 32)
