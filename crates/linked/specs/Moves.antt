-- What a change of the nodes keeps.
use Rattle.std.specs.Prelude.{◌≡◌, ℕ, zero, suc, ◌+◌, ◌<◌, ◌≤◌, List, length, drop, slice_set}
use Rattle.linked.specs.declared.node.Node.{Node}
use Rattle.linked.specs.Chains.{node_at, cells, total, unheld, with_top, Counted, Shallow, Ends, Free}

-- the counts of holders are right where R k lists have their top at k, no list is too deep, and all free nodes are linked from f on
pub record Sound (ns : List Node) (f p depth : ℕ) (R : ℕ → ℕ) : Type 0 where
  pub counted : Counted ns p R
  pub shallow : Shallow ns p depth
  pub free : Free ns p f (total (unheld ns) p)

-- a list that is whole, with the same cells, in two states of the nodes
abbrev pub Kept : List Node → List Node → ℕ → ℕ → ℕ → Type 0
Kept ns ms p t n = Ends ms p t n × (cells ms t n ≡ cells ns t n)

-- a list of n nodes from t down is one of those that the nodes hold, R k of the others having their top at k
pub record Holds (ns : List Node) (p depth f t n : ℕ) (R : ℕ → ℕ) : Type 0 where
  pub sound : Sound ns f p depth (with_top t R)
  pub ends : Ends ns p t n
  pub room : p ≤ length ns

-- the same, for some size, depth and other lists
pub record HoldsSomehow (ns : List Node) (f t n : ℕ) : Type 0 where
  pub size : ℕ
  pub depth : ℕ
  pub others : ℕ → ℕ
  pub holds : Holds ns size depth f t n others

-- the nodes went from ns to ms, g is the first free one, and Q k lists have their top at k: all is sound again, each list
-- with its top among those of K is as it was, and nothing past the first p nodes has changed
pub record Moved (ns ms : List Node) (p depth g : ℕ) (Q K : ℕ → ℕ) : Type 0 where
  pub sound : Sound ms g p depth Q
  pub kept : (t n : ℕ) → 0 < K t → Ends ns p t n → Kept ns ms p t n
  pub beyond : drop p ms ≡ drop p ns
  pub long : length ms ≡ length ns

-- a list was let go, whatever the others are: these are as they were
abbrev pub LetGo : List Node → List Node → ℕ → ℕ → ℕ → ℕ → Type 0
LetGo ns ms f g t n = (p depth : ℕ) (R : ℕ → ℕ) → Holds ns p depth f t n R → Moved ns ms p depth g R R

-- the top of a list was taken off, whatever the others are: these and the rest of the list are as they were
abbrev pub TopDropped : List Node → List Node → ℕ → ℕ → ℕ → ℕ → Type 0
TopDropped ns ms f g t n = (p depth : ℕ) (R : ℕ → ℕ) → Holds ns p depth f t n R → Moved ns ms p depth g (with_top (node_at ns t).link R) (with_top (node_at ns t).link R)

-- a node with another number of holders
abbrev pub recounted : Node → ℕ → Node
recounted n h = record { cell = n.cell; link = n.link; holders = h }

-- one holder more for the top of a list, if it has any node
abbrev pub shared : List Node → ℕ → ℕ → List Node
shared ns t zero = ns
shared ns t (suc n) = slice_set ns t (recounted (node_at ns t) ((node_at ns t).holders + 1))
