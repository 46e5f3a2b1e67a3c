-- How lists of cells lie in nodes that are linked from the top down. The first p nodes are in use; a link to p or past it
-- is the end of a list.
use Rattle.std.specs.Prelude.{◌≡◌, ℕ, zero, suc, ◌+◌, ◌<◌, ◌≤◌, Bool, ◌&&◌, List, [], ◌∷◌, ◌++◌, ◌==◌, nat_le, nat_lt, slice_index_or}
use Rattle.cell.specs.declared.cell.Cell.{Cell}
use Rattle.bottom.specs.declared.row.Row.{Row}
use Rattle.bottom.specs.declared.table.Table.{Table}
use Rattle.bottom.specs.Rows.{bit}
use Rattle.bottom.specs.Tables.{listed}
use Rattle.linked.specs.declared.node.Node.{Node}

-- the node that stands for one past the memory
abbrev pub no_node : Node
no_node = record { cell = record { words = [] }; link = 0; holders = 0 }

-- the node at an index
abbrev pub node_at : List Node → ℕ → Node
node_at ns i = slice_index_or ns i no_node

-- the list of n cells whose top is node t, the bottom cell first
abbrev pub cells : List Node → ℕ → ℕ → List Cell
cells ns t zero = []
cells ns t (suc n) = cells ns (node_at ns t).link n ++ ((node_at ns t).cell ∷ [])

-- all lists of a store, each with its top and its length: the current one, which has no name, and the saved ones
abbrev pub lists : ℕ → ℕ → Table → List Row
lists top len table = record { name = record { 0 = 0 }; at = top; len = len } ∷ listed table

-- the sum of the first p values
abbrev pub total : (ℕ → ℕ) → ℕ → ℕ
total g zero = 0
total g (suc p) = total g p + g p

-- what a node with h holders adds: b if it has any, else nothing
abbrev pub if_held : ℕ → ℕ → ℕ
if_held zero b = 0
if_held (suc h) b = b

-- what a node with h holders adds to the free ones
abbrev pub if_free : ℕ → ℕ
if_free zero = 1
if_free (suc h) = 0

-- 1 if node i has a holder and leads to node k
abbrev pub leads : List Node → ℕ → ℕ → ℕ
leads ns k i = if_held (node_at ns i).holders (bit (node_at ns i).link k)

-- 1 if node i has no holder
abbrev pub unheld : List Node → ℕ → ℕ
unheld ns i = if_free (node_at ns i).holders

-- one list more with its top at t
abbrev pub with_top : ℕ → (ℕ → ℕ) → ℕ → ℕ
with_top t R k = bit t k + R k

-- a node's holders are the lists that it is the top of, of which R k have their top at k, and the held nodes that lead to it
abbrev pub Counted : List Node → ℕ → (ℕ → ℕ) → Type 0
Counted ns p R = (k : ℕ) → k < p → (node_at ns k).holders ≡ R k + total (leads ns k) p

-- from t down, m links stay within the nodes
abbrev pub Deep : List Node → ℕ → ℕ → ℕ → Type 0
Deep ns p zero t = t < p
Deep ns p (suc m) t = (t < p) × Deep ns p m (node_at ns t).link

-- no held node is higher than the depth limit
abbrev pub Shallow : List Node → ℕ → ℕ → Type 0
Shallow ns p depth = (i : ℕ) → i < p → 0 < (node_at ns i).holders → Deep ns p depth i → ⊥

-- n nodes from t down, and then the end
abbrev pub Ends : List Node → ℕ → ℕ → ℕ → Type 0
Ends ns p t zero = p ≤ t
Ends ns p t (suc n) = (t < p) × Ends ns p (node_at ns t).link n

-- the same as a test
abbrev pub ends : List Node → ℕ → ℕ → ℕ → Bool
ends ns p t zero = nat_le p t
ends ns p t (suc n) = nat_lt t p && ends ns p (node_at ns t).link n

-- a list that is whole, and no longer than the depth limit
abbrev pub row_fits : List Node → ℕ → ℕ → Row → Bool
row_fits ns p depth r = nat_le r.len depth && ends ns p r.at r.len

-- n free nodes, linked from f on
abbrev pub Free : List Node → ℕ → ℕ → ℕ → Type 0
Free ns p f zero = p ≤ f
Free ns p f (suc n) = (f < p) × ((node_at ns f).holders ≡ 0) × Free ns p (node_at ns f).link n

-- the same as a test
abbrev pub frees : List Node → ℕ → ℕ → ℕ → Bool
frees ns p f zero = nat_le p f
frees ns p f (suc n) = nat_lt f p && ((node_at ns f).holders == 0 && frees ns p (node_at ns f).link n)

-- all nodes without a holder are linked from f on
abbrev pub all_free : List Node → ℕ → ℕ → Bool
all_free ns p f = frees ns p f (total (unheld ns) p)
