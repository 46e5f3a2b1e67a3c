-- The facts of a linked store, from its fields and back to them.
use Rattle.std.proofs.Common.{◌≡◌, ℕ, ◌+◌, ◌^◌, ◌<◌, ◌≤◌, true, List, ◌∷◌, length, vec_items, sym, subst, arith}
use Rattle.std.proofs.lemmas.Bool.{and_parts, and_from, leb-true, le-leb}
use Rattle.bottom.specs.declared.row.Row.{Row}
use Rattle.bottom.specs.declared.table.Table.{Table}
use Rattle.bottom.specs.Limits.{cells_needed}
use Rattle.bottom.specs.Rows.{places, every}
use Rattle.bottom.specs.Tables.{listed}
use Rattle.bottom.proofs.Rows.{every-from, every_to}
use Rattle.linked.specs.declared.linked.Linked.{Linked}
use Rattle.linked.specs.declared.node.Node.{Node}
use Rattle.linked.specs.Chains.{node_at, total, unheld, lists, row_fits, Counted, Shallow, all_free}
use Rattle.linked.specs.Meant.{size}
use Rattle.linked.proofs.Changes.{ends-from, ends_to, free-from, free_to}
use Rattle.linked.proofs.Facts.{Facts, Fits, list_at, free-within, room-left, needed_small, holders_small}
use Rattle.linked.proofs.Moving.{ends-within}

-- the nodes of a store
abbrev pub nodes_of : Linked → List Node
nodes_of s = vec_items s.pool.nodes

-- its lists
abbrev pub lists_of : Linked → List Row
lists_of s = lists s.current.top s.current.len s.table

-- a test that is passed
fit-from : (ns : List Node) (p depth : ℕ) (r : Row) → row_fits ns p depth r ≡ true → Fits ns p depth r
fit-from ns p depth r e = let b = and_parts _ _ e in (leb-true r.len depth b.0, ends-from ns p r.len r.at b.1)

-- and the other way round
fit_to : (ns : List Node) (p depth : ℕ) (r : Row) → Fits ns p depth r → row_fits ns p depth r ≡ true
fit_to ns p depth r f = and_from _ _ (le-leb r.len depth f.0) (ends_to ns p r.len r.at f.1)

-- the facts of a store
pub facts_of : (s : Linked) → Facts (nodes_of s) (size s) s.depth s.pool.free (lists_of s)
facts_of s =
    record {
      sound = record { counted = s.counted; shallow = s.shallow; free = free-from (nodes_of s) (size s) (total (unheld (nodes_of s)) (size s)) s.pool.free s.spare };
      fitting = every-from _ _ (fit-from (nodes_of s) (size s) s.depth) (lists_of s) s.fitting;
      room = s.room;
    }

-- what the fields of a store owe
abbrev pub Owed : List Node → Table → ℕ → ℕ → ℕ → ℕ → Type 0
Owed ns t depth f top len =
    record {
      room : cells_needed depth t.limit ≤ length ns;
      flat : depth ≤ 4096;
      counted : Counted ns (cells_needed depth t.limit) (places (lists top len t));
      shallow : Shallow ns (cells_needed depth t.limit) depth;
      spare : all_free ns (cells_needed depth t.limit) f ≡ true;
      fitting : every (row_fits ns (cells_needed depth t.limit) depth) (lists top len t) ≡ true;
    }

-- a table with these rows and this limit goes with the facts
pub owed : (ns : List Node) (t : Table) (depth f top len p : ℕ) (rs : List Row) → listed t ≡ rs → cells_needed depth t.limit ≡ p → depth ≤ 4096 → Facts ns p depth f (list_at top len ∷ rs) → Owed ns t depth f top len
owed ns t depth f top len p rs rows need flat F =
    let G : Facts ns (cells_needed depth t.limit) depth f (lists top len t) = subst (λ q. Facts ns q depth f (lists top len t)) (sym need) (subst (λ xs. Facts ns p depth f (list_at top len ∷ xs)) (sym rows) F) in
    record {
      room = G.room;
      flat = flat;
      counted = G.sound.counted;
      shallow = G.sound.shallow;
      spare = free_to ns _ (total (unheld ns) _) f G.sound.free;
      fitting = every_to _ _ (fit_to ns _ depth) (lists top len t) G.fitting;
    }

-- a node that is needed is there
pub in_nodes : (s : Linked) (k : ℕ) → k < size s → k < length (nodes_of s)
in_nodes s k l = let b = s.room in omega arith

-- the top of a list that is not empty is needed
pub top_in : (s : Linked) → 0 < s.current.len → s.current.top < size s
top_in s l = ends-within (nodes_of s) (size s) s.current.top s.current.len l (facts_of s).fitting.0.1

-- a push below the depth limit finds a free node
pub free_in : (s : Linked) → s.current.len < s.depth → s.pool.free < size s
free_in s l =
    free-within (nodes_of s) (size s) s.depth s.pool.free s.current.top s.current.len (listed s.table) (facts_of s) (room-left s.depth s.table.limit (length (listed s.table)) s.current.len s.table.some l)

-- a count of holders has room to grow, by far
pub holders_fit : (s : Linked) (k : ℕ) → k < size s → (node_at (nodes_of s) k).holders + 1 < 2 ^ 32
holders_fit s k l =
    let a = holders_small (nodes_of s) (size s) s.depth s.pool.free (lists_of s) (facts_of s) k l in
    let b = needed_small s.depth s.table.limit s.flat s.table.few in
    let c = s.table.few in let d = s.table.some in
    omega arith
