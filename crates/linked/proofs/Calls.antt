-- What each call of a linked store leaves: the facts that its fields owe, its meaning, and the memory past its need.
use Rattle.std.proofs.Common.{◌≡◌, ℕ, zero, suc, ◌+◌, ◌-◌, ◌^◌, ◌<◌, List, [], ◌∷◌, ◌++◌, length, drop, Some, Ok, Err, Result, sym, refl, ap, ◌∙◌, subst, arith}
use Rattle.std.specs.List.{AllByRecursion as All}
use Rattle.store.specs.declared.refusal.Refusal.{Refusal}
use Rattle.store.specs.declared.refusal.Refusal.TheVariants.{NotHeld}
use Rattle.std.specs.Option.{ok_or}
use Rattle.std.proofs.ByRecursion.{All-push}
use Rattle.std.proofs.lemmas.List.{drop-set-lt}
use Rattle.store.specs.Meaning.{pushed, popped, saved, restored, taken, released, with_current}
use Rattle.bottom.specs.declared.row.Row.{Row}
use Rattle.bottom.specs.declared.table.Table.{Table}
use Rattle.bottom.specs.Limits.{cells_needed}
use Rattle.bottom.specs.Meant.{by_rows}
use Rattle.bottom.specs.Rows.{bit, places, row_under, rows_without, added}
use Rattle.bottom.specs.Tables.{listed}
use Rattle.bottom.proofs.Answered.{not_held, restored_some, taken_some, released_some, saved-row}
use Rattle.bottom.proofs.Rows.{places_push, places-without, all_under, all_without, without_none, added_ok}
use Rattle.store.proofs.Popping.{popped_push}
use Rattle.bottom.proofs.Tops.{pushed_room}
use Rattle.cell.specs.declared.cell.Cell.{Cell}
use Rattle.linked.specs.declared.chain.Chain.{Chain}
use Rattle.linked.specs.declared.linked.Linked.{Linked}
use Rattle.linked.specs.declared.node.Node.{Node}
use Rattle.linked.specs.Chains.{node_at, cells, with_top, Ends}
use Rattle.linked.specs.Meant.{size, meant, read_row}
use Rattle.linked.specs.Moves.{Holds, HoldsSomehow, Moved, LetGo, TopDropped, shared}
use Rattle.linked.proofs.Facts.{Facts, Fits, Alike, list_at, length-cells, grown, push_facts, push_alike, push_cells, push_beyond, settled, settled_alike, alike_both, meant_alike, tops_rooted, share_facts, one_held}
use Rattle.linked.proofs.Moving.{moved_for, ends-within, ends-rest}
use Rattle.linked.proofs.Stores.{nodes_of, lists_of, facts_of, Owed, owed, in_nodes, free_in, holders_fit}

-- the memory past the need, where the limit is as it was
pub fixed_same : (s : Linked) (ms : List Node) (limit : ℕ) → limit ≡ s.table.limit → drop (size s) ms ≡ drop (size s) (nodes_of s)
    → ◌≡◌ {A = ℕ × List Node} (cells_needed s.depth limit, drop (cells_needed s.depth limit) ms) (size s, drop (size s) (nodes_of s))
fixed_same s ms limit e d = ap (λ m. (cells_needed s.depth m, drop (cells_needed s.depth m) ms)) e ∙ ap (λ xs. (size s, xs)) d

-- the list of a row
abbrev pub chain_of : Row → Chain
chain_of r = record { top = r.at; len = r.len }

-- a list that may be shared: its top is there, and has room for a holder more
sharable_row : (s : Linked) (r : Row) → Fits (nodes_of s) (size s) s.depth r → 0 < r.len → (r.at < length (nodes_of s)) × ((node_at (nodes_of s) r.at).holders + 1 < 2 ^ 32)
sharable_row s r fit l = let w = ends-within (nodes_of s) (size s) r.at r.len l fit.1 in (in_nodes s r.at w, holders_fit s r.at w)

-- told of the list
pub sharable : (s : Linked) (r : Row) → Fits (nodes_of s) (size s) s.depth r → (l : Chain) → l ≡ chain_of r → 0 < l.len → (l.top < length (nodes_of s)) × ((node_at (nodes_of s) l.top).holders + 1 < 2 ^ 32)
sharable s r fit l on = subst (λ (y : Chain). 0 < y.len → (y.top < length (nodes_of s)) × ((node_at (nodes_of s) y.top).holders + 1 < 2 ^ 32)) (sym on) (sharable_row s r fit)

-- sharing a list changes nothing past the need
pub shared-beyond : (s : Linked) (r : Row) → Fits (nodes_of s) (size s) s.depth r → (l : Chain) → l ≡ chain_of r → drop (size s) (shared (nodes_of s) l.top l.len) ≡ drop (size s) (nodes_of s)
shared-beyond s r fit l on = ap (λ (y : Chain). drop (size s) (shared (nodes_of s) y.top y.len)) on ∙ by r.len fit.1
  where
    by : (n : ℕ) → Ends (nodes_of s) (size s) r.at n → drop (size s) (shared (nodes_of s) r.at n) ≡ drop (size s) (nodes_of s)
    by zero e = refl
    by (suc n) e = drop-set-lt (size s) (nodes_of s) r.at _ e.0

-- the same lists in another table
pub owed_same : (s : Linked) (t : Table) → listed t ≡ listed s.table → t.limit ≡ s.table.limit → Owed (nodes_of s) t s.depth s.pool.free s.current.top s.current.len
owed_same s t rows limit = owed (nodes_of s) t s.depth s.pool.free s.current.top s.current.len (size s) (listed s.table) rows (ap (cells_needed s.depth) limit) s.flat (facts_of s)

-- and means the same
meant-same : (s : Linked) (rows : List Row) (limit : ℕ) → rows ≡ listed s.table → limit ≡ s.table.limit → by_rows (read_row (nodes_of s)) (cells (nodes_of s) s.current.top s.current.len) rows s.depth limit ≡ meant s
meant-same s rows limit e d = ap (λ rs. by_rows (read_row (nodes_of s)) (cells (nodes_of s) s.current.top s.current.len) rs s.depth limit) e ∙ ap (by_rows (read_row (nodes_of s)) (cells (nodes_of s) s.current.top s.current.len) (listed s.table) s.depth) d

-- a table that had no row of the name is as it was
module _ (s : Linked) (n : ℕ) (t : Table) (x : Refusal) (none : Err x ≡ ok_or (row_under (listed s.table) n) NotHeld) (rows : listed t ≡ rows_without (listed s.table) n) (limit : t.limit ≡ s.table.limit) where
  same_rows : listed t ≡ listed s.table
  same_rows = rows ∙ without_none (listed s.table) n (not_held (row_under (listed s.table) n) x none).0

  pub refused_owed : Owed (nodes_of s) t s.depth s.pool.free s.current.top s.current.len
  refused_owed = owed_same s t same_rows limit

  pub refused_means : by_rows (read_row (nodes_of s)) (cells (nodes_of s) s.current.top s.current.len) (listed t) s.depth t.limit ≡ meant s
  refused_means = meant-same s (listed t) t.limit same_rows limit

-- a cell is pushed on the current list
module _ (s : Linked) (short : s.current.len < s.depth) (c : Cell) where
  abbrev pub grown_nodes : List Node
  grown_nodes = grown (nodes_of s) (size s) s.depth s.pool.free s.current.top s.current.len (listed s.table) (facts_of s) (free_in s short) short c

  module _ (ms : List Node) (g : ℕ) (l : Chain) (is : ms ≡ grown_nodes) (to : g ≡ (node_at (nodes_of s) s.pool.free).link) (on : l ≡ record { top = s.pool.free; len = s.current.len + 1 }) where
    -- what the fields owe then
    pub push_owed : Owed ms s.table s.depth g l.top l.len
    push_owed =
        subst (λ (y : Chain). Owed ms s.table s.depth g y.top y.len) (sym on)
        (subst (λ ns. Owed ns s.table s.depth g s.pool.free (s.current.len + 1)) (sym is)
        (owed _ s.table s.depth g s.pool.free (s.current.len + 1) (size s) (listed s.table) refl refl s.flat
        (push_facts (nodes_of s) (size s) s.depth s.pool.free s.current.top s.current.len (listed s.table) (facts_of s) (free_in s short) short c g to)))

    -- so the store means what a push makes of it
    pub push_means : (Ok tt, by_rows (read_row ms) (cells ms l.top l.len) (listed s.table) s.depth s.table.limit) ≡ pushed (meant s) c
    push_means =
        let n = length-cells (nodes_of s) s.current.len s.current.top in
        let alike = push_alike (nodes_of s) (size s) s.depth s.pool.free s.current.top s.current.len (listed s.table) (facts_of s) (free_in s short) short c in
        ap (λ (y : Chain). (Ok tt, by_rows (read_row ms) (cells ms y.top y.len) (listed s.table) s.depth s.table.limit)) on
        ∙ ap (λ ns. (Ok tt, by_rows (read_row ns) (cells ns s.pool.free (s.current.len + 1)) (listed s.table) s.depth s.table.limit)) is
        ∙ ap (λ m. (Ok tt, m))
        (ap (λ cs. by_rows (read_row grown_nodes) cs (listed s.table) s.depth s.table.limit) (push_cells (nodes_of s) (size s) s.depth s.pool.free s.current.top s.current.len (listed s.table) (facts_of s) (free_in s short) short c)
        ∙ ap (λ m. with_current m (cells (nodes_of s) s.current.top s.current.len ++ (c ∷ []))) (meant_alike (nodes_of s) grown_nodes (list_at s.current.top s.current.len) (listed s.table) (listed s.table) s.depth s.table.limit s.table.limit alike refl refl))
        ∙ sym (pushed_room (meant s) c (omega arith))

    -- nothing past the need has changed
    pub push-beyond : drop (size s) ms ≡ drop (size s) (nodes_of s)
    push-beyond = ap (drop (size s)) is ∙ push_beyond (nodes_of s) (size s) s.depth s.pool.free s.current.top s.current.len (listed s.table) (facts_of s) (free_in s short) short c

-- the top of the current list is taken off
module _ (s : Linked) (some : 0 < s.current.len) where
  -- the current list is one of the lists
  pub pop_holds : Holds (nodes_of s) (size s) s.depth s.pool.free s.current.top s.current.len (places (listed s.table))
  pop_holds = one_held (nodes_of s) (size s) s.depth s.pool.free (lists_of s) (facts_of s) (list_at s.current.top s.current.len) (facts_of s).fitting.0 (listed s.table) (λ k. refl)

  -- as a call wants to know it
  pub pop_somehow : HoldsSomehow (nodes_of s) s.pool.free s.current.top s.current.len
  pop_somehow = record { size = size s; depth = s.depth; others = places (listed s.table); holds = pop_holds }

  -- below its top is a list
  rest-fit : Fits (nodes_of s) (size s) s.depth (list_at (node_at (nodes_of s) s.current.top).link (s.current.len - 1))
  rest-fit = let f = (facts_of s).fitting.0 in let l = f.0 in (omega arith, ends-rest (nodes_of s) (size s) s.current.top s.current.len some f.1)

  -- whose top has room for a holder more
  pub pop_small : 1 < s.current.len → (node_at (nodes_of s) (node_at (nodes_of s) s.current.top).link).holders + 1 < 2 ^ 32
  pop_small l = holders_fit s _ (ends-within (nodes_of s) (size s) _ (s.current.len - 1) (omega arith) rest-fit.1)

  module _ (ms : List Node) (g : ℕ) (r : Node) (is : r ≡ node_at (nodes_of s) s.current.top) (all : TopDropped (nodes_of s) ms s.pool.free g s.current.top s.current.len) where
    -- the next top
    abbrev link : ℕ
    link = (node_at (nodes_of s) s.current.top).link

    abbrev left : List Row
    left = list_at link (s.current.len - 1) ∷ listed s.table

    -- the lists then
    popped_moved : Moved (nodes_of s) ms (size s) s.depth g (places left) (places left)
    popped_moved = moved_for (nodes_of s) ms (size s) s.depth g (with_top link (places (listed s.table))) _ (with_top link (places (listed s.table))) _ (λ k l. refl) (λ k l. l) (all (size s) s.depth (places (listed s.table)) pop_holds)

    -- what the fields owe then
    pub pop_owed : Owed ms s.table s.depth g r.link (s.current.len - 1)
    pop_owed =
        subst (λ (y : Node). Owed ms s.table s.depth g y.link (s.current.len - 1)) (sym is)
        (owed ms s.table s.depth g link (s.current.len - 1) (size s) (listed s.table) refl refl s.flat
        (settled (nodes_of s) ms (size s) s.depth s.pool.free g (lists_of s) left (facts_of s) popped_moved (rest-fit, (facts_of s).fitting.1)))

    -- so the store means what a pop makes of it
    pub pop_means : (Ok r.cell, by_rows (read_row ms) (cells ms r.link (s.current.len - 1)) (listed s.table) s.depth s.table.limit) ≡ popped (meant s)
    pop_means =
        subst (λ (y : Node). (Ok y.cell, by_rows (read_row ms) (cells ms y.link (s.current.len - 1)) (listed s.table) s.depth s.table.limit) ≡ popped (meant s)) (sym is)
        (ap (λ m. (Ok (node_at (nodes_of s) s.current.top).cell, m))
        (meant_alike (nodes_of s) ms (list_at link (s.current.len - 1)) (listed s.table) (listed s.table) s.depth s.table.limit s.table.limit
        (settled_alike (nodes_of s) ms (size s) s.depth s.pool.free g (lists_of s) left (facts_of s) popped_moved (rest-fit, (facts_of s).fitting.1)) refl refl)
        ∙ sym (popped_push (meant s) (cells (nodes_of s) link (s.current.len - 1)) (node_at (nodes_of s) s.current.top).cell (ap (cells (nodes_of s) s.current.top) (let q : s.current.len ≡ suc (s.current.len - 1) = omega arith in q))))

    -- nothing past the need has changed
    pub pop_beyond : drop (size s) ms ≡ drop (size s) (nodes_of s)
    pop_beyond = popped_moved.beyond

-- a save that the table refuses
pub save_refused : (s : Linked) (t : Table) (n : ℕ) (a : Result (Unit {0}) Refusal) (x : Refusal) → a ≡ Err x
    → (Err x, listed t) ≡ added s.table.limit (listed s.table) (record { name = record { 0 = n }; at = s.current.top; len = s.current.len }) → t.limit ≡ s.table.limit
    → (a, by_rows (read_row (nodes_of s)) (cells (nodes_of s) s.current.top s.current.len) (listed t) s.depth t.limit) ≡ saved (meant s) n
save_refused s t n a x is answer limit =
    ap (λ b. (b, by_rows (read_row (nodes_of s)) (cells (nodes_of s) s.current.top s.current.len) (listed t) s.depth t.limit)) is
    ∙ ap (λ m. (Err x, by_rows (read_row (nodes_of s)) (cells (nodes_of s) s.current.top s.current.len) (listed t) s.depth m)) limit
    ∙ saved-row (read_row (nodes_of s)) (cells (nodes_of s) s.current.top s.current.len) (listed s.table) s.depth s.table.limit (record { name = record { 0 = n }; at = s.current.top; len = s.current.len }) (Err x) (listed t) refl answer

-- the current list is saved in a new row
module _ (s : Linked) (t : Table) (n : ℕ) (vs : List Node) (f : ℕ) (sh : vs ≡ shared (nodes_of s) s.current.top s.current.len) (fr : f ≡ s.pool.free) where
  -- the new row
  abbrev new_row : Row
  new_row = record { name = record { 0 = n }; at = s.current.top; len = s.current.len }

  module _ (answer : (Ok tt, listed t) ≡ added s.table.limit (listed s.table) new_row) (limit : t.limit ≡ s.table.limit) where
    abbrev kept : List Row
    kept = lists_of s

    abbrev all : List Row
    all = list_at s.current.top s.current.len ∷ (listed s.table ++ (new_row ∷ []))

    -- the facts then
    after : Facts (shared (nodes_of s) s.current.top s.current.len) (size s) s.depth s.pool.free all × All (Alike (nodes_of s) (shared (nodes_of s) s.current.top s.current.len)) all
    after =
        let f = (facts_of s).fitting in
        share_facts (nodes_of s) (size s) s.depth s.pool.free (lists_of s) (facts_of s) (list_at s.current.top s.current.len) f.0 (tops_rooted (nodes_of s) (size s) s.depth s.pool.free (lists_of s) (facts_of s)).0 all
        (λ k. (let e = places_push (listed s.table) new_row k in let g : bit s.current.top k + places (listed s.table ++ (new_row ∷ [])) k ≡ bit s.current.top k + (bit s.current.top k + places (listed s.table) k) = omega arith in g))
        (f.0, All-push _ (listed s.table) new_row f.1 f.0)

    -- the rows then
    rows : listed t ≡ listed s.table ++ (new_row ∷ [])
    rows = (added_ok s.table.limit (listed s.table) (listed t) new_row answer).0

    -- what the fields owe then
    pub save_owed : Owed vs t s.depth f s.current.top s.current.len
    save_owed = subst (λ ms. Owed ms t s.depth f s.current.top s.current.len) (sym sh) (subst (λ g. Owed (shared (nodes_of s) s.current.top s.current.len) t s.depth g s.current.top s.current.len) (sym fr) (owed _ t s.depth s.pool.free s.current.top s.current.len (size s) _ rows (ap (cells_needed s.depth) limit) s.flat after.0))

    -- so the store means what a save makes of it
    pub save_means : (Ok tt, by_rows (read_row vs) (cells vs s.current.top s.current.len) (listed t) s.depth t.limit) ≡ saved (meant s) n
    save_means =
        ap (λ ms. (Ok tt, by_rows (read_row ms) (cells ms s.current.top s.current.len) (listed t) s.depth t.limit)) sh
        ∙ ap (λ m. (Ok tt, m)) (meant_alike (nodes_of s) _ (list_at s.current.top s.current.len) _ (listed t) s.depth s.table.limit t.limit after.1 rows limit)
        ∙ saved-row (read_row (nodes_of s)) (cells (nodes_of s) s.current.top s.current.len) (listed s.table) s.depth s.table.limit new_row (Ok tt) _ refl (ap (λ rs. (Ok tt, rs)) (sym rows) ∙ answer)

-- a row has the name, and its list is l
module _ (s : Linked) (n : ℕ) (r : Row) (found : row_under (listed s.table) n ≡ Some r) where
  -- its list
  abbrev here : Row
  here = list_at r.at r.len

  -- the other rows
  abbrev others : List Row
  others = rows_without (listed s.table) n

  -- its list is whole
  pub row-fit : Fits (nodes_of s) (size s) s.depth r
  row-fit = all_under _ (listed s.table) n r found (facts_of s).fitting.1

  -- and so are the others
  others-fit : All (Fits (nodes_of s) (size s) s.depth) others
  others-fit = all_without _ (listed s.table) n (facts_of s).fitting.1

  -- its list becomes current, and stays saved
  module _ (l : Chain) (on : l ≡ chain_of r) (vs : List Node) (f : ℕ) (sh : vs ≡ shared (nodes_of s) l.top l.len) (fr : f ≡ s.pool.free) where
    -- all lists, its own once more
    abbrev three : List Row
    three = here ∷ lists_of s

    -- its top is held once more
    both : Facts vs (size s) s.depth f three × All (Alike (nodes_of s) vs) three
    both =
        subst (λ g. Facts vs (size s) s.depth g three × All (Alike (nodes_of s) vs) three) (sym fr)
        (subst (λ ms. Facts ms (size s) s.depth s.pool.free three × All (Alike (nodes_of s) ms) three) (sym (sh ∙ ap (λ (y : Chain). shared (nodes_of s) y.top y.len) on))
        (share_facts (nodes_of s) (size s) s.depth s.pool.free (lists_of s) (facts_of s) here row-fit
        (all_under _ (listed s.table) n r found (tops_rooted (nodes_of s) (size s) s.depth s.pool.free (lists_of s) (facts_of s)).1) three (λ k. refl) (row-fit, (facts_of s).fitting)))

    -- the former current list is one of the lists
    pub restore_holds : Holds vs (size s) s.depth f s.current.top s.current.len (places (here ∷ listed s.table))
    restore_holds =
        one_held vs (size s) s.depth f three both.0 (list_at s.current.top s.current.len) both.0.fitting.1.0 (here ∷ listed s.table)
        (λ k. (let g : bit r.at k + (bit s.current.top k + places (listed s.table) k) ≡ bit s.current.top k + (bit r.at k + places (listed s.table) k) = omega arith in g))

    -- as a call wants to know it
    pub restore_somehow : HoldsSomehow vs f s.current.top s.current.len
    restore_somehow = record { size = size s; depth = s.depth; others = places (here ∷ listed s.table); holds = restore_holds }

    module _ (ms : List Node) (g : ℕ) (all : LetGo vs ms f g s.current.top s.current.len) where
      -- the lists that stay are whole
      two_fit : All (Fits vs (size s) s.depth) (here ∷ listed s.table)
      two_fit = (both.0.fitting.0, both.0.fitting.1.1)

      -- and lie in the nodes then
      restored_moved : Moved vs ms (size s) s.depth g (places (here ∷ listed s.table)) (places (here ∷ listed s.table))
      restored_moved = all (size s) s.depth (places (here ∷ listed s.table)) restore_holds

      -- what the fields owe then
      pub restore_owed : Owed ms s.table s.depth g l.top l.len
      restore_owed = subst (λ (y : Chain). Owed ms s.table s.depth g y.top y.len) (sym on) (owed ms s.table s.depth g r.at r.len (size s) (listed s.table) refl refl s.flat (settled vs ms (size s) s.depth f g three (here ∷ listed s.table) both.0 restored_moved two_fit))

      -- so the store means what a restore makes of it
      pub restore_means : (Ok tt, by_rows (read_row ms) (cells ms l.top l.len) (listed s.table) s.depth s.table.limit) ≡ restored (meant s) n
      restore_means =
          ap (λ (y : Chain). (Ok tt, by_rows (read_row ms) (cells ms y.top y.len) (listed s.table) s.depth s.table.limit)) on
          ∙ ap (λ m. (Ok tt, m))
          (meant_alike (nodes_of s) ms here (listed s.table) (listed s.table) s.depth s.table.limit s.table.limit
          (alike_both (nodes_of s) vs ms (here ∷ listed s.table) (both.1.0, both.1.1.1) (settled_alike vs ms (size s) s.depth f g three (here ∷ listed s.table) both.0 restored_moved two_fit)) refl refl)
          ∙ restored_some (read_row (nodes_of s)) (cells (nodes_of s) s.current.top s.current.len) (listed s.table) s.depth s.table.limit n r found

      -- nothing past the need has changed
      pub restore_beyond : drop (size s) vs ≡ drop (size s) (nodes_of s) → drop (size s) ms ≡ drop (size s) (nodes_of s)
      restore_beyond e = restored_moved.beyond ∙ e

  -- the row is gone from the table
  module _ (t : Table) (rows : listed t ≡ others) (limit : t.limit ≡ s.table.limit) where
    -- its list becomes current
    pub take-holds : Holds (nodes_of s) (size s) s.depth s.pool.free s.current.top s.current.len (places (here ∷ others))
    take-holds =
        one_held (nodes_of s) (size s) s.depth s.pool.free (lists_of s) (facts_of s) (list_at s.current.top s.current.len) (facts_of s).fitting.0 (here ∷ others)
        (λ k. ap (λ m. bit s.current.top k + m) (places-without (listed s.table) n r k found))

    -- as a call wants to know it
    pub take_somehow : HoldsSomehow (nodes_of s) s.pool.free s.current.top s.current.len
    take_somehow = record { size = size s; depth = s.depth; others = places (here ∷ others); holds = take-holds }

    module _ (ms : List Node) (g : ℕ) (all : LetGo (nodes_of s) ms s.pool.free g s.current.top s.current.len) where
      -- the lists then
      taken_moved : Moved (nodes_of s) ms (size s) s.depth g (places (here ∷ others)) (places (here ∷ others))
      taken_moved = all (size s) s.depth (places (here ∷ others)) take-holds

      -- what the fields owe then
      pub take_owed : (l : Chain) → l ≡ chain_of r → Owed ms t s.depth g l.top l.len
      take_owed l on = subst (λ (y : Chain). Owed ms t s.depth g y.top y.len) (sym on) (owed ms t s.depth g r.at r.len (size s) others rows (ap (cells_needed s.depth) limit) s.flat (settled (nodes_of s) ms (size s) s.depth s.pool.free g (lists_of s) (here ∷ others) (facts_of s) taken_moved (row-fit, others-fit)))

      -- so the store means what a take makes of it
      pub take_means : (l : Chain) → l ≡ chain_of r → (Ok tt, by_rows (read_row ms) (cells ms l.top l.len) (listed t) s.depth t.limit) ≡ taken (meant s) n
      take_means l on =
          ap (λ (y : Chain). (Ok tt, by_rows (read_row ms) (cells ms y.top y.len) (listed t) s.depth t.limit)) on
          ∙ ap (λ m. (Ok tt, m)) (meant_alike (nodes_of s) ms here others (listed t) s.depth s.table.limit t.limit
          (settled_alike (nodes_of s) ms (size s) s.depth s.pool.free g (lists_of s) (here ∷ others) (facts_of s) taken_moved (row-fit, others-fit)) rows limit)
          ∙ taken_some (read_row (nodes_of s)) (cells (nodes_of s) s.current.top s.current.len) (listed s.table) s.depth s.table.limit n r found

      -- nothing past the need has changed
      pub take_beyond : drop (size s) ms ≡ drop (size s) (nodes_of s)
      take_beyond = taken_moved.beyond

    -- its list is let go
    abbrev stay : List Row
    stay = list_at s.current.top s.current.len ∷ others

    -- the former list is one of the lists
    pub release-holds : Holds (nodes_of s) (size s) s.depth s.pool.free r.at r.len (places stay)
    release-holds =
        one_held (nodes_of s) (size s) s.depth s.pool.free (lists_of s) (facts_of s) here row-fit stay
        (λ k. (let e = places-without (listed s.table) n r k found in let g : bit s.current.top k + places (listed s.table) k ≡ bit r.at k + (bit s.current.top k + places others k) = omega arith in g))

    -- as a call wants to know it
    pub release_somehow : (l : Chain) → l ≡ chain_of r → HoldsSomehow (nodes_of s) s.pool.free l.top l.len
    release_somehow l on = subst (λ (y : Chain). HoldsSomehow (nodes_of s) s.pool.free y.top y.len) (sym on) (record { size = size s; depth = s.depth; others = places stay; holds = release-holds })

    module _ (l : Chain) (on : l ≡ chain_of r) (ms : List Node) (g : ℕ) (all : LetGo (nodes_of s) ms s.pool.free g l.top l.len) where
      -- the lists then
      released_moved : Moved (nodes_of s) ms (size s) s.depth g (places stay) (places stay)
      released_moved = subst (λ (y : Chain). LetGo (nodes_of s) ms s.pool.free g y.top y.len) on all (size s) s.depth (places stay) release-holds

      -- what the fields owe then
      pub release_owed : Owed ms t s.depth g s.current.top s.current.len
      release_owed = owed ms t s.depth g s.current.top s.current.len (size s) others rows (ap (cells_needed s.depth) limit) s.flat (settled (nodes_of s) ms (size s) s.depth s.pool.free g (lists_of s) stay (facts_of s) released_moved ((facts_of s).fitting.0, others-fit))

      -- so the store means what a release makes of it
      pub release_means : (Ok tt, by_rows (read_row ms) (cells ms s.current.top s.current.len) (listed t) s.depth t.limit) ≡ released (meant s) n
      release_means =
          ap (λ m. (Ok tt, m)) (meant_alike (nodes_of s) ms (list_at s.current.top s.current.len) others (listed t) s.depth s.table.limit t.limit
          (settled_alike (nodes_of s) ms (size s) s.depth s.pool.free g (lists_of s) stay (facts_of s) released_moved ((facts_of s).fitting.0, others-fit)) rows limit)
          ∙ released_some (read_row (nodes_of s)) (cells (nodes_of s) s.current.top s.current.len) (listed s.table) s.depth s.table.limit n r found

      -- nothing past the need has changed
      pub release-beyond : drop (size s) ms ≡ drop (size s) (nodes_of s)
      release-beyond = released_moved.beyond
