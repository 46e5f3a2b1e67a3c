-- The facts of the lists in some nodes, taken together, and what the calls of a store do to them.
use Rattle.std.proofs.Common.{◌≡◌, ℕ, zero, suc, ◌+◌, ◌*◌, ◌<◌, ◌≤◌, List, [], ◌∷◌, ◌++◌, length, drop, set, Some, sym, refl, ap, ◌∙◌, subst, mul-le-mul_right, mul_comm, mul-le-mul, mul-one, mul-add, arith, length-set}
use Rattle.std.specs.List.{slice_get, AllByRecursion as All}
use Rattle.std.proofs.ByRecursion.{All-weaker}
use Rattle.std.proofs.lemmas.List.{drop-set-lt, length_push}
use Rattle.cell.specs.declared.cell.Cell.{Cell}
use Rattle.bottom.specs.declared.row.Row.{Row}
use Rattle.bottom.specs.Limits.{cells_needed}
use Rattle.bottom.specs.Meant.{by_rows}
use Rattle.bottom.proofs.Answered.{alike}
use Rattle.bottom.specs.Rows.{bit, places}
use Rattle.bottom.proofs.Rows.{bit_other, places_own, places_le, all_both}
use Rattle.bottom.proofs.Tops.{nth_left, nth_right}
use Rattle.linked.specs.declared.node.Node.{Node}
use Rattle.linked.specs.Chains.{node_at, cells, total, leads, unheld, with_top, Ends, Free}
use Rattle.linked.specs.Meant.{read_row}
use Rattle.linked.specs.Moves.{Sound, Holds, Moved, shared}
use Rattle.linked.proofs.Totals.{held-zero, held_le, free-zero, total-zero, total_ones, total-small, total_plus}
use Rattle.linked.proofs.Changes.{Put, put_set, Rooted, rooted, taken-up, used-ends, used-cells, some_free}
use Rattle.linked.proofs.Meeting.{met, met_all, met-total, all-top, all_down, all-total}
use Rattle.linked.proofs.Moving.{sound-same, moved_for, share_moved}

-- a list by its top and its length
abbrev pub list_at : ℕ → ℕ → Row
list_at at len = record { name = record { 0 = 0 }; at = at; len = len }

-- a list that is whole, and no longer than the depth limit
abbrev pub Fits : List Node → ℕ → ℕ → Row → Type 0
Fits ns p depth r = (r.len ≤ depth) × Ends ns p r.at r.len

-- a list with the same cells in two states of the nodes
abbrev pub Alike : List Node → List Node → Row → Type 0
Alike ns ms r = read_row ms r ≡ read_row ns r

-- the lists of some rows, and no others, lie in the nodes
pub record Facts (ns : List Node) (p depth f : ℕ) (ls : List Row) : Type 0 where
  pub sound : Sound ns f p depth (places ls)
  pub fitting : All (Fits ns p depth) ls
  pub room : p ≤ length ns

-- a list has so many cells as nodes
pub length-cells : (ns : List Node) (n t : ℕ) → length (cells ns t n) ≡ n
length-cells ns zero t = refl
length-cells ns (suc n) t = length_push (cells ns (node_at ns t).link n) (node_at ns t).cell ∙ (let e = length-cells ns n (node_at ns t).link in omega arith)

-- the cell at an index of a list: that of its top, or one of those below
pub cell_down : (ns : List Node) (t n index : ℕ) → index < n → slice_get (cells ns t (suc n)) index ≡ slice_get (cells ns (node_at ns t).link n) index
cell_down ns t n index l = nth_left (cells ns (node_at ns t).link n) _ index (let e = length-cells ns n (node_at ns t).link in omega arith)

-- the top cell is the last
pub cell_top : (ns : List Node) (t index : ℕ) → slice_get (cells ns t (suc index)) index ≡ Some (node_at ns t).cell
cell_top ns t index = nth_right (cells ns (node_at ns t).link index) ((node_at ns t).cell ∷ []) index 0 (let e = length-cells ns index (node_at ns t).link in omega arith)

-- lists that a change kept
module _ (ns ms : List Node) (p depth g : ℕ) (Q K : ℕ → ℕ) (m : Moved ns ms p depth g Q K) (ls : List Row) (tops : All (λ r. 0 < K r.at) ls) (fitting : All (Fits ns p depth) ls) where
  -- they are whole
  pub still_fit : All (Fits ms p depth) ls
  still_fit = all_both _ _ _ (λ r k f. (f.0, (m.kept r.at r.len k f.1).0)) ls tops fitting

  -- and have the same cells
  pub still_alike : All (Alike ns ms) ls
  still_alike = all_both _ _ _ (λ r k f. (m.kept r.at r.len k f.1).1) ls tops fitting

-- a change after which the lists are those of some rows
module _ (ns ms : List Node) (p depth f g : ℕ) (ks ls : List Row) (F : Facts ns p depth f ks) (m : Moved ns ms p depth g (places ls) (places ls)) (fitting : All (Fits ns p depth) ls) where
  -- the facts then
  pub settled : Facts ms p depth g ls
  settled = record { sound = m.sound; fitting = still_fit ns ms p depth g _ _ m ls (places_own ls) fitting; room = let a = m.long in let b = F.room in omega arith }

  -- and each of these lists is as it was
  pub settled_alike : All (Alike ns ms) ls
  settled_alike = still_alike ns ms p depth g _ _ m ls (places_own ls) fitting

-- two changes of the nodes, one after the other
pub alike_both : (ns ms ks : List Node) (ls : List Row) → All (Alike ns ms) ls → All (Alike ms ks) ls → All (Alike ns ks) ls
alike_both ns ms ks ls = all_both _ _ _ (λ r a b. b ∙ a) ls

-- lists that are alike mean the same
pub meant_alike : (ns ms : List Node) (r : Row) (rs ws : List Row) (depth limit m : ℕ) → All (Alike ns ms) (r ∷ rs) → ws ≡ rs → m ≡ limit
    → by_rows (read_row ms) (read_row ms r) ws depth m ≡ by_rows (read_row ns) (read_row ns r) rs depth limit
meant_alike ns ms r rs ws depth limit m same e d = alike (read_row ns) (read_row ms) (read_row ns r) (read_row ms r) rs ws depth limit m same.0 same.1 e d

module _ (ns : List Node) (p depth f : ℕ) (ls : List Row) (F : Facts ns p depth f ls) where
  -- the lists that lie in the nodes have held tops
  pub tops_rooted : All (λ r. Rooted ns p r.at) ls
  tops_rooted = All-weaker _ _ (λ r h. rooted ns p (places ls) F.sound.counted r.at h) ls (places_own ls)

  -- no node has more holders than there are lists and nodes
  pub holders_small : (k : ℕ) → k < p → (node_at ns k).holders ≤ length ls + p
  holders_small k l =
      let e = F.sound.counted k l in
      let a = places_le ls k in
      let c = total-small (leads ns k) p (λ i m. held_le (node_at ns i).holders (node_at ns i).link k) in
      omega arith

  -- one of these lists has a top more
  pub share_facts : (r : Row) → Fits ns p depth r → Rooted ns p r.at → (ks : List Row) → ((k : ℕ) → places ks k ≡ with_top r.at (places ls) k) → All (Fits ns p depth) ks
      → Facts (shared ns r.at r.len) p depth f ks × All (Alike ns (shared ns r.at r.len)) ks
  share_facts r fit root ks count fitting =
      let m = moved_for ns _ p depth f (with_top r.at (places ls)) (places ks) (places ks) (places ks) (λ k l. count k) (λ k l. l) (share_moved ns f p depth (places ls) F.sound F.room r.len r.at fit.1 root (places ks)) in
      (settled ns _ p depth f f ls ks F m fitting, settled_alike ns _ p depth f f ls ks F m fitting)

  -- one of these lists, and the others
  pub one_held : (r : Row) → Fits ns p depth r → (ks : List Row) → ((k : ℕ) → places ls k ≡ with_top r.at (places ks) k) → Holds ns p depth f r.at r.len (places ks)
  one_held r fit ks count = record { sound = sound-same ns f p depth (places ls) (with_top r.at (places ks)) F.sound (λ k l. sym (count k)); ends = fit.1; room = F.room }

-- a push finds a free node
pub room-left : (depth limit held len : ℕ) → held ≤ limit → len < depth → len + held * depth < cells_needed depth limit
room-left depth limit held len h l =
    let a : held * depth ≤ limit * depth = mul-le-mul_right depth h in
    let b : depth * (limit + 1) ≡ depth * limit + depth * 1 = mul-add depth limit 1 in
    let c : depth * limit ≡ limit * depth = mul_comm depth limit in
    let d : depth * 1 ≡ depth = mul-one depth in
    omega arith

-- a store is small
pub needed_small : (depth limit : ℕ) → depth ≤ 4096 → limit ≤ 64 → cells_needed depth limit ≤ 266240
needed_small depth limit a b = let q : limit + 1 ≤ 65 = omega arith in let e : depth * (limit + 1) ≤ 4096 * 65 = mul-le-mul a q in omega arith

module _ (ns : List Node) (p depth f t len : ℕ) (rs : List Row) (F : Facts ns p depth f (list_at t len ∷ rs)) where
  -- the first free node is one
  pub free-within : len + length rs * depth < p → f < p
  free-within few =
      let ls : List Row = list_at t len ∷ rs in
      let whole : All (λ r. Ends ns p r.at r.len) ls = All-weaker _ _ (λ r h. h.1) ls F.fitting in
      some_free ns f p depth (places ls) (met_all ns ls) F.sound (λ k l h. all-top ns p ls whole k l h) (λ i l h m. all_down ns p ls whole i h m)
      (let a = met-total ns p len t in
      let b = all-total ns p depth rs (All-weaker _ _ (λ r h. h.0) rs F.fitting.1) in
      let c : total (met_all ns ls) p ≡ total (met ns t len) p + total (met_all ns rs) p = total_plus (met ns t len) (met_all ns rs) p in
      omega arith)

  -- the first free node becomes the top of the first list
  module _ (within : f < p) (short : len < depth) (c : Cell) where
    -- the nodes then
    abbrev pub grown : List Node
    grown = set ns f (record { cell = c; link = t; holders = 1 })

    -- it is one node written
    put : Put ns grown f (record { cell = c; link = t; holders = 1 })
    put = put_set ns f _ (let a = F.room in omega arith)

    -- the other lists are as they were
    push_moved : Moved ns grown p depth (node_at ns f).link (places (list_at f (len + 1) ∷ rs)) (places (list_at t len ∷ rs))
    push_moved =
        let Q : ℕ → ℕ = places (list_at f (len + 1) ∷ rs) in
        let K : ℕ → ℕ = places (list_at t len ∷ rs) in
        record {
          sound = taken-up ns grown t f p depth len _ K Q within put refl refl F.sound (tops_rooted ns p depth f _ F).0 F.fitting.0.1 short (λ k. (let g : bit f k + places rs k + bit t k ≡ bit t k + places rs k + bit f k = omega arith in g));
          kept = λ u n k e. (
            used-ends ns grown t f p depth len _ K Q within put refl refl F.sound n u (rooted ns p K F.sound.counted u k) e,
            used-cells ns grown t f p depth len _ K Q within put refl refl F.sound n u (rooted ns p K F.sound.counted u k) e,
          );
          beyond = drop-set-lt p ns f _ within;
          long = length-set ns f _;
        }

    -- they are whole
    push_old : All (Fits grown p depth) (list_at t len ∷ rs)
    push_old = still_fit ns grown p depth _ _ _ push_moved (list_at t len ∷ rs) (places_own (list_at t len ∷ rs)) F.fitting

    -- and have the same cells
    pub push_alike : All (Alike ns grown) (list_at t len ∷ rs)
    push_alike = still_alike ns grown p depth _ _ _ push_moved (list_at t len ∷ rs) (places_own (list_at t len ∷ rs)) F.fitting

    -- the facts then
    pub push_facts : (next : ℕ) → next ≡ (node_at ns f).link → Facts grown p depth next (list_at f (len + 1) ∷ rs)
    push_facts next is =
        let one : suc len ≡ len + 1 = omega arith in
        let link : (node_at grown f).link ≡ t = ap (λ (y : Node). y.link) put.here in
        let new : Ends grown p f (len + 1) = subst (λ n. Ends grown p f n) one (within, subst (λ u. Ends grown p u len) (sym link) push_old.0.1) in
        record {
          sound = subst (λ g. Sound grown g p depth (places (list_at f (len + 1) ∷ rs))) (sym is) push_moved.sound;
          fitting = ((omega arith, new), push_old.1);
          room = let a = length-set ns f (record { cell = c; link = t; holders = 1 }) in let b = F.room in omega arith;
        }

    -- the list has the new cell on top
    pub push_cells : cells grown f (len + 1) ≡ cells ns t len ++ (c ∷ [])
    push_cells =
        let one : len + 1 ≡ suc len = omega arith in
        ap (cells grown f) one ∙ ap (λ (y : Node). cells grown y.link len ++ (y.cell ∷ [])) put.here ∙ ap (λ cs. cs ++ (c ∷ [])) push_alike.0

    -- nothing past the need has changed
    pub push_beyond : drop p grown ≡ drop p ns
    push_beyond = drop-set-lt p ns f _ within

-- the nodes as a new store has them: all free, one linked to the next
module _ (ns : List Node) (p : ℕ) (linked : (k : ℕ) → k < p → ((node_at ns k).link ≡ k + 1) × ((node_at ns k).holders ≡ 0)) where
  -- they are linked from any one on
  new-free : (n k : ℕ) → k + n ≡ p → Free ns p k n
  new-free zero k e = omega arith
  new-free (suc n) k e =
      let l : k < p = omega arith in
      (l, (linked k l).1, subst (λ u. Free ns p u n) (sym (linked k l).0) (new-free n (k + 1) (omega arith)))

  -- the facts of an empty list
  pub new_facts : (depth end : ℕ) → p ≤ end → p ≤ length ns → Facts ns p depth 0 (list_at end 0 ∷ [])
  new_facts depth end out room =
      record {
        sound = record {
          counted = λ k l.
              let h = (linked k l).1 in
              let b : bit end k ≡ 0 = bit_other end k (omega arith) in
              let t : total (leads ns k) p ≡ 0 = total-zero (leads ns k) p (λ i m. held-zero _ _ (linked i m).1) in
              omega arith;
          shallow = λ i l h d. (let z = (linked i l).1 in let never : ⊥ = omega arith in never);
          free =
              let e : total (unheld ns) p ≡ p = total_ones (unheld ns) p (λ i m. free-zero _ (linked i m).1) in
              subst (λ n. Free ns p 0 n) (sym e) (new-free p 0 (omega arith));
        };
        fitting = ((omega arith, out), tt);
        room = room;
      }
