-- What it does to the lists that one node is shared, left or freed.
use Rattle.std.proofs.Common.{◌≡◌, ℕ, zero, suc, ◌+◌, ◌-◌, ◌<◌, ◌≤◌, ◌≢◌, List, length, get_or, set, sym, refl, ap, ◌∙◌, subst, ⊎_elim, arith, length-set}
use Rattle.std.proofs.lemmas.List.{drop-set-lt, get_or_default, set-get_or}
use Rattle.std.proofs.lemmas.Bool.{cases_eq}
use Rattle.bottom.specs.Rows.{bit}
use Rattle.bottom.proofs.Rows.{bit-same, bit_other}
use Rattle.linked.specs.declared.node.Node.{Node}
use Rattle.linked.specs.Chains.{no_node, node_at, with_top, Ends}
use Rattle.linked.specs.Moves.{Sound, Kept, Holds, Moved, recounted, shared}
use Rattle.linked.proofs.Changes.{Put, put_set, Rooted, rooted, rooted_link, ends-kept, cells-kept, recount, recount_link, recount_cell, freed, freed_other}

-- the same tops, counted in another way
pub sound-same : (ns : List Node) (f p depth : ℕ) (R Q : ℕ → ℕ) → Sound ns f p depth R → ((k : ℕ) → k < p → Q k ≡ R k) → Sound ns f p depth Q
sound-same ns f p depth R Q s e = record { counted = λ k l. (let a = s.counted k l in let b = e k l in omega arith); shallow = s.shallow; free = s.free }

-- the top of a list with a node is within the nodes
pub ends-within : (ns : List Node) (p t n : ℕ) → 0 < n → Ends ns p t n → t < p
ends-within ns p t zero l e = absurd (let z : ⊥ = omega arith in z)
ends-within ns p t (suc n) l e = e.0

-- below the top of a list is a list
pub ends-rest : (ns : List Node) (p t n : ℕ) → 0 < n → Ends ns p t n → Ends ns p (node_at ns t).link (n - 1)
ends-rest ns p t zero l e = absurd (let z : ⊥ = omega arith in z)
ends-rest ns p t (suc n) l e = subst (λ m. Ends ns p (node_at ns t).link m) (let q : n ≡ suc n - 1 = omega arith in q) e.1

-- a list of which one node has another number of holders
module _ (ns : List Node) (p t h : ℕ) (room : p ≤ length ns) (within : t < p) (was : 0 < (node_at ns t).holders) (is : 0 < h) where
  abbrev counts : List Node
  counts = set ns t (recounted (node_at ns t) h)

  -- it is one node written
  put : Put ns counts t (recounted (node_at ns t) h)
  put = put_set ns t _ (omega arith)

  -- no link has changed
  pub recount_same_link : (i : ℕ) → (node_at counts i).link ≡ (node_at ns i).link
  recount_same_link = recount_link ns counts t 0 p 0 _ (λ i. 0) (λ i. 0) within put refl refl was is

  -- so every list is as it was
  pub recount_kept : (m u : ℕ) → Ends ns p u m → Kept ns counts p u m
  recount_kept m u e =
      let cell : (i : ℕ) → (node_at counts i).cell ≡ (node_at ns i).cell = recount_cell ns counts t 0 p 0 _ (λ i. 0) (λ i. 0) within put refl refl was is in (
        ends-kept ns counts p (λ i. Unit {0}) (λ i l y. recount_same_link i) (λ i l y. tt) m u tt e,
        cells-kept ns counts p (λ i. Unit {0}) (λ i l y. recount_same_link i) (λ i l y. tt) (λ i l y. cell i) m u tt e,
      )

  -- and the counts are right if the tops have changed alike
  pub recount_sound : (f depth : ℕ) (R Q : ℕ → ℕ) → Sound ns f p depth R → ((k : ℕ) → k ≢ t → Q k ≡ R k) → Q t + (node_at ns t).holders ≡ R t + h → Sound counts f p depth Q
  recount_sound f depth R Q s others at-t = recount ns counts t f p depth _ R Q within put refl refl was is s others at-t

-- what a change of one needed node leaves
set_moved : (ns : List Node) (p depth g t : ℕ) (x : Node) (Q K : ℕ → ℕ) → t < p → Sound (set ns t x) g p depth Q → ((u n : ℕ) → 0 < K u → Ends ns p u n → Kept ns (set ns t x) p u n) → Moved ns (set ns t x) p depth g Q K
set_moved ns p depth g t x Q K l s k = record { sound = s; kept = k; beyond = drop-set-lt p ns t x l; long = length-set ns t x }

-- one change after another
pub moved_both : (ns ms ks : List Node) (p depth g h : ℕ) (Q S K : ℕ → ℕ) → Moved ns ms p depth g Q K → Moved ms ks p depth h S K → Moved ns ks p depth h S K
moved_both ns ms ks p depth g h Q S K a b =
    record {
      sound = b.sound;
      kept = λ t n k e. (let x = a.kept t n k e in let y = b.kept t n k x.0 in (y.0, y.1 ∙ x.1));
      beyond = b.beyond ∙ a.beyond;
      long = b.long ∙ a.long;
    }

-- fewer tops, or the same ones counted in another way
pub moved_for : (ns ms : List Node) (p depth g : ℕ) (Q S K L : ℕ → ℕ) → ((k : ℕ) → k < p → S k ≡ Q k) → ((k : ℕ) → 0 < L k → 0 < K k) → Moved ns ms p depth g Q K → Moved ns ms p depth g S L
moved_for ns ms p depth g Q S K L same fewer m =
    record { sound = sound-same ms g p depth Q S m.sound same; kept = λ t n k e. m.kept t n (fewer t k) e; beyond = m.beyond; long = m.long }

-- nothing changed
pub moved_none : (ns : List Node) (p depth f : ℕ) (Q K : ℕ → ℕ) → Sound ns f p depth Q → Moved ns ns p depth f Q K
moved_none ns p depth f Q K s = record { sound = s; kept = λ t n k e. (e, refl); beyond = refl; long = refl }

-- one holder more for the top of a list
module _ (ns : List Node) (f p depth : ℕ) (R : ℕ → ℕ) (s : Sound ns f p depth R) (room : p ≤ length ns) where
  -- the list has one top more then
  pub share_moved : (n t : ℕ) → Ends ns p t n → Rooted ns p t → (K : ℕ → ℕ) → Moved ns (shared ns t n) p depth f (with_top t R) K
  share_moved zero t e r K =
      moved_none ns p depth f (with_top t R) K (sound-same ns f p depth R (with_top t R) s (λ k l. (let b : bit t k ≡ 0 = bit_other t k (omega arith) in let g : with_top t R k ≡ R k = omega arith in g)))
  share_moved (suc n) t e r K =
      let l = e.0 in
      let more : 0 < (node_at ns t).holders + 1 = omega arith in
      set_moved ns p depth f t _ (with_top t R) K l
      (recount_sound ns p t ((node_at ns t).holders + 1) room l (r l) more f depth R (with_top t R) s
      (λ k ne. (let b : bit t k ≡ 0 = bit_other t k (λ z. ne (sym z)) in let g : with_top t R k ≡ R k = omega arith in g))
      (let b : bit t t ≡ 1 = bit-same t t refl in let g : with_top t R t + (node_at ns t).holders ≡ R t + ((node_at ns t).holders + 1) = omega arith in g))
      (λ u m k x. recount_kept ns p t ((node_at ns t).holders + 1) room l (r l) more m u x)

-- one list of those that are held
module _ (ns : List Node) (p depth f t n : ℕ) (R : ℕ → ℕ) (H : Holds ns p depth f t n R) (some : 0 < n) where
  -- its top is a node
  pub top_within : t < p
  top_within = ends-within ns p t n some H.ends

  -- which is held
  pub top-held : 0 < (node_at ns t).holders
  top-held = rooted ns p (with_top t R) H.sound.counted t (let b : bit t t ≡ 1 = bit-same t t refl in let g : 0 < with_top t R t = omega arith in g) top_within

  -- and below it is a list
  rest-ends : Ends ns p (node_at ns t).link (n - 1)
  rest-ends = ends-rest ns p t n some H.ends

  -- others hold its top too, and go on to do so
  module _ (two : 1 < (node_at ns t).holders) where
    -- the nodes then
    abbrev pub left : List Node
    left = set ns t (recounted (node_at ns t) ((node_at ns t).holders - 1))

    -- the others are held as they were
    pub left_moved : (K : ℕ → ℕ) → Moved ns left p depth f R K
    left_moved K =
        let fewer : 0 < (node_at ns t).holders - 1 = omega arith in
        set_moved ns p depth f t _ R K top_within
        (recount_sound ns p t ((node_at ns t).holders - 1) H.room top_within top-held fewer f depth (with_top t R) R H.sound
        (λ k ne. (let b : bit t k ≡ 0 = bit_other t k (λ z. ne (sym z)) in let g : R k ≡ with_top t R k = omega arith in g))
        (let b : bit t t ≡ 1 = bit-same t t refl in let g : R t + (node_at ns t).holders ≡ with_top t R t + ((node_at ns t).holders - 1) = omega arith in g))
        (λ u m k x. recount_kept ns p t ((node_at ns t).holders - 1) H.room top_within top-held fewer m u x)

    -- the rest of the list is held by itself then
    pub passed_moved : (K : ℕ → ℕ) → Moved ns (shared left (node_at ns t).link (n - 1)) p depth f (with_top (node_at ns t).link R) K
    passed_moved K =
        let fewer : 0 < (node_at ns t).holders - 1 = omega arith in
        let m = left_moved K in
        let still : 0 < (node_at left t).holders = subst (λ (y : Node). 0 < y.holders) (sym (put_set ns t (recounted (node_at ns t) ((node_at ns t).holders - 1)) (let a = top_within in let b = H.room in omega arith)).here) fewer in
        let link = recount_same_link ns p t ((node_at ns t).holders - 1) H.room top_within top-held fewer t in
        let root : Rooted left p (node_at ns t).link = subst (Rooted left p) link (rooted_link left p R m.sound.counted t top_within still) in
        let whole : Ends left p (node_at ns t).link (n - 1) = (recount_kept ns p t ((node_at ns t).holders - 1) H.room top_within top-held fewer (n - 1) (node_at ns t).link rest-ends).0 in
        moved_both ns left _ p depth f f R _ K m (share_moved left f p depth R m.sound (let a = m.long in let b = H.room in omega arith) (n - 1) (node_at ns t).link whole root K)

  -- nothing else holds its top, which becomes free
  module _ (one : (node_at ns t).holders ≡ 1) where
    -- the node then
    abbrev pub free_node : Node
    free_node = record { cell = (node_at ns t).cell; link = f; holders = 0 }

    -- the nodes then
    abbrev pub rid : List Node
    rid = set ns t free_node

    -- it is one node written
    rid_put : Put ns rid t free_node
    rid_put = put_set ns t _ (let a = top_within in let b = H.room in omega arith)

    -- the tops then
    abbrev rest : ℕ → ℕ
    rest = with_top (node_at ns t).link R

    -- all is sound again
    rid-sound : Sound rid t p depth rest
    rid-sound =
        freed ns rid t f p depth free_node (with_top t R) rest top_within rid_put refl one refl H.sound
        (λ k. (let g : rest k + bit t k ≡ with_top t R k + bit (node_at ns t).link k = omega arith in g))
        (let b : bit t t ≡ 1 = bit-same t t refl in let g : 0 < with_top t R t = omega arith in g)

    -- every other list is as it was
    rid-kept : (u m : ℕ) → 0 < rest u → Ends ns p u m → Kept ns rid p u m
    rid-kept u m k e =
        let other : (i : ℕ) → 0 < (node_at rid i).holders → node_at rid i ≡ node_at ns i = freed_other ns rid t f p depth free_node (with_top t R) rest top_within rid_put refl one refl in
        let link : (i : ℕ) → i < p → Rooted rid p i → (node_at rid i).link ≡ (node_at ns i).link = λ i l q. ap (λ (y : Node). y.link) (other i (q l)) in
        let next : (i : ℕ) → i < p → Rooted rid p i → Rooted rid p (node_at ns i).link = λ i l q. subst (Rooted rid p) (link i l q) (rooted_link rid p rest rid-sound.counted i l (q l)) in
        let root : Rooted rid p u = rooted rid p rest rid-sound.counted u k in (
          ends-kept ns rid p (Rooted rid p) link next m u root e,
          cells-kept ns rid p (Rooted rid p) link next (λ i l q. ap (λ (y : Node). y.cell) (other i (q l))) m u root e,
        )

    -- both together
    pub rid_moved : Moved ns rid p depth t rest rest
    rid_moved = set_moved ns p depth t t free_node rest rest top_within rid-sound rid-kept

    -- as many nodes as before
    pub rid-long : length rid ≡ length ns
    rid-long = length-set ns t free_node

    -- the rest of the list is held by itself then
    pub rid-holds : Holds rid p depth t (node_at ns t).link (n - 1) R
    rid-holds =
        record {
          sound = rid-sound;
          ends = (rid-kept (node_at ns t).link (n - 1) (let b : bit (node_at ns t).link (node_at ns t).link ≡ 1 = bit-same _ _ refl in let g : 0 < rest (node_at ns t).link = omega arith in g) rest-ends).0;
          room = let a = rid-long in let b = H.room in omega arith;
        }

-- a node as it was read
pub read_node : (ns : List Node) (k : ℕ) (r : Node) → k < length ns → r ≡ get_or ns k r → r ≡ node_at ns k
read_node ns k r l e = e ∙ get_or_default ns k r no_node l

-- a node that is as it was
pub set_read : (ns : List Node) (k : ℕ) (r : Node) → r ≡ get_or ns k r → set ns k r ≡ ns
set_read ns k r e = ap (set ns k) e ∙ set-get_or ns k r

-- the same moves, by the top node r as it was read
module _ (ns : List Node) (p depth f t n : ℕ) (R : ℕ → ℕ) (H : Holds ns p depth f t n R) (some : 0 < n) (r : Node) (is : r ≡ node_at ns t) where
  -- others hold it: one holder less
  pub leave_read : 1 < r.holders → Moved ns (set ns t (recounted r (r.holders - 1))) p depth f R R
  leave_read = subst (λ (y : Node). 1 < y.holders → Moved ns (set ns t (recounted y (y.holders - 1))) p depth f R R) (sym is) (λ two. left_moved ns p depth f t n R H some two R)

  -- and the rest of the list is held by itself
  pub pass_read : 1 < r.holders → Moved ns (shared (set ns t (recounted r (r.holders - 1))) r.link (n - 1)) p depth f (with_top (node_at ns t).link R) (with_top (node_at ns t).link R)
  pass_read = subst (λ (y : Node). 1 < y.holders → Moved ns (shared (set ns t (recounted y (y.holders - 1))) y.link (n - 1)) p depth f (with_top (node_at ns t).link R) (with_top (node_at ns t).link R)) (sym is)
      (λ two. passed_moved ns p depth f t n R H some two (with_top (node_at ns t).link R))

  -- nothing else holds it
  one_read : r.holders ≤ 1 → (node_at ns t).holders ≡ 1
  one_read l = let e = ap (λ (y : Node). y.holders) is in let h = top-held ns p depth f t n R H some in omega arith

  -- it becomes free
  pub rid_read : r.holders ≤ 1 → Moved ns (set ns t (record { cell = r.cell; link = f; holders = 0 })) p depth t (with_top (node_at ns t).link R) (with_top (node_at ns t).link R)
  rid_read l = subst (λ (y : Node). Moved ns (set ns t (record { cell = y.cell; link = f; holders = 0 })) p depth t (with_top (node_at ns t).link R) (with_top (node_at ns t).link R)) (sym is) (rid_moved ns p depth f t n R H some (one_read l))

  -- and the rest of the list is held by itself
  pub rid_read_holds : r.holders ≤ 1 → Holds (set ns t (record { cell = r.cell; link = f; holders = 0 })) p depth t r.link (n - 1) R
  rid_read_holds l = subst (λ (y : Node). Holds (set ns t (record { cell = y.cell; link = f; holders = 0 })) p depth t y.link (n - 1) R) (sym is) (rid-holds ns p depth f t n R H some (one_read l))

-- a holder less for one node is a holder more for none
pub left_le : (ns : List Node) (t k : ℕ) (r : Node) → t < length ns → r ≡ node_at ns t → (node_at (set ns t (recounted r (r.holders - 1))) k).holders ≤ (node_at ns k).holders
left_le ns t k r l is =
    let w = put_set ns t (recounted r (r.holders - 1)) l in
    let h = ap (λ (y : Node). y.holders) is in
    ⊎_elim
    (λ (e : k ≡ t).
    let a : (node_at (set ns t (recounted r (r.holders - 1))) k).holders ≡ r.holders - 1 = ap (λ j. (node_at (set ns t (recounted r (r.holders - 1))) j).holders) e ∙ ap (λ (y : Node). y.holders) w.here in
    let b : (node_at ns k).holders ≡ (node_at ns t).holders = ap (λ j. (node_at ns j).holders) e in
    (let g : (node_at (set ns t (recounted r (r.holders - 1))) k).holders ≤ (node_at ns k).holders = omega arith in g))
    (λ ne. (let a : (node_at (set ns t (recounted r (r.holders - 1))) k).holders ≡ (node_at ns k).holders = ap (λ (y : Node). y.holders) (w.other k ne) in let g : (node_at (set ns t (recounted r (r.holders - 1))) k).holders ≤ (node_at ns k).holders = omega arith in g))
    (cases_eq k t)
