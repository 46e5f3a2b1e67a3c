use Rattle.std.proofs.Common.{◌≡◌, ℕ, ◌-◌, ◌<◌, ◌≤◌, List, length, get_or, set, vec_items, sym, refl, ap, ◌∙◌, subst, arith}
use Rattle.bottom.specs.Rows.{bit}
use Rattle.bottom.proofs.Rows.{bit_other}
use Rattle.linked.specs.declared.node.Node.{Node}
use Rattle.linked.specs.Chains.{node_at, with_top, Ends}
use Rattle.linked.specs.Moves.{Holds, HoldsSomehow, Moved, recounted}
use Rattle.linked.proofs.Moving.{top_within, read_node, set_read, moved_both, moved_for, leave_read, rid_read, rid_read_holds}
use Rattle.linked.proofs.pool.Pool.let_go.Goals as goal

-- what holds of the nodes where a turn begins
abbrev Going : List Node → List Node → ℕ → ℕ → ℕ → ℕ → ℕ → ℕ → Type 0
Going ns ms f t n g u m = (p depth : ℕ) (R : ℕ → ℕ) → Holds ns p depth f t n R → Moved ns ms p depth g (with_top u R) R × Holds ms p depth g u m R

module _ (ns ms : List Node) (f t n g u m : ℕ) (H : HoldsSomehow ns f t n) (going : Going ns ms f t n g u m) (some : 0 < m) where
  in_nodes : u < length ms
  in_nodes =
      let h = (going H.size H.depth H.others H.holds).1 in
      let a = top_within ms H.size H.depth g u m H.others h some in
      let b = h.room in
      omega arith

  module _ (r : Node) (read : r ≡ get_or ms u r) where
    is : r ≡ node_at ms u
    is = read_node ms u r in_nodes read

    left_here : 1 < r.holders → (p depth : ℕ) (R : ℕ → ℕ) → Holds ns p depth f t n R → Moved ns (set ms u (recounted r (r.holders - 1))) p depth g R R
    left_here two p depth R h =
        let now = going p depth R h in
        moved_both ns ms _ p depth g g (with_top u R) R R now.0 (leave_read ms p depth g u m R now.1 some r is two)

    -- the top becomes free
    abbrev freed : List Node
    freed = set ms u (record { cell = (node_at ms u).cell; link = g; holders = 0 })

    next : r.holders ≤ 1 → Going ns freed f t n u r.link (m - 1)
    next one p depth R h =
        let now = going p depth R h in
        let one_here : (node_at ms u).holders ≤ 1 = let e = ap (λ (y : Node). y.holders) is in omega arith in
        let to : with_top (node_at ms u).link R ≡ with_top r.link R = ap (λ (y : Node). with_top y.link R) (sym is) in
        let step = subst (λ Q. Moved ms freed p depth u Q Q) to (rid_read ms p depth g u m R now.1 some (node_at ms u) refl one_here) in (
          moved_both ns ms _ p depth g u (with_top u R) (with_top r.link R) R now.0 (moved_for ms _ p depth u (with_top r.link R) (with_top r.link R) (with_top r.link R) R (λ k l. refl) (λ k l. (let x : 0 < with_top r.link R k = omega arith in x)) step),
          subst (λ (y : Node). Holds freed p depth u y.link (m - 1) R) (sym is) (rid_read_holds ms p depth g u m R now.1 some (node_at ms u) refl one_here),
        )

    -- as the loop has it
    pub turned : r.holders ≤ 1 → (ks : List Node) (h k : ℕ) → ks ≡ freed → h ≡ u → k ≡ m - 1 → Going ns ks f t n h r.link k
    turned one ks h k ks_is h_is k_is =
        subst (λ xs. Going ns xs f t n h r.link k) (sym ks_is) (subst (λ x. Going ns freed f t n x r.link k) (sym h_is) (subst (λ x. Going ns freed f t n u r.link x) (sym k_is) (next one)))

pub index_mut-node-requires : goal.index_mut-node-requires
index_mut-node-requires c =
    let some : 0 < c.args.list.len - c.loop.counter = let t = c.loop-test.true in omega arith in
    let a = in_nodes (vec_items c.args.self.now.nodes) (vec_items c.loop.self.nodes) c.args.self.now.free c.args.list.top c.args.list.len c.loop.self.free c.loop.at (c.args.list.len - c.loop.counter) c.requires c.loop.invariant some in
    let b = c.loop.self.nodes.ok.0 in
    omega arith

pub free_node-requires : goal.free_node-requires
free_node-requires c =
    let some : 0 < c.args.list.len - c.loop.counter = let t = c.loop-test.true in omega arith in
    let l = in_nodes (vec_items c.args.self.now.nodes) (vec_items c.loop.self.nodes) c.args.self.now.free c.args.list.top c.args.list.len c.loop.self.free c.loop.at (c.args.list.len - c.loop.counter) c.requires c.loop.invariant some in
    subst (λ ns. c.loop.at < length ns) (sym (set_read (vec_items c.loop.self.nodes) c.loop.at c.index_mut-node.result.now c.index_mut-node.ensures.value)) l

pub returns-then-node-gt1 : goal.returns-then-node-gt1
returns-then-node-gt1 c =
    let some : 0 < c.args.list.len - c.loop.counter = let t = c.loop-test.true in omega arith in
    left_here (vec_items c.args.self.now.nodes) (vec_items c.loop.self.nodes) c.args.self.now.free c.args.list.top c.args.list.len c.loop.self.free c.loop.at (c.args.list.len - c.loop.counter) c.requires c.loop.invariant some c.index_mut-node.result.now c.index_mut-node.ensures.value c.if-node-gt1.true

pub loop-preserved : goal.loop-preserved
loop-preserved c =
    let some : 0 < c.args.list.len - c.loop.counter = let t = c.loop-test.true in omega arith in
    let ms = vec_items c.loop.self.nodes in
    let u : ℕ = c.loop.at in
    let same = set_read ms u c.index_mut-node.result.now c.index_mut-node.ensures.value in
    turned (vec_items c.args.self.now.nodes) (vec_items c.loop.self.nodes) c.args.self.now.free c.args.list.top c.args.list.len c.loop.self.free c.loop.at (c.args.list.len - c.loop.counter) c.requires c.loop.invariant some c.index_mut-node.result.now c.index_mut-node.ensures.value c.if-node-gt1.false _ _ _
    (c.free_node.ensures.nodes ∙ ap (λ ns. set ns u (record { cell = (node_at ns u).cell; link = c.loop.self.free; holders = 0 })) same) c.free_node.ensures.free (omega arith)

-- an empty list has no top
pub returns : goal.returns
returns c p depth R H =
    let now = c.loop.invariant p depth R H in
    let u : ℕ = c.loop.at in
    let z : c.args.list.len - c.loop.counter ≡ 0 = let l = c.loop-test.false in omega arith in
    let end : p ≤ u = subst (λ m. Ends (vec_items c.loop.self.nodes) p u m) z now.1.ends in
    moved_for (vec_items c.args.self.now.nodes) (vec_items c.loop.self.nodes) p depth c.loop.self.free (with_top u R) R R R
    (λ k l. (let b : bit u k ≡ 0 = bit_other u k (omega arith) in let g : R k ≡ with_top u R k = omega arith in g)) (λ k l. l) now.0
