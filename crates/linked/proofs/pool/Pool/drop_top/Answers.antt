use Rattle.std.proofs.Common.{◌≡◌, ℕ, ◌+◌, ◌-◌, ◌^◌, ◌<◌, ◌≤◌, List, length, set, vec_items, sym, refl, ap, ◌∙◌, subst, arith, length-set}
use Rattle.linked.specs.declared.node.Node.{Node}
use Rattle.linked.specs.Chains.{node_at, with_top}
use Rattle.linked.specs.Moves.{HoldsSomehow, Moved, recounted, shared}
use Rattle.linked.proofs.Moving.{top_within, ends-within, ends-rest, read_node, set_read, pass_read, rid_read, left_le}
use Rattle.linked.proofs.pool.Pool.drop_top.Goals as goal

module _ (ns : List Node) (f t n : ℕ) (H : HoldsSomehow ns f t n) (some : 0 < n) where
  in_nodes : t < length ns
  in_nodes = let a = top_within ns H.size H.depth f t n H.others H.holds some in let b = H.holds.room in omega arith

  -- the node below the top, if there is one
  below : 1 < n → (node_at ns t).link < length ns
  below l = let a = ends-within ns H.size (node_at ns t).link (n - 1) (omega arith) (ends-rest ns H.size t n some H.holds.ends) in let b = H.holds.room in omega arith

pub share-requires : goal.share-requires
share-requires c l =
    let ns = vec_items c.args.self.now.nodes in
    let f : ℕ = c.args.self.now.free in
    let t : ℕ = c.args.list.top in
    let n : ℕ = c.args.list.len in
    let r = c.index_mut-node.result.now in
    let a = in_nodes ns f t n c.requires.held c.requires.some in
    let is : r ≡ node_at ns t = read_node ns t r a c.index_mut-node.ensures.value in
    let long = length-set ns t (recounted r (r.holders - 1)) in
    let some : 1 < n = omega arith in
    let link : r.link ≡ (node_at ns t).link = ap (λ (y : Node). y.link) is in
    let b = below ns f t n c.requires.held c.requires.some some in
    let d = left_le ns t r.link r a is in
    let h : (node_at ns r.link).holders + 1 < 2 ^ 32 = subst (λ k. (node_at ns k).holders + 1 < 2 ^ 32) (sym link) (c.requires.small some) in
    (omega arith, omega arith)

pub returns-then-node-gt1 : goal.returns-then-node-gt1
returns-then-node-gt1 c p depth R H =
    let ns = vec_items c.args.self.now.nodes in
    let f : ℕ = c.args.self.now.free in
    let t : ℕ = c.args.list.top in
    let n : ℕ = c.args.list.len in
    let r = c.index_mut-node.result.now in
    let is : r ≡ node_at ns t = read_node ns t r (in_nodes ns f t n c.requires.held c.requires.some) c.index_mut-node.ensures.value in
    subst (λ ms. Moved ns ms p depth c.share.new.self.free (with_top (node_at ns t).link R) (with_top (node_at ns t).link R)) (sym c.share.ensures.nodes)
    (subst (λ g. Moved ns (shared (set ns t (recounted r (r.holders - 1))) r.link (n - 1)) p depth g (with_top (node_at ns t).link R) (with_top (node_at ns t).link R)) (sym c.share.ensures.free)
    (pass_read ns p depth f t n R H c.requires.some r is c.if-node-gt1.true))

pub free_node-requires : goal.free_node-requires
free_node-requires c =
    let ns = vec_items c.args.self.now.nodes in
    let l = in_nodes ns c.args.self.now.free c.args.list.top c.args.list.len c.requires.held c.requires.some in
    subst (λ ms. c.args.list.top < length ms) (sym (set_read ns c.args.list.top c.index_mut-node.result.now c.index_mut-node.ensures.value)) l

pub returns : goal.returns
returns c p depth R H =
    let ns = vec_items c.args.self.now.nodes in
    let f : ℕ = c.args.self.now.free in
    let t : ℕ = c.args.list.top in
    let n : ℕ = c.args.list.len in
    let r = c.index_mut-node.result.now in
    let l = in_nodes ns f t n c.requires.held c.requires.some in
    let is : r ≡ node_at ns t = read_node ns t r l c.index_mut-node.ensures.value in
    let one : (node_at ns t).holders ≤ 1 = let e = ap (λ (y : Node). y.holders) is in let h = c.if-node-gt1.false in omega arith in
    let nodes = c.free_node.ensures.nodes ∙ ap (λ ms. set ms t (record { cell = (node_at ms t).cell; link = f; holders = 0 })) (set_read ns t r c.index_mut-node.ensures.value) in
    subst (λ ms. Moved ns ms p depth c.free_node.new.self.free (with_top (node_at ns t).link R) (with_top (node_at ns t).link R)) (sym nodes)
    (subst (λ g. Moved ns (set ns t (record { cell = (node_at ns t).cell; link = f; holders = 0 })) p depth g (with_top (node_at ns t).link R) (with_top (node_at ns t).link R)) (sym c.free_node.ensures.free)
    (rid_read ns p depth f t n R H c.requires.some (node_at ns t) refl one))
