use Rattle.std.proofs.Common.{◌≡◌, ℕ, suc, ◌-◌, ◌<◌, true, Some, sym, ap, ◌∙◌, subst, arith}
use Rattle.std.specs.List.{slice_get}
use Rattle.std.specs.Option.{ok_or}
use Rattle.std.proofs.lemmas.Option.{slice_get_past}
use Rattle.linked.specs.declared.node.Node.{Node}
use Rattle.linked.specs.declared.linked.Linked.{Linked}
use Rattle.store.specs.declared.refusal.Refusal.TheVariants.{NoIndex}
use Rattle.linked.specs.Chains.{node_at, cells, ends}
use Rattle.linked.proofs.Changes.{ends-from, ends_to}
use Rattle.linked.proofs.Facts.{length-cells, cell_down, cell_top}
use Rattle.linked.specs.Meant.{size}
use Rattle.linked.proofs.Moving.{read_node}
use Rattle.linked.proofs.Stores.{nodes_of, in_nodes}
use Rattle.linked.proofs.linked.Linked.cell_of.Goals as goal

pub returns-then-index-list : goal.returns-then-index-list
returns-then-index-list c =
    let s = c.args.self.now in
    let e = length-cells (nodes_of s) c.args.list.len c.args.list.top in
    let h = c.if-index-list.true in
    sym (ap (λ o. ok_or o NoIndex) (slice_get_past (cells (nodes_of s) c.args.list.top c.args.list.len) c.args.index (omega arith)))

pub loop-init : goal.loop-init
loop-init c =
    let s = c.args.self.now in
    let h = c.if-index-list.false in
    let e : c.args.list.len ≡ suc (c.args.list.len - 1) = omega arith in
    (subst (λ n. ends (nodes_of s) (size s) c.args.list.top n ≡ true) e c.requires, ap (λ n. slice_get (cells (nodes_of s) c.args.list.top n) c.args.index) (sym e), h)

-- the node that the loop has come to
at_in : (s : Linked) (t n : ℕ) → ends (nodes_of s) (size s) t (suc n) ≡ true → t < size s
at_in s t n e = (ends-from (nodes_of s) (size s) (suc n) t e).0

-- one node further down
down : (s : Linked) (t n index : ℕ) (r : Node) → r ≡ node_at (nodes_of s) t → index < n → ends (nodes_of s) (size s) t (suc n) ≡ true
    → (ends (nodes_of s) (size s) r.link (suc (n - 1)) ≡ true) × (slice_get (cells (nodes_of s) r.link (suc (n - 1))) index ≡ slice_get (cells (nodes_of s) t (suc n)) index)
down s t n index r is l e =
    let m : n ≡ suc (n - 1) = omega arith in
    subst (λ (y : Node). (ends (nodes_of s) (size s) y.link (suc (n - 1)) ≡ true) × (slice_get (cells (nodes_of s) y.link (suc (n - 1))) index ≡ slice_get (cells (nodes_of s) t (suc n)) index)) (sym is)
    (subst (λ k. (ends (nodes_of s) (size s) (node_at (nodes_of s) t).link k ≡ true) × (slice_get (cells (nodes_of s) (node_at (nodes_of s) t).link k) index ≡ slice_get (cells (nodes_of s) t (suc n)) index)) m
    (ends_to (nodes_of s) (size s) n (node_at (nodes_of s) t).link (ends-from (nodes_of s) (size s) (suc n) t e).1, sym (cell_down (nodes_of s) t n index l)))

pub loop-preserved : goal.loop-preserved
loop-preserved c =
    let s = c.args.self.now in
    let t : ℕ = c.loop.at in
    let n : ℕ = c.loop.counter - 1 in
    let r = c.index.result.now in
    let is : r ≡ node_at (nodes_of s) t = read_node (nodes_of s) t r (in_nodes s t (at_in s t n c.loop.invariant.0)) c.index.ensures in
    let h = c.loop-test.true in
    let d = down s t n c.args.index r is (omega arith) c.loop.invariant.0 in
    (d.0, d.1 ∙ c.loop.invariant.1, omega arith)

pub returns : goal.returns
returns c =
    let s = c.args.self.now in
    let t : ℕ = c.loop.at in
    let n : ℕ = c.loop.counter - 1 in
    let r = c.index-2.result.now in
    let is : r ≡ node_at (nodes_of s) t = read_node (nodes_of s) t r (in_nodes s t (at_in s t n c.loop.invariant.0)) c.index-2.ensures in
    let h = c.loop-test.false in
    let l = c.loop.invariant.2 in
    let e : n ≡ c.args.index = omega arith in
    ap (λ o. ok_or o NoIndex)
    (ap (λ (y : Node). Some y.cell) is ∙ sym (cell_top (nodes_of s) t c.args.index) ∙ ap (λ k. slice_get (cells (nodes_of s) t (suc k)) c.args.index) (sym e) ∙ c.loop.invariant.1)
