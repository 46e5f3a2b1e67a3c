use Rattle.std.proofs.Common.{◌<◌, vec_items, refl, arith}
use Rattle.linked.proofs.Stores.{nodes_of}
use Rattle.linked.proofs.Calls.{fixed_same, pop_somehow, pop_small, pop_owed, pop_means, pop_beyond}
use Rattle.linked.proofs.Moving.{read_node}
use Rattle.linked.proofs.Stores.{in_nodes, top_in}
use Rattle.linked.proofs.linked.methods.LinkedStore.pop.Goals as goal

pub drop_top-requires : goal.drop_top-requires
drop_top-requires c =
    let s = c.args.self.now in
    let some : 0 < s.current.len = let n = c.if-self-eq0.false in omega arith in
    record { some = some; held = pop_somehow s some; small = pop_small s some }

pub invariant_of-self : goal.invariant_of-self
invariant_of-self c =
    let s = c.args.self.now in
    let some : 0 < s.current.len = let n = c.if-self-eq0.false in omega arith in
    let r = c.index-node.result.now in
    pop_owed s some (vec_items c.drop_top.new.self.nodes) c.drop_top.new.self.free r (read_node (nodes_of s) s.current.top r (in_nodes s s.current.top (top_in s some)) c.index-node.ensures) c.drop_top.ensures

pub returns : goal.returns
returns c =
    let s = c.args.self.now in
    let some : 0 < s.current.len = let n = c.if-self-eq0.false in omega arith in
    let r = c.index-node.result.now in
    let is = read_node (nodes_of s) s.current.top r (in_nodes s s.current.top (top_in s some)) c.index-node.ensures in
    record {
      memory = fixed_same s _ _ refl (pop_beyond s some (vec_items c.drop_top.new.self.nodes) c.drop_top.new.self.free r is c.drop_top.ensures);
      call = pop_means s some (vec_items c.drop_top.new.self.nodes) c.drop_top.new.self.free r is c.drop_top.ensures;
    }
