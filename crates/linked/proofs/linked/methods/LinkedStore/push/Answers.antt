use Rattle.std.proofs.Common.{sym, refl, arith}
use Rattle.bottom.proofs.Tops.{pushed_full}
use Rattle.linked.specs.Meant.{meant}
use Rattle.linked.proofs.Facts.{length-cells}
use Rattle.linked.proofs.Stores.{nodes_of, in_nodes, free_in}
use Rattle.linked.proofs.Calls.{fixed_same, push_owed, push_means, push-beyond}
use Rattle.linked.proofs.linked.methods.LinkedStore.push.Goals as goal

pub returns-then-self-clause-call : goal.returns-then-self-clause-call
returns-then-self-clause-call c =
    let s = c.args.self.now in
    let n = length-cells (nodes_of s) s.current.len s.current.top in
    sym (pushed_full (meant s) c.args.cell (omega arith))

pub push-self-requires : goal.push-self-requires
push-self-requires c = let s = c.args.self.now in let a = in_nodes s s.pool.free (free_in s c.if-self.false) in let b = c.if-self.false in let d = s.flat in (a, omega arith)

pub invariant_of-self : goal.invariant_of-self
invariant_of-self c = push_owed c.args.self.now c.if-self.false c.args.cell _ _ c.push-self.result c.push-self.ensures.nodes c.push-self.ensures.free c.push-self.ensures.list

pub returns : goal.returns
returns c =
    let s = c.args.self.now in
    record {
      memory = fixed_same s _ _ refl (push-beyond s c.if-self.false c.args.cell _ _ c.push-self.result c.push-self.ensures.nodes c.push-self.ensures.free c.push-self.ensures.list);
      call = push_means s c.if-self.false c.args.cell _ _ c.push-self.result c.push-self.ensures.nodes c.push-self.ensures.free c.push-self.ensures.list;
    }
