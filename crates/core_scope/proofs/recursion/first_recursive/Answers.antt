use Rattle.std.proofs.Common.{◌≡◌, length, subst, arith}
use Rattle.core_scope.specs.Kinds.{IsRecursive}
use Rattle.core_scope.specs.Leasts.{IsLeast}
use Rattle.core_scope.proofs.Recursing.{none_recursive}
use Rattle.core_scope.proofs.recursion.first_recursive.Goals as goal

pub loop-node-init : goal.loop-node-init
loop-node-init c = none_recursive c.args.graph.now c.args.offsets.now

pub returns : goal.returns
returns c =
    let all : c.loop-node.node ≡ length c.args.offsets.now = omega (arith, c.loop-node-test.false, c.loop-node.auto.node-end) in
    subst (λ n. IsLeast (IsRecursive c.args.graph.now c.args.offsets.now n) c.loop-node.first) all c.loop-node.invariant
