use Rattle.core_scope.specs.Kinds.{IsRecursive}
use Rattle.core_scope.specs.Leasts.{IsLeast}
use Rattle.core_scope.proofs.recursion.first_recursive.Given as goal

abbrev pub invariant-loop-node : goal.invariant-loop-node
invariant-loop-node l = IsLeast (IsRecursive l.graph l.offsets l.node) l.first
