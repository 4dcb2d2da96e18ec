use Rattle.std.proofs.Common.{◌≡◌, ◌++◌, drop, map}
use Rattle.core_scope.specs.PassedBy.{gained_in}
use Rattle.core_scope.specs.Whole.{refers_of}
use Rattle.core_scope.proofs.graphs.refers_of.Given as goal

abbrev pub invariant-loop-function : goal.invariant-loop-function
invariant-loop-function l = l.graph ++ refers_of (map gained_in (drop l.function-index l.functions)) ≡ refers_of (map gained_in l.functions)
