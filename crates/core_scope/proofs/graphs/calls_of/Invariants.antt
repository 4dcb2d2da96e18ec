use Rattle.std.proofs.Common.{◌≡◌, ◌++◌, drop, map}
use Rattle.core_scope.specs.PassedBy.{gained_in}
use Rattle.core_scope.specs.Whole.{calls_of}
use Rattle.core_scope.proofs.graphs.calls_of.Given as goal

abbrev pub invariant-loop-function : goal.invariant-loop-function
invariant-loop-function l = l.graph ++ calls_of (map gained_in (drop l.function-index l.functions)) ≡ calls_of (map gained_in l.functions)
