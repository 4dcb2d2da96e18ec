use Rattle.std.proofs.Common.{◌≡◌, ◌++◌, drop, map}
use Rattle.core_scope.specs.PassedBy.{gained_in}
use Rattle.core_scope.specs.Whole.{offsets_of}
use Rattle.core_scope.proofs.graphs.offsets_of.Given as goal

abbrev pub invariant-loop-function : goal.invariant-loop-function
invariant-loop-function l = l.offsets.items ++ offsets_of (map gained_in (drop l.function-index l.functions)) ≡ offsets_of (map gained_in l.functions)
