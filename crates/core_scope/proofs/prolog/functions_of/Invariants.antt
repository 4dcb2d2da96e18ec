use Rattle.std.proofs.Common.{◌≡◌, ◌++◌, drop}
use Rattle.core_scope.specs.Gathering.{signatures_at}
use Rattle.core_scope.proofs.prolog.functions_of.Given as goal

abbrev pub invariant-loop-declaration : goal.invariant-loop-declaration
invariant-loop-declaration l = l.functions ++ signatures_at (drop l.declaration-index l.declarations) ≡ signatures_at l.declarations
