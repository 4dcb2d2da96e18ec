use Rattle.std.proofs.Common.{◌≡◌, drop}
use Rattle.core_scope.specs.Soon.{soon_from}
use Rattle.core_scope.proofs.soon.soon_in.Given as goal

abbrev pub invariant-loop-call : goal.invariant-loop-call
invariant-loop-call l = soon_from l.search.marked l.first (drop l.call-index l.calls) ≡ soon_from l.search.marked l.fn.first l.calls
