use Rattle.std.proofs.Common.{◌≡◌, ◌++◌, drop, map}
use Rattle.core_scope.proofs.graphs.called_of.Given as goal

abbrev pub invariant-loop-call : goal.invariant-loop-call
invariant-loop-call l = l.called.items ++ map (λ c. c.function) (drop l.call-index l.calls) ≡ map (λ c. c.function) l.calls
