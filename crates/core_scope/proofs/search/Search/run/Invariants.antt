use Rattle.std.proofs.Common.{◌≡◌, ◌-◌, length}
use Rattle.core_scope.specs.Search as spec
use Rattle.core_scope.proofs.search.Search.run.Given as goal

abbrev pub invariant-loop-turn : goal.invariant-loop-turn
invariant-loop-turn l = spec.searched l.graph (length l.fn.self.marked - l._turn) l.self ≡ spec.searched l.graph (length l.fn.self.marked) l.fn.self
