use Rattle.std.proofs.Common.{◌≡◌, ◌<◌, ◌^◌, drop}
use Rattle.core_scope.specs.Literals.{number_from, number_of}
use Rattle.core_scope.proofs.literals.integer_in.Given as goal

abbrev pub invariant-loop-d : goal.invariant-loop-d
invariant-loop-d l = (number_of l.digits ≡ number_from l.n (drop l.d-index l.digits)) × (l.n < 2 ^ 63)
