use Rattle.std.proofs.Common.{◌≡◌, drop, map}
use Rattle.xq_base.specs.declared.code.Code.TheVariants as code
use Rattle.core_scope.specs.Walk.{refused}
use Rattle.core_scope.specs.Prolog.{setter_refusals}
use Rattle.core_scope.specs.Refusals.{first_from}
use Rattle.core_scope.proofs.first.setters_amiss.Given as goal

abbrev pub invariant-loop-at : goal.invariant-loop-at
invariant-loop-at l = first_from l.first (map (refused code.XQST0068) (drop l.at l.setters)) ≡ first_from l.fn.first (setter_refusals l.setters)
