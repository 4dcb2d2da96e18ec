use Rattle.xq_types.proofs.CoreTypes.{keeps_type}
use Rattle.xq_types.proofs.typed.type_of.Goals as goal

pub invariant_of-result : goal.invariant_of-result
invariant_of-result c = keeps_type c.args.core _ c.in_ok-ty.ty c.requires.lawful c.new-scope.ensures c.in_ok-ty.ensures.gives

pub returns-clause-accepted : goal.returns-clause-accepted
returns-clause-accepted c = (keeps_type c.args.core _ c.in_ok-ty.ty c.requires.lawful c.new-scope.ensures c.in_ok-ty.ensures.gives).accepted
