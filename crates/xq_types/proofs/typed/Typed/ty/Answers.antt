use Rattle.xq_types.proofs.CoreTypes.{seen_as, values_have}
use Rattle.xq_types.proofs.typed.Typed.ty.Goals as goal

pub returns-clause-has_type : goal.returns-clause-has_type
returns-clause-has_type c = (seen_as c.self.inside.core c.args.self.now c.self.inside.ty c.ty.result c.self.invariant c.self.view_is c.ty.ensures.value).has_type

pub returns-clause-values : goal.returns-clause-values
returns-clause-values c =
    values_have c.args.self.now c.ty.result (seen_as c.self.inside.core c.args.self.now c.self.inside.ty c.ty.result c.self.invariant c.self.view_is c.ty.ensures.value)
