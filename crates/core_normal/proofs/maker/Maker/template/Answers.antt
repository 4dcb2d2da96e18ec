use Rattle.std.proofs.Common.{refl}
use Rattle.core_normal.proofs.BodiesMade.{template_made}
use Rattle.core_normal.proofs.maker.Maker.template.Goals as goal

pub returns-clause-made : goal.returns-clause-made
returns-clause-made g c = template_made _ _ _ _ _ _ _ _ _ _ refl refl c.new-vars.ensures.items c.in_ok-body.ensures refl c.in_ok-types.ensures c.maybe_type.ensures

pub returns-clause-same : goal.returns-clause-same
returns-clause-same g c = c.in_ok-body.ensures.same
