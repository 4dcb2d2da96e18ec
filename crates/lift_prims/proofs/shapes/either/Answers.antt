use Rattle.std.proofs.Common.{[], ◌∷◌}
use Rattle.lift_prims.proofs.Over.{form_ok}
use Rattle.lift_prims.proofs.ShapeForms.{either_made}
use Rattle.lift_prims.proofs.shapes.either.Goals as goal

pub returns : goal.returns
returns c = form_ok c.make.result c.args.plan.now c.make.new.plan (c.args.first ∷ c.args.second ∷ []) either_made (c.requires.first, (c.requires.second, tt)) c.either_form.ensures c.make.ensures
