use Rattle.std.proofs.Common.{[], ◌∷◌}
use Rattle.lift_prims.proofs.Over.{form_ok}
use Rattle.lift_prims.proofs.ShapeForms.{restrict_made}
use Rattle.lift_prims.proofs.shapes.into_branch.Goals as goal

pub returns : goal.returns
returns c = form_ok c.make.result c.args.plan.now c.make.new.plan (c.args.looped ∷ c.args.var ∷ []) restrict_made (c.requires.looped, (c.requires.var, tt)) c.restrict_form.ensures c.make.ensures
