use Rattle.std.proofs.Common.{[], ◌∷◌}
use Rattle.lift_prims.proofs.Over.{form_ok}
use Rattle.lift_prims.proofs.ShapeForms.{into_made}
use Rattle.lift_prims.proofs.shapes.into_loop.Goals as goal

pub returns : goal.returns
returns c = form_ok c.make.result c.args.plan.now c.make.new.plan (c.args.map ∷ c.args.var ∷ []) into_made (c.requires.map, (c.requires.var, tt)) c.into_form.ensures c.make.ensures
