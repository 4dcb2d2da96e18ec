use Rattle.std.proofs.Common.{[], ◌∷◌}
use Rattle.lift_prims.proofs.Over.{form_ok}
use Rattle.lift_prims.proofs.ShapeForms.{inner_made}
use Rattle.lift_prims.proofs.shapes.inner_loop.Goals as goal

pub returns : goal.returns
returns c = form_ok c.make.result c.args.plan.now c.make.new.plan (c.args.map ∷ []) inner_made (c.requires, tt) c.inner_form.ensures c.make.ensures
