use Rattle.std.proofs.Common.{[], ◌∷◌}
use Rattle.lift_prims.proofs.Over.{form_ok}
use Rattle.lift_prims.proofs.ShapeForms.{item_var_made}
use Rattle.lift_prims.proofs.shapes.item_var.Goals as goal

pub returns : goal.returns
returns c = form_ok c.make.result c.args.plan.now c.make.new.plan (c.args.map ∷ []) item_var_made (c.requires, tt) c.each_form.ensures c.make.ensures
