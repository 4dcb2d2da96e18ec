use Rattle.std.proofs.Common.{[], ◌∷◌}
use Rattle.lift_prims.proofs.Over.{form_ok}
use Rattle.lift_prims.proofs.ShapeForms.{turn_map_made}
use Rattle.lift_prims.proofs.shapes.turn_map.Goals as goal

pub returns : goal.returns
returns c = form_ok c.make.result c.args.plan.now c.make.new.plan (c.args.seq ∷ []) turn_map_made (c.requires, tt) c.turn_map_form.ensures c.make.ensures
