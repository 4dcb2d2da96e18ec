use Rattle.std.proofs.Common.{[], ◌∷◌}
use Rattle.lift_prims.proofs.Over.{form_ok}
use Rattle.lift_prims.proofs.ShapeForms.{back_made}
use Rattle.lift_prims.proofs.shapes.back.Goals as goal

pub returns : goal.returns
returns c = form_ok c.make.result c.args.plan.now c.make.new.plan (c.args.map ∷ c.args.body ∷ []) back_made (c.requires.map, (c.requires.body, tt)) c.back_form.ensures c.make.ensures
