use Rattle.std.proofs.Common.{[], ◌∷◌}
use Rattle.lift_prims.proofs.Over.{form_ok}
use Rattle.lift_prims.proofs.ShapeForms.{literal_made}
use Rattle.lift_prims.proofs.shapes.literal.Goals as goal

pub returns : goal.returns
returns c = form_ok c.make.result c.args.plan.now c.make.new.plan (c.args.looped ∷ []) (literal_made c.args.value) (c.requires, tt) c.literal_form.ensures c.make.ensures
