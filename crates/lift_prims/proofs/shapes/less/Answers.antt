use Rattle.std.proofs.Common.{[], ◌∷◌}
use Rattle.lift_prims.proofs.Over.{form_ok}
use Rattle.lift_prims.proofs.ShapeForms.{less_made}
use Rattle.lift_prims.proofs.shapes.less.Goals as goal

pub returns : goal.returns
returns c = form_ok c.make.result c.args.plan.now c.make.new.plan (c.args.looped ∷ c.args.marked ∷ []) less_made (c.requires.looped, (c.requires.marked, tt)) c.less_form.ensures c.make.ensures
