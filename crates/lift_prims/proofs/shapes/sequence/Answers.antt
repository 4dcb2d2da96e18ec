use Rattle.std.proofs.Common.{[], ◌∷◌}
use Rattle.lift_prims.proofs.Over.{form_ok}
use Rattle.lift_prims.proofs.ShapeForms.{sequence_made}
use Rattle.lift_prims.proofs.shapes.sequence.Goals as goal

pub returns : goal.returns
returns c = form_ok c.make.result c.args.plan.now c.make.new.plan (c.args.first ∷ c.args.second ∷ []) sequence_made (c.requires.first, (c.requires.second, tt)) c.sequence_form.ensures c.make.ensures
