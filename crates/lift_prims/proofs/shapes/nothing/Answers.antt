use Rattle.std.proofs.Common.{[]}
use Rattle.lift_prims.proofs.Over.{form_ok}
use Rattle.lift_prims.proofs.ShapeForms.{nothing_made}
use Rattle.lift_prims.proofs.shapes.nothing.Goals as goal

pub returns : goal.returns
returns c = form_ok c.make.result c.args.plan.now c.make.new.plan ([]) nothing_made tt c.nothing_form.ensures c.make.ensures
