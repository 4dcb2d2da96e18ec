use Rattle.std.proofs.Common.{[], ◌∙◌}
use Rattle.lift_prims.proofs.Making.{in_ops, form_cols_are}
use Rattle.lift_prims.proofs.Over.{shaped_stays}
use Rattle.lift_prims.proofs.stage.check_form.Goals as goal

pub check_named-requires-clause-looped : goal.check_named-requires-clause-looped
check_named-requires-clause-looped c = shaped_stays c.args.plan.now c.make.new.plan (c.in_ok-marked.ensures [] []).grows c.requires.looped

pub check_named-requires-clause-marked : goal.check_named-requires-clause-marked
check_named-requires-clause-marked c = (in_ops [] [] c.make.new.plan c.in_ok-marked.marked (c.in_ok-marked.ensures [] []).is_in, form_cols_are c.args.plan.now c.make.new.plan (c.in_ok-marked.ensures [] []) ∙ c.requires.columns)
