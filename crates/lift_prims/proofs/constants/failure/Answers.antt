use Rattle.std.proofs.Common.{[]}
use Rattle.lift_prims.proofs.Over.{shaped_stays}
use Rattle.lift_prims.proofs.CountLaws.{failure_ok}
use Rattle.lift_prims.proofs.constants.failure.Goals as goal

pub returns : goal.returns
returns c = failure_ok c.args.looped c.in_ok-out.out c.args.code c.args.offset c.requires.dynamic c.requires.looped c.empty_form.ensures c.in_ok-out.ensures c.in_ok-check.ensures.ok

pub check-requires : goal.check-requires
check-requires c = (shaped_stays c.args.plan.now c.make.new.plan (c.in_ok-out.ensures [] []).grows c.requires.looped).0
