use Rattle.std.proofs.Common.{[]}
use Rattle.lift_prims.proofs.StageLaws.{checked_by}
use Rattle.lift_prims.proofs.Over.{shaped_stays}
use Rattle.lift_prims.proofs.stage.check_named.Goals as goal

pub less-requires-2-clause-looped : goal.less-requires-2-clause-looped
less-requires-2-clause-looped c = shaped_stays c.args.plan.now c.less.new.plan (c.in_ok-rest.ensures.makes [] []).grows c.requires.looped

pub returns : goal.returns
returns c =
    checked_by c.args.plan.now c.less.new.plan c.less-2.new.plan c.check.new.self c.args.looped c.args.marked c.in_ok-rest.rest c.in_ok-named.named c.args.code c.args.offset c.requires.looped c.requires.marked c.in_ok-rest.ensures c.in_ok-named.ensures
    c.in_ok-check.ensures.ok
