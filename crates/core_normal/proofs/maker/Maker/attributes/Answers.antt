use Rattle.std.proofs.Common.{◌≤◌, length, arith}
use Rattle.core_normal.proofs.ContentsMade.{attributes_start, attributes_turn, attributes_end}
use Rattle.core_normal.proofs.maker.Maker.attributes.Goals as goal

pub loop-attribute-init : goal.loop-attribute-init
loop-attribute-init g c = attributes_start _ _ _

pub loop-attribute-preserved : goal.loop-attribute-preserved
loop-attribute-preserved g c = attributes_turn _ _ _ _ _ c.attribute-item.result _ _ c.loop-attribute-test.true c.attribute-item.is c.loop-attribute.invariant c.in_ok-core.ensures

pub returns : goal.returns
returns g c =
    let done : length c.args.attributes.now ≤ c.loop-attribute.attribute-index = omega arith in
    attributes_end _ _ _ _ _ _ done c.loop-attribute.invariant
