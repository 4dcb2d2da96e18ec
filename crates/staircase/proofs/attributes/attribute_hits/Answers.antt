use Rattle.staircase.proofs.PartLaws.{in-at}
use Rattle.staircase.proofs.attributes.attribute_hits.Goals as goal

pub push_attributes-requires-clause-node : goal.push_attributes-requires-clause-node
push_attributes-requires-clause-node g c = c.requires.nodes _ (in-at c.args.context.now c.loop-ctx.ctx-index _ c.loop-ctx-test.true)
