use Rattle.std.proofs.Common.{drop, None}
use Rattle.core_normal.specs.Contents.{normed_attributes}
use Rattle.core_normal.specs.Making.{SoFar}
use Rattle.core_normal.proofs.ContentsMade.{attributes_rest}
use Rattle.core_normal.proofs.maker.Maker.attributes.Given as goal

abbrev pub invariant-loop-attribute : goal.invariant-loop-attribute
invariant-loop-attribute g l =
    SoFar l.self.bodies.now l.fn.state l.focus (normed_attributes l.self.bodies.now l.offset l.attributes (λ t. None)) (attributes_rest l.self.bodies.now l.offset l.before (drop l.attribute-index l.attributes)) l.state
