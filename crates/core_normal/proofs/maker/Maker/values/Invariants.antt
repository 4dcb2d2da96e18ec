use Rattle.std.proofs.Common.{drop}
use Rattle.core_normal.specs.Contents.{normed_values}
use Rattle.core_normal.specs.Making.{SoFar}
use Rattle.core_normal.specs.Trees as trees
use Rattle.core_normal.proofs.ContentsMade.{values_rest}
use Rattle.core_normal.proofs.maker.Maker.values.Given as goal

abbrev pub invariant-loop-part : goal.invariant-loop-part
invariant-loop-part g l =
    SoFar l.self.bodies.now l.fn.state l.focus (normed_values l.self.bodies.now (λ t. trees.values t l.parts) l.offset) (values_rest l.self.bodies.now l.offset l.made (drop l.part-index l.parts)) l.state
