use Rattle.std.proofs.Common.{drop}
use Rattle.core_meaning.specs.Erasure.{core_of}
use Rattle.core_normal.specs.Making.{SoFar, normed_predicates}
use Rattle.core_normal.specs.Trees.{syns}
use Rattle.core_normal.proofs.StepsMade.{predicates_rest}
use Rattle.core_normal.proofs.maker.Maker.predicates.Given as goal

abbrev pub invariant-loop-condition : goal.invariant-loop-condition
invariant-loop-condition g l =
    SoFar l.self.bodies.now l.fn.state l.focus (normed_predicates l.self.bodies.now (λ t. syns t l.conditions) l.offset (λ t. core_of t l.fn.e))
    (predicates_rest l.self.bodies.now l.offset l.left (drop l.condition-index l.conditions)) l.state
