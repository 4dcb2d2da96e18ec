use Rattle.std.proofs.Common.{drop}
use Rattle.core_meaning.specs.Erasure.{core_of}
use Rattle.core_normal.specs.Making.{SoFar, normed_behind}
use Rattle.core_normal.proofs.StepsMade.{behind_rest}
use Rattle.core_normal.proofs.maker.Maker.next_steps.Given as goal

abbrev pub invariant-loop-next : goal.invariant-loop-next
invariant-loop-next g l =
    SoFar l.self.bodies.now l.fn.state l.focus (normed_behind l.self.bodies.now l.behind (λ t. core_of t l.fn.first))
    (behind_rest l.self.bodies.now l.left (drop l.next-index l.behind)) l.state
