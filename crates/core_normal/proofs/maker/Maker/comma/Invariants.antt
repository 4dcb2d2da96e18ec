use Rattle.std.proofs.Common.{drop}
use Rattle.core_scope.specs.Leaves.{syn_resolved}
use Rattle.core_scope.specs.Syn as s
use Rattle.core_normal.specs.Making.{SoFar, normed}
use Rattle.core_normal.specs.Trees.{syns}
use Rattle.core_normal.proofs.ListsMade.{comma_rest}
use Rattle.core_normal.proofs.maker.Maker.comma.Given as goal

abbrev pub invariant-loop-e : goal.invariant-loop-e
invariant-loop-e g l =
    SoFar l.self.bodies.now l.fn.state l.focus (normed l.self.bodies.now (λ t. s.comma l.offset (syn_resolved t l.first) (syns t l.more)))
    (comma_rest l.self.bodies.now l.offset l.left (drop l.e-index l.more)) l.state
