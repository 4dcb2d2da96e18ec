use Rattle.std.proofs.Common.{drop}
use Rattle.core_normal.specs.Making.{SoFar, normed_all}
use Rattle.core_normal.specs.Trees.{syns}
use Rattle.core_normal.proofs.ListsMade.{all_rest}
use Rattle.core_normal.proofs.maker.Maker.all.Given as goal

abbrev pub invariant-loop-e : goal.invariant-loop-e
invariant-loop-e g l = SoFar l.self.bodies.now l.fn.state l.focus (normed_all l.self.bodies.now (λ t. syns t l.es)) (all_rest l.self.bodies.now l.made (drop l.e-index l.es)) l.state
