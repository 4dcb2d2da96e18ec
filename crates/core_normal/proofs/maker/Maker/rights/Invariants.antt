use Rattle.std.proofs.Common.{drop}
use Rattle.core_meaning.specs.Erasure.{core_of}
use Rattle.core_normal.specs.Making.{SoFar, normed_rights}
use Rattle.core_normal.proofs.ListsMade.{rights_rest}
use Rattle.core_normal.proofs.maker.Maker.rights.Given as goal

abbrev pub invariant-loop-right : goal.invariant-loop-right
invariant-loop-right g l =
    SoFar l.self.bodies.now l.fn.state l.focus (normed_rights l.self.bodies.now l.offset l.rights l.at (λ t. core_of t l.fn.first))
    (rights_rest l.self.bodies.now l.offset (l.left, l.left_place) (drop l.right-index l.rights)) l.state
