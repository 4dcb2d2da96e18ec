use Rattle.std.proofs.Common.{drop, false}
use Rattle.core_normal.specs.Contents.{core_at, normed_parts}
use Rattle.core_normal.specs.Making.{SoFar}
use Rattle.core_normal.proofs.ContentsMade.{parts_rest}
use Rattle.core_normal.proofs.maker.Maker.parts.Given as goal

abbrev pub invariant-loop-part : goal.invariant-loop-part
invariant-loop-part g l =
    SoFar l.self.bodies.now l.fn.state l.focus (normed_parts l.self.bodies.now l.offset l.parts false (λ t. core_at t l.fn.before)) (parts_rest l.self.bodies.now l.offset (l.left, l.behind) (drop l.part-index l.parts)) l.state
