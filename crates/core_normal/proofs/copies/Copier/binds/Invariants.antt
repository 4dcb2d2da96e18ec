use Rattle.std.proofs.Common.{◌≡◌, map, take}
use Rattle.core_meaning.specs.Erasure.{Texts, plain_bind}
use Rattle.core_normal.specs.Copying.{bind_moved}
use Rattle.core_normal.proofs.copies.Copier.binds.Given as goal

abbrev pub invariant-loop-bind : goal.invariant-loop-bind
invariant-loop-bind g l = (t : Texts) → map (plain_bind t) l.copies ≡ map (λ x. bind_moved l.self.moving.base l.self.moving.by (plain_bind t x)) (take l.bind-index l.binds)
