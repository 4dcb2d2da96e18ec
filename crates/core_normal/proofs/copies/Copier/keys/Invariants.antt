use Rattle.std.proofs.Common.{◌≡◌, map, take}
use Rattle.core_meaning.specs.Erasure.{Texts, plain_key}
use Rattle.core_normal.specs.Copying.{key_moved}
use Rattle.core_normal.proofs.copies.Copier.keys.Given as goal

abbrev pub invariant-loop-key : goal.invariant-loop-key
invariant-loop-key g l = (t : Texts) → map (plain_key t) l.copies ≡ map (λ x. key_moved l.self.moving.base l.self.moving.by (plain_key t x)) (take l.key-index l.keys)
