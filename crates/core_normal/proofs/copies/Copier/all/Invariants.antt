use Rattle.std.proofs.Common.{◌≡◌, map, take}
use Rattle.core_meaning.specs.Erasure.{Texts, core_of}
use Rattle.core_normal.specs.Shift as shift
use Rattle.core_normal.proofs.copies.Copier.all.Given as goal

abbrev pub invariant-loop-core : goal.invariant-loop-core
invariant-loop-core g l = (t : Texts) → map (core_of t) l.copies ≡ map (λ x. shift.core l.self.moving.base l.self.moving.by (core_of t x)) (take l.core-index l.cores)
