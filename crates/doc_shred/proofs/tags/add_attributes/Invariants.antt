use Rattle.std.proofs.Common.{◌≡◌, ◌+◌, ◌-◌, length}
use Rattle.doc_shred.specs.Standing.{IsLater, name_numbers}
use Rattle.doc_shred.proofs.AttributeLaws.{IsSoFar}
use Rattle.doc_shred.proofs.tags.add_attributes.Given as goal

abbrev pub invariant-loop-turn : goal.invariant-loop-turn
invariant-loop-turn l = IsLater l.fn.pool l.pool × IsSoFar l.pool l.fn.builder l.builder (length l.bytes + 1 - l._turn) l.rest l.bytes × (l.names ≡ name_numbers l.builder.nodes)
