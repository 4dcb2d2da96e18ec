use Rattle.std.proofs.Common.{◌+◌, ◌-◌, length}
use Rattle.doc_shred.proofs.Contents.{IsWalking}
use Rattle.doc_shred.proofs.pieces.content.Given as goal

abbrev pub invariant-loop-turn : goal.invariant-loop-turn
invariant-loop-turn l = IsWalking l.fn.pool l.pool l.fn.names l.names l.fn.builder l.builder (length l.bytes + 1 - l._turn) l.bytes l.rest
