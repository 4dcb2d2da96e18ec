use Rattle.std.proofs.Common.{◌+◌, ◌-◌, length}
use Rattle.doc_shred.proofs.MiscLaws.{IsAmong}
use Rattle.doc_shred.proofs.document.miscs.Given as goal

abbrev pub invariant-loop-turn : goal.invariant-loop-turn
invariant-loop-turn l = IsAmong l.fn.pool l.pool l.fn.builder l.builder (length l.bytes + 1 - l._turn) l.bytes l.rest
