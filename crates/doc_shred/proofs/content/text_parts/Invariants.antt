use Rattle.std.proofs.Common.{◌+◌, ◌-◌, length, string_bytes}
use Rattle.doc_shred.specs.Reading as r
use Rattle.doc_shred.proofs.Gathering.{Gathers}
use Rattle.doc_shred.proofs.content.text_parts.Given as goal

abbrev pub invariant-loop-turn : goal.invariant-loop-turn
invariant-loop-turn l = Gathers r.text_from (string_bytes l.text) (length l.bytes + 1 - l._turn) l.rest (length l.bytes + 1) l.bytes
