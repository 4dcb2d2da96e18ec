use Rattle.std.proofs.Common.{◌+◌, ◌-◌, length, string_bytes}
use Rattle.doc_shred.specs.Reading as r
use Rattle.doc_shred.proofs.Gathering.{Gathers}
use Rattle.doc_shred.proofs.values.value_parts.Given as goal

abbrev pub invariant-loop-turn : goal.invariant-loop-turn
invariant-loop-turn l = Gathers (r.value_from l.quote) (string_bytes l.value) (length l.bytes + 1 - l._turn) l.rest (length l.bytes + 1) l.bytes
