use Rattle.std.proofs.Common.{◌≡◌, ◌++◌, string_bytes, slice_range}
use Rattle.doc_table.specs.Enc.{enc}
use Rattle.doc_table.specs.TextRows.{texts_of_rows}
use Rattle.doc_table.proofs.strings.push_texts.Given as goal

abbrev pub invariant-loop-pre : goal.invariant-loop-pre
invariant-loop-pre l = string_bytes l.out ++ texts_of_rows l.pool (slice_range (enc l.frag) l.pre l.end) ≡ string_bytes l.initial.out ++ texts_of_rows l.pool (slice_range (enc l.frag) l.first l.end)
