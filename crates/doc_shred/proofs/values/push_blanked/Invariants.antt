use Rattle.std.proofs.Common.{◌≡◌, ◌++◌, map, string_bytes}
use Rattle.std.specs.Str.{encode_utf8_all}
use Rattle.doc_shred.specs.Classes.{to_blank}
use Rattle.doc_shred.proofs.values.push_blanked.Given as goal

abbrev pub invariant-loop-c : goal.invariant-loop-c
invariant-loop-c l = string_bytes l.value ≡ string_bytes l.fn.value ++ encode_utf8_all (map to_blank l.yielded)
