use Rattle.std.proofs.Common.{◌≡◌, drop}
use Rattle.doc_shred.specs.Rules.{holds}
use Rattle.doc_shred.proofs.markup.has_word.Given as goal

abbrev pub invariant-loop-at : goal.invariant-loop-at
invariant-loop-at l = holds l.word (drop l.at l.bytes) ≡ holds l.word l.bytes
