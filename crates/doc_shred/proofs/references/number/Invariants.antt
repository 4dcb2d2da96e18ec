use Rattle.std.proofs.Common.{◌≡◌, min, take}
use Rattle.doc_shred.specs.Classes.{number}
use Rattle.doc_shred.specs.Views.{radix_of}
use Rattle.doc_shred.proofs.references.number.Given as goal

abbrev pub invariant-loop-byte : goal.invariant-loop-byte
invariant-loop-byte l = l.value ≡ min (number (radix_of l.hexadecimal) 0 (take l.byte-index l.digits)) 0x11_0000
