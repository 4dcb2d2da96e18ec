use Rattle.std.proofs.Common.{◌≡◌, min, take}
use Rattle.xq_ast.specs.Values.{number}
use Rattle.xq_lexer.specs.Radix.{radix_of}
use Rattle.xq_lexer.proofs.references.number.Given as goal

abbrev pub invariant-loop-byte : goal.invariant-loop-byte
invariant-loop-byte l = l.value ≡ min (number (radix_of l.hexadecimal) 0 (take l.byte-index l.digits)) 0x11_0000
