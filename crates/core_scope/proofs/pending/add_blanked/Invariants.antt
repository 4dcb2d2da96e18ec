use Rattle.std.proofs.Common.{◌≡◌, ◌++◌, drop, map}
use Rattle.core_scope.specs.Literals.{blank_for}
use Rattle.core_scope.proofs.pending.add_blanked.Given as goal

abbrev pub invariant-loop-byte : goal.invariant-loop-byte
invariant-loop-byte l = l.text.items ++ map blank_for (drop l.byte-index l.bytes) ≡ l.fn.text.items ++ map blank_for l.bytes
