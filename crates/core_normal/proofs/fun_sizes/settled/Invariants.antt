use Rattle.std.proofs.Common.{◌≡◌, length}
use Rattle.core_meaning.specs.Erasure.{Texts}
use Rattle.core_normal.specs.Settling.{IsSettled}
use Rattle.core_normal.proofs.fun_sizes.settled.Given as goal

abbrev pub invariant-loop-i : goal.invariant-loop-i
invariant-loop-i l = record {
  settled : (t : Texts) → IsSettled t l.declarations l.i l.table.items;
  count : length l.table.items ≡ length l.places.items;
}
