use Rattle.std.proofs.Common.{◌≡◌, length}
use Rattle.core_normal.specs.Settling.{AreUnknown}
use Rattle.core_normal.proofs.fun_sizes.all_unknown.Given as goal

abbrev pub invariant-loop-k : goal.invariant-loop-k
invariant-loop-k l = record {
  unknown : AreUnknown l.table.items;
  count : length l.table.items ≡ l._k;
}
