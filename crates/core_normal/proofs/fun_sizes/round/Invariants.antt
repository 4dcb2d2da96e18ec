use Rattle.std.proofs.Common.{take}
use Rattle.core_normal.specs.Measuring.{IsNext}
use Rattle.core_normal.proofs.fun_sizes.round.Given as goal

abbrev pub invariant-loop-declaration : goal.invariant-loop-declaration
invariant-loop-declaration l = IsNext l.table (take l.declaration-index l.declarations) l.next.items
