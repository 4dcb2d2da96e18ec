use Rattle.std.proofs.Common.{◌≡◌, ◌≤◌, ◌+◌, drop}
use Rattle.core_normal.specs.Measuring as m
use Rattle.core_normal.proofs.fun_sizes.how_many.Given as goal

abbrev pub invariant-loop-declaration : goal.invariant-loop-declaration
invariant-loop-declaration l = (l.found + m.how_many (drop l.declaration-index l.declarations) ≡ m.how_many l.declarations) × (l.found ≤ l.declaration-index)
