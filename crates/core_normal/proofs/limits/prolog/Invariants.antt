use Rattle.std.proofs.Common.{◌≡◌, drop}
use Rattle.core_normal.specs.Counting as z
use Rattle.core_normal.specs.Measuring as m
use Rattle.core_normal.proofs.limits.prolog.Given as goal

abbrev pub invariant-loop-declaration : goal.invariant-loop-declaration
invariant-loop-declaration l = m.prolog l.table z.bare l.declarations ≡ m.prolog l.table l.found (drop l.declaration-index l.declarations)
