use Rattle.std.proofs.Common.{◌≡◌, ◌++◌, drop}
use Rattle.core_normal.specs.Measuring as m
use Rattle.core_normal.proofs.fun_sizes.typed.Given as goal

abbrev pub invariant-loop-param : goal.invariant-loop-param
invariant-loop-param l = l.typed.items ++ m.typed (drop l.param-index l.params) ≡ m.typed l.params
