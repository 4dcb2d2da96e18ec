use Rattle.std.proofs.Common.{◌≡◌, drop}
use Rattle.core_normal.specs.Order.{variable_calls}
use Rattle.core_normal.proofs.order.variable_calls.Given as goal

abbrev pub invariant-loop-declaration : goal.invariant-loop-declaration
invariant-loop-declaration l = variable_calls l.declarations l.initial.found.items ≡ variable_calls (drop l.declaration-index l.declarations) l.found.items
