use Rattle.std.proofs.Common.{◌≡◌, replicate}
use Rattle.core_normal.specs.declared.order.Mark.TheVariants as mark_
use Rattle.core_normal.proofs.order.all_new.Given as goal

abbrev pub invariant-loop-k : goal.invariant-loop-k
invariant-loop-k l = l.marks.items ≡ replicate l._k mark_.New
