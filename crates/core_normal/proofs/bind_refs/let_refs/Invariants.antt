use Rattle.std.proofs.Common.{◌≡◌, drop}
use Rattle.core_meaning.specs.Erasure.{Texts}
use Rattle.core_scope.specs.Syn.{Binds, resolved}
use Rattle.core_normal.specs.Binding.{binds_in}
use Rattle.core_normal.specs.Trees as trees
use Rattle.core_normal.proofs.bind_refs.let_refs.Given as goal

abbrev pub invariant-loop-bind : goal.invariant-loop-bind
invariant-loop-bind l = (t : Texts) (rest : Binds resolved) → binds_in t l.out.items (trees.let_binds t (drop l.bind-index l.binds) rest) ≡ binds_in t l.fn.out.items (trees.let_binds t l.binds rest)
