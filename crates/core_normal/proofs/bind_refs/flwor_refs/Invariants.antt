use Rattle.std.proofs.Common.{◌≡◌, drop}
use Rattle.core_meaning.specs.Erasure.{Texts}
use Rattle.core_normal.specs.Binding.{binds_in}
use Rattle.core_normal.specs.Trees as trees
use Rattle.core_normal.proofs.bind_refs.flwor_refs.Given as goal

abbrev pub invariant-loop-clause : goal.invariant-loop-clause
invariant-loop-clause l = (t : Texts) → binds_in t l.out.items (trees.clauses t (drop l.clause-index l.clauses)) ≡ trees.clauses t l.clauses
