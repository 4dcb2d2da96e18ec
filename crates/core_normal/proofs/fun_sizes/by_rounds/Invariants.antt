use Rattle.std.proofs.Common.{false}
use Rattle.core_meaning.specs.Erasure.{Texts}
use Rattle.core_normal.specs.Ends.{Known}
use Rattle.core_normal.specs.Measuring.{declarations}
use Rattle.core_normal.specs.Query.{functions}
use Rattle.core_normal.specs.SizedQuery.{sizes_within}
use Rattle.core_normal.proofs.fun_sizes.by_rounds.Given as goal

abbrev pub invariant-loop-turn : goal.invariant-loop-turn
invariant-loop-turn l = (t : Texts) → Known false l.table.items (sizes_within l._turn (functions (declarations t l.declarations)))
