use Rattle.std.proofs.Common.{◌≡◌, ◌++◌, ◌-◌, ℕ, List, length}
use Rattle.table_ops.specs.Chains.{Linked}
use Rattle.table_ops.proofs.chains.walk.Given as goal

abbrev pub invariant-loop-at : goal.invariant-loop-at
invariant-loop-at l = (ps qs : List ℕ) → Linked l.next l.at ps → Linked l.next l.from qs → l.out.items ++ ps ≡ l.initial.out.items ++ qs

abbrev pub decreases-loop-at : goal.decreases-loop-at
decreases-loop-at l = length l.next - l.at
