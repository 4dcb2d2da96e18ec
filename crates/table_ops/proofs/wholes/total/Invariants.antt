use Rattle.std.proofs.Common.{◌≡◌, ◌*◌, List, ℤ, pos, ◌+ℤ◌, neg_ℤ, ◌≤ℤ◌, drop}
use Rattle.xq_base.specs.Answers.{with_value}
use Rattle.xq_base.specs.Texts.{Text}
use Rattle.table_ops.specs.Wholes.{atoms_in, total_of}
use Rattle.table_ops.proofs.wholes.total.Given as goal

abbrev pub invariant-loop-place : goal.invariant-loop-place
invariant-loop-place l =
    ((texts : List Text) → with_value (λ r. l.total +ℤ r) (total_of (atoms_in texts (drop l.place l.atoms))) ≡ total_of (atoms_in texts l.atoms))
    × (neg_ℤ (pos (9223372036854775808 * l.place)) ≤ℤ l.total) × (l.total ≤ℤ pos (9223372036854775808 * l.place))
