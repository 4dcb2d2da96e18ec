use Rattle.std.proofs.Common.{◌≡◌, ◌<◌, ℕ, take, length, nat_eq}
use Rattle.std.specs.Prelude.{slice_index}
use Rattle.std.specs.List.{filter}
use Rattle.table_ops.proofs.grouping.tally.Given as goal

abbrev pub invariant-loop-place : goal.invariant-loop-place
invariant-loop-place l = (length l.counts.items ≡ l.groups) × ((k : ℕ) → k < l.groups → slice_index l.counts.items k ≡ length (filter (nat_eq k) (take l.place l.keys)))
