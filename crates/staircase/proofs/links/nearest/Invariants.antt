use Rattle.std.proofs.Common.{◌≡◌, ℕ, ◌<◌, length, false}
use Rattle.staircase.specs.Chains.{ends_at, row_at, Below, Past, up_to}
use Rattle.staircase.proofs.links.nearest.Given as goal

abbrev pub invariant-loop-place : goal.invariant-loop-place
invariant-loop-place l = record {
  within : Below l.place (length l.links);
  past : (i : ℕ) → Past l.place i → i < length l.links → ends_at l.axis (row_at l.rows i) l.from ≡ false;
}

abbrev pub decreases-loop-place : goal.decreases-loop-place
decreases-loop-place l = up_to l.place
