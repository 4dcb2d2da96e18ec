use Rattle.std.proofs.Common.{◌≡◌, ◌<◌, ℕ, true}
use Rattle.std.specs.Prelude.{slice_index_or}
use Rattle.core_normal.specs.Templating.{held_in}
use Rattle.core_normal.proofs.templates.all_made.Given as goal

abbrev pub invariant-loop-k : goal.invariant-loop-k
invariant-loop-k l = (i : ℕ) → i < l.k-index → held_in l.bodies (slice_index_or l.ks i 0) ≡ true
