use Rattle.std.proofs.Common.{◌≡◌, ℕ, false}
use Rattle.std.specs.Prelude.{slice_get}
use Rattle.core_normal.specs.Templating.{is_held}
use Rattle.core_normal.proofs.templates.none_made.Given as goal

abbrev pub invariant-loop-k : goal.invariant-loop-k
invariant-loop-k l = (k : ℕ) → is_held (slice_get l.templates.items k) ≡ false
