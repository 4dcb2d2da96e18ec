use Rattle.std.proofs.Common.{◌≡◌, ◌-◌, length, map, replicate, false, [], None}
use Rattle.core_scope.specs.Soon as spec
use Rattle.core_scope.proofs.soon.soon.Given as goal

abbrev pub invariant-loop-turn : goal.invariant-loop-turn
invariant-loop-turn l =
    spec.soon l.callers l.referrers (map (λ v. v.items) l.values) (length l.values - l.turn) l.search l.first
    ≡ spec.soon l.callers l.referrers (map (λ v. v.items) l.values) (length l.values) (record { marked = replicate l.nodes false; todo = [] }) None
