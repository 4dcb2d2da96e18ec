use Rattle.std.proofs.Common.{◌≡◌, ◌≤◌, ◌<◌, ◌+◌, ℕ, length, get_or, drop}
use Rattle.plan_eval.specs.Turns.{first_turn, targets_of}
use Rattle.plan_eval.proofs.turns.first_turns.Given as goal

abbrev pub invariant-loop-turn : goal.invariant-loop-turn
invariant-loop-turn l =
    (l.turn ≤ length l.checks)
    × (length l.turns.items ≡ length l.plan.ops)
    × ((k : ℕ) → k < length l.plan.ops → get_or l.turns.items k 0 ≡ l.turn + first_turn k (drop l.turn (targets_of l.checks l.plan.root)))

abbrev pub decreases-loop-turn : goal.decreases-loop-turn
decreases-loop-turn l = l.turn
