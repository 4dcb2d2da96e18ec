use Rattle.std.proofs.Common.{◌≡◌, ◌++◌, drop, map}
use Rattle.plan_eval.specs.Turns.{events_in, turn_cell}
use Rattle.plan_eval.proofs.events.events.Given as goal

abbrev pub invariant-loop-turn : goal.invariant-loop-turn
invariant-loop-turn l = l.out.items ++ events_in (map turn_cell l.turns.items) l.turn (drop l.turn l.checks) ≡ events_in (map turn_cell l.turns.items) 0 l.checks
