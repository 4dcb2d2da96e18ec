use Rattle.std.proofs.Common.{◌≡◌, map, take}
use Rattle.plan_eval.specs.Turns.{turn_cell}
use Rattle.plan_eval.proofs.events.index_turns.Given as goal

abbrev pub invariant-loop-turn : goal.invariant-loop-turn
invariant-loop-turn l = l.cells.items ≡ map turn_cell (take l.turn-index l.turns)
