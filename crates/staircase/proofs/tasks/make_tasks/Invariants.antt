use Rattle.std.proofs.Common.{◌≡◌, ◌++◌, drop}
use Rattle.staircase.specs.Made.{made}
use Rattle.staircase.proofs.tasks.make_tasks.Given as goal

abbrev pub invariant-loop-ctx : goal.invariant-loop-ctx
invariant-loop-ctx l = l.tasks.items ++ made l.axis l.counting l.seen (drop l.ctx-index l.context) ≡ l.initial.tasks.items ++ made l.axis l.counting l.seen l.context
