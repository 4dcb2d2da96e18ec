use Rattle.std.proofs.Common.{◌≡◌, ◌++◌, drop}
use Rattle.staircase.specs.Chains.{all_starts}
use Rattle.staircase.proofs.chains.make_starts.Given as goal

abbrev pub invariant-loop-ctx : goal.invariant-loop-ctx
invariant-loop-ctx l = l.starts.items ++ all_starts l.axis l.counting l.seen l.rows l.links (drop l.ctx-index l.context) ≡ l.initial.starts.items ++ all_starts l.axis l.counting l.seen l.rows l.links l.context
