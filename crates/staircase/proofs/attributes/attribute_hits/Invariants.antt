use Rattle.std.proofs.Common.{◌≡◌, ◌++◌, drop}
use Rattle.staircase.specs.Attributes.{attribute_parts}
use Rattle.staircase.proofs.attributes.attribute_hits.Given as goal

abbrev pub invariant-loop-ctx : goal.invariant-loop-ctx
invariant-loop-ctx g l = l.hits.items ++ attribute_parts l.axis l.test (g.R.Rows.tree l.rows) l.seen (drop l.ctx-index l.context) ≡ l.initial.hits.items ++ attribute_parts l.axis l.test (g.R.Rows.tree l.rows) l.seen l.context
