use Rattle.std.proofs.Common.{◌-◌, length}
use Rattle.doc_table.specs.Enc.{enc}
use Rattle.staircase.proofs.ReadLaws.{ReadTo}
use Rattle.staircase.proofs.read.read_rows.Given as goal

abbrev pub invariant-loop-seen : goal.invariant-loop-seen
invariant-loop-seen g l = ReadTo (g.R.Rows.tree l.rows) l.frag l.site l.axis l.test (g.P.Pass.wants l.initial.pass (g.R.Rows.tree l.rows)) (g.P.Pass.wants l.pass (g.R.Rows.tree l.rows)) (g.P.Pass.knows l.pass (g.R.Rows.tree l.rows)) l.from l.seen.items l.initial.reads l.reads

abbrev pub decreases-loop-seen : goal.decreases-loop-seen
decreases-loop-seen g l = length (enc (g.R.Rows.tree l.rows)) - l.from
