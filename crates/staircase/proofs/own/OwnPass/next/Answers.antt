use Rattle.std.proofs.Common.{length}
use Rattle.doc_table.specs.Enc.{enc}
use Rattle.staircase.specs.Ahead.{rest_of}
use Rattle.staircase.proofs.RowsAhead.{own-next}
use Rattle.staircase.proofs.own.OwnPass.next.Goals as goal

pub returns-clause-next : goal.returns-clause-next
returns-clause-next c = λ t e k. own-next c.args.self.now.ahead.rows.now (rest_of c.args.self.now.ahead) c.args._from (length (enc t)) c.args._total e k c.first.result c.first.ensures
