use Rattle.std.proofs.Common.{rules}
use Rattle.doc_table.specs.Enc.{enc}
use Rattle.staircase.specs.Ahead.{rest_of}
use Rattle.staircase.proofs.PassLaws.{after-next}
use Rattle.staircase.proofs.after.AfterPass.next.Goals as goal

pub returns-then-at-total-clause-next : goal.returns-then-at-total-clause-next
returns-then-at-total-clause-next c = λ t e k.
    (after-next (enc t) c.args.self.now.ahead.rows.now (rest_of c.args.self.now.ahead) c.args.self.now.owners.rows.now (rest_of c.args.self.now.owners) c.args.self.now.beyond c.args.from c.args.total e k c.earlier-at.result (search rules)).0 c.if-at-total.true

pub returns-else-at-total-clause-next : goal.returns-else-at-total-clause-next
returns-else-at-total-clause-next c = λ t e k.
    (after-next (enc t) c.args.self.now.ahead.rows.now (rest_of c.args.self.now.ahead) c.args.self.now.owners.rows.now (rest_of c.args.self.now.owners) c.args.self.now.beyond c.args.from c.args.total e k c.earlier-at.result (search rules)).1 c.if-at-total.false
