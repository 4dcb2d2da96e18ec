use Rattle.std.proofs.Common.{arith, ◌≤◌}
use Rattle.doc_table.specs.Enc.{enc}
use Rattle.staircase.specs.Ahead.{rest_of}
use Rattle.staircase.proofs.PassLaws.{down-first}
use Rattle.staircase.proofs.down.DownPass.next.Goals as goal

pub returns-clause-next : goal.returns-clause-next
returns-clause-next c = λ t e k.
    let past : c.args.self.now.reach ≤ c.args.from = omega arith in
    down-first (enc t) c.args.self.now.ahead.rows.now (rest_of c.args.self.now.ahead) c.args.self.now.reach c.args.from c.args._total e k past c.first.result c.first.ensures
