use Rattle.std.proofs.Common.{◌∙◌, ap}
use Rattle.doc_table.proofs.Marks.{bridge}
use Rattle.staircase.specs.Ahead.{rest_of}
use Rattle.staircase.specs.Near.{next_near}
use Rattle.staircase.proofs.NearLaws.{near-next}
use Rattle.staircase.proofs.near.NearPass.next.Goals as goal

pub returns-clause-next : goal.returns-clause-next
returns-clause-next c = λ t e k.
    near-next c.args.self.now.siblings t c.args.self.now.ahead.rows.now (rest_of c.args.self.now.ahead) c.args.self.now.parents c.args.self.now.at c.args._from c.args._total (bridge t) e k c.next_near.result (c.next_near.ensures ∙ ap (next_near c.args.self.now.parents c.args.self.now.at) c.first.ensures)
