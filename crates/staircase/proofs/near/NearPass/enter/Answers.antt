use Rattle.doc_table.proofs.Marks.{bridge}
use Rattle.staircase.specs.Ahead.{rest_of}
use Rattle.staircase.proofs.NearLaws.{near-entered}
use Rattle.staircase.proofs.near.NearPass.enter.Goals as goal

pub returns-clause-knows : goal.returns-clause-knows
returns-clause-knows c = λ t l w r k.
    near-entered c.args.self.now.siblings t c.args.self.now.ahead.rows.now (rest_of c.args.self.now.ahead) c.pass-is_context.new.self.rows.now (rest_of c.pass-is_context.new.self) c.args.self.now.parents c.mark.new.parents c.push.new.self c.leave-self.new.parents c.args.self.now.at c.leave-self.result c.args.seen.pre c.args.seen.last c.pass-is_context.result c.first.result (bridge t) l w r.0 k
    c.pass-is_context.ensures.rows c.pass-is_context.ensures.found c.pass-is_context.ensures.rest c.in_ok-mark.ensures c.in_ok-push.ensures c.first.ensures c.leave-self.ensures.left c.leave-self.ensures.row
