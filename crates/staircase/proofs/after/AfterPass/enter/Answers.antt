use Rattle.std.proofs.Common.{◌∙◌, ◌+◌, ap}
use Rattle.doc_table.specs.Enc.{enc}
use Rattle.staircase.specs.Ahead.{rest_of, is_first}
use Rattle.staircase.specs.Passes.{nearer}
use Rattle.staircase.proofs.PassLaws.{after-enter, follows-as}
use Rattle.staircase.proofs.after.AfterPass.enter.Goals as goal

pub returns-clause-knows : goal.returns-clause-knows
returns-clause-knows c = λ t l w r k.
    follows-as (enc t) _ _ _ _ _ _ _ _ _ _ (c.args.seen.pre + 1) c.pass-is_row.ensures.rows c.pass-is_row.ensures.rest c.pass-is_owner.ensures.rows c.pass-is_owner.ensures.rest
    (c.nearer-self.ensures ∙ ap (λ z. nearer c.args.self.now.beyond z c.pass-is_owner.result c.args.seen.pre c.args.seen.last) c.pass-is_row.ensures.found ∙ ap (λ z. nearer c.args.self.now.beyond (is_first c.args.seen.pre (rest_of c.args.self.now.ahead)) z c.args.seen.pre c.args.seen.last) c.pass-is_owner.ensures.found)
    (after-enter (enc t) c.args.self.now.ahead.rows.now (rest_of c.args.self.now.ahead) c.args.self.now.owners.rows.now (rest_of c.args.self.now.owners) c.args.self.now.beyond c.args.seen.pre c.args.seen.last k r.0)
