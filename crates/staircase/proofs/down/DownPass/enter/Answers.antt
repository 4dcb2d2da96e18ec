use Rattle.std.proofs.Common.{◌≡◌, ◌+◌, ◌∙◌, sym, true}
use Rattle.doc_table.specs.Enc.{enc}
use Rattle.doc_table.proofs.Marks.{bridge}
use Rattle.staircase.specs.Ahead.{rest_of, is_first}
use Rattle.staircase.proofs.PassLaws.{down-enter, reached-as}
use Rattle.staircase.proofs.down.DownPass.enter.Goals as goal

pub returns-then-pass-clause-knows : goal.returns-then-pass-clause-knows
returns-then-pass-clause-knows c = λ t l w r k.
    let first : is_first c.args.seen.pre (rest_of c.args.self.now.ahead) ≡ true = sym c.pass.ensures.found ∙ c.if-pass.true in
    reached-as (enc t) _ _ _ _ _ _ (c.args.seen.pre + 1) c.pass.ensures.rows c.pass.ensures.rest c.max-self.ensures
    (down-enter (enc t) c.args.self.now.ahead.rows.now (rest_of c.args.self.now.ahead) c.args.self.now.reach c.args.seen.pre c.args.seen.last k ((bridge t).ends c.args.seen.pre l) r.0 first)
