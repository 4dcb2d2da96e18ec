use Rattle.std.proofs.Common.{◌∙◌, ◌++◌, subst, ap, map, true}
use Rattle.staircase.specs.Joins.{row_hit, Stands}
use Rattle.staircase.specs.Tasks.{Gains}
use Rattle.staircase.proofs.TallyLaws.{tally-is}
use Rattle.staircase.proofs.count.tally.Goals as goal

pub returns : goal.returns
returns c = λ test t r.
    tally-is c.args.axis test t c.args.context.now c.args.rows.now c.args.seen.now c.gather.new.hits.items c.push_rows.new.hits.items c.gather-2.new.hits.items c.in_ok-result.result c.in_ok-other.other c.saturating_sub.result r
    (subst (λ z. Gains (Stands c.args.axis test t c.args.context.now true) z c.gather.new.hits.items) c.new-found.ensures.items (c.in_ok-gather.ensures test t c.args.rows.now r))
    c.in_ok-result.ensures
    (c.in_ok-push_rows.ensures ∙ ap (λ z. z ++ map row_hit c.args.rows.now) c.new-both.ensures.items)
    (c.in_ok-gather-2.ensures test t c.args.rows.now r) c.in_ok-other.ensures c.saturating_sub.ensures
