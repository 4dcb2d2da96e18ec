use Rattle.std.proofs.Common.{subst, false}
use Rattle.staircase.specs.Joins.{Stands}
use Rattle.staircase.specs.Tasks.{Gains}
use Rattle.staircase.proofs.JoinLaws.{joined}
use Rattle.staircase.proofs.step.finish.Goals as goal

pub returns-clause-hits : goal.returns-clause-hits
returns-clause-hits g c =
    joined c.args.axis c.args.test (g.R.Rows.tree c.args.rows.now) c.args.context.now c.args.found.now c.args.seen.now c.gather.new.hits.items c.attribute_hits.new.hits.items c.args.out.now.items c.append_hits.new.out.items c.requires.ready
    (subst (λ z. Gains (Stands c.args.axis c.args.test (g.R.Rows.tree c.args.rows.now) c.args.context.now false) z c.gather.new.hits.items) c.new-hits.ensures.items (c.in_ok-gather.ensures c.args.test (g.R.Rows.tree c.args.rows.now) c.args.found.now c.requires.ready))
    c.in_ok-attribute_hits.ensures c.in_ok-append_hits.ensures.hits
