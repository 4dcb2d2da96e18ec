use Rattle.doc_table.specs.StoredItems.{trees_of}
use Rattle.table_ops.proofs.WholeLaws.{best_gives, best_fails}
use Rattle.table_ops.proofs.wholes.best.Goals as goal

pub returns-then-not-have_kind-clause-outcome : goal.returns-then-not-have_kind-clause-outcome
returns-then-not-have_kind-clause-outcome c = λ h. best_fails c.args.pool.now c.args.greatest c.in-Some.first.now c.in-Some.rest.now c.args.atoms.now c.in-Some.ensures.cases.0 (c.if-not-have_kind.ensures c.args.pool.now)

pub returns-clause-outcome : goal.returns-clause-outcome
returns-clause-outcome c =
    λ h. best_gives c.args.pool.now h c.args.greatest c.in-Some.first.now c.find_best.new.best c.in-Some.rest.now c.args.atoms.now c.item_of.result c.in-Some.ensures.cases.0 (c.if-not-have_kind.ensures c.args.pool.now) c.find_best.ensures.value (c.item_of.ensures.value c.args.pool.now (trees_of h))
