use Rattle.std.proofs.Common.{◌≡◌, ◌∷◌, [], sym, subst, true, IfOk}
use Rattle.plan_dag.specs.declared.op.Op.TheVariants as o
use Rattle.plan_dag.specs.Schema.{fits_over}
use Rattle.table_ops.specs.Results.{Makes}
use Rattle.table_ops.proofs.ApplyLaws.{if_ok_both}
use Rattle.table_ops.proofs.FitLaws.{fitting, there, rest_there}
use Rattle.table_ops.proofs.applying.make_grouped.Goals as goal

pub aggregate-requires-clause-group : goal.aggregate-requires-clause-group
aggregate-requires-clause-group c = there c.args.left.now.cols c.in-Aggregate.group (c.in-Aggregate.item ∷ []) (fitting (o.Aggregate c.in-Aggregate.input c.in-Aggregate.agg c.in-Aggregate.group c.in-Aggregate.item c.in-Aggregate.col) c.args.left.now.cols c.args.right.now.cols (subst (λ z. fits_over z c.args.left.now.cols c.args.right.now.cols ≡ true) c.in-Aggregate.is c.requires.fits)).first

pub aggregate-requires-clause-value : goal.aggregate-requires-clause-value
aggregate-requires-clause-value c = there c.args.left.now.cols c.in-Aggregate.item ([]) (rest_there c.args.left.now.cols c.in-Aggregate.group (c.in-Aggregate.item ∷ []) (fitting (o.Aggregate c.in-Aggregate.input c.in-Aggregate.agg c.in-Aggregate.group c.in-Aggregate.item c.in-Aggregate.col) c.args.left.now.cols c.args.right.now.cols (subst (λ z. fits_over z c.args.left.now.cols c.args.right.now.cols ≡ true) c.in-Aggregate.is c.requires.fits)).first)

pub aggregate_fails-requires-clause-group : goal.aggregate_fails-requires-clause-group
aggregate_fails-requires-clause-group c = there c.args.left.now.cols c.in-AggregateFails.group (c.in-AggregateFails.item ∷ []) (fitting (o.AggregateFails c.in-AggregateFails.input c.in-AggregateFails.agg c.in-AggregateFails.code c.in-AggregateFails.group c.in-AggregateFails.item) c.args.left.now.cols c.args.right.now.cols (subst (λ z. fits_over z c.args.left.now.cols c.args.right.now.cols ≡ true) c.in-AggregateFails.is c.requires.fits)).first

pub aggregate_fails-requires-clause-value : goal.aggregate_fails-requires-clause-value
aggregate_fails-requires-clause-value c = there c.args.left.now.cols c.in-AggregateFails.item ([]) (rest_there c.args.left.now.cols c.in-AggregateFails.group (c.in-AggregateFails.item ∷ []) (fitting (o.AggregateFails c.in-AggregateFails.input c.in-AggregateFails.agg c.in-AggregateFails.code c.in-AggregateFails.group c.in-AggregateFails.item) c.args.left.now.cols c.args.right.now.cols (subst (λ z. fits_over z c.args.left.now.cols c.args.right.now.cols ≡ true) c.in-AggregateFails.is c.requires.fits)).first)

pub content_fails-requires-clause-iter : goal.content_fails-requires-clause-iter
content_fails-requires-clause-iter c = there c.args.left.now.cols c.in-ContentFails.iter (c.in-ContentFails.pos ∷ c.in-ContentFails.item ∷ []) (fitting (o.ContentFails c.in-ContentFails.content c.in-ContentFails.place c.in-ContentFails.code c.in-ContentFails.iter c.in-ContentFails.pos c.in-ContentFails.item) c.args.left.now.cols c.args.right.now.cols (subst (λ z. fits_over z c.args.left.now.cols c.args.right.now.cols ≡ true) c.in-ContentFails.is c.requires.fits)).first

pub content_fails-requires-clause-pos : goal.content_fails-requires-clause-pos
content_fails-requires-clause-pos c = there c.args.left.now.cols c.in-ContentFails.pos (c.in-ContentFails.item ∷ []) (rest_there c.args.left.now.cols c.in-ContentFails.iter (c.in-ContentFails.pos ∷ c.in-ContentFails.item ∷ []) (fitting (o.ContentFails c.in-ContentFails.content c.in-ContentFails.place c.in-ContentFails.code c.in-ContentFails.iter c.in-ContentFails.pos c.in-ContentFails.item) c.args.left.now.cols c.args.right.now.cols (subst (λ z. fits_over z c.args.left.now.cols c.args.right.now.cols ≡ true) c.in-ContentFails.is c.requires.fits)).first)

pub content_fails-requires-clause-item : goal.content_fails-requires-clause-item
content_fails-requires-clause-item c = there c.args.left.now.cols c.in-ContentFails.item ([]) (rest_there c.args.left.now.cols c.in-ContentFails.pos (c.in-ContentFails.item ∷ []) (rest_there c.args.left.now.cols c.in-ContentFails.iter (c.in-ContentFails.pos ∷ c.in-ContentFails.item ∷ []) (fitting (o.ContentFails c.in-ContentFails.content c.in-ContentFails.place c.in-ContentFails.code c.in-ContentFails.iter c.in-ContentFails.pos c.in-ContentFails.item) c.args.left.now.cols c.args.right.now.cols (subst (λ z. fits_over z c.args.left.now.cols c.args.right.now.cols ≡ true) c.in-ContentFails.is c.requires.fits)).first))

pub returns-in-Aggregate-clause-made : goal.returns-in-Aggregate-clause-made
returns-in-Aggregate-clause-made c =
    subst (λ z. IfOk c.aggregate.result (λ t. Makes c.args.pool.now c.args.store.now z c.args.left.now c.args.right.now c.aggregate.new.pool t)) (sym c.in-Aggregate.is)
    (if_ok_both c.aggregate.result _ _ (λ t. Makes c.args.pool.now c.args.store.now (o.Aggregate c.in-Aggregate.input c.in-Aggregate.agg c.in-Aggregate.group c.in-Aggregate.item c.in-Aggregate.col) c.args.left.now c.args.right.now c.aggregate.new.pool t) (λ t e g. record { table = λ once. e; given = g }) c.aggregate.ensures.rows c.aggregate.ensures.given)

pub returns-in-AggregateFails-clause-made : goal.returns-in-AggregateFails-clause-made
returns-in-AggregateFails-clause-made c =
    subst (λ z. IfOk c.aggregate_fails.result (λ t. Makes c.args.pool.now c.args.store.now z c.args.left.now c.args.right.now c.aggregate_fails.new.pool t)) (sym c.in-AggregateFails.is)
    (if_ok_both c.aggregate_fails.result _ _ (λ t. Makes c.args.pool.now c.args.store.now (o.AggregateFails c.in-AggregateFails.input c.in-AggregateFails.agg c.in-AggregateFails.code c.in-AggregateFails.group c.in-AggregateFails.item) c.args.left.now c.args.right.now c.aggregate_fails.new.pool t) (λ t e g. record { table = λ once. e; given = g }) c.aggregate_fails.ensures.rows c.aggregate_fails.ensures.given)

pub returns-in-ContentFails-clause-made : goal.returns-in-ContentFails-clause-made
returns-in-ContentFails-clause-made c =
    subst (λ z. IfOk c.content_fails.result (λ t. Makes c.args.pool.now c.args.store.now z c.args.left.now c.args.right.now c.content_fails.new.pool t)) (sym c.in-ContentFails.is)
    (if_ok_both c.content_fails.result _ _ (λ t. Makes c.args.pool.now c.args.store.now (o.ContentFails c.in-ContentFails.content c.in-ContentFails.place c.in-ContentFails.code c.in-ContentFails.iter c.in-ContentFails.pos c.in-ContentFails.item) c.args.left.now c.args.right.now c.content_fails.new.pool t) (λ t e g. record { table = λ once. e; given = g }) c.content_fails.ensures.rows c.content_fails.ensures.given)
