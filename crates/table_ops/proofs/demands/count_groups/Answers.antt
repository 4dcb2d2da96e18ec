use Rattle.std.proofs.Common.{◌≡◌, ◌∷◌, [], sym, subst, refl, true, IfOk}
use Rattle.plan_dag.specs.declared.op.Op.TheVariants as o
use Rattle.plan_dag.specs.Schema.{fits_over}
use Rattle.table_ops.specs.Demands.{HasRows}
use Rattle.table_ops.proofs.DemandLaws.{counted_standing}
use Rattle.table_ops.proofs.FitLaws.{fitting, there, rest_there}
use Rattle.table_ops.proofs.demands.count_groups.Goals as goal

pub aggregate-requires-clause-group : goal.aggregate-requires-clause-group
aggregate-requires-clause-group c = there c.args.left.now.cols c.in-Aggregate.group (c.in-Aggregate.item ∷ []) (fitting (o.Aggregate c.in-Aggregate.input c.in-Aggregate.agg c.in-Aggregate.group c.in-Aggregate.item c.in-Aggregate.col) c.args.left.now.cols c.args.right.now.cols (subst (λ z. fits_over z c.args.left.now.cols c.args.right.now.cols ≡ true) c.in-Aggregate.is c.requires.fits)).first

pub aggregate-requires-clause-value : goal.aggregate-requires-clause-value
aggregate-requires-clause-value c = there c.args.left.now.cols c.in-Aggregate.item ([]) (rest_there c.args.left.now.cols c.in-Aggregate.group (c.in-Aggregate.item ∷ []) (fitting (o.Aggregate c.in-Aggregate.input c.in-Aggregate.agg c.in-Aggregate.group c.in-Aggregate.item c.in-Aggregate.col) c.args.left.now.cols c.args.right.now.cols (subst (λ z. fits_over z c.args.left.now.cols c.args.right.now.cols ≡ true) c.in-Aggregate.is c.requires.fits)).first)

pub returns-in-Aggregate-clause-rows : goal.returns-in-Aggregate-clause-rows
returns-in-Aggregate-clause-rows c = subst (λ z. IfOk c.counted.result (λ n. HasRows c.args.pool.now c.args.store.now z c.args.left.now c.args.right.now n)) (sym c.in-Aggregate.is) (counted_standing c.aggregate.new.pool c.args.store.now c.aggregate.result c.counted.result _ (λ n. HasRows c.args.pool.now c.args.store.now (o.Aggregate c.in-Aggregate.input c.in-Aggregate.agg c.in-Aggregate.group c.in-Aggregate.item c.in-Aggregate.col) c.args.left.now c.args.right.now n) c.counted.ensures c.aggregate.ensures.rows (λ once. refl))

pub aggregate_fails-requires-clause-group : goal.aggregate_fails-requires-clause-group
aggregate_fails-requires-clause-group c = there c.args.left.now.cols c.in-AggregateFails.group (c.in-AggregateFails.item ∷ []) (fitting (o.AggregateFails c.in-AggregateFails.input c.in-AggregateFails.agg c.in-AggregateFails.code c.in-AggregateFails.group c.in-AggregateFails.item) c.args.left.now.cols c.args.right.now.cols (subst (λ z. fits_over z c.args.left.now.cols c.args.right.now.cols ≡ true) c.in-AggregateFails.is c.requires.fits)).first

pub aggregate_fails-requires-clause-value : goal.aggregate_fails-requires-clause-value
aggregate_fails-requires-clause-value c = there c.args.left.now.cols c.in-AggregateFails.item ([]) (rest_there c.args.left.now.cols c.in-AggregateFails.group (c.in-AggregateFails.item ∷ []) (fitting (o.AggregateFails c.in-AggregateFails.input c.in-AggregateFails.agg c.in-AggregateFails.code c.in-AggregateFails.group c.in-AggregateFails.item) c.args.left.now.cols c.args.right.now.cols (subst (λ z. fits_over z c.args.left.now.cols c.args.right.now.cols ≡ true) c.in-AggregateFails.is c.requires.fits)).first)

pub returns-in-AggregateFails-clause-rows : goal.returns-in-AggregateFails-clause-rows
returns-in-AggregateFails-clause-rows c = subst (λ z. IfOk c.counted-in-AggregateFails.result (λ n. HasRows c.args.pool.now c.args.store.now z c.args.left.now c.args.right.now n)) (sym c.in-AggregateFails.is) (counted_standing c.aggregate_fails.new.pool c.args.store.now c.aggregate_fails.result c.counted-in-AggregateFails.result _ (λ n. HasRows c.args.pool.now c.args.store.now (o.AggregateFails c.in-AggregateFails.input c.in-AggregateFails.agg c.in-AggregateFails.code c.in-AggregateFails.group c.in-AggregateFails.item) c.args.left.now c.args.right.now n) c.counted-in-AggregateFails.ensures c.aggregate_fails.ensures.rows (λ once. refl))

pub content_fails-requires-clause-iter : goal.content_fails-requires-clause-iter
content_fails-requires-clause-iter c = there c.args.left.now.cols c.in-ContentFails.iter (c.in-ContentFails.pos ∷ c.in-ContentFails.item ∷ []) (fitting (o.ContentFails c.in-ContentFails.content c.in-ContentFails.place c.in-ContentFails.code c.in-ContentFails.iter c.in-ContentFails.pos c.in-ContentFails.item) c.args.left.now.cols c.args.right.now.cols (subst (λ z. fits_over z c.args.left.now.cols c.args.right.now.cols ≡ true) c.in-ContentFails.is c.requires.fits)).first

pub content_fails-requires-clause-pos : goal.content_fails-requires-clause-pos
content_fails-requires-clause-pos c = there c.args.left.now.cols c.in-ContentFails.pos (c.in-ContentFails.item ∷ []) (rest_there c.args.left.now.cols c.in-ContentFails.iter (c.in-ContentFails.pos ∷ c.in-ContentFails.item ∷ []) (fitting (o.ContentFails c.in-ContentFails.content c.in-ContentFails.place c.in-ContentFails.code c.in-ContentFails.iter c.in-ContentFails.pos c.in-ContentFails.item) c.args.left.now.cols c.args.right.now.cols (subst (λ z. fits_over z c.args.left.now.cols c.args.right.now.cols ≡ true) c.in-ContentFails.is c.requires.fits)).first)

pub content_fails-requires-clause-item : goal.content_fails-requires-clause-item
content_fails-requires-clause-item c = there c.args.left.now.cols c.in-ContentFails.item ([]) (rest_there c.args.left.now.cols c.in-ContentFails.pos (c.in-ContentFails.item ∷ []) (rest_there c.args.left.now.cols c.in-ContentFails.iter (c.in-ContentFails.pos ∷ c.in-ContentFails.item ∷ []) (fitting (o.ContentFails c.in-ContentFails.content c.in-ContentFails.place c.in-ContentFails.code c.in-ContentFails.iter c.in-ContentFails.pos c.in-ContentFails.item) c.args.left.now.cols c.args.right.now.cols (subst (λ z. fits_over z c.args.left.now.cols c.args.right.now.cols ≡ true) c.in-ContentFails.is c.requires.fits)).first))

pub returns-in-ContentFails-clause-rows : goal.returns-in-ContentFails-clause-rows
returns-in-ContentFails-clause-rows c = subst (λ z. IfOk c.counted-in-ContentFails.result (λ n. HasRows c.args.pool.now c.args.store.now z c.args.left.now c.args.right.now n)) (sym c.in-ContentFails.is) (counted_standing c.content_fails.new.pool c.args.store.now c.content_fails.result c.counted-in-ContentFails.result _ (λ n. HasRows c.args.pool.now c.args.store.now (o.ContentFails c.in-ContentFails.content c.in-ContentFails.place c.in-ContentFails.code c.in-ContentFails.iter c.in-ContentFails.pos c.in-ContentFails.item) c.args.left.now c.args.right.now n) c.counted-in-ContentFails.ensures c.content_fails.ensures.rows (λ once. refl))
