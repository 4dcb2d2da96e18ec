use Rattle.std.proofs.Common.{◌≡◌, sym, subst, refl, true, IfOk}
use Rattle.plan_dag.specs.declared.op.Op.TheVariants as o
use Rattle.plan_dag.specs.Schema.{fits_over}
use Rattle.table_ops.specs.Demands.{HasRows}
use Rattle.table_ops.proofs.DemandLaws.{counted_standing}
use Rattle.table_ops.proofs.FitLaws.{fitting, short}
use Rattle.table_ops.proofs.demands.count_mapped.Goals as goal

pub map-requires-clause-few_cols : goal.map-requires-clause-few_cols
map-requires-clause-few_cols c = short c.args.left.now.cols c.in-Map.col (fitting (o.Map c.in-Map.input c.in-Map.fun c.in-Map.args c.in-Map.col) c.args.left.now.cols c.args.right.now.cols (subst (λ z. fits_over z c.args.left.now.cols c.args.right.now.cols ≡ true) c.in-Map.is c.requires.fits)).few

pub map-requires-clause-there : goal.map-requires-clause-there
map-requires-clause-there c = (fitting (o.Map c.in-Map.input c.in-Map.fun c.in-Map.args c.in-Map.col) c.args.left.now.cols c.args.right.now.cols (subst (λ z. fits_over z c.args.left.now.cols c.args.right.now.cols ≡ true) c.in-Map.is c.requires.fits)).first

pub map-requires-clause-fun : goal.map-requires-clause-fun
map-requires-clause-fun c = (fitting (o.Map c.in-Map.input c.in-Map.fun c.in-Map.args c.in-Map.col) c.args.left.now.cols c.args.right.now.cols (subst (λ z. fits_over z c.args.left.now.cols c.args.right.now.cols ≡ true) c.in-Map.is c.requires.fits)).fun

pub returns-in-Map-clause-rows : goal.returns-in-Map-clause-rows
returns-in-Map-clause-rows c = subst (λ z. IfOk c.counted.result (λ n. HasRows c.args.pool.now c.args.store.now z c.args.left.now c.args.right.now n)) (sym c.in-Map.is) (counted_standing c.map.new.pool c.args.store.now c.map.result c.counted.result _ (λ n. HasRows c.args.pool.now c.args.store.now (o.Map c.in-Map.input c.in-Map.fun c.in-Map.args c.in-Map.col) c.args.left.now c.args.right.now n) c.counted.ensures c.map.ensures.rows (λ once. refl))

pub map_fails-requires-clause-there : goal.map_fails-requires-clause-there
map_fails-requires-clause-there c = (fitting (o.MapFails c.in-MapFails.input c.in-MapFails.fun c.in-MapFails.code c.in-MapFails.args) c.args.left.now.cols c.args.right.now.cols (subst (λ z. fits_over z c.args.left.now.cols c.args.right.now.cols ≡ true) c.in-MapFails.is c.requires.fits)).first

pub map_fails-requires-clause-fun : goal.map_fails-requires-clause-fun
map_fails-requires-clause-fun c = (fitting (o.MapFails c.in-MapFails.input c.in-MapFails.fun c.in-MapFails.code c.in-MapFails.args) c.args.left.now.cols c.args.right.now.cols (subst (λ z. fits_over z c.args.left.now.cols c.args.right.now.cols ≡ true) c.in-MapFails.is c.requires.fits)).fun

pub returns-in-MapFails-clause-rows : goal.returns-in-MapFails-clause-rows
returns-in-MapFails-clause-rows c = subst (λ z. IfOk c.counted-in-MapFails.result (λ n. HasRows c.args.pool.now c.args.store.now z c.args.left.now c.args.right.now n)) (sym c.in-MapFails.is) (counted_standing c.map_fails.new.pool c.args.store.now c.map_fails.result c.counted-in-MapFails.result _ (λ n. HasRows c.args.pool.now c.args.store.now (o.MapFails c.in-MapFails.input c.in-MapFails.fun c.in-MapFails.code c.in-MapFails.args) c.args.left.now c.args.right.now n) c.counted-in-MapFails.ensures c.map_fails.ensures.rows (λ once. refl))
