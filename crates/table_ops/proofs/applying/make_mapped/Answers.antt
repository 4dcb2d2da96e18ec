use Rattle.std.proofs.Common.{◌≡◌, sym, subst, true, IfOk}
use Rattle.plan_dag.specs.declared.op.Op.TheVariants as o
use Rattle.plan_dag.specs.Schema.{fits_over}
use Rattle.table_ops.specs.Results.{Makes}
use Rattle.table_ops.proofs.ApplyLaws.{if_ok_both}
use Rattle.table_ops.proofs.FitLaws.{fitting, short}
use Rattle.table_ops.proofs.applying.make_mapped.Goals as goal

pub map-requires-clause-few_cols : goal.map-requires-clause-few_cols
map-requires-clause-few_cols c = short c.args.left.now.cols c.in-Map.col (fitting (o.Map c.in-Map.input c.in-Map.fun c.in-Map.args c.in-Map.col) c.args.left.now.cols c.args.right.now.cols (subst (λ z. fits_over z c.args.left.now.cols c.args.right.now.cols ≡ true) c.in-Map.is c.requires.fits)).few

pub map-requires-clause-there : goal.map-requires-clause-there
map-requires-clause-there c = (fitting (o.Map c.in-Map.input c.in-Map.fun c.in-Map.args c.in-Map.col) c.args.left.now.cols c.args.right.now.cols (subst (λ z. fits_over z c.args.left.now.cols c.args.right.now.cols ≡ true) c.in-Map.is c.requires.fits)).first

pub map-requires-clause-fun : goal.map-requires-clause-fun
map-requires-clause-fun c = (fitting (o.Map c.in-Map.input c.in-Map.fun c.in-Map.args c.in-Map.col) c.args.left.now.cols c.args.right.now.cols (subst (λ z. fits_over z c.args.left.now.cols c.args.right.now.cols ≡ true) c.in-Map.is c.requires.fits)).fun

pub map_fails-requires-clause-there : goal.map_fails-requires-clause-there
map_fails-requires-clause-there c = (fitting (o.MapFails c.in-MapFails.input c.in-MapFails.fun c.in-MapFails.code c.in-MapFails.args) c.args.left.now.cols c.args.right.now.cols (subst (λ z. fits_over z c.args.left.now.cols c.args.right.now.cols ≡ true) c.in-MapFails.is c.requires.fits)).first

pub map_fails-requires-clause-fun : goal.map_fails-requires-clause-fun
map_fails-requires-clause-fun c = (fitting (o.MapFails c.in-MapFails.input c.in-MapFails.fun c.in-MapFails.code c.in-MapFails.args) c.args.left.now.cols c.args.right.now.cols (subst (λ z. fits_over z c.args.left.now.cols c.args.right.now.cols ≡ true) c.in-MapFails.is c.requires.fits)).fun

pub returns-in-Map-clause-made : goal.returns-in-Map-clause-made
returns-in-Map-clause-made c =
    subst (λ z. IfOk c.map.result (λ t. Makes c.args.pool.now c.args.store.now z c.args.left.now c.args.right.now c.map.new.pool t)) (sym c.in-Map.is)
    (if_ok_both c.map.result _ _ (λ t. Makes c.args.pool.now c.args.store.now (o.Map c.in-Map.input c.in-Map.fun c.in-Map.args c.in-Map.col) c.args.left.now c.args.right.now c.map.new.pool t) (λ t e g. record { table = λ once. e; given = g }) c.map.ensures.rows c.map.ensures.given)

pub returns-in-MapFails-clause-made : goal.returns-in-MapFails-clause-made
returns-in-MapFails-clause-made c =
    subst (λ z. IfOk c.map_fails.result (λ t. Makes c.args.pool.now c.args.store.now z c.args.left.now c.args.right.now c.map_fails.new.pool t)) (sym c.in-MapFails.is)
    (if_ok_both c.map_fails.result _ _ (λ t. Makes c.args.pool.now c.args.store.now (o.MapFails c.in-MapFails.input c.in-MapFails.fun c.in-MapFails.code c.in-MapFails.args) c.args.left.now c.args.right.now c.map_fails.new.pool t) (λ t e g. record { table = λ once. e; given = g }) c.map_fails.ensures.rows c.map_fails.ensures.given)
