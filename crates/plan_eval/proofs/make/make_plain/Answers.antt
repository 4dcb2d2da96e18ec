use Rattle.std.proofs.Common.{◌≤◌, arith}
use Rattle.table_ops.proofs.MapLaws.{rows_given_later, names_later}
use Rattle.xq_funs.proofs.Later.{trees_given_later}
use Rattle.plan_eval.specs.Evaluating.{row_limit}
use Rattle.plan_eval.proofs.PlainLaws.{made-plain}
use Rattle.plan_eval.proofs.make.make_plain.Goals as goal

pub apply-requires-clause-left_rows : goal.apply-requires-clause-left_rows
apply-requires-clause-left_rows c = rows_given_later c.args.pool.now c.demand.new.pool c.args.store.now c.demand.ensures.keeps c.requires.trees c.args.left.now.rows c.requires.left_rows

pub apply-requires-clause-right_rows : goal.apply-requires-clause-right_rows
apply-requires-clause-right_rows c = rows_given_later c.args.pool.now c.demand.new.pool c.args.store.now c.demand.ensures.keeps c.requires.trees c.args.right.now.rows c.requires.right_rows

pub apply-requires-clause-trees : goal.apply-requires-clause-trees
apply-requires-clause-trees c = trees_given_later c.args.pool.now c.demand.new.pool c.demand.ensures.keeps c.args.store.now c.requires.trees

pub apply-requires-clause-names : goal.apply-requires-clause-names
apply-requires-clause-names c = names_later c.args.pool.now c.demand.new.pool c.args.store.now c.demand.ensures.keeps c.requires.trees c.requires.names

pub returns-clause-made : goal.returns-clause-made
returns-clause-made c =
    let few : c.in_ok-rows.rows ≤ row_limit = omega (arith, c.if-rows-gt-ROW_LIMIT.false) in
    made-plain c.args.pool.now c.demand.new.pool c.apply.new.pool c.args.store.now c.args.operator c.args.left.now c.args.right.now c.in_ok-apply.field-0 c.in_ok-rows.rows c.requires.kind c.demand.ensures.keeps c.requires.trees c.requires.names c.requires.texts c.requires.left_rows c.requires.right_rows
    c.in_ok-rows.ensures.rows few c.in_ok-apply.ensures.rows c.in_ok-apply.ensures.given
