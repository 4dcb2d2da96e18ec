use Rattle.std.proofs.Common.{◌≡◌, ◌++◌, true, length, sym, ap, ◌∙◌, subst}
use Rattle.plan_dag.specs.Meaning.{Answers}
use Rattle.table_ops.specs.Sorting.{columns_given}
use Rattle.table_ops.proofs.CellMoves.{rows_of_given}
use Rattle.plan_eval.specs.Evaluating.{tallies_in}
use Rattle.plan_eval.specs.Making.{kept_input}
use Rattle.plan_eval.specs.Root.{RootColumns, GivesRoot}
use Rattle.plan_eval.proofs.RootLaws.{root-columns, root-answers, answer-given}
use Rattle.plan_eval.proofs.evaluation.eval.Goals as goal

pub items_of-requires-clause-columns : goal.items_of-requires-clause-columns
items_of-requires-clause-columns g c =
    subst (λ r. RootColumns r (kept_input c.run.new.tables.items r)) (sym c.root.ensures) (root-columns c.args.pool.now c.run.new.pool c.args.store.now c.args.plan.now c.run.new.tables.items c.in_ok-run.ensures.gives.3 c.requires.root)

pub items_of-requires-clause-given : goal.items_of-requires-clause-given
items_of-requires-clause-given g c =
    subst (λ r. columns_given (length c.run.new.pool) (kept_input c.run.new.tables.items r).rows ≡ true) (sym c.root.ensures) (rows_of_given c.run.new.pool c.args.store.now (kept_input c.run.new.tables.items c.args.plan.now.root).rows (c.in_ok-run.ensures.gives.3).given)

pub returns-clause-answer : goal.returns-clause-answer
returns-clause-answer g c =
    let a = c.in_ok-run.ensures.gives in
    let gives = subst (λ r. GivesRoot c.run.new.pool (kept_input c.run.new.tables.items r) r c.in_ok-items.items.items) c.root.ensures c.in_ok-items.ensures in (
      a.0,
      a.1 ∙ ap Answers (root-answers c.args.pool.now c.run.new.pool c.args.store.now c.args.plan.now c.run.new.tables.items c.in_ok-items.items.items a.3 gives),
      a.2 ∙ ap (λ z. z ++ tallies_in c.args.pool.now c.args.store.now c.args.plan.now) c.new-tallies.ensures.items,
      answer-given c.args.pool.now c.run.new.pool c.args.store.now c.args.plan.now c.run.new.tables.items c.in_ok-items.items.items a.3 gives,
    )
