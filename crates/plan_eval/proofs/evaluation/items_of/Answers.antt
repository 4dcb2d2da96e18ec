use Rattle.plan_eval.proofs.RootLaws.{root-read}
use Rattle.plan_eval.proofs.evaluation.items_of.Goals as goal

pub returns : goal.returns
returns c = root-read (λ v. v.items) c.args.pool.now c.args.tables.now.items c.args.root c.in-Some.id c.input.result.now c.root_items.result c.in-Some.is c.input.ensures c.root_items.ensures
