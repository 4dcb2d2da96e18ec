use Rattle.std.proofs.Common.{rules, ◌≡◌, ◌∙◌}
use Rattle.indexmap.specs.IndexMap.{insert_entry}
use Rattle.plan_dag.proofs.Equal.{op_eq}
use Rattle.plan_dag.proofs.Inserted.{inserted_last}
use Rattle.plan_dag.proofs.kept.put_op.Goals as goal

pub returns-clause-ok : goal.returns-clause-ok
returns-clause-ok c =
    let grown : c.insert.new.self.entries ≡ insert_entry op_eq c.args.kept.now.entries c.args.op c.args.cols = search rules in
    grown ∙ inserted_last c.args.kept.now.entries c.args.op c.args.cols c.requires
