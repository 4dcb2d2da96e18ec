use Rattle.std.proofs.Common.{◌≡◌, ◌∙◌, Some, sym, ap, slice_get}
use Rattle.xq_base.proofs.Places.{position_some, position_none}
use Rattle.plan_dag.specs.Graphs.{ops_in}
use Rattle.plan_dag.proofs.Equal.{op_eq, op_same, op_self}
use Rattle.plan_dag.proofs.Search.{found_at, not_there}
use Rattle.plan_dag.proofs.kept.find.Goals as goal

pub returns-in-None : goal.returns-in-None
returns-in-None c =
    let op = c.args.op.now in
    λ i at. not_there (op_eq op) (ops_in c.args.kept.now.entries) (position_none _ _ (sym c.get_index_of.ensures.index ∙ c.in-None.is)) i op at (op_self op)

pub returns-in-Some : goal.returns-in-Some
returns-in-Some c =
    let op = c.args.op.now in
    let place = position_some (op_eq op) (ops_in c.args.kept.now.entries) c.in-Some.at (sym c.get_index_of.ensures.index ∙ c.in-Some.is) in
    let found = found_at (op_eq op) (ops_in c.args.kept.now.entries) place.1 in
    ap (slice_get (ops_in c.args.kept.now.entries)) (sym place.0) ∙ found.1 ∙ ap Some (sym (op_same op found.0 found.2))
