use Rattle.std.proofs.Common.{◌∙◌, ◌^◌, [], ap}
use Rattle.table_ops.specs.Groups.{both_eq}
use Rattle.table_ops.specs.Keys.{keys_from}
use Rattle.table_ops.proofs.Combining.{if_ok_at}
use Rattle.table_ops.proofs.GroupLaws.{paired_few}
use Rattle.table_ops.proofs.grouping.refine.Goals as goal

pub number-requires-clause-few : goal.number-requires-clause-few
number-requires-clause-few c = paired_few (2 ^ 32) c.args.keys.now c.args.cells.now c.deref.result.now (c.deref.ensures.value ∙ c.in_ok-values.ensures) c.requires.few

pub returns : goal.returns
returns c = if_ok_at (λ out. out.items) c.number.result _ _ (ap (keys_from both_eq []) (c.deref.ensures.value ∙ c.in_ok-values.ensures)) c.number.ensures.keys
