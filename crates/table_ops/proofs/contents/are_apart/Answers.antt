use Rattle.std.proofs.Common.{◌∙◌}
use Rattle.table_ops.proofs.FaultLaws.{all_apart}
use Rattle.table_ops.proofs.contents.are_apart.Goals as goal

pub returns : goal.returns
returns c = c.are_as_many.ensures ∙ all_apart c.args.cells.now c.deref.result.now (c.deref.ensures.value ∙ c.in_ok-differ.ensures)
