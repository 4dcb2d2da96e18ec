use Rattle.std.proofs.Common.{◌∙◌, ◌^◌}
use Rattle.table_ops.proofs.GroupLaws.{keys_few, keys_match}
use Rattle.table_ops.proofs.grouping.+keys_of.Goals as goal

pub refine-requires : goal.refine-requires
refine-requires t c = record {
  few = keys_few (2 ^ 32) c.args.input.now.cols c.in-Some.rest.now c.args.input.now.rows c.deref.result.now (c.deref.ensures.value ∙ c.in_ok-keys-in-Some.ensures) c.requires.few;
  as_many = keys_match c.args.input.now.cols c.in-Some.rest.now c.in-Some.col.now c.args.input.now.rows c.deref.result.now c.cells.result.now (c.deref.ensures.value ∙ c.in_ok-keys-in-Some.ensures) c.cells.ensures;
}
