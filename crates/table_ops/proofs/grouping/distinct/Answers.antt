use Rattle.std.proofs.Common.{◌∙◌, ◌^◌, ap}
use Rattle.table_ops.specs.Groups.{keys_by}
use Rattle.table_ops.proofs.GroupLaws.{keys_few}
use Rattle.table_ops.proofs.OperatorLaws.{distinct_left, distinct_whole}
use Rattle.table_ops.proofs.grouping.distinct.Goals as goal

pub firsts-requires : goal.firsts-requires
firsts-requires c = keys_few (2 ^ 32) c.args.input.now.cols c.as_slice.result.now c.args.input.now.rows c.deref.result.now (c.deref.ensures.value ∙ c.in_ok-keys.ensures) c.requires.few

pub gather-requires : goal.gather-requires
gather-requires c =
    distinct_left c.args.input.now c.args.cols.now c.deref-2.result.now c.deref.result.now (c.deref-2.ensures.value ∙ c.in_ok-places.ensures)
    (c.deref.ensures.value ∙ c.in_ok-keys.ensures ∙ ap (λ z. keys_by c.args.input.now.cols z c.args.input.now.rows) c.as_slice.ensures.same)

pub returns : goal.returns
returns c =
    distinct_whole c.args.input.now c.args.cols.now c.deref-2.result.now c.deref.result.now (c.deref-2.ensures.value ∙ c.in_ok-places.ensures)
    (c.deref.ensures.value ∙ c.in_ok-keys.ensures ∙ ap (λ z. keys_by c.args.input.now.cols z c.args.input.now.rows) c.as_slice.ensures.same)
    c.gather.result c.gather.ensures
