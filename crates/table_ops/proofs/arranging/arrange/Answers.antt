use Rattle.std.proofs.Common.{◌∙◌, map, length, ap, sym}
use Rattle.table_ops.specs.Sorting.{key_columns}
use Rattle.table_ops.proofs.ArrangeLaws.{arranged_within, arranged_whole}
use Rattle.table_ops.proofs.RownumLaws.{keys_given_at}
use Rattle.table_ops.proofs.arranging.arrange.Goals as goal

pub in_order-requires-clause-columns : goal.in_order-requires-clause-columns
in_order-requires-clause-columns c =
    keys_given_at (length c.args.pool.now) c.args.input.now.cols c.as_slice.result.now c.args.input.now.rows (map (λ s. s.now) c.deref.result.now) (ap (map (λ s. s.now)) c.deref.ensures.value ∙ c.in_ok-columns.ensures) c.requires.given

pub gather-requires : goal.gather-requires
gather-requires c =
    arranged_within c.args.pool.now c.args.input.now c.as_slice-2.result.now (map (λ s. s.now) c.deref.result.now)
    (ap (map (λ s. s.now)) c.deref.ensures.value ∙ c.in_ok-columns.ensures ∙ ap (λ z. key_columns c.args.input.now.cols z c.args.input.now.rows) (c.as_slice.ensures.same ∙ sym c.as_slice-2.ensures.same))
    c.height.result c.height.ensures c.in_ok-places.places.items c.in_ok-places.ensures.moved c.in_ok-places.ensures.sorted c.deref-2.result.now c.deref-2.ensures.value

pub returns : goal.returns
returns c =
    arranged_whole c.args.pool.now c.args.input.now c.as_slice-2.result.now (map (λ s. s.now) c.deref.result.now)
    (ap (map (λ s. s.now)) c.deref.ensures.value ∙ c.in_ok-columns.ensures ∙ ap (λ z. key_columns c.args.input.now.cols z c.args.input.now.rows) (c.as_slice.ensures.same ∙ sym c.as_slice-2.ensures.same))
    c.height.result c.height.ensures c.in_ok-places.places.items c.in_ok-places.ensures.moved c.in_ok-places.ensures.sorted c.deref-2.result.now c.deref-2.ensures.value c.args.keys.now c.gather.result c.as_slice-2.ensures.same c.gather.ensures
