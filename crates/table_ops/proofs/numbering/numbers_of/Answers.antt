use Rattle.std.proofs.Common.{◌∙◌, ◌^◌, map, length, ap}
use Rattle.table_ops.proofs.RownumLaws.{keys_given_at, order_few, order_within, order_once, order_many, order_whole}
use Rattle.table_ops.proofs.numbering.numbers_of.Goals as goal

pub in_order-requires-clause-parts : goal.in_order-requires-clause-parts
in_order-requires-clause-parts c =
    keys_given_at (length c.args.pool.now) c.args.input.now.cols c.args.part.now c.args.input.now.rows (map (λ s. s.now) c.deref.result.now) (ap (map (λ s. s.now)) c.deref.ensures.value ∙ c.in_ok-parts.ensures) c.requires.given

pub in_order-requires-clause-columns : goal.in_order-requires-clause-columns
in_order-requires-clause-columns c =
    keys_given_at (length c.args.pool.now) c.args.input.now.cols c.args.keys.now c.args.input.now.rows (map (λ s. s.now) c.deref-2.result.now) (ap (map (λ s. s.now)) c.deref-2.ensures.value ∙ c.in_ok-columns.ensures) c.requires.given

pub run_numbers-requires-clause-few : goal.run_numbers-requires-clause-few
run_numbers-requires-clause-few c =
    order_few c.args.pool.now c.args.input.now.cols c.args.part.now c.args.keys.now c.args.input.now.rows (map (λ s. s.now) c.deref.result.now) (map (λ s. s.now) c.deref-2.result.now) (map (λ s. s.now) c.deref.result.now)
    (ap (map (λ s. s.now)) c.deref.ensures.value ∙ c.in_ok-parts.ensures) (ap (map (λ s. s.now)) c.deref-2.ensures.value ∙ c.in_ok-columns.ensures) (ap (map (λ s. s.now)) c.deref.ensures.value ∙ c.in_ok-parts.ensures)
    c.height.result c.height.ensures c.in_ok-order.order.items c.deref-3.result.now c.deref-3.result.now c.deref-3.ensures.value c.deref-3.ensures.value c.in_ok-order.ensures.moved c.in_ok-order.ensures.sorted
    (2 ^ 32) c.requires.few c.deref-3.result.now c.deref-3.ensures.value

pub run_numbers-requires-clause-parts : goal.run_numbers-requires-clause-parts
run_numbers-requires-clause-parts c =
    keys_given_at (length c.args.pool.now) c.args.input.now.cols c.args.part.now c.args.input.now.rows (map (λ s. s.now) c.deref-4.result.now) (ap (map (λ s. s.now)) c.deref-4.ensures.value ∙ c.in_ok-parts.ensures) c.requires.given

pub scatter-requires : goal.scatter-requires
scatter-requires c = record {
  few = order_few c.args.pool.now c.args.input.now.cols c.args.part.now c.args.keys.now c.args.input.now.rows (map (λ s. s.now) c.deref.result.now) (map (λ s. s.now) c.deref-2.result.now) (map (λ s. s.now) c.deref.result.now)
      (ap (map (λ s. s.now)) c.deref.ensures.value ∙ c.in_ok-parts.ensures) (ap (map (λ s. s.now)) c.deref-2.ensures.value ∙ c.in_ok-columns.ensures) (ap (map (λ s. s.now)) c.deref.ensures.value ∙ c.in_ok-parts.ensures)
      c.height.result c.height.ensures c.in_ok-order.order.items c.deref-3.result.now c.deref-3.result.now c.deref-3.ensures.value c.deref-3.ensures.value c.in_ok-order.ensures.moved c.in_ok-order.ensures.sorted
      (2 ^ 32) c.requires.few c.deref-5.result.now c.deref-5.ensures.value;
  as_many = order_many c.args.pool.now c.args.input.now.cols c.args.part.now c.args.keys.now c.args.input.now.rows (map (λ s. s.now) c.deref.result.now) (map (λ s. s.now) c.deref-2.result.now) (map (λ s. s.now) c.deref-4.result.now)
      (ap (map (λ s. s.now)) c.deref.ensures.value ∙ c.in_ok-parts.ensures) (ap (map (λ s. s.now)) c.deref-2.ensures.value ∙ c.in_ok-columns.ensures) (ap (map (λ s. s.now)) c.deref-4.ensures.value ∙ c.in_ok-parts.ensures)
      c.height.result c.height.ensures c.in_ok-order.order.items c.deref-3.result.now c.deref-5.result.now c.deref-3.ensures.value c.deref-5.ensures.value c.in_ok-order.ensures.moved c.in_ok-order.ensures.sorted
      c.in_ok-cells.cells.items c.deref-6.result.now c.deref-6.ensures.value c.in_ok-cells.ensures;
  within = order_within c.args.pool.now c.args.input.now.cols c.args.part.now c.args.keys.now c.args.input.now.rows (map (λ s. s.now) c.deref.result.now) (map (λ s. s.now) c.deref-2.result.now) (map (λ s. s.now) c.deref.result.now)
      (ap (map (λ s. s.now)) c.deref.ensures.value ∙ c.in_ok-parts.ensures) (ap (map (λ s. s.now)) c.deref-2.ensures.value ∙ c.in_ok-columns.ensures) (ap (map (λ s. s.now)) c.deref.ensures.value ∙ c.in_ok-parts.ensures)
      c.height.result c.height.ensures c.in_ok-order.order.items c.deref-3.result.now c.deref-5.result.now c.deref-3.ensures.value c.deref-5.ensures.value c.in_ok-order.ensures.moved c.in_ok-order.ensures.sorted;
  once = order_once c.args.pool.now c.args.input.now.cols c.args.part.now c.args.keys.now c.args.input.now.rows (map (λ s. s.now) c.deref.result.now) (map (λ s. s.now) c.deref-2.result.now) (map (λ s. s.now) c.deref.result.now)
      (ap (map (λ s. s.now)) c.deref.ensures.value ∙ c.in_ok-parts.ensures) (ap (map (λ s. s.now)) c.deref-2.ensures.value ∙ c.in_ok-columns.ensures) (ap (map (λ s. s.now)) c.deref.ensures.value ∙ c.in_ok-parts.ensures)
      c.height.result c.height.ensures c.in_ok-order.order.items c.deref-3.result.now c.deref-5.result.now c.deref-3.ensures.value c.deref-5.ensures.value c.in_ok-order.ensures.moved c.in_ok-order.ensures.sorted;
}

pub returns : goal.returns
returns c =
    order_whole c.args.pool.now c.args.input.now.cols c.args.part.now c.args.keys.now c.args.input.now.rows (map (λ s. s.now) c.deref.result.now) (map (λ s. s.now) c.deref-2.result.now) (map (λ s. s.now) c.deref-4.result.now)
    (ap (map (λ s. s.now)) c.deref.ensures.value ∙ c.in_ok-parts.ensures) (ap (map (λ s. s.now)) c.deref-2.ensures.value ∙ c.in_ok-columns.ensures) (ap (map (λ s. s.now)) c.deref-4.ensures.value ∙ c.in_ok-parts.ensures)
    c.height.result c.height.ensures c.in_ok-order.order.items c.deref-3.result.now c.deref-5.result.now c.deref-3.ensures.value c.deref-5.ensures.value c.in_ok-order.ensures.moved c.in_ok-order.ensures.sorted
    c.in_ok-cells.cells.items c.deref-6.result.now c.deref-6.ensures.value c.in_ok-cells.ensures
    (λ out. out.items) c.scatter.result c.scatter.ensures.cells c.scatter.ensures.long
