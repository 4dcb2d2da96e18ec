use Rattle.std.proofs.Common.{map, subst, rules}
use Rattle.std.specs.List.Sorted.{IsPermutation}
use Rattle.std.specs.Ordering.{is_lt}
use Rattle.std.proofs.lemmas.List.Sorted.{ranks_by}
use Rattle.std.proofs.lemmas.Fn.{always_returns_same}
use Rattle.table_ops.specs.Sorting.{order_cmp, places_cmp}
use Rattle.table_ops.proofs.CellOrders.{order_total, places_total}
use Rattle.table_ops.proofs.sorting.in_order.Goals as goal

pub returns-clause-moved : goal.returns-clause-moved
returns-clause-moved c = subst (λ z. IsPermutation z c.sort_by.new.self.items) c.in_ok-places.ensures c.sort_by.ensures.permutation

pub returns-clause-sorted : goal.returns-clause-sorted
returns-clause-sorted c =
    c.in_ok-sort_by.ensures.sorted (λ x y. is_lt (order_cmp (places_cmp c.args.pool.now (map (λ s. s.now) c.args.parts.now) c.args.part.now) (places_cmp c.args.pool.now (map (λ s. s.now) c.args.columns.now) c.args.keys.now) x y))
    (ranks_by (order_total (places_cmp c.args.pool.now (map (λ s. s.now) c.args.parts.now) c.args.part.now) (places_cmp c.args.pool.now (map (λ s. s.now) c.args.columns.now) c.args.keys.now) (places_total c.args.pool.now (map (λ s. s.now) c.args.parts.now) c.args.part.now) (places_total c.args.pool.now (map (λ s. s.now) c.args.columns.now) c.args.keys.now)) (λ x. x))
    (always_returns_same _ _ _ (λ a r f k. search rules))
