use Rattle.std.proofs.Common.{◌∙◌, ◌+◌, sym, arith}
use Rattle.std.specs.Prelude.{slice_index_or}
use Rattle.staircase.proofs.HitOrder.{spread-appends, rises, order-is, spread-end}
use Rattle.staircase.proofs.hits.append_hits.Goals as goal

pub returns-clause-hits : goal.returns-clause-hits
returns-clause-hits c =
    let s = c.sort_unstable.ensures.sorted in
    let items = c.sort_unstable.new.self.items in
    spread-appends c.args.hits.now.items items c.args.out.now.items c.loop-hit.out.items c.sort_unstable.ensures.permutation
    (rises items (λ k d l. sym (order-is (slice_index_or items (k + 1) d) (slice_index_or items k d)) ∙ s k d (omega arith) l)) (spread-end c.loop-hit.out.items c.args.out.now.items c.loop-hit.last c.loop-hit.hit-index c.as_slice-hit-items.result.now items c.loop-hit.invariant.spread c.loop-hit-test.false c.as_slice-hit-items.ensures.value)
