use Rattle.std.proofs.Common.{◌≡◌, ◌<◌, length, get_or, nat_eq, rules, arith, subst, sym}
use Rattle.table_ops.proofs.Chaining.{below_at}
use Rattle.table_ops.proofs.TallyLaws.{tally_short, tally_is, any_default}
use Rattle.table_ops.proofs.grouping.tally.Goals as goal

pub index_mut-requires : goal.index_mut-requires
index_mut-requires c =
    let len : c.loop-place.counts.len ≡ length c.loop-place.counts.items = search rules in
    omega (arith, len, c.loop-place.invariant.0, below_at c.args.groups c.args.keys.now c.loop-place.place c.requires.below c.loop-place-test.true)

pub overflow_add-index_mut : goal.overflow_add-index_mut
overflow_add-index_mut c =
    let below : get_or c.args.keys.now c.loop-place.place 0 < c.args.groups = below_at c.args.groups c.args.keys.now c.loop-place.place c.requires.below c.loop-place-test.true in
    let within : get_or c.args.keys.now c.loop-place.place 0 < length c.loop-place.counts.items = subst (λ n. get_or c.args.keys.now c.loop-place.place 0 < n) (sym c.loop-place.invariant.0) below in
    omega (
      arith,
      c.index_mut.ensures.value,
      any_default c.loop-place.counts.items (get_or c.args.keys.now c.loop-place.place 0) c.index_mut.result.now 0 within,
      c.loop-place.invariant.1 (get_or c.args.keys.now c.loop-place.place 0) below,
      tally_short (nat_eq (get_or c.args.keys.now c.loop-place.place 0)) c.loop-place.place c.args.keys.now,
      c.loop-place-test.true,
      c.requires.few,
    )

pub returns : goal.returns
returns c = tally_is c.args.groups c.loop-place.place c.loop-place.counts.items c.args.keys.now c.loop-place.invariant.0 c.loop-place-test.false c.loop-place.invariant.1
