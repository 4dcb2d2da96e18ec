use Rattle.std.proofs.Common.{◌≡◌, ◌≤◌, ap, ◌∙◌, length, arith}
use Rattle.core_normal.specs.Measuring.{declarations}
use Rattle.core_normal.specs.Query.{count, functions}
use Rattle.core_normal.proofs.Settled.{none_settled, places_count}
use Rattle.core_normal.proofs.fun_sizes.settled.Goals as goal

pub loop-i-init : goal.loop-i-init
loop-i-init c =
    let same : length c.in_ok-table.table.items ≡ length c.in_ok-places.places.items = omega (arith, c.in_ok-table.ensures.count, c.len.ensures, c.in_ok-places.places.ok.0) in
    record {
      settled = λ t. none_settled t c.args.declarations.now c.in_ok-table.table.items c.in_ok-table.ensures.unknown (same ∙ ap length c.in_ok-places.ensures);
      count = same;
    }

pub loop-i-preserved : goal.loop-i-preserved
loop-i-preserved c = record {
  settled = λ t. c.in_ok-settle.ensures.settled t c.loop-i.i (c.loop-i.invariant.settled t);
  count = c.in_ok-settle.ensures.count ∙ c.loop-i.invariant.count;
}

pub returns : goal.returns
returns c = λ t.
    let all : length c.in_ok-places.places.items ≡ count (functions (declarations t c.args.declarations.now)) = ap length c.in_ok-places.ensures ∙ places_count t 0 c.args.declarations.now in
    let same : length c.in_ok-table.table.items ≡ length c.in_ok-places.places.items = omega (arith, c.in_ok-table.ensures.count, c.len.ensures, c.in_ok-places.places.ok.0) in
    let bound : c.loop-i.i ≤ count (functions (declarations t c.args.declarations.now)) =
    omega (arith, all, same, c.len-2.ensures, c.in_ok-table.table.ok.0, c.min-count.ensures, c.loop-i.auto.i-end) in
    c.loop-i.invariant.settled t (count (functions (declarations t c.args.declarations.now))) bound
