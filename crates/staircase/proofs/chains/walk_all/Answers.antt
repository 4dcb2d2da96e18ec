use Rattle.std.proofs.Common.{refl, sym, subst, IsPermutation}
use Rattle.std.proofs.lemmas.List.Sorted.{Contains-permutation, IsPermutation-sym}
use Rattle.staircase.specs.Chains.{onward, OnChain}
use Rattle.staircase.proofs.Elements.{in-contains, contains-in}
use Rattle.staircase.proofs.HitGains.{gains-step, gains-whole}
use Rattle.staircase.proofs.PartLaws.{in-at}
use Rattle.staircase.proofs.chains.walk_all.Goals as goal

pub walk-requires-clause-start : goal.walk-requires-clause-start
walk-requires-clause-start c =
    let sorted = subst (λ z. IsPermutation c.args.starts.now.items z) (sym c.as_slice-start-items.ensures.value) c.sort_unstable_by.ensures.permutation in
    c.requires.starts _ (contains-in _ c.args.starts.now.items (Contains-permutation c.as_slice-start-items.result.now c.args.starts.now.items _ (IsPermutation-sym c.args.starts.now.items c.as_slice-start-items.result.now sorted) (in-contains _ c.as_slice-start-items.result.now (in-at c.as_slice-start-items.result.now c.loop-start.start-index _ c.loop-start-test.true))))

pub loop-start-preserved : goal.loop-start-preserved
loop-start-preserved c =
    let w = c.in_ok-walk.ensures.walks c.loop-start.invariant.marked in
    record {
      many = c.walk.ensures.marks;
      marked = w.marked;
      done = gains-step (OnChain (onward c.args.axis c.args.rows.now c.args.links.now) c.args.counting c.args.rows.now) c.as_slice-start-items.result.now c.loop-start.start-index _ _ c.args.hits.now.items c.loop-start.hits.items c.walk.new.hits.items c.loop-start-test.true refl c.loop-start.invariant.done w.gains;
    }

pub returns : goal.returns
returns c =
    gains-whole (OnChain (onward c.args.axis c.args.rows.now c.args.links.now) c.args.counting c.args.rows.now) c.args.starts.now.items c.as_slice-start-items.result.now c.loop-start.start-index c.args.hits.now.items c.loop-start.hits.items (subst (λ z. IsPermutation c.args.starts.now.items z) (sym c.as_slice-start-items.ensures.value) c.sort_unstable_by.ensures.permutation) c.loop-start-test.false c.loop-start.invariant.done
