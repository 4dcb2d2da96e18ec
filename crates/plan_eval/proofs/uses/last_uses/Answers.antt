use Rattle.std.proofs.Common.{length, ap, ◌∙◌, arith}
use Rattle.plan_eval.specs.Uses.{raised}
use Rattle.plan_eval.proofs.UseLaws.{one-more-use, uses-end, event-at}
use Rattle.plan_eval.proofs.uses.last_uses.Goals as goal

pub loop-place-preserved : goal.loop-place-preserved
loop-place-preserved c = one-more-use c.args.plan.now.ops c.args.events.now c.loop-place.place _ c.loop-place.last.items c.raise_all.new.last.items c.loop-place.invariant (event-at c.args.events.now c.loop-place.place _ c.loop-place-test.true) c.raise_all.ensures

pub returns : goal.returns
returns c = uses-end c.args.plan.now.ops c.args.plan.now.root c.args.events.now c.loop-place.place c.loop-place.last.items c.raise.new.last.items c.loop-place.invariant (omega (arith, c.loop-place-test.false, c.loop-place.auto.place-end)) (c.raise.ensures ∙ ap (λ r. raised (length c.args.events.now) r c.loop-place.last.items) c.root.ensures)
