use Rattle.table_ops.proofs.WholeLaws.{kind_more, kind_stop, kind_end}
use Rattle.table_ops.proofs.wholes.have_kind.Goals as goal

pub returns-then-not-is_alike : goal.returns-then-not-is_alike
returns-then-not-is_alike c = λ texts. kind_stop texts c.args.first c.args.rest.now c.loop-place.place _ c.loop-place-test.true (c.if-not-is_alike.ensures texts) (c.loop-place.invariant texts)

pub loop-place-preserved : goal.loop-place-preserved
loop-place-preserved c = λ texts. kind_more texts c.args.first c.args.rest.now c.loop-place.place _ c.loop-place-test.true (c.if-not-is_alike.ensures texts) (c.loop-place.invariant texts)

pub returns : goal.returns
returns c = λ texts. kind_end texts c.args.first c.args.rest.now c.loop-place.place c.loop-place-test.false (c.loop-place.invariant texts)
