use Rattle.std.proofs.Common.{◌≤◌, length, arith}
use Rattle.core_meaning.specs.Erasure.{core_of}
use Rattle.core_normal.specs.Shift as shift
use Rattle.core_normal.proofs.Copied.{all_copied, one_more}
use Rattle.core_normal.proofs.copies.Copier.all.Goals as goal

pub loop-core-preserved : goal.loop-core-preserved
loop-core-preserved g c = λ x.
    one_more (core_of x) (λ y. shift.core c.args.self.now.moving.base c.args.self.now.moving.by (core_of x y)) c.args.cores.now c.loop-core.core-index c.core-item.result _ _ _ c.loop-core-test.true c.core-item.is c.in_ok-push.ensures.ok
    (c.in_ok-copy.ensures x) (c.loop-core.invariant x)

pub returns : goal.returns
returns g c =
    let done : length c.args.cores.now ≤ c.loop-core.core-index = omega arith in
    λ x. all_copied (core_of x) (λ y. shift.core c.args.self.now.moving.base c.args.self.now.moving.by (core_of x y)) c.args.cores.now c.loop-core.core-index c.loop-core.copies done (c.loop-core.invariant x)
