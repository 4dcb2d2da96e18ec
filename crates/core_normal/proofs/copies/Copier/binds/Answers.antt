use Rattle.std.proofs.Common.{◌≤◌, length, arith}
use Rattle.core_meaning.specs.Erasure.{plain_bind}
use Rattle.core_normal.specs.Copying.{bind_moved}
use Rattle.core_normal.proofs.Copied.{all_copied, one_more}
use Rattle.core_normal.proofs.copies.Copier.binds.Goals as goal

pub loop-bind-preserved : goal.loop-bind-preserved
loop-bind-preserved g c = λ x.
    one_more (plain_bind x) (λ y. bind_moved c.args.self.now.moving.base c.args.self.now.moving.by (plain_bind x y)) c.args.binds.now c.loop-bind.bind-index c.bind-item.result _ _ _ c.loop-bind-test.true c.bind-item.is c.in_ok-push.ensures.ok
    (c.in_ok-copy.ensures x) (c.loop-bind.invariant x)

pub returns : goal.returns
returns g c =
    let done : length c.args.binds.now ≤ c.loop-bind.bind-index = omega arith in
    λ x. all_copied (plain_bind x) (λ y. bind_moved c.args.self.now.moving.base c.args.self.now.moving.by (plain_bind x y)) c.args.binds.now c.loop-bind.bind-index c.loop-bind.copies done (c.loop-bind.invariant x)
