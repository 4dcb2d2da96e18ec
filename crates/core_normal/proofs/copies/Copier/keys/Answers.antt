use Rattle.std.proofs.Common.{◌≤◌, length, arith}
use Rattle.core_meaning.specs.Erasure.{plain_key}
use Rattle.core_normal.specs.Copying.{key_moved}
use Rattle.core_normal.proofs.Copied.{all_copied, one_more}
use Rattle.core_normal.proofs.copies.Copier.keys.Goals as goal

pub loop-key-preserved : goal.loop-key-preserved
loop-key-preserved g c = λ x.
    one_more (plain_key x) (λ y. key_moved c.args.self.now.moving.base c.args.self.now.moving.by (plain_key x y)) c.args.keys.now c.loop-key.key-index c.key-item.result _ _ _ c.loop-key-test.true c.key-item.is c.in_ok-push.ensures.ok
    (c.in_ok-copy.ensures x) (c.loop-key.invariant x)

pub returns : goal.returns
returns g c =
    let done : length c.args.keys.now ≤ c.loop-key.key-index = omega arith in
    λ x. all_copied (plain_key x) (λ y. key_moved c.args.self.now.moving.base c.args.self.now.moving.by (plain_key x y)) c.args.keys.now c.loop-key.key-index c.loop-key.copies done (c.loop-key.invariant x)
