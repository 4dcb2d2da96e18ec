use Rattle.std.proofs.Common.{refl, sym, arith, ◌≤◌, length}
use Rattle.core_normal.specs.Trees as trees
use Rattle.core_normal.proofs.Refs.{refs_turn, refs_end}
use Rattle.core_normal.proofs.bind_refs.for_refs.Goals as goal

pub loop-bind-init : goal.loop-bind-init
loop-bind-init c = λ t rest. refl

pub loop-bind-preserved : goal.loop-bind-preserved
loop-bind-preserved c =
    λ t rest. refs_turn t (λ ys. trees.for_binds t ys rest) _ _ c.bind-item.result _ _ _ _ c.loop-bind-test.true c.bind-item.is c.in_ok-push.ensures.items (λ ys. sym (c.for_ref-one.ensures t (trees.for_binds t ys rest))) (c.loop-bind.invariant t rest)

pub returns : goal.returns
returns c =
    let done : length c.args.binds.now ≤ c.loop-bind.bind-index = omega arith in
    λ t rest. refs_end t (λ ys. trees.for_binds t ys rest) _ _ _ _ _ done refl (c.loop-bind.invariant t rest)
