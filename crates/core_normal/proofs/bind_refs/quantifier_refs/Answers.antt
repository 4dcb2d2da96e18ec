use Rattle.std.proofs.Common.{refl, sym, ap, arith, ◌≤◌, length}
use Rattle.core_normal.specs.Binding.{binds_in}
use Rattle.core_normal.specs.Trees as trees
use Rattle.core_normal.proofs.Refs.{refs_turn, refs_end}
use Rattle.core_normal.proofs.bind_refs.quantifier_refs.Goals as goal

pub loop-bind-init : goal.loop-bind-init
loop-bind-init c = λ t. ap (λ l. binds_in t l (trees.quant_binds t c.args.binds.now)) c.new-out.ensures.items

pub loop-bind-preserved : goal.loop-bind-preserved
loop-bind-preserved c =
    λ t. refs_turn t (trees.quant_binds t) _ _ c.bind-item.result _ _ _ _ c.loop-bind-test.true c.bind-item.is c.in_ok-push.ensures.items (λ ys. sym (c.quant_ref-one.ensures t (trees.quant_binds t ys))) (c.loop-bind.invariant t)

pub returns : goal.returns
returns c =
    let done : length c.args.binds.now ≤ c.loop-bind.bind-index = omega arith in
    λ t. refs_end t (trees.quant_binds t) _ _ _ _ _ done refl (c.loop-bind.invariant t)
