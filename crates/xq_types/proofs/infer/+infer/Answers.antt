use Rattle.std.proofs.Common.{[], ap, ℕ, ◌∙◌}
use Rattle.core_meaning.specs.declared.node.Bind.TheFolds.{fold_out-SortKey}
use Rattle.core_meaning.specs.PlainCore.{PlainCore, PlainBind, PlainKey}
use Rattle.core_meaning.specs.Erasure.{bind_of, form_of, node_of, key_of}
use Rattle.xq_types.specs.Entered.{before}
use Rattle.xq_types.specs.Scopes.{types_in}
use Rattle.xq_types.proofs.Inferring.{all_turn, binds_start, keys_turn}
use Rattle.xq_types.proofs.infer.+infer.Goals as goal

pub enter_binds-loop-bind-init : goal.enter_binds-loop-bind-init
enter_binds-loop-bind-init t c = record {
  so_far = binds_start _ _ c.new-entered.ensures;
  back = ap (λ es. before es (types_in c.args.scope.now)) c.new-entered.ensures;
}

pub infer_all-loop-core-preserved : goal.infer_all-loop-core-preserved
infer_all-loop-core-preserved t c = record {
  so_far = all_turn (types_in c.args.scope.now) (types_in c.loop-core.scope) c.args.cores.now c.loop-core.core-index c.core-item.result _ c.loop-core.types.items _ c.in_ok-t.t c.loop-core-test.true c.core-item.is c.loop-core.invariant.same c.loop-core.invariant.so_far c.in_ok-t.ensures.gives c.in_ok-push.ensures.items;
  same = c.in_ok-t.ensures.same ∙ c.loop-core.invariant.same;
}

pub infer_keys-loop-key-preserved : goal.infer_keys-loop-key-preserved
infer_keys-loop-key-preserved t c = record {
  so_far = keys_turn (types_in c.args.scope.now) (types_in c.loop-key.scope) c.args.keys.now c.loop-key.key-index c.key-item.result _ _ _ _ _ _ c.loop-key-test.true c.key-item.is
      (fold_out-SortKey PlainBind (ℕ → PlainCore) PlainCore PlainKey (bind_of []) (form_of []) (node_of []) (key_of []) c.key-item.result)
      c.get.ensures c.loop-key.invariant.same c.loop-key.invariant.so_far c.in_ok-infer.ensures.gives;
  same = c.in_ok-infer.ensures.same ∙ c.loop-key.invariant.same;
}
