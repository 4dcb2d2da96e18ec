use Rattle.std.proofs.Common.{◌+◌, sym, ap, subst, ◌∙◌, is_some, take}
use Rattle.core_normal.specs.Counting.{size_of}
use Rattle.core_normal.specs.Measuring as m
use Rattle.core_normal.specs.Measuring.{IsNext}
use Rattle.core_normal.proofs.Tables.{function_turn, variable_turn}
use Rattle.core_normal.proofs.fun_sizes.round.Goals as goal
use Rattle.core_normal.proofs.fun_sizes.round.Goals.{in-Var, in-Fun+in_ok-typed-in-Fun+in_ok-push-in-Fun}

pub loop-declaration-preserved : goal.loop-declaration-preserved
loop-declaration-preserved c = elim c.match-declaration.branch [
  | in-Var w ↦
      subst (λ hs. IsNext c.args.table.now (take (c.loop-declaration.declaration-index + 1) c.args.declarations.now) hs) (sym (ap (λ v. v.items) w.next-is))
      (variable_turn c.args.table.now c.args.declarations.now c.loop-declaration.declaration-index c.loop-declaration.next.items c.declaration-item.result _ _ _ _ c.loop-declaration-test.true c.declaration-item.is w.in-Var.is c.loop-declaration.invariant)
  | in-Fun+in_ok-typed-in-Fun+in_ok-push-in-Fun w ↦
      subst (λ hs. IsNext c.args.table.now (take (c.loop-declaration.declaration-index + 1) c.args.declarations.now) hs) (sym (ap (λ v. v.items) w.next-is ∙ w.in_ok-push-in-Fun.ensures.items))
      (function_turn c.args.table.now c.args.declarations.now c.loop-declaration.declaration-index c.loop-declaration.next.items c.declaration-item.result _ _ _ _ _ _ c.loop-declaration-test.true c.declaration-item.is w.in-Fun.is c.loop-declaration.invariant
      (w.in_ok-typed-in-Fun.ensures ∙ ap m.typed w.as_slice.ensures)
      (w.body_size-body.ensures ∙ ap (λ b. m.converted b (size_of c.args.table.now w.get.result.now)) w.is_some.ensures ∙ ap (λ e. m.converted (is_some w.in-Fun.result) (size_of c.args.table.now e)) w.get.ensures))
]
