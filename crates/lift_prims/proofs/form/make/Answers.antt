use Rattle.std.proofs.Common.{◌≡◌, ◌<◌, ◌≤◌, length, take, arith, ap, sym, ◌∙◌, subst}
use Rattle.plan_dag.specs.declared.op.OpId.{OpId}
use Rattle.plan_dag.specs.declared.op.Op.{Op}
use Rattle.lift_prims.specs.Forms.{placed, FormMade}
use Rattle.lift_prims.proofs.Making.{turn_fits, turn_done, last_made, at_end}
use Rattle.lift_prims.proofs.form.make.Goals as goal

pub add-requires : goal.add-requires
add-requires c =
    turn_fits c.args.form.now c.loop-op.op-index c.op-item.result c.over_places.result c.loop-op-test.true c.op-item.is (c.over_places.ensures ∙ ap (λ l. placed l c.op-item.result) c.deref.ensures.value) c.loop-op.invariant

pub loop-op-preserved : goal.loop-op-preserved
loop-op-preserved c =
    turn_done c.args.form.now c.loop-op.op-index c.op-item.result c.over_places.result c.in_ok-id.id c.loop-op-test.true c.op-item.is (c.over_places.ensures ∙ ap (λ l. placed l c.op-item.result) c.deref.ensures.value) c.validity.ensures c.in_ok-id.ensures.ok
    c.push.new.self.items c.in_ok-push.ensures.items c.loop-op.invariant

pub overflow_sub-len : goal.overflow_sub-len
overflow_sub-len c = let e = at_end c.args.form.now c.loop-op.op-index c.loop-op-test.false c.requires.some c.loop-op.invariant in omega arith

pub index-requires : goal.index-requires
index-requires c = let e = at_end c.args.form.now c.loop-op.op-index c.loop-op-test.false c.requires.some c.loop-op.invariant in omega arith

pub returns : goal.returns
returns c = last_made c.args.form.now c.loop-op.op-index c.len.result c.index.result.now c.loop-op-test.false c.requires.some (omega arith) c.index.ensures c.loop-op.invariant
