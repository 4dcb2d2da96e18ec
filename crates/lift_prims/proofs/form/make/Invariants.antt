use Rattle.std.proofs.Common.{take, drop}
use Rattle.lift_prims.proofs.Making.{SoFar}
use Rattle.lift_prims.proofs.form.make.Given as goal

abbrev pub invariant-loop-op : goal.invariant-loop-op
invariant-loop-op l = SoFar l.fn.plan l.plan l.inputs l.places.items (take l.op-index l.form) (drop l.op-index l.form)
