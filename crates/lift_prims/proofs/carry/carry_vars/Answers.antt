use Rattle.std.proofs.Common.{[], take, get_or}
use Rattle.lift_laws.specs.Shapes.{into_rows}
use Rattle.lift_prims.specs.Scopes.{scope_of}
use Rattle.lift_prims.proofs.Over.{shaped_stays}
use Rattle.lift_prims.proofs.Scoped.{own_get, read_stays, carries_on, carries_all}
use Rattle.lift_prims.proofs.carry.carry_vars.Goals as goal

pub into_loop-requires-clause-map : goal.into_loop-requires-clause-map
into_loop-requires-clause-map c = shaped_stays c.args.plan.now c.loop-name.plan (c.loop-name.invariant [] []).grows c.requires.map

pub into_loop-requires-clause-var : goal.into_loop-requires-clause-var
into_loop-requires-clause-var c =
    read_stays into_rows c.args.plan.now c.loop-name.plan (take c.loop-name.name-index c.args.names.now) c.args.names.now c.loop-name.name-index (get_or c.args.names.now c.loop-name.name-index 0) c.look_up.result c.loop-name-test.true
    (own_get c.args.names.now c.loop-name.name-index c.loop-name-test.true) c.look_up.ensures c.requires.scoped c.loop-name.invariant

pub loop-name-preserved : goal.loop-name-preserved
loop-name-preserved c =
    carries_on into_rows c.args.plan.now c.loop-name.plan c.into_loop.new.plan c.args.map c.look_up.result c.in_ok-op.op (scope_of c.args.scope.now) c.loop-name.inner.items c.push.new.self.items c.args.names.now c.loop-name.name-index
    (get_or c.args.names.now c.loop-name.name-index 0) c.loop-name-test.true (own_get c.args.names.now c.loop-name.name-index c.loop-name-test.true) c.requires.map.0 c.look_up.ensures c.requires.scoped c.loop-name.invariant c.in_ok-op.ensures
    c.in_ok-push.ensures.items

pub returns : goal.returns
returns c = carries_all into_rows c.args.plan.now c.loop-name.plan c.args.map (scope_of c.args.scope.now) (scope_of c.loop-name.inner.items) c.args.names.now c.loop-name.name-index c.loop-name-test.false c.loop-name.invariant
