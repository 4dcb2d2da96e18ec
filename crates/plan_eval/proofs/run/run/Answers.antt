use Rattle.std.proofs.Common.{◌+◌, length, ap, ◌∙◌, arith}
use Rattle.std.proofs.lemmas.Result.{err_from_is_err_and}
use Rattle.plan_eval.specs.declared.events.Event.TheVariants as v
use Rattle.plan_eval.specs.Making.{kept_input}
use Rattle.plan_eval.proofs.RunLaws.{event-is, run-begins, make-small, next-kind, next-given, trees-now, names-now, call-fits, call-made, call-fails, call-tests, ends, fails}
use Rattle.plan_eval.proofs.run.run.Goals.{in-Make+in_ok-table-in-Make+in_ok-release_all-in-Make, in-Test+else-height-gt0+in_ok-release_all-in-Test}
use Rattle.plan_eval.proofs.run.run.Goals as goal

pub loop-place-init : goal.loop-place-init
loop-place-init g c = run-begins c.args.pool.now c.args.store.now c.args.plan.now c.args.events.now c.args.last.now c.args.reads.now c.args.tallies.now.items c.args.tables.now.items c.requires.valid c.requires.events c.requires.tables

pub make-requires-clause-kind : goal.make-requires-clause-kind
make-requires-clause-kind g c = next-kind c.args.pool.now c.args.store.now c.args.plan.now c.args.events.now c.args.last.now c.requires.valid c.requires.over c.requires.last c.args.reads.now c.loop-place.reads c.args.tallies.now.items c.loop-place.place c.loop-place.pool c.loop-place.tables.items c.loop-place.tallies.items c.loop-place.invariant c.in-Make.id.0 c.op-op.result c.op-op.ensures

pub make-requires-clause-texts : goal.make-requires-clause-texts
make-requires-clause-texts g c = next-given c.args.pool.now c.args.store.now c.args.plan.now c.args.events.now c.args.last.now c.requires.valid c.requires.over c.requires.last c.args.reads.now c.loop-place.reads c.args.tallies.now.items c.loop-place.place c.loop-place.pool c.loop-place.tables.items c.loop-place.tallies.items c.loop-place.invariant c.in-Make.id.0 c.op-op.result c.op-op.ensures

pub make-requires-clause-fits : goal.make-requires-clause-fits
make-requires-clause-fits g c = call-fits c.args.pool.now c.args.store.now c.args.plan.now c.args.events.now c.args.last.now c.requires.valid c.requires.over c.requires.last c.args.reads.now c.loop-place.reads c.args.tallies.now.items c.loop-place.place c.loop-place.pool c.loop-place.tables.items c.loop-place.tallies.items c.loop-place.invariant c.in-Make.id c.op-op.result c.input-left.result.now c.input-right.result.now (event-is c.args.events.now c.loop-place.place _ (v.Make c.in-Make.id) c.loop-place-test.true c.in-Make.is) c.op-op.ensures (c.input-left.ensures ∙ ap (kept_input c.loop-place.tables.items) c.first_input.ensures) (c.input-right.ensures ∙ ap (kept_input c.loop-place.tables.items) c.second_input.ensures)

pub make-requires-clause-trees : goal.make-requires-clause-trees
make-requires-clause-trees g c = trees-now c.args.pool.now c.args.store.now c.args.plan.now c.args.events.now c.args.last.now c.requires.valid c.requires.over c.requires.last c.args.reads.now c.loop-place.reads c.args.tallies.now.items c.loop-place.place c.loop-place.pool c.loop-place.tables.items c.loop-place.tallies.items c.loop-place.invariant

pub make-requires-clause-names : goal.make-requires-clause-names
make-requires-clause-names g c = names-now c.args.pool.now c.args.store.now c.args.plan.now c.args.events.now c.args.last.now c.requires.valid c.requires.over c.requires.last c.args.reads.now c.loop-place.reads c.args.tallies.now.items c.loop-place.place c.loop-place.pool c.loop-place.tables.items c.loop-place.tallies.items c.loop-place.invariant

pub returns-in_err-table-in-Make-clause-gives : goal.returns-in_err-table-in-Make-clause-gives
returns-in_err-table-in-Make-clause-gives g c =
    let p = err_from_is_err_and c.from_residual-in_err-table-in-Make.result c.from_residual-in_err-table-in-Make.ensures.1 in
    rw (p.1, p.2) ((call-fails c.args.pool.now c.args.store.now c.args.plan.now c.args.events.now c.args.last.now c.requires.valid c.requires.over c.requires.last c.args.reads.now c.loop-place.reads c.args.tallies.now.items c.loop-place.place c.loop-place.pool c.loop-place.tables.items c.loop-place.tallies.items c.loop-place.invariant c.in-Make.id c.op-op.result c.input-left.result.now c.input-right.result.now c.make.new.pool c.loop-place.tables.items c.make.new.reads c.make.new.tallies.items c.in_err-table-in-Make.field-0.0 c.requires.events (event-is c.args.events.now c.loop-place.place _ (v.Make c.in-Make.id) c.loop-place-test.true c.in-Make.is) c.op-op.ensures (c.input-left.ensures ∙ ap (kept_input c.loop-place.tables.items) c.first_input.ensures) (c.input-right.ensures ∙ ap (kept_input c.loop-place.tables.items) c.second_input.ensures) c.in_err-table-in-Make.ensures.made c.in_err-table-in-Make.ensures.notes).0)

pub returns-in_err-table-in-Make-clause-notes : goal.returns-in_err-table-in-Make-clause-notes
returns-in_err-table-in-Make-clause-notes g c =
    let p = err_from_is_err_and c.from_residual-in_err-table-in-Make.result c.from_residual-in_err-table-in-Make.ensures.1 in
    rw (p.1, p.2) ((call-fails c.args.pool.now c.args.store.now c.args.plan.now c.args.events.now c.args.last.now c.requires.valid c.requires.over c.requires.last c.args.reads.now c.loop-place.reads c.args.tallies.now.items c.loop-place.place c.loop-place.pool c.loop-place.tables.items c.loop-place.tallies.items c.loop-place.invariant c.in-Make.id c.op-op.result c.input-left.result.now c.input-right.result.now c.make.new.pool c.loop-place.tables.items c.make.new.reads c.make.new.tallies.items c.in_err-table-in-Make.field-0.0 c.requires.events (event-is c.args.events.now c.loop-place.place _ (v.Make c.in-Make.id) c.loop-place-test.true c.in-Make.is) c.op-op.ensures (c.input-left.ensures ∙ ap (kept_input c.loop-place.tables.items) c.first_input.ensures) (c.input-right.ensures ∙ ap (kept_input c.loop-place.tables.items) c.second_input.ensures) c.in_err-table-in-Make.ensures.made c.in_err-table-in-Make.ensures.notes).1)

pub returns-then-height-gt0-clause-gives : goal.returns-then-height-gt0-clause-gives
returns-then-height-gt0-clause-gives g c = (fails c.args.pool.now c.args.store.now c.args.plan.now c.args.events.now c.args.last.now c.requires.valid c.requires.over c.requires.last c.args.reads.now c.loop-place.reads c.args.tallies.now.items c.loop-place.place c.loop-place.pool c.loop-place.tables.items c.loop-place.tallies.items c.loop-place.invariant c.in-Test.check c.requires.events (event-is c.args.events.now c.loop-place.place _ (v.Test c.in-Test.check) c.loop-place-test.true c.in-Test.is) (omega (arith, c.if-height-gt0.true, c.height.ensures, ap (λ t. length t.rows) c.input.ensures))).0

pub returns-then-height-gt0-clause-notes : goal.returns-then-height-gt0-clause-notes
returns-then-height-gt0-clause-notes g c = (fails c.args.pool.now c.args.store.now c.args.plan.now c.args.events.now c.args.last.now c.requires.valid c.requires.over c.requires.last c.args.reads.now c.loop-place.reads c.args.tallies.now.items c.loop-place.place c.loop-place.pool c.loop-place.tables.items c.loop-place.tallies.items c.loop-place.invariant c.in-Test.check c.requires.events (event-is c.args.events.now c.loop-place.place _ (v.Test c.in-Test.check) c.loop-place-test.true c.in-Test.is) (omega (arith, c.if-height-gt0.true, c.height.ensures, ap (λ t. length t.rows) c.input.ensures))).1

pub put-requires : goal.put-requires
put-requires g c =
    let small = make-small c.args.pool.now c.args.store.now c.args.plan.now c.args.events.now c.args.last.now c.requires.valid c.requires.over c.requires.last c.args.reads.now c.loop-place.reads c.args.tallies.now.items c.loop-place.place c.loop-place.pool c.loop-place.tables.items c.loop-place.tallies.items c.loop-place.invariant c.in-Make.id (event-is c.args.events.now c.loop-place.place _ (v.Make c.in-Make.id) c.loop-place-test.true c.in-Make.is) in
    let many = c.loop-place.invariant.many in
    omega (arith, small, many)

pub loop-place-preserved : goal.loop-place-preserved
loop-place-preserved g c = elim c.match-event.branch [
  | in-Make+in_ok-table-in-Make+in_ok-release_all-in-Make w ↦
      rw (w.pool-is, w.reads-is) (call-made c.args.pool.now c.args.store.now c.args.plan.now c.args.events.now c.args.last.now c.requires.valid c.requires.over c.requires.last c.args.reads.now c.loop-place.reads c.args.tallies.now.items c.loop-place.place c.loop-place.pool c.loop-place.tables.items c.loop-place.tallies.items c.loop-place.invariant w.in-Make.id w.op-op.result w.input-left.result.now w.input-right.result.now w.make.new.pool w.in_ok-table-in-Make.table w.put.new.tables.items c.match-event.tables.items w.make.new.reads c.match-event.tallies.items (c.loop-place.place + 1) (event-is c.args.events.now c.loop-place.place _ (v.Make w.in-Make.id) c.loop-place-test.true w.in-Make.is) w.op-op.ensures (w.input-left.ensures ∙ ap (kept_input c.loop-place.tables.items) w.first_input.ensures) (w.input-right.ensures ∙ ap (kept_input c.loop-place.tables.items) w.second_input.ensures)
      w.in_ok-table-in-Make.ensures.made w.in_ok-table-in-Make.ensures.keeps w.put.ensures (ap (λ z. z.items) w.tables-is ∙ w.in_ok-release_all-in-Make.ensures)
      w.in_ok-table-in-Make.ensures.notes w.in_ok-table-in-Make.ensures.refuses (ap (λ z. z.items) w.tallies-is ∙ w.in_ok-table-in-Make.ensures.tallies) (omega arith))
  | in-Test+else-height-gt0+in_ok-release_all-in-Test w ↦
      rw (w.pool-is, w.reads-is, w.tallies-is) (call-tests c.args.pool.now c.args.store.now c.args.plan.now c.args.events.now c.args.last.now c.requires.valid c.requires.over c.requires.last c.args.reads.now c.loop-place.reads c.args.tallies.now.items c.loop-place.place c.loop-place.pool c.loop-place.tables.items c.loop-place.tallies.items c.loop-place.invariant w.in-Test.check w.input.result.now c.match-event.tables.items (c.loop-place.place + 1) (event-is c.args.events.now c.loop-place.place _ (v.Test w.in-Test.check) c.loop-place-test.true w.in-Test.is) w.input.ensures (omega (arith, w.if-height-gt0.false, w.height.ensures))
      (ap (λ z. z.items) w.tables-is ∙ w.in_ok-release_all-in-Test.ensures) (omega arith))
]

pub returns-clause-gives : goal.returns-clause-gives
returns-clause-gives g c = (ends c.args.pool.now c.args.store.now c.args.plan.now c.args.events.now c.args.last.now c.requires.valid c.requires.over c.requires.last c.args.reads.now c.loop-place.reads c.args.tallies.now.items c.loop-place.place c.loop-place.pool c.loop-place.tables.items c.loop-place.tallies.items c.loop-place.invariant c.requires.events (omega (arith, c.loop-place-test.false, c.loop-place.auto.place-end))).0

pub returns-clause-notes : goal.returns-clause-notes
returns-clause-notes g c = (ends c.args.pool.now c.args.store.now c.args.plan.now c.args.events.now c.args.last.now c.requires.valid c.requires.over c.requires.last c.args.reads.now c.loop-place.reads c.args.tallies.now.items c.loop-place.place c.loop-place.pool c.loop-place.tables.items c.loop-place.tallies.items c.loop-place.invariant c.requires.events (omega (arith, c.loop-place-test.false, c.loop-place.auto.place-end))).1
