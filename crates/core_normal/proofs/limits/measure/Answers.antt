use Rattle.std.proofs.Common.{ap, ◌∙◌, subst, true, false}
use Rattle.core_normal.specs.Measuring as m
use Rattle.core_normal.proofs.Tables.{known_is, measured_is}
use Rattle.core_normal.proofs.limits.measure.Goals as goal

pub returns-then-size : goal.returns-then-size
returns-then-size c = λ t.
    known_is t c.args.query.now c.in_ok-table.table.items c.whole-size.result c.within.result
    (subst (λ ds. m.IsTable t true ds c.in_ok-table.table.items) c.as_slice-declarations.ensures (c.in_ok-table.ensures t))
    (c.whole-size.ensures ∙ ap (λ xs. m.whole xs c.as_slice-declarations.result.now c.get-main.result.now) c.as_slice.ensures.value
    ∙ ap (λ ds. m.whole c.in_ok-table.table.items ds c.get-main.result.now) c.as_slice-declarations.ensures
    ∙ ap (m.whole c.in_ok-table.table.items c.args.query.now.prolog.declarations) c.get-main.ensures)
    c.if-size.true c.within.ensures

pub returns : goal.returns
returns c = λ t.
    measured_is t c.args.query.now c.in_ok-rounds.rounds.items c.whole-found.result c.within-2.result
    (subst (λ ds. m.IsTable t false ds c.in_ok-rounds.rounds.items) c.as_slice-declarations.ensures (c.in_ok-rounds.ensures t))
    (c.whole-found.ensures ∙ ap (λ xs. m.whole xs c.as_slice-declarations.result.now c.get-main.result.now) c.as_slice-2.ensures.value
    ∙ ap (λ ds. m.whole c.in_ok-rounds.rounds.items ds c.get-main.result.now) c.as_slice-declarations.ensures
    ∙ ap (m.whole c.in_ok-rounds.rounds.items c.args.query.now.prolog.declarations) c.get-main.ensures)
    c.within-2.ensures
