use Rattle.std.proofs.Common.{◌≡◌, [], length, ap, sym, ◌∙◌, subst, take, arith}
use Rattle.plan_dag.specs.declared.op.Op.{Op}
use Rattle.lift_prims.specs.Forms.{form_fits, form_cols, cols_in}
use Rattle.lift_prims.specs.Staging.{MarkFits, FormStages, CallMade, form_marks}
use Rattle.lift_prims.proofs.StagesMade.{no_stages, one_stage, there_stay, cols_stay, marks_done, mark_owes, call_made}
use Rattle.lift_prims.proofs.stage.make_call.Goals as goal

pub loop-mark-init : goal.loop-mark-init
loop-mark-init c = (c.make.new.plan, c.in_ok-out.ensures, no_stages c.args.plan.now c.make.new.plan c.args.looped c.args.inputs.now c.args.offset (λ docs texts. (c.in_ok-out.ensures docs texts).grows) c.requires.loop)

pub check_form-requires-clause-there : goal.check_form-requires-clause-there
check_form-requires-clause-there c = there_stay c.args.plan.now c.loop-mark.plan c.args.inputs.now (c.loop-mark.invariant.2.grows [] []) c.requires.there

pub check_form-requires-clause-fits : goal.check_form-requires-clause-fits
check_form-requires-clause-fits c =
    let m = mark_owes (λ m. MarkFits (cols_in c.args.plan.now c.args.inputs.now) m.1) c.args.marks.now c.loop-mark.mark-index c.mark-item.result c.loop-mark-test.true c.mark-item.is c.requires.marked in
    ap (λ k. form_fits k c.mark-item.result.form.now) (cols_stay c.args.plan.now c.loop-mark.plan c.args.inputs.now (c.loop-mark.invariant.2.grows [] []) c.requires.there) ∙ m.fits

pub check_form-requires-clause-some : goal.check_form-requires-clause-some
check_form-requires-clause-some c = (mark_owes (λ m. MarkFits (cols_in c.args.plan.now c.args.inputs.now) m.1) c.args.marks.now c.loop-mark.mark-index c.mark-item.result c.loop-mark-test.true c.mark-item.is c.requires.marked).some

pub check_form-requires-clause-columns : goal.check_form-requires-clause-columns
check_form-requires-clause-columns c =
    let m = mark_owes (λ m. MarkFits (cols_in c.args.plan.now c.args.inputs.now) m.1) c.args.marks.now c.loop-mark.mark-index c.mark-item.result c.loop-mark-test.true c.mark-item.is c.requires.marked in
    ap (λ k. form_cols k c.mark-item.result.form.now) (cols_stay c.args.plan.now c.loop-mark.plan c.args.inputs.now (c.loop-mark.invariant.2.grows [] []) c.requires.there) ∙ m.columns

pub loop-mark-preserved : goal.loop-mark-preserved
loop-mark-preserved c =
    let i = c.loop-mark.invariant in
    let k = one_stage c.requires.there i.2 c.in_ok-left.ensures in
    let e = marks_done c.args.marks.now c.loop-mark.mark-index c.mark-item.result c.loop-mark-test.true c.mark-item.is in
    (i.0, i.1, subst (λ q. FormStages c.args.plan.now i.0 c.check_form.new.plan c.args.looped c.args.inputs.now q c.args.offset c.in_ok-left.left) (sym e) k)

pub returns : goal.returns
returns c = call_made c.args.marks.now c.loop-mark.mark-index c.loop-mark-test.false c.loop-mark.invariant.1 c.loop-mark.invariant.2
