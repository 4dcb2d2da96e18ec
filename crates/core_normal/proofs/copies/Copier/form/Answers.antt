use Rattle.std.proofs.lemmas.Result.{IfOk-weaker}
use Rattle.core_normal.proofs.CopiedForms.{call_form, empty_form, fail_form, for_form, if_form, let_form, seq_form, sorted_form, var_form}
use Rattle.core_normal.proofs.copies.Copier.form.Goals as goal

pub returns-in-Empty : goal.returns-in-Empty
returns-in-Empty g c = λ t. empty_form t _ _ _ _ c.in-Empty.is (c.empty.ensures t)

pub returns-in-Seq : goal.returns-in-Seq
returns-in-Seq g c = IfOk-weaker c.seq.result _ _ (λ r i t. seq_form t _ _ _ _ _ _ _ r c.in-Seq.is c.get.ensures c.get-in-Seq.ensures (i t)) c.seq.ensures

pub returns-in-Fail : goal.returns-in-Fail
returns-in-Fail g c = λ t. fail_form t _ _ _ _ _ c.in-Fail.is (c.fail.ensures t)

pub returns-in-Var : goal.returns-in-Var
returns-in-Var g c = IfOk-weaker c.var.result _ _ (λ r i t. var_form t _ _ _ r _ c.in-Var.is (i t)) c.var.ensures

pub returns-in-Let : goal.returns-in-Let
returns-in-Let g c = IfOk-weaker c.let_be.result _ _ (λ r i t. let_form t _ _ _ r _ _ _ _ _ c.in-Let.is c.get-in-Let.ensures c.get-in-Let-2.ensures (i t)) c.let_be.ensures

pub returns-in-If : goal.returns-in-If
returns-in-If g c = IfOk-weaker c.choice.result _ _ (λ r i t. if_form t _ _ _ r _ _ _ _ _ _ c.in-If.is c.get-in-If.ensures c.get-in-If-2.ensures c.get-in-If-3.ensures (i t)) c.choice.ensures

pub returns-in-For : goal.returns-in-For
returns-in-For g c = IfOk-weaker c.for_each.result _ _ (λ r i t. for_form t _ _ _ r _ _ _ _ _ _ c.in-For.is c.get-in-For.ensures c.get-in-For-2.ensures (i t)) c.for_each.ensures

pub returns-in-Call : goal.returns-in-Call
returns-in-Call g c = IfOk-weaker c.call.result _ _ (λ r i t. call_form t _ _ _ r _ _ _ c.in-Call.is c.as_slice-in-Call.ensures (i t)) c.call.ensures

pub returns-in-Sorted : goal.returns-in-Sorted
returns-in-Sorted g c = IfOk-weaker c.sorted.result _ _ (λ r i t. sorted_form t _ _ _ r _ _ _ _ _ _ c.in-Sorted.is c.as_slice.ensures c.as_slice-in-Sorted.ensures c.get-in-Sorted.ensures (i t)) c.sorted.ensures
