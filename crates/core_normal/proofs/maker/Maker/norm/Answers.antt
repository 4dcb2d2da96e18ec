use Rattle.std.proofs.lemmas.Result.{IfOk-weaker}
use Rattle.core_normal.proofs.FormsNormed.{call_form, chain_form, comma_form, flwor_form, if_form, paren_form, path_form, quantified_form, signed_form}
use Rattle.core_normal.proofs.maker.Maker.norm.Goals as goal

pub returns-in-Comma : goal.returns-in-Comma
returns-in-Comma g c = IfOk-weaker c.comma.result _ _ (λ core i. comma_form _ _ _ _ _ _ core c.in-Comma.is c.get-head.ensures c.as_slice-tail.ensures i) c.comma.ensures

pub returns-in-Flwor : goal.returns-in-Flwor
returns-in-Flwor g c = IfOk-weaker c.loops.result _ _ (λ core i. flwor_form _ _ _ _ _ _ _ _ _ core c.in-Flwor.is c.as_slice-all.ensures c.as_slice-order.ensures c.get-value.ensures i) c.loops.ensures

pub returns-in-Quantified : goal.returns-in-Quantified
returns-in-Quantified g c = IfOk-weaker c.quantified.result _ _ (λ core i. quantified_form _ _ _ _ _ _ _ core c.in-Quantified.is c.as_slice-turns.ensures c.get-asked.ensures i) c.quantified.ensures

pub returns-in-If : goal.returns-in-If
returns-in-If g c = IfOk-weaker c.conditional.result _ _ (λ core i. if_form _ _ _ _ _ _ _ _ core c.in-If.is c.get-test.ensures c.get-yes.ensures c.get-no.ensures i) c.conditional.ensures

pub returns-in-Chain : goal.returns-in-Chain
returns-in-Chain g c = IfOk-weaker c.chain.result _ _ (λ core i. chain_form _ _ _ _ _ _ core c.in-Chain.is c.get-left.ensures c.as_slice-operators.ensures i) c.chain.ensures

pub returns-in-Signed : goal.returns-in-Signed
returns-in-Signed g c = IfOk-weaker c.signed.result _ _ (λ core i. signed_form _ _ _ _ _ _ core c.in-Signed.is c.as_slice-outer.ensures c.get-plain.ensures i) c.signed.ensures

pub returns-in-Path : goal.returns-in-Path
returns-in-Path g c = IfOk-weaker c.path.result _ _ (λ core i. path_form _ _ _ _ _ core c.in-Path.is c.as_slice-later.ensures i) c.path.ensures

pub returns-in-Paren : goal.returns-in-Paren
returns-in-Paren g c = IfOk-weaker c.paren.result _ _ (λ core i. paren_form _ _ _ core c.in-Paren.is i) c.paren.ensures

pub returns-in-Call : goal.returns-in-Call
returns-in-Call g c = IfOk-weaker c.call.result _ _ (λ core i. call_form _ _ _ _ _ core c.in-Call.is c.as_slice-es.ensures i) c.call.ensures
