use Rattle.std.proofs.lemmas.Result.{IfOk-weaker}
use Rattle.core_normal.proofs.FormsNormed.{build_form, cast_form, castable_form, element_form, instance_form, treat_form}
use Rattle.core_normal.proofs.maker.Maker.norm_typed.Goals as goal

pub returns-in-Instance : goal.returns-in-Instance
returns-in-Instance g c = IfOk-weaker c.instance.result _ _ (λ core i. instance_form _ _ _ _ _ core c.in-Instance.is c.get-tested.ensures i) c.instance.ensures

pub returns-in-Treat : goal.returns-in-Treat
returns-in-Treat g c = IfOk-weaker c.treat.result _ _ (λ core i. treat_form _ _ _ _ _ core c.in-Treat.is c.get-treated.ensures i) c.treat.ensures

pub returns-in-Castable : goal.returns-in-Castable
returns-in-Castable g c = IfOk-weaker c.castable.result _ _ (λ core i. castable_form _ _ _ _ _ _ core c.in-Castable.is c.get-asked.ensures i) c.castable.ensures

pub returns-in-Cast : goal.returns-in-Cast
returns-in-Cast g c = IfOk-weaker c.cast.result _ _ (λ core i. cast_form _ _ _ _ _ _ core c.in-Cast.is c.get-value.ensures i) c.cast.ensures

pub returns-in-Build : goal.returns-in-Build
returns-in-Build g c = IfOk-weaker c.build.result _ _ (λ core i. build_form _ _ _ _ _ core c.in-Build.is i) c.build.ensures

pub returns-in-Element : goal.returns-in-Element
returns-in-Element g c = IfOk-weaker c.element.result _ _ (λ core i. element_form _ _ _ _ _ _ _ core c.in-Element.is c.as_slice-first.ensures c.as_slice-all.ensures i) c.element.ensures
