use Rattle.std.proofs.lemmas.Result.{IfOk-weaker}
use Rattle.core_normal.proofs.CopiedForms.{build_form, cast_form, castable_form}
use Rattle.core_normal.proofs.copies.Copier.form_with_one.Goals as goal

pub returns-in-Build : goal.returns-in-Build
returns-in-Build g c = IfOk-weaker c.build.result _ _ (λ r i t. build_form t _ _ _ r _ _ _ _ c.in-Build.is c.get-in-Build.ensures (i t)) c.build.ensures

pub returns-in-Cast : goal.returns-in-Cast
returns-in-Cast g c = IfOk-weaker c.cast.result _ _ (λ r i t. cast_form t _ _ _ r _ _ _ _ c.in-Cast.is c.get-in-Cast.ensures (i t)) c.cast.ensures

pub returns-in-Castable : goal.returns-in-Castable
returns-in-Castable g c = IfOk-weaker c.castable.result _ _ (λ r i t. castable_form t _ _ _ r _ _ _ _ c.in-Castable.is c.get-in-Castable.ensures (i t)) c.castable.ensures
