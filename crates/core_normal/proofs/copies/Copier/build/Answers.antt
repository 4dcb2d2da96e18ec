use Rattle.std.proofs.lemmas.Result.{IfOk-weaker}
use Rattle.core_normal.proofs.CopiedForms.{with_name, without_name}
use Rattle.core_normal.proofs.copies.Copier.build.Goals as goal

pub returns-in-Some : goal.returns-in-Some
returns-in-Some g c = IfOk-weaker c.build_named.result _ _ (λ r i t. with_name t _ _ r _ _ _ _ _ _ c.in-Some.is c.get.ensures (i t)) c.build_named.ensures

pub returns-in-None : goal.returns-in-None
returns-in-None g c = IfOk-weaker c.build_plain.result _ _ (λ r i t. without_name t _ _ r _ _ _ _ c.in-None.is (i t)) c.build_plain.ensures
