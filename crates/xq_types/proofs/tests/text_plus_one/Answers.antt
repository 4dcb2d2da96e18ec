use Rattle.std.proofs.lemmas.Result.{IfOk-weaker}
use Rattle.xq_types.proofs.Samples.{sum_of}
use Rattle.xq_types.proofs.tests.text_plus_one.Goals as goal

pub returns : goal.returns
returns c = IfOk-weaker c.sum.result _ _ (λ core h t. sum_of 0 _ _ _ _ _ (h t) (c.text.ensures t) (c.one.ensures t)) c.sum.ensures
