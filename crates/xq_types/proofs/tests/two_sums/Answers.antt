use Rattle.std.proofs.Common.{ap, ◌∙◌}
use Rattle.std.proofs.lemmas.Result.{IfOk-weaker}
use Rattle.core_meaning.specs.Erasure.{core_of}
use Rattle.core_meaning.specs.PlainCore.{Seq}
use Rattle.xq_types.specs.Samples.{letter, number, plus}
use Rattle.xq_types.proofs.Samples.{sum_of}
use Rattle.xq_types.proofs.tests.two_sums.Goals as goal

pub returns : goal.returns
returns c =
    IfOk-weaker c.both.result _ _
    (λ core h t. h t
    ∙ ap (λ z. Seq 0 z (core_of t c.in_ok-second.second)) (sum_of 1 _ _ _ _ _ (c.in_ok-first.ensures t) (c.one.ensures t) (c.text.ensures t))
    ∙ ap (λ z. Seq 0 (plus 1 (number 1) (letter t 5)) z) (sum_of 10 _ _ _ _ _ (c.in_ok-second.ensures t) (c.text-2.ensures t) (c.one-2.ensures t)))
    c.both.ensures
