use Rattle.std.proofs.lemmas.Result.{IfOk-weaker}
use Rattle.core_scope.specs.PassedBy.{passed_in}
use Rattle.core_scope.proofs.Wholes.{whole_steps}
use Rattle.core_scope.proofs.first.gathered_of.Goals as goal

pub returns : goal.returns
returns c =
    IfOk-weaker c.with_body.result _ _
    (λ g e. whole_steps c.args.query.now c.in_ok-functions.functions c.as_slice-declarations.result.now (passed_in c.in_ok-passed.passed) c.as_slice.result.now c.version_amiss.result
    c.setters_amiss-outer.result g c.as_slice-declarations.ensures c.in_ok-functions.ensures c.version_amiss.ensures c.as_slice.ensures c.setters_amiss-outer.ensures c.in_ok-passed.ensures e)
    c.with_body.ensures
