use Rattle.std.proofs.Common.{map, length}
use Rattle.std.proofs.lemmas.Result.{IfOk-weaker}
use Rattle.core_scope.proofs.Early.{as_many_mapped, soon_steps}
use Rattle.core_scope.proofs.soon.first_too_soon.Goals as goal

pub returns : goal.returns
returns c =
    IfOk-weaker c.soon.result _ _
    (λ o e. soon_steps c.args.calls.now c.args.refers.now (map (λ v. v.items) c.args.values.now) (length c.args.values.now) c.len.result c.len-2.result c.in_ok-callers.callers c.in_ok-referrers.referrers o
    c.requires.as_many c.requires.bounded (as_many_mapped _ c.args.values.now) c.in_ok-callers.ensures c.len.ensures c.in_ok-referrers.ensures c.len-2.ensures e)
    c.soon.ensures
