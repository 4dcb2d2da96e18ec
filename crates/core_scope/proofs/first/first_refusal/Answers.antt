use Rattle.std.proofs.Common.{◌∙◌}
use Rattle.core_scope.specs.Leaves.{query_read}
use Rattle.core_scope.specs.PassedBy.{gained_in}
use Rattle.core_scope.proofs.Refusing.{first_least, first_bounded}
use Rattle.core_scope.proofs.first.first_refusal.Goals as goal

pub refusal_by_calls-requires : goal.refusal_by_calls-requires
refusal_by_calls-requires c =
    first_bounded c.as_slice.result.now c.gathered.inside.functions.items c.as_slice-2.result.now c.gathered.inside.variables.items gained_in (λ v. v.items) c.gathered.inside.first
    (query_read c.args.query.now) c.as_slice.ensures.value c.as_slice-2.ensures.value (c.gathered.view_is ∙ c.in_ok-gathered.ensures)

pub returns : goal.returns
returns c =
    first_least c.as_slice.result.now c.gathered.inside.functions.items c.as_slice-2.result.now c.gathered.inside.variables.items gained_in (λ v. v.items) c.gathered.inside.first
    (query_read c.args.query.now) c.in_ok-by_calls.by_calls c.first_of_two.result c.as_slice.ensures.value c.as_slice-2.ensures.value (c.gathered.view_is ∙ c.in_ok-gathered.ensures)
    c.in_ok-by_calls.ensures c.first_of_two.ensures
