use Rattle.std.proofs.Common.{◌<◌, ℕ, length, map, sym, subst, ◌∙◌}
use Rattle.std.specs.List.{Contains}
use Rattle.core_scope.specs.PassedBy.{gained_in}
use Rattle.core_scope.specs.Search.{targets}
use Rattle.core_scope.proofs.Refusing.{by_calls_law}
use Rattle.core_scope.proofs.first.refusal_by_calls.Goals as goal

pub first_too_soon-requires-clause-bounded : goal.first_too_soon-requires-clause-bounded
first_too_soon-requires-clause-bounded c = subst (λ z. (f m : ℕ) → Contains (targets z f) m → m < length c.args.values.now) (sym c.in_ok-refers.ensures) c.requires

pub returns : goal.returns
returns c =
    by_calls_law (map gained_in c.args.functions.now) (map (λ v. v.items) c.args.values.now) c.in_ok-calls.calls c.in_ok-refers.refers c.as_slice.result.now
    c.in_ok-recursive.recursive c.in_ok-soon.soon c.first_of_two.result
    c.in_ok-calls.ensures c.in_ok-refers.ensures (c.as_slice.ensures.value ∙ c.in_ok-offsets.ensures) c.in_ok-recursive.ensures c.in_ok-soon.ensures c.first_of_two.ensures
