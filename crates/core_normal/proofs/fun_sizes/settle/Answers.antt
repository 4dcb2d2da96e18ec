use Rattle.std.proofs.Common.{◌≡◌, sym, ap, ◌∙◌, is_some, Some, slice_get}
use Rattle.xq_ast.specs.declared.query.Declaration.TheVariants as declaration_
use Rattle.core_normal.specs.Counting.{size_of}
use Rattle.core_normal.specs.Measuring as m
use Rattle.core_normal.specs.Order.{places, placed}
use Rattle.core_normal.proofs.Settled.{one_settled}
use Rattle.core_normal.proofs.fun_sizes.settle.Goals as goal

pub returns-in_ok-typed-in-Some-Fun-clause-settled :
    goal.returns-in_ok-typed-in-Some-Fun-clause-settled
returns-in_ok-typed-in-Some-Fun-clause-settled c =
    let table = c.args.table.now.items in
    let ty = c.in-Some-Fun.result in
    let there : placed c.args.declarations.now (slice_get (places 0 c.args.declarations.now) c.args.k)
    ≡ Some (declaration_.Fun c.in-Some-Fun.field-0-0 c.in-Some-Fun.field-0-1 c.in-Some-Fun.params ty c.in-Some-Fun.body)
    = ap (λ ps. placed c.args.declarations.now (slice_get ps c.args.k)) (sym c.requires) ∙ (rw c.in-Some-Fun.field-0-is at c.in-Some-Fun.ensures) in
    λ t.
    one_settled t c.args.declarations.now table c.args.k c.in-Some-Fun.field-0-0 c.in-Some-Fun.field-0-1 c.in-Some-Fun.params ty c.in-Some-Fun.body
    (record { typed = c.in_ok-typed-in-Some-Fun.typed; body = c.body_size-body.result }) there
    (c.in_ok-typed-in-Some-Fun.ensures ∙ ap m.typed c.as_slice.ensures)
    (c.body_size-body.ensures ∙ ap (λ b. m.converted b (size_of c.as_slice-in-Some-Fun.result.now c.get.result.now)) c.is_some.ensures
    ∙ ap (λ e. m.converted (is_some ty) (size_of c.as_slice-in-Some-Fun.result.now e)) c.get.ensures
    ∙ ap (λ xs. m.converted (is_some ty) (size_of xs c.in-Some-Fun.body)) c.as_slice-in-Some-Fun.ensures.value)
