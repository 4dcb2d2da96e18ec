use Rattle.std.proofs.Common.{ap, ◌∙◌, ◌≡◌, ◌++◌, ◌∷◌, [], length, rules}
use Rattle.table_ops.specs.Columns.{cells_in}
use Rattle.table_ops.proofs.Combining.{single_whole}
use Rattle.table_ops.proofs.table.Table.single.Goals as goal

pub returns : goal.returns
returns c =
    let len : c.args.cells.len ≡ length c.args.cells.items = search rules in
    single_whole c.made.result c.args.col c.named.result c.args.cells.items c.put.new.out.items c.len-height.result (c.len-height.ensures ∙ len) c.named.ensures
    (c.in_ok-put.ensures ∙ ap (λ z. cells_in z ++ c.args.cells.items ∷ []) c.new-columns.ensures.items)
    c.made.ensures
