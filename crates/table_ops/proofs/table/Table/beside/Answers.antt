use Rattle.std.proofs.Common.{ap, ◌∙◌, ◌++◌}
use Rattle.table_ops.specs.Columns.{cells_in}
use Rattle.table_ops.proofs.Combining.{beside_need, beside_whole}
use Rattle.table_ops.proofs.table.Table.beside.Goals as goal

pub made-requires : goal.made-requires
made-requires c =
    beside_need c.args.self.now c.args.other.now c.args.self.now c.self.inside.cols c.other.inside.cols c.extended.result c.self.inside.columns.items c.other.inside.columns.items c.share_into-2.new.out.items c.self.inside.height c.other.inside.height
    c.self.view_is c.other.view_is c.requires.as_high
    (c.extended.ensures ∙ ap (λ z. c.self.inside.cols ++ z) c.as_slice.ensures.same)
    (c.in_ok-share_into-2.ensures ∙ (λ i. (c.in_ok-share_into.ensures ∙ (λ j. cells_in (c.new-columns.ensures.items j) ++ cells_in (c.deref.ensures.value j))) i ++ cells_in (c.deref-2.ensures.value i)))
    c.self.invariant c.other.invariant

pub returns : goal.returns
returns c =
    beside_whole c.args.self.now c.args.other.now c.made.result c.self.inside.cols c.other.inside.cols c.extended.result c.self.inside.columns.items c.other.inside.columns.items c.share_into-2.new.out.items c.self.inside.height c.other.inside.height
    c.self.view_is c.other.view_is c.requires.as_high
    (c.extended.ensures ∙ ap (λ z. c.self.inside.cols ++ z) c.as_slice.ensures.same)
    (c.in_ok-share_into-2.ensures ∙ (λ i. (c.in_ok-share_into.ensures ∙ (λ j. cells_in (c.new-columns.ensures.items j) ++ cells_in (c.deref.ensures.value j))) i ++ cells_in (c.deref-2.ensures.value i)))
    c.made.ensures
