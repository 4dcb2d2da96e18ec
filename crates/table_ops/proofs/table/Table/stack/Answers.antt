use Rattle.std.proofs.Common.{◌∙◌, arith}
use Rattle.table_ops.specs.Columns.{heads, zipped}
use Rattle.table_ops.proofs.Combining.{stack_need, stack_whole}
use Rattle.table_ops.proofs.table.Table.stack.Goals as goal

pub made-requires : goal.made-requires
made-requires c =
    stack_need c.args.self.now c.args.other.now c.args.self.now c.self.inside.cols c.other.inside.cols c.self.inside.columns.items c.other.inside.columns.items c.in_ok-columns.columns.items c.self.inside.height c.other.inside.height c.in-Some.height
    c.self.view_is c.other.view_is c.self.invariant c.other.invariant c.requires (omega (arith, c.in-Some.ensures))
    (c.in_ok-columns.ensures ∙ (λ i. zipped (heads c.self.inside.height (c.deref.ensures.value i)) (heads c.other.inside.height (c.deref-2.ensures.value i))))

pub returns : goal.returns
returns c =
    stack_whole c.args.self.now c.args.other.now c.made.result c.self.inside.cols c.other.inside.cols c.self.inside.columns.items c.other.inside.columns.items c.in_ok-columns.columns.items c.self.inside.height c.other.inside.height c.in-Some.height
    c.self.view_is c.other.view_is c.self.invariant c.other.invariant c.requires (omega (arith, c.in-Some.ensures))
    (c.in_ok-columns.ensures ∙ (λ i. zipped (heads c.self.inside.height (c.deref.ensures.value i)) (heads c.other.inside.height (c.deref-2.ensures.value i))))
    c.made.ensures
