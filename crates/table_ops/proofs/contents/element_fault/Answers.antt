use Rattle.std.proofs.Common.{◌∙◌, ap, sym, cond, Some, None, true, false}
use Rattle.xq_base.specs.declared.code.Code.TheVariants as c
use Rattle.table_ops.specs.Contents.{are_apart}
use Rattle.table_ops.proofs.FaultLaws.{nodes_given, element_late, element_in_time}
use Rattle.table_ops.proofs.contents.element_fault.Goals as goal

pub returns-then-is_late : goal.returns-then-is_late
returns-then-is_late x = element_late x.args.pool.now x.args.store.now x.validity.ensures.kept x.requires.trees x.requires.first x.requires.once x.args.cells.now x.requires.items x.args.parts.now x.requires.parts (sym x.is_late.ensures ∙ x.if-is_late.true)

pub names_of-requires : goal.names_of-requires
names_of-requires x = nodes_given x.args.pool.now x.args.store.now x.args.cells.now x.requires.items

pub returns-then-branch : goal.returns-then-branch
returns-then-branch x =
    ap (λ b. cond b None (Some c.XQDY0025)) (sym (sym (x.in_ok-are_apart.ensures ∙ ap are_apart x.deref.ensures.value) ∙ x.if-branch.true))
    ∙ element_in_time x.args.pool.now x.args.store.now x.validity.ensures.kept x.requires.trees x.requires.first x.requires.once x.args.cells.now x.requires.items x.args.parts.now x.requires.parts x.in_ok-names.names.items (sym x.is_late.ensures ∙ x.if-is_late.false)
    (x.in_ok-names.ensures.given x.args.pool.now x.requires.trees) (x.in_ok-names.ensures.names x.args.pool.now)

pub returns : goal.returns
returns x =
    ap (λ b. cond b None (Some c.XQDY0025)) (sym (sym (x.in_ok-are_apart.ensures ∙ ap are_apart x.deref.ensures.value) ∙ x.if-branch.false))
    ∙ element_in_time x.args.pool.now x.args.store.now x.validity.ensures.kept x.requires.trees x.requires.first x.requires.once x.args.cells.now x.requires.items x.args.parts.now x.requires.parts x.in_ok-names.names.items (sym x.is_late.ensures ∙ x.if-is_late.false)
    (x.in_ok-names.ensures.given x.args.pool.now x.requires.trees) (x.in_ok-names.ensures.names x.args.pool.now)
