use Rattle.std.proofs.Common.{◌≡◌, ◌-◌, suc, arith, ap, ◌∙◌}
use Rattle.table_ops.specs.declared.parts.Part.TheVariants as t
use Rattle.table_ops.specs.Contents.{leaves_as}
use Rattle.table_ops.proofs.PartLaws.{attribute_part, row_part}
use Rattle.table_ops.proofs.parts.place_part.Goals as goal

pub returns-then-attr-gt0 : goal.returns-then-attr-gt0
returns-then-attr-gt0 c =
    let number : c.args.attr ≡ suc (c.args.attr - 1) = omega (arith, c.if-attr-gt0.true) in
    attribute_part c.args.pool.now c.args.frag.now c.args.pre c.args.attr c.validity.ensures.sound c.requires.place (c.args.attr - 1) number

pub returns : goal.returns
returns c =
    let none : c.args.attr ≡ 0 = omega (arith, c.if-attr-gt0.false) in
    ap t.Other (c.leaves.ensures ∙ (λ i. leaves_as c.args.pool.now (c.at.ensures i).kind (c.at.ensures i).value (c.at.ensures i).size))
    ∙ row_part c.args.pool.now c.args.frag.now c.args.pre c.args.attr c.validity.ensures.sound c.requires.place c.requires.once c.requires.first c.requires.texts none
