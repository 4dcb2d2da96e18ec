use Rattle.std.proofs.Common.{◌≡◌, ◌-◌, ◌<◌, suc, arith, ap, ◌∙◌, ◌∷◌, [], length}
use Rattle.xq_base.specs.declared.item.TextId.{TextId}
use Rattle.doc_table.specs.Enc.{enc, line_in}
use Rattle.doc_table.specs.Given.{is_given}
use Rattle.doc_table.specs.Places.{Place}
use Rattle.doc_table.specs.Tree.{text_in}
use Rattle.doc_table.proofs.StringValues.{attribute-inside, row-inside}
use Rattle.xq_funs.proofs.NodeLaws.{attribute_name_given}
use Rattle.table_ops.proofs.PartLaws.{attribute_named, row_unnamed}
use Rattle.table_ops.proofs.contents.place_name.Goals as goal

pub returns-then-attr-gt0-clause-value : goal.returns-then-attr-gt0-clause-value
returns-then-attr-gt0-clause-value c =
    let number : c.args.attr ≡ suc (c.args.attr - 1) = omega (arith, c.if-attr-gt0.true) in
    let d : TextId × TextId = (c.attribute_name.result, record { 0 = 0 }) in
    λ texts. ap (λ z. text_in texts z ∷ []) c.attribute_name.ensures ∙ attribute_named texts c.args.frag.now c.args.pre c.args.attr c.validity.ensures.sound c.requires (c.args.attr - 1) d number

pub returns-then-attr-gt0-clause-given : goal.returns-then-attr-gt0-clause-given
returns-then-attr-gt0-clause-given c =
    let place : Place = record { pre = c.args.pre; attr = c.args.attr } in
    let d : TextId × TextId = (c.attribute_name.result, record { 0 = 0 }) in
    let inside : c.args.attr - 1 < length (line_in (enc c.args.frag.now) c.args.pre).attributes = omega (arith, attribute-inside c.args.frag.now place c.requires, c.if-attr-gt0.true) in
    λ n g. ap (is_given n) c.attribute_name.ensures ∙ attribute_name_given n c.args.frag.now c.args.pre (c.args.attr - 1) d (row-inside c.args.frag.now place c.requires) inside g

pub returns-clause-value : goal.returns-clause-value
returns-clause-value c =
    let none : c.args.attr ≡ 0 = omega (arith, c.if-attr-gt0.false) in
    λ texts. row_unnamed texts c.args.frag.now c.args.pre c.args.attr c.validity.ensures.sound c.requires none
