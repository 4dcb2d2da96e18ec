use Rattle.std.proofs.Common.{◌≡◌, ◌<◌, ◌-◌, suc, length, arith, ap, ◌∙◌}
use Rattle.xq_base.specs.declared.item.TextId.{TextId}
use Rattle.doc_table.specs.Tree.{text_in}
use Rattle.doc_table.specs.TextRows.{text_or_none}
use Rattle.doc_table.specs.Given.{is_given, option_given}
use Rattle.doc_table.specs.Enc.{enc, line_in}
use Rattle.doc_table.specs.Places.{Place}
use Rattle.doc_table.proofs.StringValues.{row-inside, attribute-inside}
use Rattle.xq_funs.proofs.NodeLaws.{row_named, attribute_named, row_given, attribute_name_given}
use Rattle.xq_funs.proofs.node_values.name_in.Goals as goal

pub attribute_name-requires-clause-row : goal.attribute_name-requires-clause-row
attribute_name-requires-clause-row c = row-inside c.args.frag.now (record { pre = c.args.pre; attr = c.args.attr }) c.requires

pub attribute_name-requires-clause-number : goal.attribute_name-requires-clause-number
attribute_name-requires-clause-number c = omega (arith, attribute-inside c.args.frag.now (record { pre = c.args.pre; attr = c.args.attr }) c.requires, c.if-attr-gt0.true)

pub row_name-requires : goal.row_name-requires
row_name-requires c = row-inside c.args.frag.now (record { pre = c.args.pre; attr = c.args.attr }) c.requires

pub returns-then-attr-gt0 : goal.returns-then-attr-gt0
returns-then-attr-gt0 c =
    let place : Place = record { pre = c.args.pre; attr = c.args.attr } in
    let number : c.args.attr ≡ suc (c.args.attr - 1) = omega (arith, c.if-attr-gt0.true) in
    let few : c.args.attr - 1 < length (line_in (enc c.args.frag.now) c.args.pre).attributes = omega (arith, attribute-inside c.args.frag.now place c.requires, c.if-attr-gt0.true) in
    record {
      value = λ texts. ap (λ (z : TextId). text_in texts z) c.attribute_name.ensures ∙ attribute_named texts c.args.frag.now place (c.args.attr - 1) (c.attribute_name.result, record { 0 = 0 }) c.validity.ensures.sound c.requires number;
      given = λ n g. ap (λ (z : TextId). is_given n z) c.attribute_name.ensures ∙ attribute_name_given n c.args.frag.now c.args.pre (c.args.attr - 1) (c.attribute_name.result, record { 0 = 0 }) (row-inside c.args.frag.now place c.requires) few g;
    }

pub returns : goal.returns
returns c =
    let place : Place = record { pre = c.args.pre; attr = c.args.attr } in
    let none : c.args.attr ≡ 0 = omega (arith, c.if-attr-gt0.false) in
    record {
      value = λ texts. ap (text_or_none texts) c.row_name.ensures ∙ row_named texts c.args.frag.now place c.validity.ensures.sound c.requires none;
      given = λ n g. ap (option_given n) c.row_name.ensures ∙ row_given n c.args.frag.now c.args.pre (row-inside c.args.frag.now place c.requires) g;
    }
