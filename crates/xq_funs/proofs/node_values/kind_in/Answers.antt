use Rattle.std.proofs.Common.{◌≡◌, ◌-◌, suc, arith, ◌∙◌}
use Rattle.doc_table.specs.Places.{Place}
use Rattle.doc_table.proofs.StringValues.{row-inside}
use Rattle.xq_funs.proofs.NodeLaws.{row_kind_is, attribute_kind_is}
use Rattle.xq_funs.proofs.node_values.kind_in.Goals as goal

pub row_kind-requires : goal.row_kind-requires
row_kind-requires c = row-inside c.args.frag.now (record { pre = c.args.pre; attr = c.args.attr }) c.requires

pub returns-then-attr-gt0 : goal.returns-then-attr-gt0
returns-then-attr-gt0 c =
    let place : Place = record { pre = c.args.pre; attr = c.args.attr } in
    let number : c.args.attr ≡ suc (c.args.attr - 1) = omega (arith, c.if-attr-gt0.true) in
    λ texts. attribute_kind_is texts c.args.frag.now place (c.args.attr - 1) c.validity.ensures.sound c.requires number

pub returns : goal.returns
returns c =
    let place : Place = record { pre = c.args.pre; attr = c.args.attr } in
    let none : c.args.attr ≡ 0 = omega (arith, c.if-attr-gt0.false) in
    λ texts. c.row_kind.ensures ∙ row_kind_is texts c.args.frag.now place c.validity.ensures.sound c.requires none
