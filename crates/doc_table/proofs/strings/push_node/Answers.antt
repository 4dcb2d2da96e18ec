use Rattle.std.proofs.Common.{◌≡◌, ◌<◌, ◌≤◌, ◌+◌, ◌-◌, suc, length, string_bytes, arith, ap, sym, ◌∙◌, refl, inl, inr}
use Rattle.std.proofs.lemmas.Bool.{ltb-true}
use Rattle.std.specs.Prelude.{slice_range}
use Rattle.xq_base.specs.declared.item.TextId.{TextId}
use Rattle.doc_table.specs.declared.rows.Row.{Row}
use Rattle.doc_table.specs.declared.rows.Kind.{Kind}
use Rattle.doc_table.specs.declared.rows.Kind.TheVariants as k
use Rattle.doc_table.specs.Tree.{text_in}
use Rattle.doc_table.specs.Enc.{enc, line_in}
use Rattle.doc_table.specs.Places.{Place}
use Rattle.doc_table.specs.TextRows.{node_text, texts_of_rows, text_or_none}
use Rattle.doc_table.proofs.StringValues.{row-inside, attribute-inside, attribute-given, line-given, node-ends, row-string, attribute-string, where_pushed, where_written, text-found, below-kind, value-kind}
use Rattle.doc_table.proofs.strings.push_node.Goals as goal

pub text-requires : goal.text-requires
text-requires c =
    let place : Place = record { pre = c.args.pre; attr = c.args.attr } in
    let inside = row-inside c.args.frag.now place c.requires.node in
    let within : c.args.attr - 1 < length (line_in (enc c.args.frag.now) c.args.pre).attributes = omega (arith, attribute-inside c.args.frag.now place c.requires.node, c.if-attr-gt0.true) in
    let given = attribute-given (length c.args.pool.now) (line_in (enc c.args.frag.now) c.args.pre) (c.args.attr - 1) (record { 0 = 0 }, c.value_of.result) within (line-given (length c.args.pool.now) c.args.frag.now c.args.pre inside c.requires.given) in
    ltb-true c.value_of.result.0 (length c.args.pool.now) (rw c.value_of.ensures given)

pub returns-then-attr-gt0 : goal.returns-then-attr-gt0
returns-then-attr-gt0 c =
    let place : Place = record { pre = c.args.pre; attr = c.args.attr } in
    let number : c.args.attr ≡ suc (c.args.attr - 1) = omega (arith, c.if-attr-gt0.true) in
    where_pushed c.push_str.result (string_bytes c.push_str.new.self) (string_bytes c.args.out.now) c.text.result.now _ c.push_str.ensures.bytes
    (text-found c.args.pool.now c.value_of.result.0 c.text.result.now c.text.ensures.given
    ∙ ap (λ (z : TextId). text_in c.args.pool.now z) c.value_of.ensures
    ∙ sym (attribute-string c.args.pool.now c.args.frag.now place (c.args.attr - 1) (record { 0 = 0 }, c.value_of.result) c.validity.ensures.sound c.requires.node number))

pub push_texts-requires-clause-rows : goal.push_texts-requires-clause-rows
push_texts-requires-clause-rows c =
    omega (arith, node-ends c.args.frag.now c.args.pre (row-inside c.args.frag.now (record { pre = c.args.pre; attr = c.args.attr }) c.requires.node), ap (λ (r : Row). r.size) c.at-row.ensures)

pub returns-in-Document : goal.returns-in-Document
returns-in-Document c =
    let none : c.args.attr ≡ 0 = omega (arith, c.if-attr-gt0.false) in
    where_written c.push_texts.result (string_bytes c.push_texts.new.out) (string_bytes c.args.out.now) _ _ c.push_texts.ensures
    (below-kind c.args.pool.now c.at-row.result.kind c.at-row.result.value (texts_of_rows c.args.pool.now (slice_range (enc c.args.frag.now) c.args.pre (c.args.pre + c.at-row.result.size + 1))) c.in-Document.is
    ∙ ap (λ (r : Row). node_text c.args.pool.now r.kind r.value (texts_of_rows c.args.pool.now (slice_range (enc c.args.frag.now) c.args.pre (c.args.pre + r.size + 1)))) c.at-row.ensures
    ∙ sym (row-string c.args.pool.now c.args.frag.now (record { pre = c.args.pre; attr = c.args.attr }) c.validity.ensures.sound c.requires.node none))

pub returns-in_default : goal.returns-in_default
returns-in_default c =
    let none : c.args.attr ≡ 0 = omega (arith, c.if-attr-gt0.false) in
    where_written c.push_value.result (string_bytes c.push_value.new.out) (string_bytes c.args.out.now) _ _ c.push_value.ensures
    (value-kind c.args.pool.now c.at-row.result.kind c.at-row.result.value (texts_of_rows c.args.pool.now (slice_range (enc c.args.frag.now) c.args.pre (c.args.pre + c.at-row.result.size + 1))) c.in_default.not-Document c.in_default.not-Element
    ∙ ap (λ (r : Row). node_text c.args.pool.now r.kind r.value (texts_of_rows c.args.pool.now (slice_range (enc c.args.frag.now) c.args.pre (c.args.pre + r.size + 1)))) c.at-row.ensures
    ∙ sym (row-string c.args.pool.now c.args.frag.now (record { pre = c.args.pre; attr = c.args.attr }) c.validity.ensures.sound c.requires.node none))
