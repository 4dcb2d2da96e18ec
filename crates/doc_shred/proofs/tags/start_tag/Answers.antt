use Rattle.std.proofs.Common.{◌≡◌, ◌∷◌, [], map, arith, rules, true, false, Some, None, codes, slice_get}
use Rattle.doc_table.specs.Tree.{OfElement, pair_with, text_in}
use Rattle.doc_table.specs.Spine.{opened}
use Rattle.doc_shred.specs.Parsers.{strip}
use Rattle.doc_shred.specs.Reading as r
use Rattle.doc_shred.proofs.Spines.{later_self}
use Rattle.doc_shred.proofs.StartLaws.{start_no_angle, start_no_name, start_no_attributes, start_no_end, name_narrows, started, added_empty}
use Rattle.doc_shred.proofs.tags.start_tag.Goals as goal

pub returns-in_default-clause-refused : goal.returns-in_default-clause-refused
returns-in_default-clause-refused c = λ e.
    let one : strip (codes "<") c.args.bytes.now ≡ None = search rules in
    start_no_angle c.args.bytes.now c.args.bytes.now one

pub returns-in_default-name-clause-refused : goal.returns-in_default-name-clause-refused
returns-in_default-name-clause-refused c = λ e.
    let one : strip (codes "<") c.args.bytes.now ≡ Some (tt {0}, c.in-Some.rest.now) = search rules in
    let two : r.name c.in-Some.rest.now ≡ None = search rules in
    start_no_name c.args.bytes.now c.in-Some.rest.now one two

pub add_attributes-requires-clause-room : goal.add_attributes-requires-clause-room
add_attributes-requires-clause-room c =
    let one : strip (codes "<") c.args.bytes.now ≡ Some (tt {0}, c.in-Some.rest.now) = search rules in
    let two : r.name c.in-Some.rest.now ≡ Some (c.in-Some-name.name.now, c.in-Some-name.rest.now) = search rules in
    omega (arith, name_narrows c.args.bytes.now c.in-Some.rest.now c.in-Some-name.name.now c.in-Some-name.rest.now one two, c.requires.room)

pub returns-in-Err-clause-refused : goal.returns-in-Err-clause-refused
returns-in-Err-clause-refused c = λ e.
    let one : strip (codes "<") c.args.bytes.now ≡ Some (tt {0}, c.in-Some.rest.now) = search rules in
    let two : r.name c.in-Some.rest.now ≡ Some (c.in-Some-name.name.now, c.in-Some-name.rest.now) = search rules in
    start_no_attributes c.args.bytes.now c.in-Some.rest.now c.in-Some-name.name.now c.in-Some-name.rest.now one two (c.in-Err.ensures.refused (search rules))

pub returns-in_default-tag_end-clause-refused : goal.returns-in_default-tag_end-clause-refused
returns-in_default-tag_end-clause-refused c = λ e.
    let one : strip (codes "<") c.args.bytes.now ≡ Some (tt {0}, c.in-Some.rest.now) = search rules in
    let two : r.name c.in-Some.rest.now ≡ Some (c.in-Some-name.name.now, c.in-Some-name.rest.now) = search rules in
    let last : r.tag_end c.in-Ok.rest.now ≡ None = search rules in
    let added = c.in-Ok.ensures.added in
    start_no_end c.args.bytes.now c.in-Some.rest.now c.in-Some-name.name.now c.in-Some-name.rest.now one two
    (map (pair_with (text_in c.add_attributes.new.pool)) added.all) c.in-Ok.rest.now (added.found c.add_attributes.new.pool (later_self c.add_attributes.new.pool)) last

pub returns-then-is_empty-clause-started : goal.returns-then-is_empty-clause-started
returns-then-is_empty-clause-started c =
    let one : strip (codes "<") c.args.bytes.now ≡ Some (tt {0}, c.in-Some.rest.now) = search rules in
    let two : r.name c.in-Some.rest.now ≡ Some (c.in-Some-name.name.now, c.in-Some-name.rest.now) = search rules in
    let given : slice_get c.intern.new.self c.in_ok-id.id.0 ≡ Some c.in-Some-name.name.now = search rules in
    let begun : c.open.new.self ≡ opened (OfElement c.in_ok-id.id []) c.args.builder.now = search rules in
    let last : r.tag_end c.in-Ok.rest.now ≡ Some (true, c.in-Some-tag_end.rest.now) = search rules in
    added_empty c.args.bytes.now c.in-Some.rest.now c.in-Some-name.name.now c.in-Some-name.rest.now one two
    c.intern.new.self c.add_attributes.new.pool c.args.builder.now c.open.new.self c.add_attributes.new.builder c.in_ok-id.id c.in-Ok.rest.now c.in-Some-tag_end.rest.now
    c.requires.takes.root c.requires.takes.inside c.add_attributes.ensures.later given begun c.in-Ok.ensures.added c.args.names.now c.close.new.self c.close.ensures last

pub returns-clause-started : goal.returns-clause-started
returns-clause-started c =
    let one : strip (codes "<") c.args.bytes.now ≡ Some (tt {0}, c.in-Some.rest.now) = search rules in
    let two : r.name c.in-Some.rest.now ≡ Some (c.in-Some-name.name.now, c.in-Some-name.rest.now) = search rules in
    let given : slice_get c.intern.new.self c.in_ok-id.id.0 ≡ Some c.in-Some-name.name.now = search rules in
    let begun : c.open.new.self ≡ opened (OfElement c.in_ok-id.id []) c.args.builder.now = search rules in
    let last : r.tag_end c.in-Ok.rest.now ≡ Some (false, c.in-Some-tag_end.rest.now) = search rules in
    let pushed : c.push.new.self ≡ c.in-Some-name.name.now ∷ c.args.names.now = search rules in
    started c.args.bytes.now c.in-Some.rest.now c.in-Some-name.name.now c.in-Some-name.rest.now one two
    c.intern.new.self c.add_attributes.new.pool c.args.builder.now c.open.new.self c.add_attributes.new.builder c.in_ok-id.id c.in-Ok.rest.now c.in-Some-tag_end.rest.now
    c.requires.takes.root c.requires.takes.inside c.add_attributes.ensures.later given begun c.in-Ok.ensures.added c.args.names.now c.push.new.self pushed last
