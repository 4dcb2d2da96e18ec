use Rattle.std.proofs.Common.{[], subst, arith}
use Rattle.doc_shred.specs.Views.{Lent}
use Rattle.doc_shred.specs.Standing.{ContentRead, RootRead, Walked, Starts}
use Rattle.doc_shred.proofs.Passes.{if_ok}
use Rattle.doc_shred.proofs.MiscLaws.{root_room, root_found, root_refused}
use Rattle.doc_shred.proofs.document.root.Goals as goal

pub content-requires-clause-room : goal.content-requires-clause-room
content-requires-clause-room c =
    let begun : Walked (Starts c.args.bytes.now c.in-Ok.rest.now [] c.start_tag.new.names c.args.builder.now c.start_tag.new.builder) c.start_tag.new.pool [] c.start_tag.new.names c.args.builder.now c.start_tag.new.builder =
    subst (λ z. Walked (Starts c.args.bytes.now c.in-Ok.rest.now z c.start_tag.new.names c.args.builder.now c.start_tag.new.builder) c.start_tag.new.pool z c.start_tag.new.names c.args.builder.now c.start_tag.new.builder) c.new-names.ensures c.in-Ok.ensures.started in
    omega (arith, root_room c.start_tag.new.pool c.start_tag.new.names c.args.builder.now c.start_tag.new.builder c.args.bytes.now c.in-Ok.rest.now c.requires.state begun, c.requires.room)

pub returns-clause-read : goal.returns-clause-read
returns-clause-read c =
    let begun : Walked (Starts c.args.bytes.now c.in-Ok.rest.now [] c.start_tag.new.names c.args.builder.now c.start_tag.new.builder) c.start_tag.new.pool [] c.start_tag.new.names c.args.builder.now c.start_tag.new.builder =
    subst (λ z. Walked (Starts c.args.bytes.now c.in-Ok.rest.now z c.start_tag.new.names c.args.builder.now c.start_tag.new.builder) c.start_tag.new.pool z c.start_tag.new.names c.args.builder.now c.start_tag.new.builder) c.new-names.ensures c.in-Ok.ensures.started in
    if_ok
    (λ (last : Lent). ContentRead c.content.new.pool c.start_tag.new.names c.start_tag.new.builder c.content.new.builder c.in-Ok.rest.now last.now)
    (λ (last : Lent). RootRead c.content.new.pool c.args.builder.now c.content.new.builder c.args.bytes.now last.now)
    c.content.result c.content.ensures.found
    (λ last f. root_found c.start_tag.new.pool c.start_tag.new.names c.args.builder.now c.start_tag.new.builder c.args.bytes.now c.in-Ok.rest.now c.requires.state begun
    c.content.new.pool c.content.new.builder last.now c.content.ensures.later f)

pub returns-clause-refused : goal.returns-clause-refused
returns-clause-refused c = λ e.
    let begun : Walked (Starts c.args.bytes.now c.in-Ok.rest.now [] c.start_tag.new.names c.args.builder.now c.start_tag.new.builder) c.start_tag.new.pool [] c.start_tag.new.names c.args.builder.now c.start_tag.new.builder =
    subst (λ z. Walked (Starts c.args.bytes.now c.in-Ok.rest.now z c.start_tag.new.names c.args.builder.now c.start_tag.new.builder) c.start_tag.new.pool z c.start_tag.new.names c.args.builder.now c.start_tag.new.builder) c.new-names.ensures c.in-Ok.ensures.started in
    root_refused c.start_tag.new.pool c.start_tag.new.names c.args.builder.now c.start_tag.new.builder c.args.bytes.now c.in-Ok.rest.now c.requires.state begun
    c.content.new.pool c.content.ensures.later (c.content.ensures.refused e)
