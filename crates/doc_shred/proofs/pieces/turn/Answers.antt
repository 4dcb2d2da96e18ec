use Rattle.std.proofs.Common.{arith}
use Rattle.doc_shred.specs.Views.{Lent}
use Rattle.doc_shred.specs.Walk.{marked, texted}
use Rattle.doc_shred.specs.Standing.{Passed}
use Rattle.doc_shred.proofs.Passes.{if_ok, text_room, turn_passed, turn_refused}
use Rattle.doc_shred.proofs.pieces.turn.Goals as goal

pub piece-requires-clause-room : goal.piece-requires-clause-room
piece-requires-clause-room c =
    omega (arith, text_room c.add_text.new.pool c.args.names.now c.args.builder.now c.add_text.new.builder c.args.bytes.now c.in-Ok.rest.now c.requires.state c.in-Ok.ensures.added, c.requires.room)

pub returns-clause-passed : goal.returns-clause-passed
returns-clause-passed c = if_ok
    (λ (last : Lent). Passed marked c.piece.new.pool c.args.names.now c.piece.new.names c.add_text.new.builder c.piece.new.builder c.in-Ok.rest.now last.now)
    (λ (last : Lent). Passed texted c.piece.new.pool c.args.names.now c.piece.new.names c.args.builder.now c.piece.new.builder c.args.bytes.now last.now)
    c.piece.result c.piece.ensures.passed
    (λ last p. turn_passed c.add_text.new.pool c.args.names.now c.args.builder.now c.add_text.new.builder c.args.bytes.now c.in-Ok.rest.now c.requires.state c.in-Ok.ensures.added
    c.piece.new.pool c.piece.new.names c.piece.new.builder last.now c.piece.ensures.later p)

pub returns-clause-refused : goal.returns-clause-refused
returns-clause-refused c = λ e.
    turn_refused c.add_text.new.pool c.args.names.now c.args.builder.now c.add_text.new.builder c.args.bytes.now c.in-Ok.rest.now c.requires.state c.in-Ok.ensures.added
    c.piece.new.pool c.piece.ensures.later (c.piece.ensures.refused e)
