use Rattle.std.proofs.Common.{arith}
use Rattle.pathfinder_run.proofs.Pieces.{pieces_turn, pieces_part}
use Rattle.pathfinder_run.proofs.diagnosis.write_pieces.Goals as goal

pub returns-in_err-write_whole-clause-part : goal.returns-in_err-write_whole-clause-part
returns-in_err-write_whole-clause-part g c =
    pieces_part (λ p. p.now) c.args.pieces.now c.loop-piece.piece-index _ _ _ _ c.loop-piece-test.true c.loop-piece.invariant.taken c.write_whole.ensures.part

pub loop-piece-preserved : goal.loop-piece-preserved
loop-piece-preserved g c = record {
  later = omega (arith, c.loop-piece.invariant.later, c.write_whole.ensures.cause.later);
  taken = pieces_turn (λ p. p.now) c.args.pieces.now c.loop-piece.piece-index _ _ _ _ c.loop-piece-test.true c.loop-piece.invariant.taken c.in_ok-write_whole.ensures.whole;
}
