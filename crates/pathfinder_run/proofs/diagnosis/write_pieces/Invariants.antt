use Rattle.std.proofs.Common.{◌≤◌, map, take}
use Rattle.std.specs.List.{concat}
use Rattle.io_edge.specs.Sinks.{TakesOf}
use Rattle.pathfinder_run.proofs.diagnosis.write_pieces.Given as goal

abbrev pub invariant-loop-piece : goal.invariant-loop-piece
invariant-loop-piece g l = record {
  later : g.S.Sink.faults l.initial.sink ≤ g.S.Sink.faults l.sink;
  taken : TakesOf (g.S.Sink.taken l.initial.sink) (g.S.Sink.taken l.sink) (concat (map (λ p. p.now) (take l.piece-index l.pieces)));
}
