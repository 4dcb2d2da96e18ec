use Rattle.std.proofs.Common.{map, string_bytes, arith}
use Rattle.std.proofs.lemmas.List.{length-map}
use Rattle.pathfinder_run.proofs.Replying.{asks_stop}
use Rattle.pathfinder_run.proofs.inputs.load_documents.Goals as goal

pub returns-in-Err-clause-asked : goal.returns-in-Err-clause-asked
returns-in-Err-clause-asked g c =
    asks_stop (g.F.Shelf.asked c.args.shelf.now) (g.F.Shelf.asked c.loop-k.shelf) (g.F.Shelf.asked c.add_document.new.shelf) (map string_bytes c.args.names.now) c.loop-k.k
    (omega (arith, length-map c.args.names.now string_bytes, c.loop-k-test.true)) c.loop-k.invariant.asked c.in-Err.ensures.asked
