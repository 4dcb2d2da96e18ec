use Rattle.std.proofs.Common.{map, string_bytes}
use Rattle.pathfinder_run.proofs.OneStatus.{answered_exactly}
use Rattle.pathfinder_run.proofs.top.status_of.Goals as goal

pub returns-in-Some-clause-exactly : goal.returns-in-Some-clause-exactly
returns-in-Some-clause-exactly g c =
    answered_exactly (g.F.Shelf.files c.args.shelf.now) (map string_bytes c.args.words.now) (map string_bytes c.in-Some.names.now) c.in-Some.query.now (g.O.Sink.taken c.args.out.now) (g.O.Sink.taken c.run.new.out) c.run.result
    c.in-Some.ensures c.run.ensures.form c.run.ensures.count c.run.ensures.answered
