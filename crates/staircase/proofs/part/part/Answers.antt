use Rattle.std.proofs.Common.{arith}
use Rattle.staircase.proofs.PartLaws.{between-places, between-none}
use Rattle.staircase.proofs.part.part.Goals as goal

pub returns-then-from-to : goal.returns-then-from-to
returns-then-from-to c = λ r. between-places c.args.seen.now c.args.first c.args.end c.place_of-from.result c.place_of-to.result r (omega arith) c.place_of-to.ensures.within (c.place_of-from.ensures.place r) (c.place_of-to.ensures.place r)

pub returns-else-from-to : goal.returns-else-from-to
returns-else-from-to c = λ r. between-none c.args.seen.now c.args.first c.args.end c.place_of-from.result c.place_of-to.result (omega arith) (c.place_of-from.ensures.place r) (c.place_of-to.ensures.place r)
