use Rattle.std.proofs.Common.{arith}
use Rattle.staircase.proofs.LinkLaws.{linked-at}
use Rattle.staircase.proofs.PartLaws.{in-at}
use Rattle.staircase.proofs.links.next_of.Goals as goal

pub is_next-requires-clause-at : goal.is_next-requires-clause-at
is_next-requires-clause-at c =
    let near = linked-at c.args.axis c.args.rows.now c.args.links.now _ c.args.k c.in-Some.j c.requires.links c.requires.within c.in-Some.is in
    c.requires.order.small _ (in-at c.args.rows.now c.in-Some.j _ (omega (arith, near.0)))

pub is_next-requires-clause-from : goal.is_next-requires-clause-from
is_next-requires-clause-from c = c.requires.order.small _ (in-at c.args.rows.now c.args.k _ c.requires.within)
