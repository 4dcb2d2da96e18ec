use Rattle.std.proofs.Common.{rules}
use Rattle.xq_funs.proofs.ConcatLaws.{given_at}
use Rattle.xq_funs.proofs.concatenation.push_items.Goals as goal

pub push_item-requires-clause-item : goal.push_item-requires-clause-item
push_item-requires-clause-item c = given_at c.args.pool.now c.args.store.now c.args.items.now c.loop-place.place _ c.requires.items (search rules)
