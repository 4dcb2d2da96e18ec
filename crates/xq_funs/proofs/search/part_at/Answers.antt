use Rattle.xq_funs.proofs.Parted.{split_law}
use Rattle.xq_funs.proofs.search.part_at.Goals as goal

pub returns : goal.returns
returns c = split_law c.args.text.now c.args.part.now c.split_once.result c.split_once.ensures.cases
