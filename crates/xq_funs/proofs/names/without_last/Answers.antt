use Rattle.xq_funs.proofs.TrimLemmas.{range_back}
use Rattle.xq_funs.proofs.names.without_last.Goals as goal

pub returns-clause-trimmed : goal.returns-clause-trimmed
returns-clause-trimmed c = range_back c.args.text.now c.range.result.now c.requires c.range.ensures.value
