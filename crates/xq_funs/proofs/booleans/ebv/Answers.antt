use Rattle.std.proofs.Common.{ap, sym, ◌∙◌}
use Rattle.xq_base.specs.Answers.{Value}
use Rattle.xq_funs.proofs.Items.{one_truth}
use Rattle.xq_funs.proofs.booleans.ebv.Goals as goal

pub returns-in-len1 : goal.returns-in-len1
returns-in-len1 c = λ trees. ap (λ z. Value z) (c.is_true.ensures trees) ∙ sym (one_truth c.args.pool.now trees c.args.items.now _ c.in-len1.len_at_least c.in-len1.len_below)
