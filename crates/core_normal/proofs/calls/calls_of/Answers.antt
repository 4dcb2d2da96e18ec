use Rattle.std.proofs.Common.{ap, ◌∙◌, []}
use Rattle.core_normal.specs.Finding.{with_calls}
use Rattle.core_normal.proofs.Finding.{calls_found}
use Rattle.core_normal.proofs.calls.calls_of.Goals as goal

pub returns : goal.returns
returns c = λ t. c.in_ok-calls.ensures ∙ ap (with_calls c.args.e.now) c.new-found.ensures.items ∙ calls_found t c.args.e.now []
