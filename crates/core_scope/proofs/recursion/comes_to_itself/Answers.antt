use Rattle.std.proofs.Common.{ap, ◌∙◌}
use Rattle.core_scope.proofs.Searching.{fresh, itself_found}
use Rattle.core_scope.proofs.recursion.comes_to_itself.Goals as goal

pub returns : goal.returns
returns c =
    itself_found c.args.graph.now c.args.node c.is_marked.result c.targets.result.now c.in_ok-search.search c.mark_all.new.self c.run.new.self c.requires
    (c.in_ok-search.ensures ∙ ap fresh c.len.ensures) c.targets.ensures c.in_ok-mark_all.ensures c.in_ok-run.ensures c.is_marked.ensures
