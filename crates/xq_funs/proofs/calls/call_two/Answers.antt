use Rattle.std.proofs.Common.{◌∷◌, [], false}
use Rattle.std.proofs.lemmas.Bool.{false≢true}
use Rattle.xq_funs.specs.CallRules.{wants_memory}
use Rattle.xq_funs.proofs.Calling.{gives_more}
use Rattle.xq_funs.proofs.calls.call_two.Goals as goal

pub returns-then-is_node_comparison-clause-value : goal.returns-then-is_node_comparison-clause-value
returns-then-is_node_comparison-clause-value c = λ docs.
    gives_more false (wants_memory c.args.fun (c.args.a ∷ c.args.b ∷ [])) c.args.pool.now c.args.store.now _ c.compare_nodes.result (λ e. absurd (false≢true e)) (c.compare_nodes.ensures docs)

pub returns-clause-value : goal.returns-clause-value
returns-clause-value c = λ docs. c.connect.ensures false c.args.pool.now c.args.store.now docs
