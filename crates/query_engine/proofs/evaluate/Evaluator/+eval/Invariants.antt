use Rattle.std.proofs.Common.{◌+◌, ◌*◌, drop}
use Rattle.doc_table.specs.StoredItems.{meanings}
use Rattle.core_meaning.specs.Erasure.{core_of}
use Rattle.core_meaning.specs.Size.{nodes}
use Rattle.query_engine.specs.Evaluating.{bindings_of, env_of, SoFar}
use Rattle.query_engine.proofs.evaluate.Evaluator.+eval.Given as goal

abbrev pub decreases-eval : goal.decreases-eval
decreases-eval l = 4 * nodes (core_of l.self.now.pool.now l.core.now)

abbrev pub decreases-sequence : goal.decreases-sequence
decreases-sequence l = 4 * (nodes (core_of l.self.now.pool.now l.first.now) + nodes (core_of l.self.now.pool.now l.second.now)) + 3

abbrev pub decreases-bound : goal.decreases-bound
decreases-bound l = 4 * (nodes (core_of l.self.now.pool.now l.value.now) + nodes (core_of l.self.now.pool.now l.body.now)) + 3

abbrev pub decreases-each : goal.decreases-each
decreases-each l = 4 * (nodes (core_of l.self.now.pool.now l.seq.now) + nodes (core_of l.self.now.pool.now l.body.now)) + 3

abbrev pub decreases-turns : goal.decreases-turns
decreases-turns l = 4 * nodes (core_of l.self.now.pool.now l.body.now) + 2

abbrev pub decreases-turn : goal.decreases-turn
decreases-turn l = 4 * nodes (core_of l.self.now.pool.now l.body.now) + 1

abbrev pub decreases-sum : goal.decreases-sum
decreases-sum l = 4 * (nodes (core_of l.self.now.pool.now l.first.now) + nodes (core_of l.self.now.pool.now l.second.now)) + 3

abbrev pub invariant-turns-loop-index : goal.invariant-turns-loop-index
invariant-turns-loop-index l =
    SoFar l.self.sums l.self.pool.now l.self.store.now l.site (core_of l.self.pool.now l.body) l.vars.0.0 l.vars.1.0 (env_of l.self.pool.now l.self.store.now (bindings_of l.env))
    (meanings l.self.pool.now l.self.store.now l.items) (l.index + 1) (meanings l.self.pool.now l.self.store.now (drop l.index l.items)) l.found
