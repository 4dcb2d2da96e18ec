use Rattle.std.proofs.Common.{◌≡◌, ◌++◌, ◌∷◌, [], subst, rules}
use Rattle.doc_table.specs.Documents.{documents_in}
use Rattle.doc_table.specs.StoredItems.{meanings}
use Rattle.plan_dag.specs.ItemRules.{group_outcome}
use Rattle.table_ops.specs.Attempts.{outcome_in, AttemptGiven}
use Rattle.table_ops.proofs.MapLaws.{put_none, put_found, put_given, pairs_given_later}
use Rattle.table_ops.proofs.aggregating.put_whole.Goals as goal

pub returns-in_default : goal.returns-in_default
returns-in_default c = record {
  found = put_none c.args.pool.now c.whole.new.pool c.args.store.now c.whole.ensures.keeps c.requires.trees c.args.found.now.items c.args.place c.in_ok-item.field-0
      (group_outcome (documents_in c.args.pool.now c.args.store.now) c.args.agg (meanings c.args.pool.now c.args.store.now c.args.cells.now)) c.requires.found c.in_default.not-Value c.in_ok-item.ensures.outcome;
  given = pairs_given_later c.args.pool.now c.whole.new.pool c.args.store.now c.whole.ensures.keeps c.requires.trees c.args.found.now.items c.requires.found;
  keeps = c.whole.ensures.keeps;
}

pub returns-clause-found : goal.returns-clause-found
returns-clause-found c =
    let pushed : c.push.new.self.items ≡ c.args.found.now.items ++ (c.args.place, c.in-Value.item) ∷ [] = search rules in
    put_found c.args.pool.now c.whole.new.pool c.args.store.now c.whole.ensures.keeps c.requires.trees c.args.found.now.items c.push.new.self.items c.args.place c.in-Value.item
    (group_outcome (documents_in c.args.pool.now c.args.store.now) c.args.agg (meanings c.args.pool.now c.args.store.now c.args.cells.now)) c.requires.found pushed
    (subst (λ a. outcome_in c.whole.new.pool c.args.store.now a ≡ group_outcome (documents_in c.args.pool.now c.args.store.now) c.args.agg (meanings c.args.pool.now c.args.store.now c.args.cells.now)) c.in-Value.is c.in_ok-item.ensures.outcome)

pub returns-clause-given : goal.returns-clause-given
returns-clause-given c =
    let pushed : c.push.new.self.items ≡ c.args.found.now.items ++ (c.args.place, c.in-Value.item) ∷ [] = search rules in
    put_given c.args.pool.now c.whole.new.pool c.args.store.now c.whole.ensures.keeps c.requires.trees c.args.found.now.items c.push.new.self.items c.args.place c.in-Value.item c.requires.found pushed
    (subst (AttemptGiven c.whole.new.pool c.args.store.now) c.in-Value.is c.in_ok-item.ensures.given)
