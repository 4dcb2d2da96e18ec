use Rattle.std.proofs.Common.{◌∙◌, ◌^◌, ap, map}
use Rattle.table_ops.specs.Chains.{pairs_from}
use Rattle.table_ops.specs.Keys.{item_eq, place_in}
use Rattle.table_ops.proofs.MatchLaws.{table_few, keys_few, chains_below, looked_below, pairs_by_keys}
use Rattle.table_ops.proofs.matching.equal_pairs.Goals as goal

pub look_up-requires : goal.look_up-requires
look_up-requires c = table_few (2 ^ 32) c.args.right.now c.number.new.table.keys c.in_ok-right_keys.ensures.table c.requires.right

pub of-requires-clause-few : goal.of-requires-clause-few
of-requires-clause-few c = keys_few (2 ^ 32) c.args.right.now c.deref.result.now (c.deref.ensures.value ∙ c.in_ok-right_keys.ensures.keys) c.requires.right

pub of-requires-clause-below : goal.of-requires-clause-below
of-requires-clause-below c = chains_below c.args.right.now c.number.new.table.keys c.deref.result.now c.len.result c.in_ok-right_keys.ensures.table (c.deref.ensures.value ∙ c.in_ok-right_keys.ensures.keys) c.len.ensures.len

pub join-requires-clause-below : goal.join-requires-clause-below
join-requires-clause-below c = looked_below c.args.left.now c.number.new.table.keys c.deref-2.result.now c.len.result _ (c.deref-2.ensures.value ∙ c.in_ok-left_keys.ensures) c.len.ensures.len c.in_ok-chains.ensures.as_many

pub returns-in-Ok : goal.returns-in-Ok
returns-in-Ok c =
    c.in-Ok.ensures
    ∙ (λ i. pairs_from 0 ((c.deref-2.ensures.value ∙ c.in_ok-left_keys.ensures ∙ ap (λ t. map (place_in item_eq t) c.args.left.now) c.in_ok-right_keys.ensures.table) i) ((c.deref-3.ensures.value ∙ c.in_ok-right_keys.ensures.keys) i))
    ∙ pairs_by_keys c.args.left.now c.args.right.now
