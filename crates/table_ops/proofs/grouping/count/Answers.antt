use Rattle.std.proofs.Common.{◌∙◌, ◌^◌, ap, map, subst, sym}
use Rattle.plan_dag.specs.Rows.{num}
use Rattle.table_ops.specs.Chains.{AllBelow}
use Rattle.table_ops.specs.Groups.{counts_of}
use Rattle.table_ops.specs.Held.{kept}
use Rattle.table_ops.proofs.Selecting.{few_cells}
use Rattle.table_ops.proofs.MatchLaws.{keys_few}
use Rattle.table_ops.proofs.CountLaws.{count_below, count_few, count_high, count_whole}
use Rattle.table_ops.proofs.grouping.count.Goals as goal

pub number-requires-clause-few : goal.number-requires-clause-few
number-requires-clause-few c = few_cells (2 ^ 32) c.args.input.now.cols c.args.group c.args.input.now.rows c.cells.result.now c.cells.ensures c.requires.few

pub tally-requires : goal.tally-requires
tally-requires c = record {
  below = subst (λ n. AllBelow n c.deref.result.now) (sym c.len.ensures.len) (count_below c.cells.result.now c.number.new.table.keys c.deref.result.now c.in_ok-keys.ensures.table (c.deref.ensures.value ∙ c.in_ok-keys.ensures.keys));
  few = keys_few (2 ^ 32) c.cells.result.now c.deref.result.now (c.deref.ensures.value ∙ c.in_ok-keys.ensures.keys) (few_cells (2 ^ 32) c.args.input.now.cols c.args.group c.args.input.now.rows c.cells.result.now c.cells.ensures c.requires.few);
}

pub beside-requires : goal.beside-requires
beside-requires c = record {
  few = count_few c.args.input.now c.args.group c.args.col c.cells.result.now c.number.new.table.keys c.in_ok-groups.groups.items c.in_ok-numbers.numbers.items c.in_ok-keys.keys.items c.in_ok-counts.counts.items c.len.result c.in_ok-left.left c.in_ok-right.right
      c.cells.ensures c.in_ok-keys.ensures.table c.in_ok-keys.ensures.keys c.len.ensures.len (c.in_ok-counts.ensures ∙ ap (counts_of c.len.result) c.deref.ensures.value) c.in_ok-groups.ensures (c.in_ok-numbers.ensures ∙ ap (map (num kept)) c.deref-2.ensures.value) c.in_ok-left.ensures c.in_ok-right.ensures;
  as_high = count_high c.args.input.now c.args.group c.args.col c.cells.result.now c.number.new.table.keys c.in_ok-groups.groups.items c.in_ok-numbers.numbers.items c.in_ok-keys.keys.items c.in_ok-counts.counts.items c.len.result c.in_ok-left.left c.in_ok-right.right
      c.cells.ensures c.in_ok-keys.ensures.table c.in_ok-keys.ensures.keys c.len.ensures.len (c.in_ok-counts.ensures ∙ ap (counts_of c.len.result) c.deref.ensures.value) c.in_ok-groups.ensures (c.in_ok-numbers.ensures ∙ ap (map (num kept)) c.deref-2.ensures.value) c.in_ok-left.ensures c.in_ok-right.ensures;
}

pub returns : goal.returns
returns c =
    count_whole c.args.input.now c.args.group c.args.col c.cells.result.now c.number.new.table.keys c.in_ok-groups.groups.items c.in_ok-numbers.numbers.items c.in_ok-keys.keys.items c.in_ok-counts.counts.items c.len.result c.in_ok-left.left c.in_ok-right.right
    c.cells.ensures c.in_ok-keys.ensures.table c.in_ok-keys.ensures.keys c.len.ensures.len (c.in_ok-counts.ensures ∙ ap (counts_of c.len.result) c.deref.ensures.value) c.in_ok-groups.ensures (c.in_ok-numbers.ensures ∙ ap (map (num kept)) c.deref-2.ensures.value) c.in_ok-left.ensures c.in_ok-right.ensures
    c.beside.result c.beside.ensures
