use Rattle.std.proofs.Common.{◌∙◌, ◌^◌, subst, sym, length}
use Rattle.table_ops.specs.Chains.{AllBelow}
use Rattle.table_ops.specs.Filed.{AreFiled}
use Rattle.table_ops.proofs.MatchLaws.{keys_few}
use Rattle.table_ops.proofs.CountLaws.{count_below}
use Rattle.table_ops.proofs.FiledLaws.{files_cells, cells_are}
use Rattle.table_ops.proofs.index.Index.of.Goals as goal

pub of-requires-clause-few : goal.of-requires-clause-few
of-requires-clause-few c = keys_few (2 ^ 32) c.args.cells.now c.deref.result.now (c.deref.ensures.value ∙ c.in_ok-keys.ensures.keys) c.requires

pub of-requires-clause-below : goal.of-requires-clause-below
of-requires-clause-below c = subst (λ n. AllBelow n c.deref.result.now) (sym c.len.ensures.len) (count_below c.args.cells.now c.number.new.table.keys c.deref.result.now c.in_ok-keys.ensures.table (c.deref.ensures.value ∙ c.in_ok-keys.ensures.keys))

pub invariant_of-result : goal.invariant_of-result
invariant_of-result c =
    files_cells c.args.cells.now c.number.new.table.keys c.in_ok-keys.keys.items c.file.new.places.items c.in_ok-spans.spans.items (length c.in_ok-chains.chains.first.items)
    c.in_ok-keys.ensures.table c.in_ok-keys.ensures.keys (c.in_ok-chains.ensures.as_many ∙ c.len.ensures.len)
    (subst (λ z. AreFiled (length c.in_ok-chains.chains.first.items) z c.in_ok-spans.spans.items c.file.new.places.items) c.deref-2.ensures.value c.in_ok-spans.ensures)

pub returns : goal.returns
returns c = cells_are c.args.cells.now _ _ c.in_ok-keys.ensures.table c.in_ok-keys.ensures.keys
