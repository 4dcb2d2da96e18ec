use Rattle.doc_table.specs.Stores.{empty_holdings}
use Rattle.doc_table.specs.StoredItems.{trees_of}
use Rattle.table_ops.proofs.WholeLaws.{text_first}
use Rattle.table_ops.proofs.wholes.comes_first.Goals as goal

pub unreachable-requires : goal.unreachable-requires
unreachable-requires c = let e = c.in-Err.ensures (trees_of empty_holdings) in cc

pub returns : goal.returns
returns c = text_first _ _ (c.in-Ok.ensures (trees_of empty_holdings))
