use Rattle.std.proofs.Common.{◌≡◌, ◌≤◌, ◌++◌, List, length, map, drop, true}
use Rattle.xq_base.specs.Texts.{Text}
use Rattle.doc_table.specs.Given.{trees_given}
use Rattle.doc_table.specs.Items.{TextItem}
use Rattle.doc_table.specs.StoredItems.{ItemsGiven, meanings}
use Rattle.table_ops.specs.Contents.{names_in}
use Rattle.table_ops.proofs.contents.names_of.Given as goal

abbrev pub invariant-loop-place : goal.invariant-loop-place
invariant-loop-place l =
    ((texts : List Text) → meanings texts l.store l.out.items ++ map TextItem (names_in (meanings texts l.store (drop l.place l.cells))) ≡ map TextItem (names_in (meanings texts l.store l.cells)))
    × (length l.out.items ≤ l.place)
    × ((texts : List Text) → trees_given (length texts) l.store ≡ true → ItemsGiven texts l.store l.out.items)
