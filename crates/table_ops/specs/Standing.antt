-- What kept tables stand for, over the texts of a pool and the trees of a store (own rule).
use Rattle.std.specs.Prelude.{List, [], ◌∷◌, map}
use Rattle.xq_base.specs.declared.item.Item.{Item}
use Rattle.xq_base.specs.Texts.{Text}
use Rattle.doc_table.specs.Stores.{Holdings}
use Rattle.doc_table.specs.StoredItems.{ItemsGiven, meanings}
use Rattle.plan_dag.specs.Meaning.{Table}
use Rattle.plan_dag.specs.ItemRules.{Cell}

-- each cell is the item that it stands for
abbrev pub standing : List Text → Holdings → Table Item → Table Cell
standing texts h t = record { cols = t.cols; rows = map (meanings texts h) t.rows }

-- the nodes of rows are of the store, and the pool gave their texts
abbrev pub RowsGiven : List Text → Holdings → List (List Item) → Type 0
RowsGiven texts h [] = Unit {0}
RowsGiven texts h (r ∷ rs) = ItemsGiven texts h r × RowsGiven texts h rs
