-- The items of a root as they are kept (own rule).
use Rattle.std.specs.Prelude.{◌≡◌, false, List, [], ◌∷◌, map, Option, Some, None}
use Rattle.xq_base.specs.declared.item.Item.{Item}
use Rattle.xq_base.specs.Texts.{Text}
use Rattle.plan_dag.specs.declared.cols.Col.{Col}
use Rattle.plan_dag.specs.declared.keys.Key.{Key}
use Rattle.plan_dag.specs.declared.op.OpId.{OpId}
use Rattle.plan_dag.specs.Meaning.{Table, cell_or, sort_keys}
use Rattle.plan_dag.specs.Orders.{in_order}
use Rattle.plan_dag.specs.Rows.{keys_less}
use Rattle.table_ops.specs.Columns.{no_cell}
use Rattle.table_ops.specs.Held.{held_rules}

-- the columns of a root
abbrev pub root_cols : List Col
root_cols = record { 0 = 0 } ∷ record { 0 = 1 } ∷ record { 0 = 2 } ∷ []

-- by iteration, then by position
abbrev pub root_keys : List Key
root_keys = record { col = record { 0 = 0 }; descending = false } ∷ record { col = record { 0 = 1 }; descending = false } ∷ []

-- these items are those of the third column, in this order
abbrev pub GivesItems : List Text → Table Item → List Item → Type 0
GivesItems texts t items = items ≡ map (cell_or no_cell t.cols (record { 0 = 2 })) (in_order (keys_less (held_rules texts) (sort_keys (held_rules texts) t.cols root_keys)) t.rows)

-- the same, where a root was set; else none
abbrev pub GivesRoot : List Text → Table Item → Option OpId → List Item → Type 0
GivesRoot texts t None items = items ≡ []
GivesRoot texts t (Some i) items = GivesItems texts t items

abbrev pub RootColumns : Option OpId → Table Item → Type 0
RootColumns None t = Unit {0}
RootColumns (Some i) t = t.cols ≡ root_cols
