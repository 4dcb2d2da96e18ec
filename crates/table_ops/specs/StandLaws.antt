-- The operators' rows over kept cells stand for their rows over items.
use Rattle.std.specs.Prelude.{◌≡◌, ◌++◌, ◌∷◌, [], Bool, List, Option, map}
use Rattle.std.specs.List.{filter}
use Rattle.xq_base.specs.declared.item.Item.{Item}
use Rattle.xq_base.specs.declared.item.Atom.{Atom as Constant}
use Rattle.xq_base.specs.declared.fun.CompOp.{CompOp}
use Rattle.xq_base.specs.Pool.{NoRepeats}
use Rattle.xq_base.specs.Texts.{Text}
use Rattle.doc_table.specs.NodeRules.{Docs}
use Rattle.doc_table.specs.Stores.{Holdings}
use Rattle.doc_table.specs.StoredItems.{meanings}
use Rattle.plan_dag.specs.declared.cols.Col.{Col}
use Rattle.plan_dag.specs.declared.keys.Key.{Key}
use Rattle.plan_dag.specs.Cells.{Outcome}
use Rattle.plan_dag.specs.Rows.{joined, left_over, first_rows, rownum_rows, keys_less, count_rows, range_rows, compared}
use Rattle.plan_dag.specs.Meaning.{cell, cells, sort_keys, same_part}
use Rattle.plan_dag.specs.ItemRules.{item_rules}
use Rattle.table_ops.specs.Held.{held_constant, held_rules, kept}
use Rattle.table_ops.specs.Picks.{is_true_item}
use Rattle.table_ops.specs.Sorting.{tied_part}
use Rattle.table_ops.specs.Standing.{RowsGiven}

-- over the texts of a pool, the trees of a store and any documents
pub record RowsStand (texts : List Text) (h : Holdings) (docs : Docs) : Type 0 where
  pub project : (cols ds : List Col) (rows : List (List Item)) → RowsGiven texts h rows
      → map (cells (item_rules docs texts) cols ds) (map (meanings texts h) rows) ≡ map (meanings texts h) (map (cells kept cols ds) rows)
  pub attach : (v : Constant) (rows : List (List Item)) → RowsGiven texts h rows
      → map (λ q. q ++ (item_rules docs texts).constant v ∷ []) (map (meanings texts h) rows) ≡ map (meanings texts h) (map (λ q. q ++ held_constant v ∷ []) rows)
  pub select : (cols : List Col) (c : Col) (rows : List (List Item)) → RowsGiven texts h rows
      → filter (λ q. (item_rules docs texts).is_true (cell (item_rules docs texts) cols c q)) (map (meanings texts h) rows) ≡ map (meanings texts h) (filter (λ q. is_true_item (cell kept cols c q)) rows)
  pub union : (lc rc : List Col) (ls rs : List (List Item)) → RowsGiven texts h ls → RowsGiven texts h rs
      → map (meanings texts h) ls ++ map (cells (item_rules docs texts) rc lc) (map (meanings texts h) rs) ≡ map (meanings texts h) (ls ++ map (cells kept rc lc) rs)
  pub range : (cols : List Col) (a b : Col) (rows : List (List Item)) → RowsGiven texts h rows
      → range_rows (item_rules docs texts) (cell (item_rules docs texts) cols a) (cell (item_rules docs texts) cols b) (map (meanings texts h) rows) ≡ map (meanings texts h) (range_rows kept (cell kept cols a) (cell kept cols b) rows)
  pub join : (lc rc : List Col) (a b : Col) (ls rs : List (List Item)) → RowsGiven texts h ls → RowsGiven texts h rs
      → joined (item_rules docs texts) (cell (item_rules docs texts) lc a) (cell (item_rules docs texts) rc b) (map (meanings texts h) ls) (map (meanings texts h) rs) ≡ map (meanings texts h) (joined kept (cell kept lc a) (cell kept rc b) ls rs)
  pub difference : (lc rc : List Col) (a b : Col) (ls rs : List (List Item)) → RowsGiven texts h ls → RowsGiven texts h rs
      → left_over (item_rules docs texts) (cell (item_rules docs texts) lc a) (cell (item_rules docs texts) rc b) (map (meanings texts h) ls) (map (meanings texts h) rs) ≡ map (meanings texts h) (left_over kept (cell kept lc a) (cell kept rc b) ls rs)
  pub distinct : (cols ds : List Col) (rows : List (List Item)) → RowsGiven texts h rows
      → first_rows (item_rules docs texts) (cells (item_rules docs texts) cols ds) (map (meanings texts h) rows) ≡ map (meanings texts h) (first_rows kept (cells kept cols ds) rows)
  pub count : (cols : List Col) (c : Col) (rows : List (List Item)) → RowsGiven texts h rows
      → count_rows (item_rules docs texts) (cell (item_rules docs texts) cols c) (map (meanings texts h) rows) ≡ map (meanings texts h) (count_rows kept (cell kept cols c) rows)
  pub compare : (passes : Outcome Bool → Bool) (op : CompOp) (lc rc : List Col) (a v b w : Col) (ls rs : List (List Item)) → RowsGiven texts h ls → RowsGiven texts h rs
      → compared (item_rules docs texts) passes op (cell (item_rules docs texts) lc a) (cell (item_rules docs texts) lc v) (cell (item_rules docs texts) rc b) (cell (item_rules docs texts) rc w) (map (meanings texts h) ls) (map (meanings texts h) rs)
      ≡ map (meanings texts h) (compared (held_rules texts) passes op (cell kept lc a) (cell kept lc v) (cell kept rc b) (cell kept rc w) ls rs)
  pub rownum : (cols : List Col) (ks : List Key) (part : Option Col) (rows : List (List Item)) → RowsGiven texts h rows
      → rownum_rows (item_rules docs texts) (same_part (item_rules docs texts) cols part) (keys_less (item_rules docs texts) (sort_keys (item_rules docs texts) cols ks)) (map (meanings texts h) rows)
      ≡ map (meanings texts h) (rownum_rows kept (tied_part texts cols part) (keys_less (held_rules texts) (sort_keys (held_rules texts) cols ks)) rows)

-- where each text has one number
abbrev pub AllRowsStand : Type 0
AllRowsStand = (texts : List Text) (h : Holdings) (docs : Docs) → NoRepeats texts → RowsStand texts h docs
