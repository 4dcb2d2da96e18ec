-- The items of a root as they are kept stand for those of its table.
use Rattle.std.proofs.Common.{◌≡◌, Bool, true, false, cond, not, ◌&&◌, ◌||◌, List, [], ◌∷◌, map, refl, sym, ap, ◌∙◌, subst, pos, Option, Some, None, Result, IfOk}
use Rattle.xq_base.specs.declared.item.Item.{Item}
use Rattle.xq_base.specs.Texts.{Text}
use Rattle.doc_table.specs.Items.{IntItem, item_of}
use Rattle.doc_table.specs.Orders.{put, in_order}
use Rattle.doc_table.specs.StoredItems.{ItemsGiven, meanings, trees_of}
use Rattle.doc_table.specs.Stores.{Holdings}
use Rattle.plan_dag.specs.declared.cols.Col.{Col}
use Rattle.plan_dag.specs.ItemRules.{Cell, cell_less}
use Rattle.plan_dag.specs.declared.op.OpId.{OpId}
use Rattle.plan_dag.specs.Meaning.{Graph, Table, cell_or, sort_keys, root_less, root_items, input_table}
use Rattle.plan_dag.specs.Schema.{input_cols, schemas}
use Rattle.plan_dag.specs.Rows.{keys_less}
use Rattle.table_ops.specs.Columns.{no_cell}
use Rattle.table_ops.specs.Demands.{rules_in}
use Rattle.table_ops.specs.Held.{held_rules, held_less}
use Rattle.table_ops.specs.Standing.{standing, RowsGiven}
use Rattle.table_ops.proofs.CellMoves.{less_moves, cell_moves, cell_held}
use Rattle.table_ops.proofs.ContentLaws.{given_order}
use Rattle.plan_eval.specs.Evaluating.{tables_in}
use Rattle.plan_eval.specs.Making.{kept_input}
use Rattle.plan_eval.specs.Plans.{HasRoot}
use Rattle.plan_eval.specs.Root.{root_keys, GivesItems, GivesRoot, RootColumns}
use Rattle.plan_eval.specs.Running.{RootStands}
use Rattle.plan_eval.proofs.TableLaws.{table-cols}
use Rattle.plan_eval.proofs.OnceMaps.{map-map}

abbrev c0 : Col
c0 = record { 0 = 0 }

abbrev c1 : Col
c1 = record { 0 = 1 }

abbrev c2 : Col
c2 = record { 0 = 2 }

module _ (texts : List Text) (h : Holdings) where
  abbrev M : List Item → List Cell
  M = meanings texts h

  -- rows in order, as they are kept and as they stand
  module _ (less : List Item → List Item → Bool) (more : List Cell → List Cell → Bool) (same : (q r : List Item) → ItemsGiven texts h q → ItemsGiven texts h r → more (M q) (M r) ≡ less q r) where
    put-means : (x : List Item) (ys : List (List Item)) → ItemsGiven texts h x → RowsGiven texts h ys → put more (M x) (map M ys) ≡ map M (put less x ys)
    put-means x [] g k = refl
    put-means x (y ∷ ys) g k = ap (λ b. cond b (M y ∷ put more (M x) (map M ys)) (M x ∷ M y ∷ map M ys)) (same y x k.0 g) ∙ at (less y x) (put-means x ys g k.1)
      where
        at : (b : Bool) → put more (M x) (map M ys) ≡ map M (put less x ys) → cond b (M y ∷ put more (M x) (map M ys)) (M x ∷ M y ∷ map M ys) ≡ map M (cond b (y ∷ put less x ys) (x ∷ y ∷ ys))
        at true e = ap (λ z. M y ∷ z) e
        at false e = refl

    order-means : (rows : List (List Item)) → RowsGiven texts h rows → in_order more (map M rows) ≡ map M (in_order less rows)
    order-means [] g = refl
    order-means (x ∷ rows) g = ap (put more (M x)) (order-means rows g.1) ∙ put-means x (in_order less rows) g.0 (given_order texts h less rows g.1)

  or-nothing : (a b : Bool) → a || (not b && false) ≡ a
  or-nothing true b = refl
  or-nothing false true = refl
  or-nothing false false = refl

  cells-less : (cols : List Col) (c : Col) (q r : List Item) → ItemsGiven texts h q → ItemsGiven texts h r
      → cell_less (cell_or (IntItem (pos 0)) cols c (M q)) (cell_or (IntItem (pos 0)) cols c (M r)) ≡ held_less texts (cell_or no_cell cols c q) (cell_or no_cell cols c r)
  cells-less cols c q r g k =
      ap (λ z. cell_less z (cell_or (IntItem (pos 0)) cols c (M r))) (cell_moves texts h cols c q)
      ∙ ap (cell_less (item_of texts (trees_of h) (cell_or no_cell cols c q))) (cell_moves texts h cols c r)
      ∙ less_moves texts h (cell_or no_cell cols c q) (cell_or no_cell cols c r) (cell_held texts h cols c q g) (cell_held texts h cols c r k)

root-order : (old texts : List Text) (h : Holdings) (cols : List Col) (q r : List Item) → ItemsGiven texts h q → ItemsGiven texts h r
    → root_less (rules_in old h) cols (meanings texts h q) (meanings texts h r) ≡ keys_less (held_rules texts) (sort_keys (held_rules texts) cols root_keys) q r
root-order old texts h cols q r g k =
    let a = cells-less texts h cols c0 q r g k in
    let b = cells-less texts h cols c0 r q k g in
    let c = cells-less texts h cols c1 q r g k in
    let d = held_less texts (cell_or no_cell cols c1 r) (cell_or no_cell cols c1 q) in
    rw (a, b, c, or-nothing texts h (held_less texts (cell_or no_cell cols c1 q) (cell_or no_cell cols c1 r)) d) refl

items-given : (texts : List Text) (h : Holdings) (cols : List Col) (c : Col) (rows : List (List Item)) → RowsGiven texts h rows → ItemsGiven texts h (map (cell_or no_cell cols c) rows)
items-given texts h cols c [] g = tt
items-given texts h cols c (r ∷ rows) g = (cell_held texts h cols c r g.0, items-given texts h cols c rows g.1)

-- the items stand for those of the root's table
pub root-stands : (old new : List Text) (h : Holdings) (t : Table Item) (items : List Item) → RowsGiven new h t.rows → GivesItems new t items → root_items (rules_in old h) (standing new h t) ≡ meanings new h items
root-stands old new h t items g e =
    let lt = keys_less (held_rules new) (sort_keys (held_rules new) t.cols root_keys) in
    let sorted = in_order lt t.rows in
    ap (map (cell_or (IntItem (pos 0)) t.cols c2)) (order-means new h lt (root_less (rules_in old h) t.cols) (λ q r a b. root-order old new h t.cols q r a b) t.rows g)
    ∙ map-map (cell_or (IntItem (pos 0)) t.cols c2) (meanings new h) sorted
    ∙ each sorted
    ∙ sym (map-map (item_of new (trees_of h)) (cell_or no_cell t.cols c2) sorted)
    ∙ ap (meanings new h) (sym e)
  where
    each : (rows : List (List Item)) → map (λ r. cell_or (IntItem (pos 0)) t.cols c2 (meanings new h r)) rows ≡ map (λ r. item_of new (trees_of h) (cell_or no_cell t.cols c2 r)) rows
    each [] = refl
    each (r ∷ rows) = λ i. cell_moves new h t.cols c2 r i ∷ each rows i

pub root-given : (new : List Text) (h : Holdings) (t : Table Item) (items : List Item) → RowsGiven new h t.rows → GivesItems new t items → ItemsGiven new h items
root-given new h t items g e =
    let lt = keys_less (held_rules new) (sort_keys (held_rules new) t.cols root_keys) in
    subst (ItemsGiven new h) (sym e) (items-given new h t.cols c2 (in_order lt t.rows) (given_order new h lt t.rows g))

-- the answer of a plan whose root's table stands
pub root-answers : (old new : List Text) (h : Holdings) (g : Graph) (ts : List (Table Item)) (items : List Item) → RootStands old new h g ts → GivesRoot new (kept_input ts g.root) g.root items
    → root_items (rules_in old h) (input_table (rules_in old h) (tables_in old h g) g.root) ≡ meanings new h items
root-answers old new h g ts items s gives = ap (root_items (rules_in old h)) (sym s.stands) ∙ at g.root s.given gives
  where
    at : (root : Option OpId) → RowsGiven new h (kept_input ts root).rows → GivesRoot new (kept_input ts root) root items → root_items (rules_in old h) (standing new h (kept_input ts root)) ≡ meanings new h items
    at None g e = ap (meanings new h) (sym e)
    at (Some i) g e = root-stands old new h (kept_input ts (Some i)) items g e

pub answer-given : (old new : List Text) (h : Holdings) (g : Graph) (ts : List (Table Item)) (items : List Item) → RootStands old new h g ts → GivesRoot new (kept_input ts g.root) g.root items → ItemsGiven new h items
answer-given old new h g ts items s gives = at g.root s.given gives
  where
    at : (root : Option OpId) → RowsGiven new h (kept_input ts root).rows → GivesRoot new (kept_input ts root) root items → ItemsGiven new h items
    at None g e = subst (ItemsGiven new h) (sym e) tt
    at (Some i) g e = root-given new h (kept_input ts (Some i)) items g e

-- the columns of a root's table
pub root-columns : (old new : List Text) (h : Holdings) (g : Graph) (ts : List (Table Item)) → RootStands old new h g ts → HasRoot g g.root → RootColumns g.root (kept_input ts g.root)
root-columns old new h g ts s has = at g.root has (ap (λ t. t.cols) s.stands ∙ table-cols (rules_in old h) g.ops g.root)
  where
    at : (root : Option OpId) → HasRoot g root → (kept_input ts root).cols ≡ input_cols (schemas g.ops) root → RootColumns root (kept_input ts root)
    at None k e = tt
    at (Some i) k e = e ∙ k

-- what was read of the root's table
pub root-read : {V E : Type 0} (items : V → List Item) (texts : List Text) (ts : List (Table Item)) (root : Option OpId) (id : OpId) (t : Table Item) (r : Result V E) → root ≡ Some id → t ≡ kept_input ts (Some id)
    → IfOk r (λ x. GivesItems texts t (items x)) → IfOk r (λ x. GivesRoot texts (kept_input ts root) root (items x))
root-read items texts ts root id t r e q h = subst (λ o. IfOk r (λ x. GivesRoot texts (kept_input ts o) o (items x))) (sym e) (subst (λ z. IfOk r (λ x. GivesItems texts z (items x))) q h)
