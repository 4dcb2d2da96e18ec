-- The groups whose content fails are the rows of the operator.
use Rattle.std.proofs.Common.{◌≡◌, ◌∙◌, ◌<◌, ◌∷◌, ◌&&◌, ◌||◌, [], ℕ, suc, pos, Bool, true, false, not, cond, List, length, map, take, refl, sym, ap, subst, arith, Result, IfOk}
use Rattle.std.specs.Prelude.{slice_index_or}
use Rattle.std.specs.List.{filter}
use Rattle.indexmap.specs.IndexSet.{insert_all}
use Rattle.xq_base.specs.declared.code.Code.{Code}
use Rattle.xq_base.specs.declared.item.Item.{Item}
use Rattle.xq_base.specs.Pool.{NoRepeats}
use Rattle.xq_base.specs.Texts.{Text}
use Rattle.doc_table.specs.Documents.{documents_in}
use Rattle.doc_table.specs.Given.{trees_given}
use Rattle.doc_table.specs.Items.{IntItem}
use Rattle.doc_table.specs.NodeRules.{Docs}
use Rattle.doc_table.specs.Orders.{put}
use Rattle.doc_table.specs.Stores.{Holdings}
use Rattle.doc_table.specs.StoredItems.{ItemsGiven, meanings}
use Rattle.plan_dag.specs.declared.cols.Col.{Col}
use Rattle.plan_dag.specs.declared.keys.Key.{Key}
use Rattle.plan_dag.specs.declared.op.Place.{Place}
use Rattle.plan_dag.specs.Meaning.{Table, cell_or, content, sort_keys}
use Rattle.plan_dag.specs.Orders.{in_order}
use Rattle.plan_dag.specs.Rows.{group_rows, content_at, content_fails_rows, keys_less, is_code}
use Rattle.plan_dag.specs.ItemRules.{Cell, item_rules, cell_eq, cell_less, content_fault}
use Rattle.table_ops.specs.Chains.{places_of}
use Rattle.table_ops.specs.Columns.{rows_at, single_rows, cells_at, cell_of, no_cell}
use Rattle.table_ops.specs.Contents.{position_keys, content_cells, content_fails_with}
use Rattle.table_ops.specs.Held.{held_rules, held_less, kept}
use Rattle.table_ops.specs.Keys.{item_eq}
use Rattle.table_ops.specs.Standing.{standing, RowsGiven}
use Rattle.table_ops.proofs.AggregateLaws.{column_given, places_short, if_ok_on}
use Rattle.table_ops.proofs.CellMoves.{cell_moves, cell_held, less_moves}
use Rattle.table_ops.proofs.Combining.{whole}
use Rattle.table_ops.proofs.CountLaws.{first_cells}
use Rattle.table_ops.proofs.MapLaws.{row_held, rows_later, rows_given_later}
use Rattle.table_ops.proofs.RowMoves.{filters_move, same_cells, groups_move, groups_given, given_filter}
use Rattle.table_ops.proofs.Selecting.{picked, picked_values}
use Rattle.table_ops.proofs.Lists.{map_long}

-- ---- rows in order

module _ {A : Type 0} (less : A → A → Bool) where
  put_long : (x : A) (ys : List A) → length (put less x ys) ≡ suc (length ys)
  put_long x [] = refl
  put_long x (y ∷ ys) = by (less y x) (put_long x ys)
    where
      by : (b : Bool) → length (put less x ys) ≡ suc (length ys) → length (cond b (y ∷ put less x ys) (x ∷ y ∷ ys)) ≡ suc (suc (length ys))
      by true e = ap suc e
      by false e = refl

  pub order_long : (xs : List A) → length (in_order less xs) ≡ length xs
  order_long [] = refl
  order_long (x ∷ xs) = put_long x (in_order less xs) ∙ ap suc (order_long xs)

module _ (texts : List Text) (h : Holdings) where
  abbrev R : List Item → List Cell
  R = meanings texts h

  abbrev G : List Item → Type 0
  G = ItemsGiven texts h

  abbrev Gs : List (List Item) → Type 0
  Gs = RowsGiven texts h

  given_put : (less : List Item → List Item → Bool) (x : List Item) (ys : List (List Item)) → G x → Gs ys → Gs (put less x ys)
  given_put less x [] g k = (g, tt)
  given_put less x (y ∷ ys) g k = by (less y x) (given_put less x ys g k.1)
    where
      by : (b : Bool) → Gs (put less x ys) → Gs (cond b (y ∷ put less x ys) (x ∷ y ∷ ys))
      by true m = (k.0, m)
      by false m = (g, k)

  pub given_order : (less : List Item → List Item → Bool) (rows : List (List Item)) → Gs rows → Gs (in_order less rows)
  given_order less [] g = tt
  given_order less (r ∷ rows) g = given_put less r (in_order less rows) g.0 (given_order less rows g.1)

  pub given_places : (rows : List (List Item)) (ps : List ℕ) → Gs rows → Gs (rows_at rows ps)
  given_places rows [] g = tt
  given_places rows (p ∷ ps) g = (row_held texts h rows p g, given_places rows ps g)

  module _ (p : List Item → List Item → Bool) (q : List Cell → List Cell → Bool) (e : (x y : List Item) → G x → G y → q (R x) (R y) ≡ p x y) where
    puts_move : (x : List Item) (ys : List (List Item)) → G x → Gs ys → put q (R x) (map R ys) ≡ map R (put p x ys)
    puts_move x [] g k = refl
    puts_move x (y ∷ ys) g k = ap (λ b. cond b (R y ∷ put q (R x) (map R ys)) (R x ∷ R y ∷ map R ys)) (e y x k.0 g) ∙ by (p y x) (puts_move x ys g k.1)
      where
        by : (b : Bool) → put q (R x) (map R ys) ≡ map R (put p x ys) → cond b (R y ∷ put q (R x) (map R ys)) (R x ∷ R y ∷ map R ys) ≡ map R (cond b (y ∷ put p x ys) (x ∷ y ∷ ys))
        by true m = ap (λ (z : List _). R y ∷ z) m
        by false m = refl

    pub orders_move : (rows : List (List Item)) → Gs rows → in_order q (map R rows) ≡ map R (in_order p rows)
    orders_move [] g = refl
    orders_move (r ∷ rows) g = ap (put q (R r)) (orders_move rows g.1) ∙ puts_move r (in_order p rows) g.0 (given_order p rows g.1)

-- ---- content

pub places_few : (n : ℕ) (test : Item → Bool) (index : List Item) (ps : List ℕ) → ps ≡ places_of test 0 index → length index < n → length ps < n
places_few n test index ps e l = omega (arith, ap (λ (z : List ℕ). length z) e, places_short test 0 index, l)

pub content_read : (texts : List Text) (cols : List Col) (at item : Col) (rows0 : List (List Item)) (places : List ℕ) (rows sorted : Table Item) (ks : List Key) (cells : List Item) → rows ≡ whole cols (rows_at rows0 places) → ks ≡ position_keys at
    → sorted ≡ whole rows.cols (in_order (keys_less (held_rules texts) (sort_keys (held_rules texts) rows.cols ks)) rows.rows) → cells ≡ cells_at sorted.cols item sorted.rows → cells ≡ content_cells texts cols at item rows0 places
content_read texts cols at item rows0 places rows sorted ks cells e k o c =
    c ∙ (λ i. cells_at (o i).cols item (o i).rows) ∙ (λ i. cells_at (e i).cols item (in_order (keys_less (held_rules texts) (sort_keys (held_rules texts) (e i).cols (k i))) (e i).rows))

module _ (texts : List Text) (h : Holdings) (cols : List Col) (at item : Col) (rows : List (List Item)) (held : RowsGiven texts h rows) (places : List ℕ) where
  abbrev L : List Item → List Item → Bool
  L = keys_less (held_rules texts) (sort_keys (held_rules texts) cols (position_keys at))

  pub content_given : ItemsGiven texts h (content_cells texts cols at item rows places)
  content_given = column_given texts h cols item (in_order L (rows_at rows places)) (content_cells texts cols at item rows places) refl (given_order texts h L (rows_at rows places) (given_places texts h rows places held))

  pub content_long : length (content_cells texts cols at item rows places) ≡ length places
  content_long = map_long (cell_or no_cell cols item) (in_order L (rows_at rows places)) ∙ order_long L (rows_at rows places) ∙ map_long (λ p. slice_index_or rows p []) places

module _ (texts : List Text) (h : Holdings) (docs : Docs) (once : NoRepeats texts) (cols : List Col) (it at item : Col) (rows : List (List Item)) (held : RowsGiven texts h rows) (place : Place) (code : Code) where
  abbrev K : Col → List Item → Item
  K c r = cell_or no_cell cols c r

  abbrev C : Col → List Cell → Cell
  C c r = cell_or (IntItem (pos 0)) cols c r

  abbrev X : List Item → List (List Item)
  X r = filter (λ q. item_eq (K it r) (K it q)) rows

  abbrev T : Item → Bool
  T c = content_fails_with texts h place code cols at item rows (cells_at cols it rows) c

  abbrev S : List Cell → Bool
  S r = is_code code (content_fault place (content_at (item_rules docs texts) (C it) (C at) (C item) (C it r) (map (R texts h) rows)))

  one_key : (a b : Bool) → a ≡ a || (not b && false)
  one_key true b = refl
  one_key false true = refl
  one_key false false = refl

  by_position : (x y : List Item) → ItemsGiven texts h x → ItemsGiven texts h y → cell_less (C at (R texts h x)) (C at (R texts h y)) ≡ L texts h cols at item rows held [] x y
  by_position x y g k =
      (λ j. cell_less (cell_moves texts h cols at x j) (cell_moves texts h cols at y j))
      ∙ less_moves texts h (K at x) (K at y) (cell_held texts h cols at x g) (cell_held texts h cols at y k)
      ∙ one_key (held_less texts (K at x) (K at y)) (held_less texts (K at y) (K at x))

  values_moved : (xs : List (List Item)) → map (C item) (map (R texts h) xs) ≡ meanings texts h (map (K item) xs)
  values_moved [] = refl
  values_moved (x ∷ xs) = λ j. cell_moves texts h cols item x j ∷ values_moved xs j

  content_is : (r : List Item) → ItemsGiven texts h r → content_at (item_rules docs texts) (C it) (C at) (C item) (C it (R texts h r)) (map (R texts h) rows) ≡ meanings texts h (content_cells texts cols at item rows (places_of (item_eq (K it r)) 0 (cells_at cols it rows)))
  content_is r g =
      ap (λ z. map (C item) (in_order (λ q s. cell_less (C at q) (C at s)) z)) (filters_move texts h (λ q. item_eq (K it r) (K it q)) (λ q. cell_eq (C it (R texts h r)) (C it q)) rows held (λ q m. same_cells texts h docs texts once cols cols it it r q g m))
      ∙ ap (map (C item)) (orders_move texts h (L texts h cols at item rows held []) (λ q s. cell_less (C at q) (C at s)) by_position (X r) (given_filter texts h (λ q. item_eq (K it r) (K it q)) rows held))
      ∙ values_moved (in_order (L texts h cols at item rows held []) (X r))
      ∙ ap (λ z. meanings texts h (map (K item) (in_order (L texts h cols at item rows held []) z))) (sym (picked (item_eq (K it r)) (K it) [] rows))

  abbrev Groups : List (List Item)
  Groups = group_rows kept (K it) rows

  Groups_given : RowsGiven texts h Groups
  Groups_given = groups_given texts h docs texts once cols it rows held

  abbrev Failed : List (List Item)
  Failed = filter (λ r. T (K it r)) Groups

  names_are : (groups : List Item) (places : List ℕ) → groups ≡ insert_all item_eq [] (cells_at cols it rows) → places ≡ places_of T 0 groups → map (cell_of groups) places ≡ map (K it) Failed
  names_are groups places e p =
      let are : insert_all item_eq [] (cells_at cols it rows) ≡ map (K it) Groups = first_cells (K it) [] [] rows (λ x. refl) in
      (λ i. map (cell_of ((e ∙ are) i)) ((p ∙ ap (places_of T 0) (e ∙ are)) i)) ∙ picked_values T (K it) (K it) no_cell [] Groups

  singles_stand : (xs : List (List Item)) → map (R texts h) (single_rows (map (K it) xs)) ≡ map (λ r. C it r ∷ []) (map (R texts h) xs)
  singles_stand [] = refl
  singles_stand (x ∷ xs) = λ j. (sym (cell_moves texts h cols it x) j ∷ []) ∷ singles_stand xs j

  failed_rows : map (λ r. C it r ∷ []) (map (R texts h) Failed) ≡ map (λ r. C it r ∷ []) (filter S (group_rows (item_rules docs texts) (C it) (map (R texts h) rows)))
  failed_rows =
      ap (map (λ r. C it r ∷ []))
      (sym (filters_move texts h (λ r. T (K it r)) S Groups Groups_given (λ r g. ap (λ z. is_code code (content_fault place z)) (content_is r g)))
      ∙ ap (filter S) (sym (groups_move texts h docs texts once cols it rows held)))

  pub fails_rows : (groups names : List Item) (places : List ℕ) → groups ≡ insert_all item_eq [] (cells_at cols it rows) → places ≡ places_of T 0 groups → names ≡ map (cell_of groups) places
      → map (R texts h) (single_rows names) ≡ content_fails_rows (item_rules docs texts) place code (C it) (λ v. content_at (item_rules docs texts) (C it) (C at) (C item) v (map (R texts h) rows)) (map (R texts h) rows)
  fails_rows groups names places e p n = ap (λ z. map (R texts h) (single_rows z)) (n ∙ names_are groups places e p) ∙ singles_stand Failed ∙ failed_rows

  singles_held : (xs : List (List Item)) → RowsGiven texts h xs → RowsGiven texts h (single_rows (map (K it) xs))
  singles_held [] g = tt
  singles_held (x ∷ xs) g = ((cell_held texts h cols it x g.0, tt), singles_held xs g.1)

  pub fails_given : (groups names : List Item) (places : List ℕ) → groups ≡ insert_all item_eq [] (cells_at cols it rows) → places ≡ places_of T 0 groups → names ≡ map (cell_of groups) places → RowsGiven texts h (single_rows names)
  fails_given groups names places e p n = subst (λ z. RowsGiven texts h (single_rows z)) (sym (n ∙ names_are groups places e p)) (singles_held Failed (given_filter texts h (λ r. T (K it r)) Groups Groups_given))

-- ---- the operator, whose pool may have grown

module _ (old new : List Text) (h : Holdings) (later : take (length old) new ≡ old) (trees : trees_given (length old) h ≡ true) (once : NoRepeats new) (t : Table Item) (rows : RowsGiven old h t.rows) (place : Place) (code : Code) (it at item : Col)
    (index groups names : List Item) (places : List ℕ) (i_is : index ≡ cells_at t.cols it t.rows) (g_is : groups ≡ insert_all item_eq [] (cells_at t.cols it t.rows))
    (p_is : places ≡ places_of (content_fails_with new h place code t.cols at item t.rows index) 0 groups) (n_is : names ≡ map (cell_of groups) places) where
  abbrev docs : Docs
  docs = documents_in old h

  abbrev now_given : RowsGiven new h t.rows
  now_given = rows_given_later old new h later trees t.rows rows

  places_are : places ≡ places_of (content_fails_with new h place code t.cols at item t.rows (cells_at t.cols it t.rows)) 0 groups
  places_are = p_is ∙ ap (λ z. places_of (content_fails_with new h place code t.cols at item t.rows z) 0 groups) i_is

  pub content_fails_whole : {E : Type 0} (r : Result (Table Item) E) → IfOk r (λ x. x ≡ whole (it ∷ []) (single_rows names))
      → IfOk r (λ x. standing new h x ≡ record { cols = it ∷ []; rows = content_fails_rows (item_rules docs old) place code (λ q. cell_or (IntItem (pos 0)) t.cols it q) (content (item_rules docs old) (standing old h t) it at item) (map (meanings old h) t.rows) })
  content_fails_whole r x =
      if_ok_on r _ _
      (λ i. record {
        cols = it ∷ [];
        rows = (fails_rows new h docs once t.cols it at item t.rows now_given place code groups names places g_is places_are n_is
            ∙ ap (λ z. content_fails_rows (item_rules docs old) place code (λ q. cell_or (IntItem (pos 0)) t.cols it q) (λ v. content_at (item_rules docs old) (λ q. cell_or (IntItem (pos 0)) t.cols it q) (λ q. cell_or (IntItem (pos 0)) t.cols at q) (λ q. cell_or (IntItem (pos 0)) t.cols item q) v z) z) (rows_later old new h later trees t.rows rows)) i;
      })
      x

  pub content_fails_given : {E : Type 0} (r : Result (Table Item) E) → IfOk r (λ x. x ≡ whole (it ∷ []) (single_rows names)) → IfOk r (λ x. RowsGiven new h x.rows)
  content_fails_given r x = if_ok_on r _ _ (fails_given new h docs once t.cols it at item t.rows now_given place code groups names places g_is places_are n_is) x
