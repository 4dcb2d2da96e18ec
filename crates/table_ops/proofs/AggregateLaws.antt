-- Found values are the rows of aggregates.
use Rattle.std.proofs.Common.{◌≡◌, ◌∙◌, ◌<◌, ◌≤◌, ◌+◌, ◌++◌, ◌∷◌, [], ℕ, suc, pos, Bool, true, false, cond, List, length, map, take, drop, refl, sym, ap, subst, arith, Result, Ok, Err, IfOk}
use Rattle.std.specs.Prelude.{slice_index_or}
use Rattle.std.specs.List.{filter, flat_map}
use Rattle.indexmap.specs.IndexSet.{insert_all}
use Rattle.xq_base.specs.declared.code.Code.{Code}
use Rattle.xq_base.specs.declared.item.Item.{Item}
use Rattle.xq_base.specs.Pool.{NoRepeats}
use Rattle.xq_base.specs.Texts.{Text}
use Rattle.doc_table.specs.Documents.{documents_in}
use Rattle.doc_table.specs.Given.{trees_given}
use Rattle.doc_table.specs.Items.{IntItem, item_of}
use Rattle.doc_table.specs.NodeRules.{Docs}
use Rattle.doc_table.specs.Stores.{Holdings, AreGiven}
use Rattle.doc_table.specs.StoredItems.{ItemsGiven, meanings, trees_of}
use Rattle.doc_table.proofs.GrownPools.{grown_pool_keeps}
use Rattle.doc_table.proofs.LaterTexts.{item-later}
use Rattle.xq_funs.proofs.Later.{item_given_later, keeps_on}
use Rattle.plan_dag.specs.declared.cols.Col.{Col}
use Rattle.plan_dag.specs.declared.op.Agg.{Agg}
use Rattle.plan_dag.specs.Cells.{Outcome, given as given_in, code_in}
use Rattle.plan_dag.specs.Meaning.{Table, cell_or}
use Rattle.plan_dag.specs.Rows.{group_rows, group_value, aggregate_rows, aggregate_fails_rows, is_code}
use Rattle.plan_dag.specs.ItemRules.{Cell, item_rules, cell_eq, group_outcome}
use Rattle.table_ops.specs.Attempts.{valued, pairs_in, PairsGiven}
use Rattle.table_ops.specs.Chains.{places_of}
use Rattle.table_ops.specs.Columns.{rows_beside, single_rows, cells_at, cell_of, no_cell}
use Rattle.table_ops.specs.Held.{kept}
use Rattle.table_ops.specs.Keys.{item_eq}
use Rattle.table_ops.specs.Standing.{standing, RowsGiven}
use Rattle.table_ops.specs.Wholes.{members}
use Rattle.table_ops.proofs.CellMoves.{cell_moves, cell_held}
use Rattle.table_ops.proofs.Combining.{whole}
use Rattle.table_ops.proofs.FailLaws.{places_turn}
use Rattle.table_ops.proofs.CountLaws.{first_cells}
use Rattle.table_ops.proofs.MapLaws.{pairs_later, pairs_given_later, items_later, items_given_later, documents_later, with_values, value_turn}
use Rattle.table_ops.proofs.MatchLaws.{table_short}
use Rattle.table_ops.proofs.ReadLaws.{cell_given}
use Rattle.table_ops.proofs.RowMoves.{filters_move, same_cells, groups_move, groups_given, given_filter}
use Rattle.table_ops.proofs.Selecting.{picked_values}
use Rattle.table_ops.proofs.Lists.{map_long}

-- a pool that is longer has each text once, and so the shorter one
pub once_before : (old new : List Text) → take (length old) new ≡ old → NoRepeats new → NoRepeats old
once_before old new later once i j text a b = once i j text ((grown_pool_keeps old new later).numbers i text a) ((grown_pool_keeps old new later).numbers j text b)

-- the values of a group are of the store
pub cells_given : (texts : List Text) (h : Holdings) (cells : List Item) (ps : List ℕ) → ItemsGiven texts h cells → ItemsGiven texts h (map (cell_of cells) ps)
cells_given texts h cells [] g = tt
cells_given texts h cells (p ∷ ps) g = (cell_given texts h cells p g, cells_given texts h cells ps g)

pub column_given : (texts : List Text) (h : Holdings) (cols : List Col) (c : Col) (rows : List (List Item)) (cells : List Item) → cells ≡ cells_at cols c rows → RowsGiven texts h rows → ItemsGiven texts h cells
column_given texts h cols c rows cells e g = subst (ItemsGiven texts h) (sym e) (all rows g)
  where
    all : (rows : List (List Item)) → RowsGiven texts h rows → ItemsGiven texts h (cells_at cols c rows)
    all [] g = tt
    all (r ∷ rows) g = (cell_held texts h cols c r g.0, all rows g.1)

-- what a group gives is the same over a longer pool
pub group_later : (first old : List Text) (h : Holdings) (agg : Agg) (cells : List Item) → take (length first) old ≡ first → trees_given (length first) h ≡ true → AreGiven first h.docs → ItemsGiven first h cells
    → group_outcome (documents_in old h) agg (meanings old h cells) ≡ group_outcome (documents_in first h) agg (meanings first h cells)
group_later first old h agg cells later trees names g = λ i. group_outcome (documents_later first old h later trees names i) agg (items_later first old h later trees cells g i)

module _ (texts : List Text) (h : Holdings) (docs : Docs) (once : NoRepeats texts) (cols : List Col) (g v : Col) (agg : Agg) (rows : List (List Item)) (held : RowsGiven texts h rows) where
  abbrev R : List Item → List Cell
  R r = meanings texts h r

  abbrev F : List Item → Item
  F r = cell_or no_cell cols g r

  abbrev V : List Item → Item
  V r = cell_or no_cell cols v r

  abbrev C : Col → List Cell → Cell
  C c r = cell_or (IntItem (pos 0)) cols c r

  abbrev G : List (List Item)
  G = group_rows kept F rows

  pub groups_are : insert_all item_eq [] (cells_at cols g rows) ≡ map F G
  groups_are = first_cells F [] [] rows (λ x. refl)

  abbrev O : Item → Outcome Cell
  O c = group_outcome docs agg (meanings texts h (members (cells_at cols g rows) (cells_at cols v rows) c))

  values_moved : (xs : List (List Item)) → map (C v) (map R xs) ≡ meanings texts h (map V xs)
  values_moved [] = refl
  values_moved (x ∷ xs) = λ i. cell_moves texts h cols v x i ∷ values_moved xs i

  -- a group's value
  value_is : (r : List Item) → ItemsGiven texts h r → group_value (item_rules docs texts) agg (C g) (C v) (map R rows) (R r) ≡ O (F r)
  value_is r k =
      ap (λ z. group_outcome docs agg (map (C v) z)) (filters_move texts h (λ q. item_eq (F r) (F q)) (λ q. cell_eq (C g (R r)) (C g q)) rows held (λ q m. same_cells texts h docs texts once cols cols g g r q k m))
      ∙ ap (group_outcome docs agg) (values_moved (filter (λ q. item_eq (F r) (F q)) rows) ∙ ap (meanings texts h) (sym (picked_values (item_eq (F r)) F V no_cell [] rows)))

  flats : {Y : Type 0} (p : List Item → List Y) (q : List Cell → List Y) (xs : List (List Item)) → RowsGiven texts h xs → ((r : List Item) → ItemsGiven texts h r → p r ≡ q (R r)) → flat_map p xs ≡ flat_map q (map R xs)
  flats p q [] k e = refl
  flats p q (x ∷ xs) k e = λ i. e x k.0 i ++ flats p q xs k.1 e i

  flat_map_map : {Y : Type 0} (p : Item → List Y) (xs : List (List Item)) → flat_map p (map F xs) ≡ flat_map (λ r. p (F r)) xs
  flat_map_map p [] = refl
  flat_map_map p (x ∷ xs) = ap (λ z. p (F x) ++ z) (flat_map_map p xs)

  G_given : RowsGiven texts h G
  G_given = groups_given texts h docs texts once cols g rows held

  pub groups_held : (groups : List Item) → groups ≡ insert_all item_eq [] (cells_at cols g rows) → ItemsGiven texts h groups
  groups_held groups e = subst (ItemsGiven texts h) (sym (e ∙ groups_are)) (all G G_given)
    where
      all : (xs : List (List Item)) → RowsGiven texts h xs → ItemsGiven texts h (map F xs)
      all [] k = tt
      all (x ∷ xs) k = (cell_held texts h cols g x k.0, all xs k.1)

  pub aggregated : (groups : List Item) → groups ≡ insert_all item_eq [] (cells_at cols g rows)
      → map (λ (q : ℕ × Cell). item_of texts (trees_of h) (cell_of groups q.0) ∷ q.1 ∷ []) (valued O 0 groups) ≡ aggregate_rows (item_rules docs texts) agg (C g) (C v) (map R rows)
  aggregated groups e =
      with_values O (λ c w. item_of texts (trees_of h) c ∷ w ∷ []) no_cell [] groups
      ∙ ap (flat_map (λ c. map (λ w. item_of texts (trees_of h) c ∷ w ∷ []) (given_in (O c)))) (e ∙ groups_are)
      ∙ flat_map_map (λ c. map (λ w. item_of texts (trees_of h) c ∷ w ∷ []) (given_in (O c))) G
      ∙ flats (λ r. map (λ w. item_of texts (trees_of h) (F r) ∷ w ∷ []) (given_in (O (F r)))) (λ r. map (λ w. C g r ∷ w ∷ []) (given_in (group_value (item_rules docs texts) agg (C g) (C v) (map R rows) r))) G G_given
      (λ r k. λ i. map (λ w. sym (cell_moves texts h cols g r) i ∷ w ∷ []) (given_in (sym (value_is r k) i)))
      ∙ ap (flat_map (λ r. map (λ w. C g r ∷ w ∷ []) (given_in (group_value (item_rules docs texts) agg (C g) (C v) (map R rows) r)))) (sym (groups_move texts h docs texts once cols g rows held))

  -- those that fail
  module _ (code : Code) where
    abbrev T : Item → Bool
    T c = is_code code (code_in (O c))

    abbrev failed : List (List Item)
    failed = filter (λ r. T (F r)) G

    pub names_are : (groups : List Item) (places : List ℕ) → groups ≡ insert_all item_eq [] (cells_at cols g rows) → places ≡ places_of T 0 groups → map (cell_of groups) places ≡ map F failed
    names_are groups places e p =
        (λ i. map (cell_of ((e ∙ groups_are) i)) ((p ∙ ap (places_of T 0) (e ∙ groups_are)) i)) ∙ picked_values T F F no_cell [] G

    pub failed_given : RowsGiven texts h failed
    failed_given = given_filter texts h (λ r. T (F r)) G G_given

    pub failed_rows : map (λ r. C g r ∷ []) (map R failed) ≡ aggregate_fails_rows (item_rules docs texts) agg code (C g) (C v) (map R rows)
    failed_rows =
        ap (map (λ r. C g r ∷ []))
        (sym (filters_move texts h (λ r. T (F r)) (λ r. is_code code (code_in (group_value (item_rules docs texts) agg (C g) (C v) (map R rows) r))) G G_given (λ r k. ap (λ z. is_code code (code_in z)) (value_is r k)))
        ∙ ap (filter (λ r. is_code code (code_in (group_value (item_rules docs texts) agg (C g) (C v) (map R rows) r)))) (sym (groups_move texts h docs texts once cols g rows held)))

pub places_short : {X : Type 0} (test : X → Bool) (k : ℕ) (xs : List X) → length (places_of test k xs) ≤ length xs
places_short test k [] = omega arith
places_short test k (x ∷ xs) = one (test x) (places_short test (suc k) xs)
  where
    one : (b : Bool) → length (places_of test (suc k) xs) ≤ length xs → length (cond b (k ∷ places_of test (suc k) xs) (places_of test (suc k) xs)) ≤ suc (length xs)
    one true e = omega (arith, e)
    one false e = omega (arith, e)

pub members_few : (n : ℕ) (index values cells : List Item) (c : Item) → cells ≡ members index values c → length index < n → length cells < n
members_few n index values cells c e l = omega (arith, ap (λ (z : List Item). length z) e ∙ map_long (cell_of values) (places_of (item_eq c) 0 index), places_short (item_eq c) 0 index, l)

pub groups_few : (n : ℕ) (cells groups : List Item) → groups ≡ insert_all item_eq [] cells → length cells < n → length groups < n
groups_few n cells groups e l = omega (arith, ap (λ (z : List Item). length z) e, table_short cells [], l)

-- the values of a group over a longer pool
module _ (first old new : List Text) (h : Holdings) (later : take (length first) old ≡ first) (trees : trees_given (length first) h ≡ true) (index values groups : List Item) (held : ItemsGiven first h values) (p : ℕ) (d : Item) (cells : List Item)
    (are : cells ≡ members index values (slice_index_or groups p d)) where
  pub members_given : ItemsGiven old h cells
  members_given = items_given_later first old h later trees cells (subst (ItemsGiven first h) (sym are) (cells_given first h values (places_of (item_eq (slice_index_or groups p d)) 0 index) held))

  module _ (agg : Agg) (names : AreGiven first h.docs) (l : p < length groups) where
    abbrev Of : Item → Outcome Cell
    Of c = group_outcome (documents_in first h) agg (meanings first h (members index values c))

    same_group : group_outcome (documents_in old h) agg (meanings old h cells) ≡ Of (slice_index_or groups p d)
    same_group =
        group_later first old h agg cells later trees names (subst (ItemsGiven first h) (sym are) (cells_given first h values (places_of (item_eq (slice_index_or groups p d)) 0 index) held))
        ∙ ap (λ z. group_outcome (documents_in first h) agg (meanings first h z)) are

    pub wholes_turn : (ps more : List (ℕ × Item)) → pairs_in new h more ≡ pairs_in old h ps ++ map (λ v. (p, v)) (given_in (group_outcome (documents_in old h) agg (meanings old h cells)))
        → pairs_in old h ps ++ valued Of p (drop p groups) ≡ valued Of 0 groups → pairs_in new h more ++ valued Of (p + 1) (drop (p + 1) groups) ≡ valued Of 0 groups
    wholes_turn ps more e was = value_turn old new h Of groups d p ps more l (e ∙ ap (λ z. pairs_in old h ps ++ map (λ v. (p, v)) (given_in z)) same_group) was

    pub fails_turn : (code : Code) (out more : List ℕ) (b : Bool) → b ≡ is_code code (code_in (group_outcome (documents_in old h) agg (meanings old h cells))) → more ≡ cond b (out ++ p ∷ []) out
        → out ++ places_of (λ c. is_code code (code_in (Of c))) p (drop p groups) ≡ places_of (λ c. is_code code (code_in (Of c))) 0 groups
        → more ++ places_of (λ c. is_code code (code_in (Of c))) (p + 1) (drop (p + 1) groups) ≡ places_of (λ c. is_code code (code_in (Of c))) 0 groups
    fails_turn code out more b e m was = places_turn (λ c. is_code code (code_in (Of c))) groups d p out more b l (e ∙ ap (λ z. is_code code (code_in z)) same_group) m was

pub if_ok_on : {E : Type 0} (r : Result (Table Item) E) (x : Table Item) (P : Table Item → Type 0) → P x → IfOk r (λ z. z ≡ x) → IfOk r P
if_ok_on (Ok a) x P p e = subst P (sym e) p
if_ok_on (Err b) x P p e = tt

singles_beside : (f : ℕ → Item) (ps : List (ℕ × Item)) → rows_beside (single_rows (map f (map (λ p. p.0) ps))) (single_rows (map (λ p. p.1) ps)) ≡ map (λ p. f p.0 ∷ p.1 ∷ []) ps
singles_beside f [] = refl
singles_beside f (p ∷ ps) = ap (λ z. (f p.0 ∷ p.1 ∷ []) ∷ z) (singles_beside f ps)

module _ (old mid new : List Text) (h : Holdings) (later : take (length old) mid ≡ old) (then_later : take (length mid) new ≡ mid) (trees : trees_given (length old) h ≡ true) (once : NoRepeats new)
    (t : Table Item) (rows : RowsGiven old h t.rows) (agg : Agg) (g v : Col) (index groups values : List Item)
    (i_is : index ≡ cells_at t.cols g t.rows) (g_is : groups ≡ insert_all item_eq [] (cells_at t.cols g t.rows)) (v_is : values ≡ cells_at t.cols v t.rows) where
  all_later : take (length old) new ≡ old
  all_later = keeps_on old mid new later then_later

  abbrev docs : Docs
  docs = documents_in old h

  held : ItemsGiven old h groups
  held = groups_held old h docs (once_before old new all_later once) t.cols g v agg t.rows rows groups g_is

  abbrev W : Item → Outcome Cell
  W c = group_outcome docs agg (meanings old h (members index values c))

  W_is : (c : Item) → W c ≡ group_outcome docs agg (meanings old h (members (cells_at t.cols g t.rows) (cells_at t.cols v t.rows) c))
  W_is c = λ i. group_outcome docs agg (meanings old h (members (i_is i) (v_is i) c))

  -- with a value each
  module _ (c : Col) (ps : List (ℕ × Item)) (qs : List ℕ) (names wholes : List Item) (L Q : Table Item)
      (k : qs ≡ map (λ p. p.0) ps) (n : names ≡ map (cell_of groups) qs) (m : wholes ≡ map (λ p. p.1) ps) (eL : L ≡ whole (g ∷ []) (single_rows names)) (eQ : Q ≡ whole (c ∷ []) (single_rows wholes)) where
    pub aggregate_few : length L.cols + length Q.cols < 9
    aggregate_few = subst (λ n. n < 9) (λ i. length (sym eL i).cols + length (sym eQ i).cols) (omega arith)

    pub aggregate_high : length L.rows ≡ length Q.rows
    aggregate_high =
        ap (λ (z : Table Item). length z.rows) eL ∙ map_long (λ v. v ∷ []) names ∙ ap (λ (z : List Item). length z) n ∙ map_long (cell_of groups) qs ∙ ap (λ (z : List ℕ). length z) k ∙ map_long (λ p. p.0) ps
        ∙ sym (ap (λ (z : Table Item). length z.rows) eQ ∙ map_long (λ v. v ∷ []) wholes ∙ ap (λ (z : List Item). length z) m ∙ map_long (λ p. p.1) ps)

    both : whole (L.cols ++ Q.cols) (rows_beside L.rows Q.rows) ≡ whole (g ∷ c ∷ []) (map (λ p. cell_of groups p.0 ∷ p.1 ∷ []) ps)
    both =
        (λ i. whole ((eL i).cols ++ (eQ i).cols) (rows_beside (eL i).rows (eQ i).rows))
        ∙ (λ i. whole (g ∷ c ∷ []) (rows_beside (single_rows ((n ∙ ap (map (cell_of groups)) k) i)) (single_rows (m i))))
        ∙ ap (whole (g ∷ c ∷ [])) (singles_beside (cell_of groups) ps)

    each_row : (ps : List (ℕ × Item)) → map (meanings new h) (map (λ p. cell_of groups p.0 ∷ p.1 ∷ []) ps) ≡ map (λ (q : ℕ × Cell). item_of old (trees_of h) (cell_of groups q.0) ∷ q.1 ∷ []) (pairs_in new h ps)
    each_row [] = refl
    each_row (p ∷ ps) = λ i. (item-later old new all_later h (cell_of groups p.0) trees (cell_given old h groups p.0 held) i ∷ item_of new (trees_of h) p.1 ∷ []) ∷ each_row ps i

    pub aggregate_whole : {E : Type 0} (r : Result (Table Item) E) → PairsGiven mid h ps → trees_given (length mid) h ≡ true → pairs_in mid h ps ≡ valued W 0 groups → IfOk r (λ x. x ≡ whole (L.cols ++ Q.cols) (rows_beside L.rows Q.rows))
        → IfOk r (λ x. standing new h x ≡ record { cols = g ∷ c ∷ []; rows = aggregate_rows (item_rules docs old) agg (λ q. cell_or (IntItem (pos 0)) t.cols g q) (λ q. cell_or (IntItem (pos 0)) t.cols v q) (map (meanings old h) t.rows) })
    aggregate_whole r given more e x =
        if_ok_on r _ _
        (ap (standing new h) both
        ∙ (λ i. record {
          cols = g ∷ c ∷ [];
          rows = (each_row ps ∙ ap (map (λ (q : ℕ × Cell). item_of old (trees_of h) (cell_of groups q.0) ∷ q.1 ∷ [])) (pairs_later mid new h then_later more ps given ∙ e ∙ same_values 0 groups)
              ∙ aggregated old h docs (once_before old new all_later once) t.cols g v agg t.rows rows groups g_is) i;
        }))
        x
      where
        same_values : (n : ℕ) (xs : List Item) → valued W n xs ≡ valued (λ c. group_outcome docs agg (meanings old h (members (cells_at t.cols g t.rows) (cells_at t.cols v t.rows) c))) n xs
        same_values n [] = refl
        same_values n (x ∷ xs) = λ i. map (λ w. (n, w)) (given_in (W_is x i)) ++ same_values (suc n) xs i

    rows_held : (ps : List (ℕ × Item)) → PairsGiven new h ps → RowsGiven new h (map (λ p. cell_of groups p.0 ∷ p.1 ∷ []) ps)
    rows_held [] k = tt
    rows_held (p ∷ ps) k = ((item_given_later old new all_later h (cell_of groups p.0) (cell_given old h groups p.0 held), (k.0, tt)), rows_held ps k.1)

    pub aggregate_given : {E : Type 0} (r : Result (Table Item) E) → PairsGiven mid h ps → trees_given (length mid) h ≡ true → IfOk r (λ x. x ≡ whole (L.cols ++ Q.cols) (rows_beside L.rows Q.rows)) → IfOk r (λ x. RowsGiven new h x.rows)
    aggregate_given r given more x = if_ok_on r _ _ (subst (λ (z : Table Item). RowsGiven new h z.rows) (sym both) (rows_held ps (pairs_given_later mid new h then_later more ps given))) x

  -- that fail
  module _ (code : Code) (places : List ℕ) (names : List Item) (p_is : places ≡ places_of (λ c. is_code code (code_in (W c))) 0 groups) (n_is : names ≡ map (cell_of groups) places) where
    abbrev X : List (List Item)
    X = failed old h docs (once_before old new all_later once) t.cols g v agg t.rows rows code

    places_same : (n : ℕ) (xs : List Item) → places_of (λ c. is_code code (code_in (W c))) n xs ≡ places_of (λ c. is_code code (code_in (group_outcome docs agg (meanings old h (members (cells_at t.cols g t.rows) (cells_at t.cols v t.rows) c))))) n xs
    places_same n [] = refl
    places_same n (x ∷ xs) = λ i. cond (is_code code (code_in (W_is x i))) (n ∷ places_same (suc n) xs i) (places_same (suc n) xs i)

    named : names ≡ map (λ r. cell_or no_cell t.cols g r) X
    named = n_is ∙ names_are old h docs (once_before old new all_later once) t.cols g v agg t.rows rows code groups places g_is (p_is ∙ places_same 0 groups)

    X_given : RowsGiven old h X
    X_given = failed_given old h docs (once_before old new all_later once) t.cols g v agg t.rows rows code

    single_standing : (xs : List (List Item)) → RowsGiven old h xs → map (meanings new h) (single_rows (map (λ r. cell_or no_cell t.cols g r) xs)) ≡ map (λ r. cell_or (IntItem (pos 0)) t.cols g r ∷ []) (map (meanings old h) xs)
    single_standing [] k = refl
    single_standing (x ∷ xs) k =
        λ i. ((item-later old new all_later h (cell_or no_cell t.cols g x) trees (cell_held old h t.cols g x k.0) ∙ sym (cell_moves old h t.cols g x)) i ∷ []) ∷ single_standing xs k.1 i

    pub aggregate_fails_whole : {E : Type 0} (r : Result (Table Item) E) → IfOk r (λ x. x ≡ whole (g ∷ []) (single_rows names))
        → IfOk r (λ x. standing new h x ≡ record { cols = g ∷ []; rows = aggregate_fails_rows (item_rules docs old) agg code (λ q. cell_or (IntItem (pos 0)) t.cols g q) (λ q. cell_or (IntItem (pos 0)) t.cols v q) (map (meanings old h) t.rows) })
    aggregate_fails_whole r x =
        if_ok_on r _ _
        (λ i. record { cols = g ∷ []; rows = (ap (λ z. map (meanings new h) (single_rows z)) named ∙ single_standing X X_given ∙ failed_rows old h docs (once_before old new all_later once) t.cols g v agg t.rows rows code) i })
        x

    singles_held : (xs : List (List Item)) → RowsGiven old h xs → RowsGiven new h (single_rows (map (λ r. cell_or no_cell t.cols g r) xs))
    singles_held [] k = tt
    singles_held (x ∷ xs) k = ((item_given_later old new all_later h (cell_or no_cell t.cols g x) (cell_held old h t.cols g x k.0), tt), singles_held xs k.1)

    pub aggregate_fails_given : {E : Type 0} (r : Result (Table Item) E) → IfOk r (λ x. x ≡ whole (g ∷ []) (single_rows names)) → IfOk r (λ x. RowsGiven new h x.rows)
    aggregate_fails_given r x = if_ok_on r _ _ (subst (λ z. RowsGiven new h (single_rows z)) (sym named) (singles_held X X_given)) x
