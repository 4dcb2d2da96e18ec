-- Rows of kept cells stand for the rows of items.
use Rattle.std.proofs.Common.{◌≡◌, ◌∙◌, ◌++◌, ◌∷◌, ◌+◌, ◌&&◌, ◌||◌, [], ℤ, suc, pos, Bool, true, false, cond, not, List, length, map, refl, sym, ap, Option, Some, None}
use Rattle.std.specs.List.{filter, flat_map, list_any}
use Rattle.xq_base.specs.declared.item.Item.{Item}
use Rattle.xq_base.specs.declared.item.Item.TheVariants as i
use Rattle.xq_base.specs.declared.item.Atom.{Atom as Constant}
use Rattle.xq_base.specs.declared.fun.CompOp.{CompOp}
use Rattle.xq_base.specs.Pool.{NoRepeats}
use Rattle.xq_base.specs.Texts.{Text}
use Rattle.doc_table.specs.Items.{IntItem, item_of}
use Rattle.doc_table.specs.NodeRules.{Docs}
use Rattle.doc_table.specs.Orders.{has}
use Rattle.doc_table.specs.Stores.{Holdings}
use Rattle.doc_table.specs.StoredItems.{ItemsGiven, meanings, trees_of}
use Rattle.plan_dag.specs.declared.cols.Col.{Col}
use Rattle.plan_dag.specs.declared.keys.Key.{Key}
use Rattle.plan_dag.specs.Cells.{Outcome, Rules}
use Rattle.plan_dag.specs.Orders.{firsts}
use Rattle.plan_dag.specs.Rows.{joined, left_over, all_same, first_rows, group_rows, rows_with, numbered, rownum_rows, keys_less, key_less, ties, count_rows, range_rows, compared, ints_between, num}
use Rattle.plan_dag.specs.Meaning.{cell_or, sort_keys, same_part}
use Rattle.plan_dag.specs.ItemRules.{Cell, item_rules, cell_eq, cell_less, atoms_outcome, atom_in}
use Rattle.table_ops.specs.Columns.{no_cell}
use Rattle.table_ops.specs.Held.{held_less, held_int, held_constant, held_rules, kept}
use Rattle.table_ops.specs.Keys.{item_eq}
use Rattle.table_ops.specs.Picks.{is_true_item}
use Rattle.table_ops.specs.Sorting.{tied_part}
use Rattle.table_ops.specs.Standing.{RowsGiven}
use Rattle.table_ops.proofs.CellMoves.{same_moves, tied_moves, less_moves, int_moves, true_moves, constant_moves, atom_moves, cell_moves, cell_held}
use Rattle.table_ops.proofs.Lists.{map_append}

module _ (texts : List Text) (h : Holdings) where
  abbrev M : Item → Cell
  M = item_of texts (trees_of h)

  abbrev R : List Item → List Cell
  R = meanings texts h

  abbrev G : List Item → Type 0
  G = ItemsGiven texts h

  abbrev Gs : List (List Item) → Type 0
  Gs = RowsGiven texts h

  -- rows that are given stay so
  pub given_append : (xs ys : List (List Item)) → Gs xs → Gs ys → Gs (xs ++ ys)
  given_append [] ys g k = k
  given_append (x ∷ xs) ys g k = (g.0, given_append xs ys g.1 k)

  pub items_append : (xs ys : List Item) → G xs → G ys → G (xs ++ ys)
  items_append [] ys g k = k
  items_append (x ∷ xs) ys g k = (g.0, items_append xs ys g.1 k)

  pub given_filter : (p : List Item → Bool) (rows : List (List Item)) → Gs rows → Gs (filter p rows)
  given_filter p [] g = tt
  given_filter p (r ∷ rows) g = by (p r) (given_filter p rows g.1)
    where
      by : (b : Bool) → Gs (filter p rows) → Gs (cond b (r ∷ filter p rows) (filter p rows))
      by true k = (g.0, k)
      by false k = k

  pub given_map : (f : List Item → List Item) (rows : List (List Item)) → ((r : List Item) → G r → G (f r)) → Gs rows → Gs (map f rows)
  given_map f [] e g = tt
  given_map f (r ∷ rows) e g = (e r g.0, given_map f rows e g.1)

  pub given_flat : (f : List Item → List (List Item)) (rows : List (List Item)) → ((r : List Item) → G r → Gs (f r)) → Gs rows → Gs (flat_map f rows)
  given_flat f [] e g = tt
  given_flat f (r ∷ rows) e g = given_append (f r) (flat_map f rows) (e r g.0) (given_flat f rows e g.1)

  pub given_firsts : (eq : List Item → List Item → Bool) (seen rows : List (List Item)) → Gs rows → Gs (firsts eq seen rows)
  given_firsts eq seen [] g = tt
  given_firsts eq seen (r ∷ rows) g = by (has eq r seen) (given_firsts eq seen rows g.1) (given_firsts eq (r ∷ seen) rows g.1)
    where
      by : (b : Bool) → Gs (firsts eq seen rows) → Gs (firsts eq (r ∷ seen) rows) → Gs (cond b (firsts eq seen rows) (r ∷ firsts eq (r ∷ seen) rows))
      by true k m = k
      by false k m = (g.0, m)

  -- lists of rows
  pub filters_move : (p : List Item → Bool) (q : List Cell → Bool) (rows : List (List Item)) → Gs rows → ((r : List Item) → G r → q (R r) ≡ p r) → filter q (map R rows) ≡ map R (filter p rows)
  filters_move p q [] g e = refl
  filters_move p q (r ∷ rows) g e = ap (λ b. cond b (R r ∷ filter q (map R rows)) (filter q (map R rows))) (e r g.0) ∙ by (p r) (filters_move p q rows g.1 e)
    where
      by : (b : Bool) → filter q (map R rows) ≡ map R (filter p rows) → cond b (R r ∷ filter q (map R rows)) (filter q (map R rows)) ≡ map R (cond b (r ∷ filter p rows) (filter p rows))
      by true k = ap (λ (z : List _). R r ∷ z) k
      by false k = k

  any_moves : (p : List Item → Bool) (q : List Cell → Bool) (rows : List (List Item)) → Gs rows → ((r : List Item) → G r → q (R r) ≡ p r) → list_any q (map R rows) ≡ list_any p rows
  any_moves p q [] g e = refl
  any_moves p q (r ∷ rows) g e = λ j. e r g.0 j || any_moves p q rows g.1 e j

  flats_move : (p : List Item → List (List Item)) (q : List Cell → List (List Cell)) (rows : List (List Item)) → Gs rows → ((r : List Item) → G r → q (R r) ≡ map R (p r)) → flat_map q (map R rows) ≡ map R (flat_map p rows)
  flats_move p q [] g e = refl
  flats_move p q (r ∷ rows) g e = (λ j. e r g.0 j ++ flats_move p q rows g.1 e j) ∙ sym (map_append R (p r) (flat_map p rows))

  maps_move : (p : List Item → List Item) (q : List Cell → List Cell) (rows : List (List Item)) → Gs rows → ((r : List Item) → G r → q (R r) ≡ R (p r)) → map q (map R rows) ≡ map R (map p rows)
  maps_move p q [] g e = refl
  maps_move p q (r ∷ rows) g e = λ j. e r g.0 j ∷ maps_move p q rows g.1 e j

  has_moves : (p : List Item → List Item → Bool) (q : List Cell → List Cell → Bool) (r : List Item) (seen : List (List Item)) → G r → Gs seen → ((x y : List Item) → G x → G y → q (R x) (R y) ≡ p x y) → has q (R r) (map R seen) ≡ has p r seen
  has_moves p q r [] g k e = refl
  has_moves p q r (s ∷ seen) g k e = λ j. e r s g k.0 j || has_moves p q r seen g k.1 e j

  firsts_move : (p : List Item → List Item → Bool) (q : List Cell → List Cell → Bool) (seen rows : List (List Item)) → Gs seen → Gs rows → ((x y : List Item) → G x → G y → q (R x) (R y) ≡ p x y) → firsts q (map R seen) (map R rows) ≡ map R (firsts p seen rows)
  firsts_move p q seen [] k g e = refl
  firsts_move p q seen (r ∷ rows) k g e =
      ap (λ b. cond b (firsts q (map R seen) (map R rows)) (R r ∷ firsts q (R r ∷ map R seen) (map R rows))) (has_moves p q r seen g.0 k e)
      ∙ by (has p r seen) (firsts_move p q seen rows k g.1 e) (firsts_move p q (r ∷ seen) rows (g.0, k) g.1 e)
    where
      by : (b : Bool) → firsts q (map R seen) (map R rows) ≡ map R (firsts p seen rows) → firsts q (R r ∷ map R seen) (map R rows) ≡ map R (firsts p (r ∷ seen) rows)
          → cond b (firsts q (map R seen) (map R rows)) (R r ∷ firsts q (R r ∷ map R seen) (map R rows)) ≡ map R (cond b (firsts p seen rows) (r ∷ firsts p (r ∷ seen) rows))
      by true a b = a
      by false a b = ap (λ (z : List _). R r ∷ z) b

  counts_move : (p : List Item → Bool) (q : List Cell → Bool) (rows : List (List Item)) → Gs rows → ((r : List Item) → G r → q (R r) ≡ p r) → length (filter q (map R rows)) ≡ length (filter p rows)
  counts_move p q rows g e = ap (λ (z : List _). length z) (filters_move p q rows g e) ∙ long (filter p rows)
    where
      long : (xs : List (List Item)) → length (map R xs) ≡ length xs
      long [] = refl
      long (x ∷ xs) = ap (λ n. suc n) (long xs)

  -- cells of columns
  cells_move : (cols ds : List Col) (r : List Item) → map (λ d. cell_or (IntItem (pos 0)) cols d (R r)) ds ≡ R (map (λ d. cell_or no_cell cols d r) ds)
  cells_move cols [] r = refl
  cells_move cols (d ∷ ds) r = λ j. cell_moves texts h cols d r j ∷ cells_move cols ds r j

  pub cells_held : (cols ds : List Col) (r : List Item) → G r → G (map (λ d. cell_or no_cell cols d r) ds)
  cells_held cols [] r g = tt
  cells_held cols (d ∷ ds) r g = (cell_held texts h cols d r g, cells_held cols ds r g)

  module _ (docs : Docs) (names : List Text) where
    abbrev S : Rules Cell
    S = item_rules docs names

    abbrev C : List Col → Col → List Cell → Cell
    C cols c r = cell_or (IntItem (pos 0)) cols c r

    abbrev K : List Col → Col → List Item → Item
    K cols c r = cell_or no_cell cols c r

    -- those that compare no cells
    pub project_moves : (cols ds : List Col) (rows : List (List Item)) → Gs rows → map (λ r. map (λ d. C cols d r) ds) (map R rows) ≡ map R (map (λ r. map (λ d. K cols d r) ds) rows)
    project_moves cols ds rows g = maps_move (λ r. map (λ d. K cols d r) ds) (λ r. map (λ d. C cols d r) ds) rows g (λ r k. cells_move cols ds r)

    pub attach_moves : (v : Constant) (rows : List (List Item)) → Gs rows → map (λ q. q ++ (item_rules docs texts).constant v ∷ []) (map R rows) ≡ map R (map (λ q. q ++ held_constant v ∷ []) rows)
    attach_moves v rows g = maps_move (λ q. q ++ held_constant v ∷ []) (λ q. q ++ (item_rules docs texts).constant v ∷ []) rows g (λ r k. ap (λ w. R r ++ w ∷ []) (sym (constant_moves texts h v)) ∙ sym (map_append M r (held_constant v ∷ [])))

    pub select_moves : (cols : List Col) (c : Col) (rows : List (List Item)) → Gs rows → filter (λ q. S.is_true (C cols c q)) (map R rows) ≡ map R (filter (λ q. is_true_item (K cols c q)) rows)
    select_moves cols c rows g = filters_move (λ q. is_true_item (K cols c q)) (λ q. S.is_true (C cols c q)) rows g (λ r k. ap S.is_true (cell_moves texts h cols c r) ∙ true_moves texts h (K cols c r))

    pub union_moves : (lc rc : List Col) (ls rs : List (List Item)) → Gs ls → Gs rs → map R ls ++ map (λ r. map (λ d. C rc d r) lc) (map R rs) ≡ map R (ls ++ map (λ r. map (λ d. K rc d r) lc) rs)
    union_moves lc rc ls rs g k = ap (λ z. map R ls ++ z) (project_moves rc lc rs k) ∙ sym (map_append R ls (map (λ r. map (λ d. K rc d r) lc) rs))

    pub range_moves : (cols : List Col) (a b : Col) (rows : List (List Item)) → Gs rows → range_rows S (C cols a) (C cols b) (map R rows) ≡ map R (range_rows kept (K cols a) (K cols b) rows)
    range_moves cols a b rows g =
        flats_move (λ r. map (λ z. r ++ i.Int z ∷ []) (ints_between (held_int (K cols a r)) (held_int (K cols b r)))) (λ r. map (λ z. r ++ IntItem z ∷ []) (ints_between (S.int_in (C cols a r)) (S.int_in (C cols b r)))) rows g
        (λ r k. (λ j. map (λ z. R r ++ IntItem z ∷ []) (ints_between (both a r j) (both b r j))) ∙ ints r (ints_between (held_int (K cols a r)) (held_int (K cols b r))))
      where
        both : (c : Col) (r : List Item) → S.int_in (C cols c (R r)) ≡ held_int (K cols c r)
        both c r = ap S.int_in (cell_moves texts h cols c r) ∙ int_moves texts h (K cols c r)

        ints : (r : List Item) (zs : List ℤ) → map (λ z. R r ++ IntItem z ∷ []) zs ≡ map R (map (λ z. r ++ i.Int z ∷ []) zs)
        ints r [] = refl
        ints r (z ∷ zs) = λ j. sym (map_append M r (i.Int z ∷ [])) j ∷ ints r zs j

    -- those that compare
    module _ (once : NoRepeats texts) where
      pub same_cells : (cols ds : List Col) (a b : Col) (x y : List Item) → G x → G y → cell_eq (C cols a (R x)) (C ds b (R y)) ≡ item_eq (K cols a x) (K ds b y)
      same_cells cols ds a b x y g k =
          (λ j. cell_eq (cell_moves texts h cols a x j) (cell_moves texts h ds b y j)) ∙ same_moves texts h once (K cols a x) (K ds b y) (cell_held texts h cols a x g) (cell_held texts h ds b y k)

      pub join_moves : (lc rc : List Col) (a b : Col) (ls rs : List (List Item)) → Gs ls → Gs rs → joined S (C lc a) (C rc b) (map R ls) (map R rs) ≡ map R (joined kept (K lc a) (K rc b) ls rs)
      join_moves lc rc a b ls rs g k =
          flats_move (λ l. map (λ r. l ++ r) (filter (λ r. item_eq (K lc a l) (K rc b r)) rs)) (λ l. map (λ r. l ++ r) (filter (λ r. cell_eq (C lc a l) (C rc b r)) (map R rs))) ls g
          (λ l m. ap (map (λ r. R l ++ r)) (filters_move (λ r. item_eq (K lc a l) (K rc b r)) (λ r. cell_eq (C lc a (R l)) (C rc b r)) rs k (λ r n. same_cells lc rc a b l r m n)) ∙ pairs l (filter (λ r. item_eq (K lc a l) (K rc b r)) rs))
        where
          pairs : (l : List Item) (xs : List (List Item)) → map (λ r. R l ++ r) (map R xs) ≡ map R (map (λ r. l ++ r) xs)
          pairs l [] = refl
          pairs l (x ∷ xs) = λ j. sym (map_append M l x) j ∷ pairs l xs j

      pub difference_moves : (lc rc : List Col) (a b : Col) (ls rs : List (List Item)) → Gs ls → Gs rs → left_over S (C lc a) (C rc b) (map R ls) (map R rs) ≡ map R (left_over kept (K lc a) (K rc b) ls rs)
      difference_moves lc rc a b ls rs g k =
          filters_move (λ l. not (list_any (λ r. item_eq (K lc a l) (K rc b r)) rs)) (λ l. not (list_any (λ r. cell_eq (C lc a l) (C rc b r)) (map R rs))) ls g
          (λ l m. ap not (any_moves (λ r. item_eq (K lc a l) (K rc b r)) (λ r. cell_eq (C lc a (R l)) (C rc b r)) rs k (λ r n. same_cells lc rc a b l r m n)))

      all_moves : (cols ds : List Col) (x y : List Item) → G x → G y → all_same S (map (λ d. C cols d (R x)) ds) (map (λ d. C cols d (R y)) ds) ≡ all_same kept (map (λ d. K cols d x) ds) (map (λ d. K cols d y) ds)
      all_moves cols [] x y g k = refl
      all_moves cols (d ∷ ds) x y g k = λ j. same_cells cols cols d d x y g k j && all_moves cols ds x y g k j

      pub distinct_moves : (cols ds : List Col) (rows : List (List Item)) → Gs rows → first_rows S (λ r. map (λ d. C cols d r) ds) (map R rows) ≡ map R (first_rows kept (λ r. map (λ d. K cols d r) ds) rows)
      distinct_moves cols ds rows g =
          firsts_move (λ q r. all_same kept (map (λ d. K cols d q) ds) (map (λ d. K cols d r) ds)) (λ q r. all_same S (map (λ d. C cols d q) ds) (map (λ d. C cols d r) ds)) [] rows tt g (λ x y a b. all_moves cols ds x y a b)

      pub groups_move : (cols : List Col) (c : Col) (rows : List (List Item)) → Gs rows → group_rows S (C cols c) (map R rows) ≡ map R (group_rows kept (K cols c) rows)
      groups_move cols c rows g = firsts_move (λ q r. item_eq (K cols c q) (K cols c r)) (λ q r. cell_eq (C cols c q) (C cols c r)) [] rows tt g (λ x y a b. same_cells cols cols c c x y a b)

      pub groups_given : (cols : List Col) (c : Col) (rows : List (List Item)) → Gs rows → Gs (group_rows kept (K cols c) rows)
      groups_given cols c rows g = given_firsts (λ q r. item_eq (K cols c q) (K cols c r)) [] rows g

      pub count_moves : (cols : List Col) (c : Col) (rows : List (List Item)) → Gs rows → count_rows S (C cols c) (map R rows) ≡ map R (count_rows kept (K cols c) rows)
      count_moves cols c rows g =
          ap (map (λ r. C cols c r ∷ num S (length (rows_with S (C cols c) (C cols c r) (map R rows))) ∷ [])) (groups_move cols c rows g)
          ∙ maps_move (λ r. K cols c r ∷ num kept (length (rows_with kept (K cols c) (K cols c r) rows)) ∷ []) (λ r. C cols c r ∷ num S (length (rows_with S (C cols c) (C cols c r) (map R rows))) ∷ []) (group_rows kept (K cols c) rows) (groups_given cols c rows g)
          (λ r k. λ j. cell_moves texts h cols c r j ∷ num S (counts_move (λ q. item_eq (K cols c r) (K cols c q)) (λ q. cell_eq (C cols c (R r)) (C cols c q)) rows g (λ q n. same_cells cols cols c c r q k n) j) ∷ [])

      module _ (passes : Outcome Bool → Bool) (op : CompOp) (lc rc : List Col) (a v b w : Col) (ls rs : List (List Item)) where
        abbrev pass : List Item → List Item → Bool
        pass l r = item_eq (K lc a l) (K rc b r) && passes ((held_rules texts).pair op (K lc v l) (K rc w r))

        abbrev left_rows : List (List Item)
        left_rows = filter (λ l. list_any (λ r. pass l r) rs) ls

        pairs : (l r : List Item) → S.pair op (C lc v (R l)) (C rc w (R r)) ≡ (held_rules texts).pair op (K lc v l) (K rc w r)
        pairs l r = λ j. atoms_outcome op ((ap atom_in (cell_moves texts h lc v l) ∙ atom_moves texts h (K lc v l)) j) ((ap atom_in (cell_moves texts h rc w r) ∙ atom_moves texts h (K rc w r)) j)

        kept_rows : Gs ls → Gs rs → filter (λ l. list_any (λ r. cell_eq (C lc a l) (C rc b r) && passes (S.pair op (C lc v l) (C rc w r))) (map R rs)) (map R ls) ≡ map R left_rows
        kept_rows g k =
            filters_move (λ l. list_any (λ r. pass l r) rs) (λ l. list_any (λ r. cell_eq (C lc a l) (C rc b r) && passes (S.pair op (C lc v l) (C rc w r))) (map R rs)) ls g
            (λ l m. any_moves (λ r. pass l r) (λ r. cell_eq (C lc a (R l)) (C rc b r) && passes (S.pair op (C lc v (R l)) (C rc w r))) rs k
            (λ r n. λ j. same_cells lc rc a b l r m n j && passes (pairs l r j)))

        pub compared_moves : Gs ls → Gs rs → compared S passes op (C lc a) (C lc v) (C rc b) (C rc w) (map R ls) (map R rs) ≡ map R (compared (held_rules texts) passes op (K lc a) (K lc v) (K rc b) (K rc w) ls rs)
        compared_moves g k =
            ap (λ z. map (λ l. C lc a l ∷ []) (group_rows S (C lc a) z)) (kept_rows g k)
            ∙ ap (map (λ l. C lc a l ∷ [])) (groups_move lc a left_rows (given_filter _ ls g))
            ∙ maps_move (λ l. K lc a l ∷ []) (λ l. C lc a l ∷ []) (group_rows kept (K lc a) left_rows) (groups_given lc a left_rows (given_filter _ ls g)) (λ r m. λ j. cell_moves texts h lc a r j ∷ [])

    -- numbers
    keys_move : (cols : List Col) (ks : List Key) (x y : List Item) → G x → G y → keys_less S (sort_keys S cols ks) (R x) (R y) ≡ keys_less (held_rules texts) (sort_keys (held_rules texts) cols ks) x y
    keys_move cols [] x y g k = refl
    keys_move cols (key ∷ ks) x y g k =
        λ j. by key.descending x y g k j || (not (by key.descending y x k g j) && keys_move cols ks x y g k j)
      where
        less : (x y : List Item) → G x → G y → cell_less (C cols key.col (R x)) (C cols key.col (R y)) ≡ held_less texts (K cols key.col x) (K cols key.col y)
        less x y g k = (λ j. cell_less (cell_moves texts h cols key.col x j) (cell_moves texts h cols key.col y j)) ∙ less_moves texts h (K cols key.col x) (K cols key.col y) (cell_held texts h cols key.col x g) (cell_held texts h cols key.col y k)

        by : (d : Bool) (x y : List Item) → G x → G y → key_less S d (C cols key.col (R x)) (C cols key.col (R y)) ≡ key_less (held_rules texts) d (K cols key.col x) (K cols key.col y)
        by true x y g k = less y x k g
        by false x y g k = less x y g k

    part_moves : (cols : List Col) (part : Option Col) (x y : List Item) → G x → G y → same_part S cols part (R x) (R y) ≡ tied_part texts cols part x y
    part_moves cols None x y g k = refl
    part_moves cols (Some c) x y g k = (λ j. cell_eq (cell_moves texts h cols c x j) (cell_moves texts h cols c y j)) ∙ tied_moves texts h (K cols c x) (K cols c y) (cell_held texts h cols c x g) (cell_held texts h cols c y k)

    module _ (p : List Item → List Item → Bool) (q : List Cell → List Cell → Bool) (lt : List Item → List Item → Bool) (less : List Cell → List Cell → Bool)
        (parts : (x y : List Item) → G x → G y → q (R x) (R y) ≡ p x y) (orders : (x y : List Item) → G x → G y → less (R x) (R y) ≡ lt x y) where
      numbers_move : (all done rows : List (List Item)) → Gs all → Gs done → Gs rows → numbered S q less (map R all) (map R done) (map R rows) ≡ map R (numbered kept p lt all done rows)
      numbers_move all done [] ga gd g = refl
      numbers_move all done (r ∷ rows) ga gd g =
          λ j. ((λ m. R r ++ num S (1 + before m + tied m) ∷ []) ∙ sym (map_append M r (num kept (1 + length (filter (λ z. p z r && lt z r) all) + length (filter (λ z. p z r && ties kept lt z r) done)) ∷ []))) j
          ∷ (ap (λ z. numbered S q less (map R all) z (map R rows)) (sym (map_append R done (r ∷ []))) ∙ numbers_move all (done ++ r ∷ []) rows ga (given_append done (r ∷ []) gd (g.0, tt)) g.1) j
        where
          before : length (filter (λ z. q z (R r) && less z (R r)) (map R all)) ≡ length (filter (λ z. p z r && lt z r) all)
          before = counts_move (λ z. p z r && lt z r) (λ z. q z (R r) && less z (R r)) all ga (λ z k. λ j. parts z r k g.0 j && orders z r k g.0 j)

          tied : length (filter (λ z. q z (R r) && ties S less z (R r)) (map R done)) ≡ length (filter (λ z. p z r && ties kept lt z r) done)
          tied = counts_move (λ z. p z r && ties kept lt z r) (λ z. q z (R r) && ties S less z (R r)) done gd (λ z k. λ j. parts z r k g.0 j && (not (orders z r k g.0 j) && not (orders r z g.0 k j)))

    pub rownum_moves : (cols : List Col) (ks : List Key) (part : Option Col) (rows : List (List Item)) → Gs rows
        → rownum_rows S (same_part S cols part) (keys_less S (sort_keys S cols ks)) (map R rows) ≡ map R (rownum_rows kept (tied_part texts cols part) (keys_less (held_rules texts) (sort_keys (held_rules texts) cols ks)) rows)
    rownum_moves cols ks part rows g =
        numbers_move (tied_part texts cols part) (same_part S cols part) (keys_less (held_rules texts) (sort_keys (held_rules texts) cols ks)) (keys_less S (sort_keys S cols ks)) (part_moves cols part) (keys_move cols ks) rows [] rows g tt g
