-- Numbers of places are the numbers of a rownum's rows.
use Rattle.std.proofs.Common.{◌≡◌, ◌∙◌, ◌<◌, ◌≤◌, ◌+◌, ◌++◌, ◌∷◌, [], ℕ, zero, suc, Ok, Err, Bool, true, false, cond, ◌&&◌, ◌||◌, not, List, length, map, refl, sym, ap, subst, arith, true≢false, Option, Some, None, Result, IfOk}
use Rattle.std.specs.Prelude.{slice_index_or, nat_eq, nat_lt, int_lt}
use Rattle.std.specs.List.{filter, list_all}
use Rattle.std.specs.List.Sorted.{IsPermutation, IsSorted}
use Rattle.std.specs.declared.cmp.Ordering.{Ordering}
use Rattle.std.specs.declared.cmp.Ordering.TheVariants.{Less, Equal, Greater}
use Rattle.std.specs.Ordering.{nat_cmp, bool_cmp, ordering_then, ordering_reverse, is_lt, is_eq}
use Rattle.std.specs.Cmp.Lexicographic.{slice_cmp}
use Rattle.std.proofs.lemmas.Bool.{lt-ltb, le-ltb}
use Rattle.xq_base.specs.declared.item.Item.{Item}
use Rattle.xq_base.specs.declared.item.Item.TheVariants as i
use Rattle.xq_base.specs.Texts.{Text, text_less}
use Rattle.doc_table.specs.Tree.{text_in}
use Rattle.doc_table.proofs.DerivedOrder.{derived_order}
use Rattle.xq_funs.specs.Answering.{text_given}
use Rattle.plan_dag.specs.declared.cols.Col.{Col}
use Rattle.plan_dag.specs.declared.keys.Key.{Key}
use Rattle.plan_dag.specs.Padded.{col_eq}
use Rattle.plan_dag.specs.Meaning.{Table, cell_or, sort_keys}
use Rattle.plan_dag.specs.Rows.{numbered, rownum_rows, keys_less, key_less, ties, num}
use Rattle.table_ops.specs.Chains.{AllBelow}
use Rattle.table_ops.specs.Columns.{numbers_from, cell_of, no_cell, cells_at, rows_beside, single_rows}
use Rattle.table_ops.specs.Held.{held_less, held_rules, kept}
use Rattle.table_ops.specs.Sorting.{held_cmp, cells_cmp, places_cmp, order_cmp, number_at, cell_numbers, key_columns, columns_given, part_keys, tied_part, run_from, AtMostOnce}
use Rattle.table_ops.proofs.CellOrders.{held_total, places_total}
use Rattle.table_ops.proofs.OrderCounts.{count_alike, numbers_long, numbers_are, scattered, moved_once, moved_within, moved_long}
use Rattle.table_ops.proofs.Combining.{whole, if_ok_is}
use Rattle.table_ops.proofs.Rowing.{by_places, drop_all}
use Rattle.table_ops.proofs.Lists.{maps, app, map_long, longer, at_end, long_append}

-- the order of kept cells, as a test
ints_less : (b c : Bool) → b ≡ is_lt (cond b Less (cond c Greater Equal))
ints_less true c = refl
ints_less false true = refl
ints_less false false = refl

numbers_less : (b c : Bool) → is_lt (cond b Less (cond c Equal Greater)) ≡ b
numbers_less true c = refl
numbers_less false true = refl
numbers_less false false = refl

bools_less : (b d : Bool) → (not b && d) ≡ is_lt (bool_cmp b d)
bools_less true true = refl
bools_less true false = refl
bools_less false true = refl
bools_less false false = refl

letter_less : (b c : Bool) (o : Ordering) → (b || (c && is_lt o)) ≡ is_lt (ordering_then (cond b Less (cond c Equal Greater)) o)
letter_less true c o = refl
letter_less false true o = refl
letter_less false false o = refl

letters_less : (t u : Text) → text_less t u ≡ is_lt (slice_cmp nat_cmp t u)
letters_less [] [] = refl
letters_less [] (d ∷ ds) = refl
letters_less (c ∷ cs) [] = refl
letters_less (c ∷ cs) (d ∷ ds) = ap (λ z. nat_lt c d || (nat_eq c d && z)) (letters_less cs ds) ∙ letter_less (nat_lt c d) (nat_eq c d) (slice_cmp nat_cmp cs ds)

module _ (texts : List Text) where
  pub less_is : (v w : Item) → held_less texts v w ≡ is_lt (held_cmp texts v w)
  less_is (i.Bool b) (i.Bool d) = bools_less b d
  less_is (i.Int y) (i.Int z) = ints_less (int_lt y z) (int_lt z y)
  less_is (i.Str s) (i.Str t) = letters_less (text_in texts s) (text_in texts t)
  less_is (i.Untyped s) (i.Untyped t) = letters_less (text_in texts s) (text_in texts t)
  less_is (i.Node m) (i.Node n) = sym (derived_order.less m n)
  less_is (i.Bool b) (i.Int z) = refl
  less_is (i.Bool b) (i.Str t) = refl
  less_is (i.Bool b) (i.Untyped t) = refl
  less_is (i.Bool b) (i.Node n) = refl
  less_is (i.Int y) (i.Bool d) = refl
  less_is (i.Int y) (i.Str t) = refl
  less_is (i.Int y) (i.Untyped t) = refl
  less_is (i.Int y) (i.Node n) = refl
  less_is (i.Str s) (i.Bool d) = refl
  less_is (i.Str s) (i.Int z) = refl
  less_is (i.Str s) (i.Untyped t) = refl
  less_is (i.Str s) (i.Node n) = refl
  less_is (i.Untyped s) (i.Bool d) = refl
  less_is (i.Untyped s) (i.Int z) = refl
  less_is (i.Untyped s) (i.Str t) = refl
  less_is (i.Untyped s) (i.Node n) = refl
  less_is (i.Node m) (i.Bool d) = refl
  less_is (i.Node m) (i.Int z) = refl
  less_is (i.Node m) (i.Str t) = refl
  less_is (i.Node m) (i.Untyped t) = refl

  key_is : (descending : Bool) (v w : Item) → key_less (held_rules texts) descending v w ≡ is_lt (cells_cmp texts descending v w)
  key_is true v w = less_is w v
  key_is false v w = less_is v w

  cells_back : (descending : Bool) (v w : Item) → cells_cmp texts descending w v ≡ ordering_reverse (cells_cmp texts descending v w)
  cells_back true v w = (held_total texts).antisymm v w
  cells_back false v w = (held_total texts).antisymm w v

  module _ (cols : List Col) where
    abbrev rows_cmp : List Key → List Item → List Item → Ordering
    rows_cmp [] q r = Equal
    rows_cmp (k ∷ ks) q r = ordering_then (cells_cmp texts k.descending (cell_or no_cell cols k.col q) (cell_or no_cell cols k.col r)) (rows_cmp ks q r)

    either : (o p : Ordering) → (is_lt o || (not (is_lt (ordering_reverse o)) && is_lt p)) ≡ is_lt (ordering_then o p)
    either Less p = refl
    either Equal p = refl
    either Greater p = refl

    pub keys_are : (ks : List Key) (q r : List Item) → keys_less (held_rules texts) (sort_keys (held_rules texts) cols ks) q r ≡ is_lt (rows_cmp ks q r)
    keys_are [] q r = refl
    keys_are (k ∷ ks) q r =
        let v : Item = cell_or no_cell cols k.col q in
        let w : Item = cell_or no_cell cols k.col r in
        (λ j. key_is k.descending v w j || (not ((key_is k.descending w v ∙ ap is_lt (cells_back k.descending v w)) j) && keys_are ks q r j))
        ∙ either (cells_cmp texts k.descending v w) (rows_cmp ks q r)

    back_then : (o p o' p' : Ordering) → o' ≡ ordering_reverse o → p' ≡ ordering_reverse p → ordering_then o' p' ≡ ordering_reverse (ordering_then o p)
    back_then Less p o' p' e f = ap (λ z. ordering_then z p') e
    back_then Equal p o' p' e f = ap (λ z. ordering_then z p') e ∙ f
    back_then Greater p o' p' e f = ap (λ z. ordering_then z p') e

    rows_back : (ks : List Key) (q r : List Item) → rows_cmp ks r q ≡ ordering_reverse (rows_cmp ks q r)
    rows_back [] q r = refl
    rows_back (k ∷ ks) q r =
        back_then (cells_cmp texts k.descending (cell_or no_cell cols k.col q) (cell_or no_cell cols k.col r)) (rows_cmp ks q r)
        (cells_cmp texts k.descending (cell_or no_cell cols k.col r) (cell_or no_cell cols k.col q)) (rows_cmp ks r q)
        (cells_back k.descending (cell_or no_cell cols k.col q) (cell_or no_cell cols k.col r)) (rows_back ks q r)

    neither : (o : Ordering) → (not (is_lt o) && not (is_lt (ordering_reverse o))) ≡ is_eq o
    neither Less = refl
    neither Equal = refl
    neither Greater = refl

    abbrev lt : List Key → List Item → List Item → Bool
    lt ks = keys_less (held_rules texts) (sort_keys (held_rules texts) cols ks)

    ties_are : (ks : List Key) (q r : List Item) → ties kept (lt ks) q r ≡ is_eq (rows_cmp ks q r)
    ties_are ks q r = (λ j. not (keys_are ks q r j) && not ((keys_are ks r q ∙ ap is_lt (rows_back ks q r)) j)) ∙ neither (rows_cmp ks q r)

    then_equal : (o : Ordering) → is_eq o ≡ is_eq (ordering_then o Equal)
    then_equal Less = refl
    then_equal Equal = refl
    then_equal Greater = refl

    part_is : (part : Option Col) (q r : List Item) → tied_part texts cols part q r ≡ is_eq (rows_cmp (part_keys part) q r)
    part_is None q r = refl
    part_is (Some c) q r = then_equal (held_cmp texts (cell_or no_cell cols c q) (cell_or no_cell cols c r))

    -- the cell of a place is that of the row there
    no_row : (ks : List Col) (c : Col) → no_cell ≡ cell_or no_cell ks c []
    no_row [] c = refl
    no_row (k ∷ ks) c = refl

    pub cell_there : (c : Col) (rows : List (List Item)) (a : ℕ) → cell_of (cells_at cols c rows) a ≡ cell_or no_cell cols c (slice_index_or rows a [])
    cell_there c [] a = no_row cols c
    cell_there c (r ∷ rows) zero = refl
    cell_there c (r ∷ rows) (suc a) = cell_there c rows a

    pub places_are : (rows : List (List Item)) (ks : List Key) (a b : ℕ) → places_cmp texts (key_columns cols ks rows) ks a b ≡ rows_cmp ks (slice_index_or rows a []) (slice_index_or rows b [])
    places_are rows [] a b = refl
    places_are rows (k ∷ ks) a b = λ j. ordering_then (cells_cmp texts k.descending (cell_there k.col rows a j) (cell_there k.col rows b j)) (places_are rows ks a b j)

-- counts
at_front : {X : Type 0} (done ps : List X) (k : ℕ) (d : X) → k < length done → slice_index_or (done ++ ps) k d ≡ slice_index_or done k d
at_front [] ps k d h = absurd (omega (arith, h))
at_front (x ∷ done) ps zero d h = refl
at_front (x ∷ done) ps (suc k) d h = at_front done ps k d (omega (arith, h))

count_map : {X Y : Type 0} (p : Y → Bool) (f : X → Y) (xs : List X) → length (filter p (map f xs)) ≡ length (filter (λ x. p (f x)) xs)
count_map p f [] = refl
count_map p f (x ∷ xs) = by (p (f x)) (count_map p f xs)
  where
    by : (b : Bool) → length (filter p (map f xs)) ≡ length (filter (λ x. p (f x)) xs) → length (cond b (f x ∷ filter p (map f xs)) (filter p (map f xs))) ≡ length (cond b (x ∷ filter (λ x. p (f x)) xs) (filter (λ x. p (f x)) xs))
    by true e = ap suc e
    by false e = e

-- rows that pass, by their places
by_place : (p : List Item → Bool) (rows : List (List Item)) → length (filter p rows) ≡ length (filter (λ b. p (slice_index_or rows b [])) (numbers_from 0 (length rows)))
by_place p rows =
    sym (count_map (λ b. b) p rows)
    ∙ ap (λ (z : List Bool). length (filter (λ b. b) z)) (sym (by_places [] p [] rows))
    ∙ count_map (λ b. b) (λ k. p (slice_index_or rows k [])) (numbers_from 0 (length rows))

-- the same of the rows in front
front_places : (p : List Item → Bool) (done rs : List (List Item)) → length (filter p done) ≡ length (filter (λ b. p (slice_index_or (done ++ rs) b [])) (numbers_from 0 (length done)))
front_places p done rs =
    by_place p done
    ∙ sym (count_map (λ b. b) (λ k. p (slice_index_or done k [])) (numbers_from 0 (length done)))
    ∙ ap (λ (z : List Bool). length (filter (λ b. b) z)) (drop_all (λ k. p (slice_index_or done k [])) (λ k. p (slice_index_or (done ++ rs) k [])) 0 (length done) (λ k a b. ap p (sym (at_front done rs k [] (omega (arith, b))))))
    ∙ count_map (λ b. b) (λ k. p (slice_index_or (done ++ rs) k [])) (numbers_from 0 (length done))

or_step : (b c : Bool) (x : ℕ) (fs gs hs : List ℕ) → (b && c) ≡ false → length hs ≡ length fs + length gs → length (cond (b || c) (x ∷ hs) hs) ≡ length (cond b (x ∷ fs) fs) + length (cond c (x ∷ gs) gs)
or_step true true x fs gs hs e r = absurd (true≢false e)
or_step true false x fs gs hs e r = omega (arith, r)
or_step false true x fs gs hs e r = omega (arith, r)
or_step false false x fs gs hs e r = r

count_or : (p q : ℕ → Bool) (xs : List ℕ) → ((x : ℕ) → (p x && q x) ≡ false) → length (filter (λ x. p x || q x) xs) ≡ length (filter p xs) + length (filter q xs)
count_or p q [] e = refl
count_or p q (x ∷ xs) e = or_step (p x) (q x) x (filter p xs) (filter q xs) (filter (λ y. p y || q y) xs) (e x) (count_or p q xs e)

count_append : (p : ℕ → Bool) (xs ys : List ℕ) → length (filter p (xs ++ ys)) ≡ length (filter p xs) + length (filter p ys)
count_append p [] ys = omega arith
count_append p (x ∷ xs) ys = by (p x) (count_append p xs ys)
  where
    by : (b : Bool) → length (filter p (xs ++ ys)) ≡ length (filter p xs) + length (filter p ys) → length (cond b (x ∷ filter p (xs ++ ys)) (filter p (xs ++ ys))) ≡ length (cond b (x ∷ filter p xs) (filter p xs)) + length (filter p ys)
    by true e = omega (arith, e)
    by false e = e

numbers_split : (k a m : ℕ) → numbers_from k (a + m) ≡ numbers_from k a ++ numbers_from (k + a) m
numbers_split k zero m =
    let e : 0 + m ≡ m = omega arith in
    let f : k + 0 ≡ k = omega arith in
    ap (numbers_from k) e ∙ ap (λ z. numbers_from z m) (sym f)
numbers_split k (suc a) m =
    let e : suc a + m ≡ suc (a + m) = omega arith in
    let f : suc k + a ≡ k + suc a = omega arith in
    ap (numbers_from k) e ∙ ap (λ (z : List ℕ). k ∷ z) (numbers_split (suc k) a m ∙ ap (λ z. numbers_from (suc k) a ++ numbers_from z m) f)

all_below : (v : ℕ → Bool) (a k j : ℕ) → k + j ≤ a → length (filter (λ b. v b && nat_lt b a) (numbers_from k j)) ≡ length (filter v (numbers_from k j))
all_below v a k zero h = refl
all_below v a k (suc j) h =
    ap (λ c. length (cond (v k && c) (k ∷ filter (λ b. v b && nat_lt b a) (numbers_from (suc k) j)) (filter (λ b. v b && nat_lt b a) (numbers_from (suc k) j)))) (lt-ltb k a (omega (arith, h)))
    ∙ by (v k) (all_below v a (suc k) j (omega (arith, h)))
  where
    by : (b : Bool) → length (filter (λ b. v b && nat_lt b a) (numbers_from (suc k) j)) ≡ length (filter v (numbers_from (suc k) j))
        → length (cond (b && true) (k ∷ filter (λ b. v b && nat_lt b a) (numbers_from (suc k) j)) (filter (λ b. v b && nat_lt b a) (numbers_from (suc k) j))) ≡ length (cond b (k ∷ filter v (numbers_from (suc k) j)) (filter v (numbers_from (suc k) j)))
    by true e = ap suc e
    by false e = e

none_above : (v : ℕ → Bool) (a k j : ℕ) → a ≤ k → length (filter (λ b. v b && nat_lt b a) (numbers_from k j)) ≡ 0
none_above v a k zero h = refl
none_above v a k (suc j) h =
    ap (λ c. length (cond (v k && c) (k ∷ filter (λ b. v b && nat_lt b a) (numbers_from (suc k) j)) (filter (λ b. v b && nat_lt b a) (numbers_from (suc k) j)))) (le-ltb k a h)
    ∙ by (v k) (none_above v a (suc k) j (omega (arith, h)))
  where
    by : (b : Bool) → length (filter (λ b. v b && nat_lt b a) (numbers_from (suc k) j)) ≡ 0 → length (cond (b && false) (k ∷ filter (λ b. v b && nat_lt b a) (numbers_from (suc k) j)) (filter (λ b. v b && nat_lt b a) (numbers_from (suc k) j))) ≡ 0
    by true e = e
    by false e = e

below_counted : (v : ℕ → Bool) (a m : ℕ) → length (filter (λ b. v b && nat_lt b a) (numbers_from 0 (a + m))) ≡ length (filter v (numbers_from 0 a))
below_counted v a m =
    let p : length (filter (λ b. v b && nat_lt b a) (numbers_from 0 (a + m))) ≡ length (filter (λ b. v b && nat_lt b a) (numbers_from 0 a)) + length (filter (λ b. v b && nat_lt b a) (numbers_from (0 + a) m)) =
    ap (λ z. length (filter (λ b. v b && nat_lt b a) z)) (numbers_split 0 a m) ∙ count_append (λ b. v b && nat_lt b a) (numbers_from 0 a) (numbers_from (0 + a) m) in
    let q : length (filter (λ b. v b && nat_lt b a) (numbers_from (0 + a) m)) ≡ 0 = none_above v a (0 + a) m (omega arith) in
    let r : length (filter (λ b. v b && nat_lt b a) (numbers_from 0 a)) ≡ length (filter v (numbers_from 0 a)) = all_below v a 0 a (omega arith) in
    omega (arith, p, q, r)

-- the two tests are one
one_test : (p k : Ordering) (b : Bool) (n : Ordering) → is_lt n ≡ b → (is_eq p && is_lt (ordering_then p (ordering_then k n))) ≡ ((is_eq p && is_lt k) || ((is_eq p && is_eq k) && b))
one_test Less k b n e = refl
one_test Equal Less b n e = refl
one_test Equal Equal b n e = e
one_test Equal Greater b n e = refl
one_test Greater k b n e = refl

not_both : (p k : Ordering) (b : Bool) → ((is_eq p && is_lt k) && ((is_eq p && is_eq k) && b)) ≡ false
not_both Less k b = refl
not_both Equal Less b = refl
not_both Equal Equal b = refl
not_both Equal Greater b = refl
not_both Greater k b = refl

module _ (texts : List Text) (cols : List Col) (part : Option Col) (ks : List Key) (all : List (List Item)) where
  abbrev row : ℕ → List Item
  row a = slice_index_or all a []

  abbrev PC : ℕ → ℕ → Ordering
  PC = places_cmp texts (key_columns cols (part_keys part) all) (part_keys part)

  abbrev KC : ℕ → ℕ → Ordering
  KC = places_cmp texts (key_columns cols ks all) ks

  abbrev P : List Item → List Item → Bool
  P = tied_part texts cols part

  abbrev L : List Item → List Item → Bool
  L = keys_less (held_rules texts) (sort_keys (held_rules texts) cols ks)

  same_place : (a b : ℕ) → is_eq (PC b a) ≡ P (row b) (row a)
  same_place a b = ap is_eq (places_are texts cols all (part_keys part) b a) ∙ sym (part_is texts cols part (row b) (row a))

  less_place : (a b : ℕ) → is_lt (KC b a) ≡ L (row b) (row a)
  less_place a b = ap is_lt (places_are texts cols all ks b a) ∙ sym (keys_are texts cols ks (row b) (row a))

  tie_place : (a b : ℕ) → is_eq (KC b a) ≡ ties kept L (row b) (row a)
  tie_place a b = ap is_eq (places_are texts cols all ks b a) ∙ sym (ties_are texts cols ks (row b) (row a))

  number_is : (done : List (List Item)) (r : List Item) (rs : List (List Item)) → all ≡ done ++ r ∷ rs
      → 1 + length (filter (λ q. P q r && L q r) all) + length (filter (λ q. P q r && ties kept L q r) done) ≡ number_at PC KC (numbers_from 0 (length all)) (length done)
  number_is done r rs e =
      let a : ℕ = length done in
      let n : ℕ = length all in
      let here : row a ≡ r = ap (λ z. slice_index_or z a []) e ∙ at_end done r rs [] in
      let long : n ≡ a + suc (length rs) = ap (λ (z : List (List Item)). length z) e ∙ long_append done (r ∷ rs) in
      let X : length (filter (λ q. P q r && L q r) all) ≡ length (filter (λ b. is_eq (PC b a) && is_lt (KC b a)) (numbers_from 0 n)) =
      by_place (λ q. P q r && L q r) all ∙ count_alike (λ b. P (row b) r && L (row b) r) (λ b. is_eq (PC b a) && is_lt (KC b a)) (numbers_from 0 n)
      (λ b. λ j. (ap (P (row b)) (sym here) ∙ sym (same_place a b)) j && (ap (L (row b)) (sym here) ∙ sym (less_place a b)) j) in
      let Y : length (filter (λ q. P q r && ties kept L q r) done) ≡ length (filter (λ b. is_eq (PC b a) && is_eq (KC b a)) (numbers_from 0 a)) =
      front_places (λ q. P q r && ties kept L q r) done (r ∷ rs)
      ∙ ap (λ (z : List (List Item)). length (filter (λ b. P (slice_index_or z b []) r && ties kept L (slice_index_or z b []) r) (numbers_from 0 a))) (sym e)
      ∙ count_alike (λ b. P (row b) r && ties kept L (row b) r) (λ b. is_eq (PC b a) && is_eq (KC b a)) (numbers_from 0 a)
      (λ b. λ j. (ap (P (row b)) (sym here) ∙ sym (same_place a b)) j && (ap (ties kept L (row b)) (sym here) ∙ sym (tie_place a b)) j) in
      let Z : length (filter (λ b. is_eq (PC b a) && is_lt (order_cmp PC KC b a)) (numbers_from 0 n))
      ≡ length (filter (λ b. is_eq (PC b a) && is_lt (KC b a)) (numbers_from 0 n)) + length (filter (λ b. (is_eq (PC b a) && is_eq (KC b a)) && nat_lt b a) (numbers_from 0 n)) =
      count_alike (λ b. is_eq (PC b a) && is_lt (order_cmp PC KC b a)) (λ b. (is_eq (PC b a) && is_lt (KC b a)) || ((is_eq (PC b a) && is_eq (KC b a)) && nat_lt b a)) (numbers_from 0 n)
      (λ b. one_test (PC b a) (KC b a) (nat_lt b a) (nat_cmp b a) (numbers_less (nat_lt b a) (nat_eq b a)))
      ∙ count_or (λ b. is_eq (PC b a) && is_lt (KC b a)) (λ b. (is_eq (PC b a) && is_eq (KC b a)) && nat_lt b a) (numbers_from 0 n) (λ b. not_both (PC b a) (KC b a) (nat_lt b a)) in
      let W : length (filter (λ b. (is_eq (PC b a) && is_eq (KC b a)) && nat_lt b a) (numbers_from 0 n)) ≡ length (filter (λ b. is_eq (PC b a) && is_eq (KC b a)) (numbers_from 0 a)) =
      ap (λ m. length (filter (λ b. (is_eq (PC b a) && is_eq (KC b a)) && nat_lt b a) (numbers_from 0 m))) long ∙ below_counted (λ b. is_eq (PC b a) && is_eq (KC b a)) a (suc (length rs)) in
      omega (arith, X, Y, Z, W)

  abbrev N : ℕ → Item
  N a = num kept (number_at PC KC (numbers_from 0 (length all)) a)

  numbered_is : (done rs : List (List Item)) → all ≡ done ++ rs → rows_beside rs (single_rows (map N (numbers_from (length done) (length rs)))) ≡ numbered kept P L all done rs
  numbered_is done [] e = refl
  numbered_is done (r ∷ rs) e =
      λ j. (r ++ num kept (sym (number_is done r rs e) j) ∷ [])
      ∷ (ap (λ k. rows_beside rs (single_rows (map N (numbers_from k (length rs))))) (sym (longer done r)) ∙ numbered_is (done ++ r ∷ []) rs (e ∙ sym (app done r rs))) j

  pub rownum_is : rows_beside all (single_rows (cell_numbers texts cols (part_keys part) ks all)) ≡ rownum_rows kept P L all
  rownum_is = numbered_is [] all refl

module _ (texts : List Text) (t : Table Item) (c : Col) (part : Option Col) (pk ks : List Key) (cells : List Item) (Q : Table Item) (p : pk ≡ part_keys part) (m : cells ≡ cell_numbers texts t.cols pk ks t.rows) (eQ : Q ≡ whole (c ∷ []) (single_rows cells)) where
  pub rownum_few : length t.cols < 8 → length t.cols + length Q.cols < 9
  rownum_few h = let right : length Q.cols ≡ 1 = ap (λ (z : Table Item). length z.cols) eQ in omega (arith, right, h)

  pub rownum_high : length t.rows ≡ length Q.rows
  rownum_high =
      sym (ap (λ (z : Table Item). length z.rows) eQ ∙ map_long (λ v. v ∷ []) cells ∙ ap (λ (z : List Item). length z) m
      ∙ map_long (λ a. num kept (number_at (places_cmp texts (key_columns t.cols pk t.rows) pk) (places_cmp texts (key_columns t.cols ks t.rows) ks) (numbers_from 0 (length t.rows)) a)) (numbers_from 0 (length t.rows))
      ∙ numbers_long 0 (length t.rows))

  pub rownum_whole : {E : Type 0} (r : Result (Table Item) E) → IfOk r (λ x. x ≡ whole (t.cols ++ Q.cols) (rows_beside t.rows Q.rows)) → IfOk r (λ x. x ≡ whole (t.cols ++ c ∷ []) (rownum_rows kept (tied_part texts t.cols part) (keys_less (held_rules texts) (sort_keys (held_rules texts) t.cols ks)) t.rows))
  rownum_whole r h =
      if_ok_is r _ _
      ((λ j. whole (t.cols ++ (eQ j).cols) (rows_beside t.rows (eQ j).rows))
      ∙ (λ j. whole (t.cols ++ c ∷ []) (rows_beside t.rows (single_rows ((m ∙ ap (λ z. cell_numbers texts t.cols z ks t.rows) p) j))))
      ∙ ap (whole (t.cols ++ c ∷ [])) (rownum_is texts t.cols part ks t.rows))
      h

-- the columns of keys have texts that the pool gave
pub and_both : (b c : Bool) → (b && c) ≡ true → (b ≡ true) × (c ≡ true)
and_both true true e = (refl, refl)
and_both true false e = (refl, e)
and_both false c e = absurd (true≢false (sym e))

cell_or_given : (n : ℕ) (names : List Col) (c : Col) (r : List Item) → list_all (text_given n) r ≡ true → text_given n (cell_or no_cell names c r) ≡ true
cell_or_given n [] c r h = refl
cell_or_given n (m ∷ names) c [] h = refl
cell_or_given n (m ∷ names) c (v ∷ r) h = let q = and_both (text_given n v) (list_all (text_given n) r) h in by (col_eq m c) q.0 (cell_or_given n names c r q.1)
  where
    by : (b : Bool) → text_given n v ≡ true → text_given n (cell_or no_cell names c r) ≡ true → text_given n (cond b v (cell_or no_cell names c r)) ≡ true
    by true e f = e
    by false e f = f

pub column_given : (n : ℕ) (cols : List Col) (c : Col) (rows : List (List Item)) → columns_given n rows ≡ true → list_all (text_given n) (cells_at cols c rows) ≡ true
column_given n cols c [] h = refl
column_given n cols c (r ∷ rows) h = let q = and_both (list_all (text_given n) r) (columns_given n rows) h in λ j. cell_or_given n cols c r q.0 j && column_given n cols c rows q.1 j

pub key_cells_given : (n : ℕ) (cols : List Col) (ks : List Key) (rows : List (List Item)) → columns_given n rows ≡ true → columns_given n (key_columns cols ks rows) ≡ true
key_cells_given n cols [] rows h = refl
key_cells_given n cols (k ∷ ks) rows h = λ j. column_given n cols k.col rows h j && key_cells_given n cols ks rows h j

run_long : (same : ℕ → ℕ → Bool) (p n : ℕ) (xs : List ℕ) → length (run_from same p n xs) ≡ length xs
run_long same p n [] = refl
run_long same p n (x ∷ xs) = ap suc (run_long same x (cond (same p x) (n + 1) 1) xs)

pub keys_given_at : (n : ℕ) (cols : List Col) (ks : List Key) (rows : List (List Item)) (P : List (List Item)) → P ≡ key_columns cols ks rows → columns_given n rows ≡ true → columns_given n P ≡ true
keys_given_at n cols ks rows P p h = ap (columns_given n) p ∙ key_cells_given n cols ks rows h

module _ (texts : List Text) (cols : List Col) (pk ks : List Key) (rows : List (List Item)) (P Q P' : List (List Item)) (p : P ≡ key_columns cols pk rows) (q : Q ≡ key_columns cols ks rows) (p' : P' ≡ key_columns cols pk rows)
    (n : ℕ) (hn : n ≡ length rows) (order o3 o5 : List ℕ) (e3 : o3 ≡ order) (e5 : o5 ≡ order)
    (moved : IsPermutation (numbers_from 0 n) order) (sorted : IsSorted (order_cmp (places_cmp texts P pk) (places_cmp texts Q ks)) order) where
  pub order_few : (m : ℕ) → length rows < m → (o : List ℕ) → o ≡ order → length o < m
  order_few m h o e = let l : length o ≡ n = ap (λ (z : List ℕ). length z) e ∙ moved_long n order moved in omega (arith, l, hn, h)

  pub order_within : AllBelow (length o5) o5
  order_within = subst (λ o. AllBelow (length o) o) (sym e5) (moved_within n order moved)

  pub order_once : AtMostOnce o5
  order_once = subst AtMostOnce (sym e5) (moved_once n order moved)

  module _ (cells o6 : List Item) (e6 : o6 ≡ cells) (m : cells ≡ map (num kept) (run_from (λ a b. is_eq (places_cmp texts P' pk a b)) 0 0 o3)) where
    pub order_many : length o5 ≡ length o6
    order_many =
        ap (λ (z : List ℕ). length z) (e5 ∙ sym e3)
        ∙ sym (ap (λ (z : List Item). length z) (e6 ∙ m) ∙ map_long (num kept) (run_from (λ a b. is_eq (places_cmp texts P' pk a b)) 0 0 o3) ∙ run_long (λ a b. is_eq (places_cmp texts P' pk a b)) 0 0 o3)

    abbrev g : ℕ → Item
    g a = num kept (number_at (places_cmp texts P pk) (places_cmp texts Q ks) (numbers_from 0 n) a)

    cells_are : o6 ≡ map g order
    cells_are =
        e6 ∙ m
        ∙ (λ i. map (num kept) (run_from (λ a b. is_eq (places_cmp texts ((p' ∙ sym p) i) pk a b)) 0 0 (e3 i)))
        ∙ ap (map (num kept)) (numbers_are (places_cmp texts P pk) (places_cmp texts Q ks) (places_total texts P pk) (places_total texts Q ks) n order moved sorted)
        ∙ maps (num kept) (number_at (places_cmp texts P pk) (places_cmp texts Q ks) (numbers_from 0 n)) order

    out_is : (out : List Item) → map (cell_of out) o5 ≡ o6 → length out ≡ length o5 → out ≡ cell_numbers texts cols pk ks rows
    out_is out c l =
        scattered g n order out moved (ap (map (cell_of out)) (sym e5) ∙ c ∙ cells_are) (l ∙ ap (λ (z : List ℕ). length z) e5)
        ∙ (λ i. map (λ a. num kept (number_at (places_cmp texts (p i) pk) (places_cmp texts (q i) ks) (numbers_from 0 (hn i)) a)) (numbers_from 0 (hn i)))

    pub order_whole : {V E : Type 0} (items : V → List Item) (r : Result V E) → IfOk r (λ out. map (cell_of (items out)) o5 ≡ o6) → IfOk r (λ out. length (items out) ≡ length o5) → IfOk r (λ out. items out ≡ cell_numbers texts cols pk ks rows)
    order_whole items (Ok out) c l = out_is (items out) c l
    order_whole items (Err e) c l = tt
