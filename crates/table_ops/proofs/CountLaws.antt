-- The counts of groups by keys.
use Rattle.std.proofs.Common.{◌≡◌, ◌<◌, ◌+◌, ◌++◌, ◌∙◌, ◌||◌, ℕ, zero, suc, Bool, true, false, cond, List, [], ◌∷◌, length, map, nat_eq, refl, ap, sym, subst, arith, true≢false, if◌then◌else◌, Result, IfOk}
use Rattle.std.specs.List.{filter, list_any}
use Rattle.indexmap.specs.IndexSet.{insert_key, insert_all}
use Rattle.xq_base.specs.declared.item.Item.{Item}
use Rattle.plan_dag.specs.declared.cols.Col.{Col}
use Rattle.plan_dag.specs.Meaning.{Table, cell_or}
use Rattle.plan_dag.specs.Orders.{has, firsts}
use Rattle.plan_dag.specs.Rows.{group_rows, count_rows, num}
use Rattle.table_ops.specs.Chains.{AllBelow}
use Rattle.table_ops.specs.Columns.{rows_beside, single_rows, cells_at, no_cell, numbers_from}
use Rattle.table_ops.specs.Groups.{counts_of}
use Rattle.table_ops.specs.Held.{kept}
use Rattle.table_ops.specs.Keys.{item_eq, place_in, keys_from, TellsFrom}
use Rattle.table_ops.proofs.Combining.{whole, if_ok_is}
use Rattle.table_ops.proofs.ItemEqual.{item_same, item_self}
use Rattle.table_ops.proofs.Keying.{AllThere, keys_are, all_there, tells, keys_below, place_stays, place_put, place_last}
use Rattle.table_ops.proofs.MatchLaws.{any_append}
use Rattle.table_ops.proofs.Lists.{maps, map_append, map_long, longer, to_nothing, each_same}

join_lists : {X : Type 0} (xs : List X) (y : X) (zs : List X) → (xs ++ y ∷ []) ++ zs ≡ xs ++ y ∷ zs
join_lists [] y zs = refl
join_lists (x ∷ xs) y zs = ap (λ (z : List _). x ∷ z) (join_lists xs y zs)

turn_or : (a b : Bool) → a || b ≡ b || a
turn_or true true = refl
turn_or true false = refl
turn_or false true = refl
turn_or false false = refl

-- the different cells are those of the first rows
module _ {X : Type 0} (f : X → Item) where
  abbrev same_rows : X → X → Bool
  same_rows q r = item_eq (f q) (f r)

  pub first_cells : (t : List Item) (seen rows : List X) → ((x : X) → has (λ q r. item_eq (f q) (f r)) x seen ≡ list_any (item_eq (f x)) t) → insert_all item_eq t (map f rows) ≡ t ++ map f (firsts (λ q r. item_eq (f q) (f r)) seen rows)
  first_cells t seen [] h = sym (to_nothing t)
  first_cells t seen (x ∷ rows) h =
      by (has (λ q r. item_eq (f q) (f r)) x seen) (list_any (item_eq (f x)) t) (h x) (first_cells t seen rows h)
      (first_cells (t ++ f x ∷ []) (x ∷ seen) rows (λ y. turn_or (item_eq (f y) (f x)) (has (λ q r. item_eq (f q) (f r)) y seen) ∙ ap (λ z. z || item_eq (f y) (f x)) (h y) ∙ sym (any_append (item_eq (f y)) t (f x))))
    where
      by : (b c : Bool) → b ≡ c → insert_all item_eq t (map f rows) ≡ t ++ map f (firsts (λ q r. item_eq (f q) (f r)) seen rows)
          → insert_all item_eq (t ++ f x ∷ []) (map f rows) ≡ (t ++ f x ∷ []) ++ map f (firsts (λ q r. item_eq (f q) (f r)) (x ∷ seen) rows)
          → insert_all item_eq (if c then t else t ++ f x ∷ []) (map f rows) ≡ t ++ map f (cond b (firsts (λ q r. item_eq (f q) (f r)) seen rows) (x ∷ firsts (λ q r. item_eq (f q) (f r)) (x ∷ seen) rows))
      by true true e old new = old
      by true false e old new = absurd (true≢false e)
      by false true e old new = absurd (true≢false (sym e))
      by false false e old new = new ∙ join_lists t (f x) (map f (firsts (λ q r. item_eq (f q) (f r)) (x ∷ seen) rows))

-- each of the different cells stands at its own place
Own : List Item → Type 0
Own t = AllThere item_eq item_same item_self t t × (map (place_in item_eq t) t ≡ numbers_from 0 (length t))

stays : (t ys : List Item) (x : Item) → AllThere item_eq item_same item_self t ys → (AllThere item_eq item_same item_self (t ++ x ∷ []) ys) × (map (place_in item_eq (t ++ x ∷ [])) ys ≡ map (place_in item_eq t) ys)
unfolding AllThere
stays t [] x h = (tt, refl)
stays t (y ∷ ys) x h =
    let r = stays t ys x h.1 in
    let p : place_in item_eq (t ++ x ∷ []) y ≡ place_in item_eq t y = place_stays item_eq t y x h.0 in
    ((omega (arith, h.0, p, longer t x), r.0), λ i. p i ∷ r.1 i)

there_append : (t ys : List Item) (x : Item) → AllThere item_eq item_same item_self t ys → place_in item_eq t x < length t → AllThere item_eq item_same item_self t (ys ++ x ∷ [])
unfolding AllThere
there_append t [] x h p = (p, tt)
there_append t (y ∷ ys) x h p = (h.0, there_append t ys x h.1 p)

numbers_last : (k n : ℕ) → numbers_from k (suc n) ≡ numbers_from k n ++ (k + n) ∷ []
numbers_last k zero = let e : k ≡ k + 0 = omega arith in ap (λ z. z ∷ []) e
numbers_last k (suc n) = let e : suc k + n ≡ k + suc n = omega arith in ap (λ z. k ∷ z) (numbers_last (suc k) n ∙ ap (λ z. numbers_from (suc k) n ++ z ∷ []) e)

own_put : (t : List Item) (x : Item) → Own t → Own (insert_key item_eq t x)
unfolding Own
own_put t x o = by (list_any (item_eq x) t) refl
  where
    by : (b : Bool) → list_any (item_eq x) t ≡ b → Own (if b then t else t ++ x ∷ [])
    by true e = o
    by false e =
        let put : (place_in item_eq (t ++ x ∷ []) x ≡ place_in item_eq t x) × (place_in item_eq t x < length (t ++ x ∷ [])) = subst (λ b. (place_in item_eq (if b then t else t ++ x ∷ []) x ≡ place_in item_eq t x) × (place_in item_eq t x < length (if b then t else t ++ x ∷ []))) e (place_put item_eq item_same item_self t x) in
        let r = stays t t x o.0 in
        let at : place_in item_eq (t ++ x ∷ []) x ≡ length t = at_end e in (
          there_append (t ++ x ∷ []) t x r.0 (omega (arith, put.0, put.1)),
          map_append (place_in item_eq (t ++ x ∷ [])) t (x ∷ []) ∙ (λ i. (r.1 ∙ o.1) i ++ at i ∷ []) ∙ sym (numbers_last 0 (length t) ∙ ap (λ z. numbers_from 0 (length t) ++ z ∷ []) (zero_plus (length t))) ∙ ap (numbers_from 0) (sym (longer t x)),
        )
      where
        zero_plus : (n : ℕ) → 0 + n ≡ n
        zero_plus n = omega arith

        at_end : list_any (item_eq x) t ≡ false → place_in item_eq (t ++ x ∷ []) x ≡ length t
        at_end e = place_last item_eq item_same item_self t x e

own_places : (t : List Item) → Own t → map (place_in item_eq t) t ≡ numbers_from 0 (length t)
unfolding Own
own_places t o = o.1

own_all : (xs t : List Item) → Own t → Own (insert_all item_eq t xs)
own_all [] t o = o
own_all (x ∷ xs) t o = own_all xs (insert_key item_eq t x) (own_put t x o)

own : (cells : List Item) → Own (insert_all item_eq [] cells)
unfolding Own AllThere
own cells = own_all cells [] (tt, refl)

-- as many rows have a cell as keys are its key
module _ {X : Type 0} (f : X → Item) (t : List Item) where
  counts_told : (v : Item) (rows : List X) → TellsFrom item_eq (place_in item_eq t) (place_in item_eq t) (map f rows) → length (filter (λ r. item_eq v (f r)) rows) ≡ length (filter (nat_eq (place_in item_eq t v)) (map (place_in item_eq t) (map f rows)))
  counts_told v [] h = refl
  counts_told v (r ∷ rows) h = by (item_eq v (f r)) (nat_eq (place_in item_eq t v) (place_in item_eq t (f r))) (h.0 v) (counts_told v rows h.1)
    where
      by : (b c : Bool) → b ≡ c → length (filter (λ r. item_eq v (f r)) rows) ≡ length (filter (nat_eq (place_in item_eq t v)) (map (place_in item_eq t) (map f rows)))
          → length (cond b (r ∷ filter (λ r. item_eq v (f r)) rows) (filter (λ r. item_eq v (f r)) rows)) ≡ length (cond c (place_in item_eq t (f r) ∷ filter (nat_eq (place_in item_eq t v)) (map (place_in item_eq t) (map f rows))) (filter (nat_eq (place_in item_eq t v)) (map (place_in item_eq t) (map f rows))))
      by true true e r = ap suc r
      by true false e r = absurd (true≢false e)
      by false true e r = absurd (true≢false (sym e))
      by false false e r = r

beside_mapped : {X : Type 0} (g : X → Item) (k : X → ℕ) (h : ℕ → Item) (xs : List X) → rows_beside (single_rows (map g xs)) (single_rows (map h (map k xs))) ≡ map (λ x. g x ∷ h (k x) ∷ []) xs
beside_mapped g k h [] = refl
beside_mapped g k h (x ∷ xs) = ap (λ z. (g x ∷ h (k x) ∷ []) ∷ z) (beside_mapped g k h xs)

module _ (cols : List Col) (c : Col) (rows : List (List Item)) where
  abbrev F : List Item → Item
  F r = cell_or no_cell cols c r

  abbrev T : List Item
  T = insert_all item_eq [] (map F rows)

  firsts_of : T ≡ map F (group_rows kept F rows)
  firsts_of = first_cells F [] [] rows (λ x. refl)

  keys_of : keys_from item_eq [] (map F rows) ≡ map (place_in item_eq T) (map F rows)
  keys_of = keys_are item_eq item_same item_self (map F rows) []

  abbrev count : ℕ → Item
  count k = num kept (length (filter (nat_eq k) (keys_from item_eq [] (map F rows))))

  count_is : (r : List Item) → count (place_in item_eq T (F r)) ≡ num kept (length (filter (λ q. item_eq (F r) (F q)) rows))
  count_is r =
      ap (λ z. num kept (length (filter (nat_eq (place_in item_eq T (F r))) z))) keys_of
      ∙ ap (num kept) (sym (counts_told F T (F r) rows (tells item_eq item_same item_self T (map F rows) (all_there item_eq item_same item_self (map F rows) []))))

  pub counted_rows : rows_beside (single_rows (insert_all item_eq [] (cells_at cols c rows))) (single_rows (map (num kept) (counts_of (length (insert_all item_eq [] (cells_at cols c rows))) (keys_from item_eq [] (cells_at cols c rows))))) ≡ count_rows kept (cell_or no_cell cols c) rows
  counted_rows =
      let groups : List (List Item) = group_rows kept F rows in
      let columns : map (num kept) (counts_of (length T) (keys_from item_eq [] (map F rows))) ≡ map count (map (λ r. place_in item_eq T (F r)) groups) =
      maps (num kept) (λ k. length (filter (nat_eq k) (keys_from item_eq [] (map F rows)))) (numbers_from 0 (length T))
      ∙ ap (map count) (sym (owned (own (map F rows))) ∙ ap (map (place_in item_eq T)) firsts_of ∙ maps (place_in item_eq T) F groups) in
      (λ i. rows_beside (single_rows (firsts_of i)) (single_rows (columns i)))
      ∙ beside_mapped F (λ r. place_in item_eq T (F r)) count groups
      ∙ each_same _ _ groups (λ r. ap (λ z. F r ∷ z ∷ []) (count_is r))
    where
      owned : Own (insert_all item_eq [] (map F rows)) → map (place_in item_eq (insert_all item_eq [] (map F rows))) (insert_all item_eq [] (map F rows)) ≡ numbers_from 0 (length (insert_all item_eq [] (map F rows)))
      owned o = own_places (insert_all item_eq [] (map F rows)) o

pub count_below : (cells table : List Item) (keys : List ℕ) → table ≡ insert_all item_eq [] cells → keys ≡ keys_from item_eq [] cells → AllBelow (length table) keys
count_below cells table keys t k =
    subst (λ z. AllBelow (length z) keys) (sym t) (subst (AllBelow (length (insert_all item_eq [] cells))) (sym (k ∙ keys_are item_eq item_same item_self cells [])) (keys_below item_eq item_same item_self (insert_all item_eq [] cells) cells (all_there item_eq item_same item_self cells [])))

numbers_many : (k n : ℕ) → length (numbers_from k n) ≡ n
numbers_many k zero = refl
numbers_many k (suc n) = ap suc (numbers_many (suc k) n)

module _ (t : Table Item) (g c : Col) (cells table groups counted : List Item) (keys counts : List ℕ) (n : ℕ) (L Q : Table Item) (f : cells ≡ cells_at t.cols g t.rows) (e : table ≡ insert_all item_eq [] cells) (k : keys ≡ keys_from item_eq [] cells) (m : n ≡ length table)
    (h : counts ≡ counts_of n keys) (v : groups ≡ table) (w : counted ≡ map (num kept) counts) (eL : L ≡ whole (g ∷ []) (single_rows groups)) (eQ : Q ≡ whole (c ∷ []) (single_rows counted)) where
  pub count_few : length L.cols + length Q.cols < 9
  count_few = subst (λ n. n < 9) (λ i. length (sym eL i).cols + length (sym eQ i).cols) (omega arith)

  pub count_high : length L.rows ≡ length Q.rows
  count_high =
      ap (λ (z : Table Item). length z.rows) eL ∙ map_long (λ v. v ∷ []) groups ∙ ap (λ (z : List Item). length z) v
      ∙ sym (ap (λ (z : Table Item). length z.rows) eQ ∙ map_long (λ v. v ∷ []) counted ∙ ap (λ (z : List Item). length z) w ∙ map_long (num kept) counts ∙ ap (λ (z : List ℕ). length z) h ∙ map_long (λ k. length (filter (nat_eq k) keys)) (numbers_from 0 n) ∙ numbers_many 0 n ∙ m)

  pub count_whole : {E : Type 0} (r : Result (Table Item) E) → IfOk r (λ x. x ≡ whole (L.cols ++ Q.cols) (rows_beside L.rows Q.rows)) → IfOk r (λ x. x ≡ whole (g ∷ c ∷ []) (count_rows kept (cell_or no_cell t.cols g) t.rows))
  count_whole r x =
      let table_is : table ≡ insert_all item_eq [] (cells_at t.cols g t.rows) = e ∙ ap (insert_all item_eq []) f in
      let keys_is : keys ≡ keys_from item_eq [] (cells_at t.cols g t.rows) = k ∙ ap (keys_from item_eq []) f in
      if_ok_is r _ _
      ((λ i. whole ((eL i).cols ++ (eQ i).cols) (rows_beside (eL i).rows (eQ i).rows))
      ∙ (λ i. whole (g ∷ c ∷ []) (rows_beside (single_rows ((v ∙ table_is) i)) (single_rows ((w ∙ ap (map (num kept)) (h ∙ (λ j. counts_of ((m ∙ ap (λ (z : List Item). length z) table_is) j) (keys_is j)))) i))))
      ∙ ap (whole (g ∷ c ∷ [])) (counted_rows t.cols g t.rows))
      x
