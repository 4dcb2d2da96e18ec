-- Rows at places in order are the rows in order.
use Rattle.std.proofs.Common.{◌≡◌, ◌∙◌, ◌<◌, ◌≤◌, ◌+◌, ◌++◌, ◌∷◌, [], ℕ, zero, suc, Bool, true, false, cond, List, length, map, refl, sym, ap, subst, arith, true≢false, Result, IfOk}
use Rattle.std.specs.Prelude.{slice_index_or, nat_eq}
use Rattle.std.specs.List.{filter}
use Rattle.std.specs.List.Sorted.{IsPermutation, IsSorted}
use Rattle.std.specs.declared.cmp.Ordering.{Ordering}
use Rattle.std.specs.declared.cmp.Ordering.TheVariants.{Less, Equal, Greater}
use Rattle.std.specs.Ordering.{nat_cmp, ordering_then, ordering_reverse, is_lt, MatchOrdering}
use Rattle.std.specs.Cmp.{IsTotalOrder}
use Rattle.std.proofs.lemmas.Cmp.{ranked}
use Rattle.std.proofs.lemmas.Bool.{eq-eqb, eqb-true}
use Rattle.xq_base.specs.declared.item.Item.{Item}
use Rattle.xq_base.specs.Texts.{Text}
use Rattle.plan_dag.specs.declared.keys.Key.{Key}
use Rattle.plan_dag.specs.Meaning.{Table, sort_keys}
use Rattle.plan_dag.specs.Orders.{in_order}
use Rattle.plan_dag.specs.Rows.{keys_less}
use Rattle.doc_table.specs.Orders.{put}
use Rattle.table_ops.specs.Chains.{AllBelow}
use Rattle.table_ops.specs.Columns.{numbers_from, rows_at, AllWithin}
use Rattle.table_ops.specs.Held.{held_rules}
use Rattle.table_ops.specs.Sorting.{order_cmp, places_cmp, key_columns}
use Rattle.table_ops.proofs.CellOrders.{places_total, order_total}
use Rattle.table_ops.proofs.Combining.{whole, if_ok_is}
use Rattle.table_ops.proofs.OrderCounts.{Leads, InOrder, sorted_order, count_moved, moved_within, moved_long}
use Rattle.table_ops.proofs.RownumLaws.{keys_are, places_are}
use Rattle.table_ops.proofs.Lists.{app, longer, at_end}

-- a list in order has the elements that it had
module _ {X : Type 0} (less : X → X → Bool) (p : X → Bool) where
  count_put : (x : X) (ys : List X) → length (filter p (put less x ys)) ≡ length (filter p (x ∷ ys))
  count_put x [] = refl
  count_put x (y ∷ ys) = by (less y x) (count_put x ys)
    where
      swap : (b c : Bool) (fs gs : List X) → length gs ≡ length (cond c (x ∷ fs) fs) → length (cond b (y ∷ gs) gs) ≡ length (cond c (x ∷ cond b (y ∷ fs) fs) (cond b (y ∷ fs) fs))
      swap true true fs gs e = ap suc e
      swap true false fs gs e = ap suc e
      swap false true fs gs e = e
      swap false false fs gs e = e

      by : (b : Bool) → length (filter p (put less x ys)) ≡ length (filter p (x ∷ ys)) → length (filter p (cond b (y ∷ put less x ys) (x ∷ y ∷ ys))) ≡ length (filter p (x ∷ y ∷ ys))
      by true e = swap (p y) (p x) (filter p ys) (filter p (put less x ys)) e
      by false e = refl

  count_order : (xs : List X) → length (filter p (in_order less xs)) ≡ length (filter p xs)
  count_order [] = refl
  count_order (x ∷ xs) = count_put x (in_order less xs) ∙ by (p x) (count_order xs)
    where
      by : (b : Bool) → length (filter p (in_order less xs)) ≡ length (filter p xs) → length (cond b (x ∷ filter p (in_order less xs)) (filter p (in_order less xs))) ≡ length (cond b (x ∷ filter p xs) (filter p xs))
      by true e = ap suc e
      by false e = e

-- the same under a function
module _ {X Y : Type 0} (f : X → Y) (less : X → X → Bool) (more : Y → Y → Bool) (same : (a b : X) → more (f a) (f b) ≡ less a b) where
  map_put : (x : X) (ys : List X) → put more (f x) (map f ys) ≡ map f (put less x ys)
  map_put x [] = refl
  map_put x (y ∷ ys) = ap (λ b. cond b (f y ∷ put more (f x) (map f ys)) (f x ∷ f y ∷ map f ys)) (same y x) ∙ by (less y x) (map_put x ys)
    where
      by : (b : Bool) → put more (f x) (map f ys) ≡ map f (put less x ys) → cond b (f y ∷ put more (f x) (map f ys)) (f x ∷ f y ∷ map f ys) ≡ map f (cond b (y ∷ put less x ys) (x ∷ y ∷ ys))
      by true e = ap (λ (z : List Y). f y ∷ z) e
      by false e = refl

  map_order : (xs : List X) → in_order more (map f xs) ≡ map f (in_order less xs)
  map_order [] = refl
  map_order (x ∷ xs) = ap (put more (f x)) (map_order xs) ∙ map_put x (in_order less xs)

-- numbers above one
AllAbove : ℕ → List ℕ → Type 0
AllAbove k [] = Unit {0}
AllAbove k (y ∷ ys) = (k < y) × AllAbove k ys

above_put : (less : ℕ → ℕ → Bool) (k x : ℕ) (ys : List ℕ) → k < x → AllAbove k ys → AllAbove k (put less x ys)
unfolding AllAbove
above_put less k x [] l a = (l, tt)
above_put less k x (y ∷ ys) l a = by (less y x) (above_put less k x ys l a.1)
  where
    by : (b : Bool) → AllAbove k (put less x ys) → AllAbove k (cond b (y ∷ put less x ys) (x ∷ y ∷ ys))
    by true r = (a.0, r)
    by false r = (l, a)

above_order : (less : ℕ → ℕ → Bool) (k : ℕ) (xs : List ℕ) → AllAbove k xs → AllAbove k (in_order less xs)
unfolding AllAbove
above_order less k [] a = tt
above_order less k (x ∷ xs) a = above_put less k x (in_order less xs) a.0 (above_order less k xs a.1)

numbers_above : (k m n : ℕ) → k < m → AllAbove k (numbers_from m n)
unfolding AllAbove
numbers_above k m zero l = tt
numbers_above k m (suc n) l = (l, numbers_above k (suc m) n (omega (arith, l)))

nat_first : (a b : ℕ) → a < b → nat_cmp a b ≡ Less
nat_first a b l = by (nat_cmp a b) refl
  where
    by : (o : Ordering) → nat_cmp a b ≡ o → nat_cmp a b ≡ Less
    by Less e = e
    by Equal e = let m : a ≡ b = subst (λ o. MatchOrdering o (a < b) (a ≡ b) (b < a)) e (ranked a b (nat_cmp a b) refl) in absurd (omega (arith, l, m))
    by Greater e = let m : b < a = subst (λ o. MatchOrdering o (a < b) (a ≡ b) (b < a)) e (ranked a b (nat_cmp a b) refl) in absurd (omega (arith, l, m))

-- places by keys and then as they stand
module _ (part keys : ℕ → ℕ → Ordering) (pt : IsTotalOrder part) (kt : IsTotalOrder keys) (alone : (a b : ℕ) → part a b ≡ Equal) where
  abbrev cmp : ℕ → ℕ → Ordering
  cmp = order_cmp part keys

  total_order : IsTotalOrder (order_cmp part keys)
  total_order = order_total part keys pt kt

  abbrev less : ℕ → ℕ → Bool
  less a b = is_lt (keys a b)

  cmp_is : (a b : ℕ) → cmp a b ≡ ordering_then (keys a b) (nat_cmp a b)
  cmp_is a b = ap (λ o. ordering_then o (ordering_then (keys a b) (nat_cmp a b))) (alone a b)

  key_first : (y x : ℕ) → less y x ≡ true → cmp y x ≡ Less
  key_first y x e = cmp_is y x ∙ by (keys y x) e
    where
      by : (o : Ordering) → is_lt o ≡ true → ordering_then o (nat_cmp y x) ≡ Less
      by Less e = refl
      by Equal e = absurd (true≢false (sym e))
      by Greater e = absurd (true≢false (sym e))

  not_first : (y x : ℕ) → less y x ≡ false → x < y → cmp x y ≡ Less
  not_first y x e l = cmp_is x y ∙ ap (λ o. ordering_then o (nat_cmp x y)) (kt.antisymm x y) ∙ by (keys y x) e
    where
      by : (o : Ordering) → is_lt o ≡ false → ordering_then (ordering_reverse o) (nat_cmp x y) ≡ Less
      by Less e = absurd (true≢false e)
      by Equal e = nat_first x y l
      by Greater e = refl

  abbrev Led : ℕ → List ℕ → Type 0
  Led = Leads part keys pt kt

  abbrev Ordered : List ℕ → Type 0
  Ordered = InOrder part keys pt kt

  put_leads : (x y : ℕ) (ys : List ℕ) → Led y ys → cmp y x ≡ Less → Led y (put less x ys)
  put_leads x y [] h e = (e, tt)
  put_leads x y (z ∷ zs) h e = by (less z x) (put_leads x y zs h.1 e)
    where
      by : (b : Bool) → Led y (put less x zs) → Led y (cond b (z ∷ put less x zs) (x ∷ z ∷ zs))
      by true r = (h.0, r)
      by false r = (e, h)

  leads_on : (x y : ℕ) (ys : List ℕ) → cmp x y ≡ Less → Led y ys → Led x ys
  leads_on x y [] e h = tt
  leads_on x y (z ∷ zs) e h = (total_order.trans x y z e h.0, leads_on x y zs e h.1)

  put_in_order : (x : ℕ) (ys : List ℕ) → AllAbove x ys → Ordered ys → Ordered (put less x ys)
  unfolding AllAbove
  put_in_order x [] a o = (tt, tt)
  put_in_order x (y ∷ ys) a o = by (less y x) refl (put_in_order x ys a.1 o.1)
    where
      by : (b : Bool) → less y x ≡ b → Ordered (put less x ys) → Ordered (cond b (y ∷ put less x ys) (x ∷ y ∷ ys))
      by true e r = (put_leads x y ys o.0 (key_first y x e), r)
      by false e r = let f : cmp x y ≡ Less = not_first y x e a.0 in ((f, leads_on x y ys f o.0), o)

  numbers_ordered : (k n : ℕ) → Ordered (in_order less (numbers_from k n))
  numbers_ordered k zero = tt
  numbers_ordered k (suc n) = put_in_order k (in_order less (numbers_from (suc k) n)) (above_order less k (numbers_from (suc k) n) (numbers_above k (suc k) n (omega arith))) (numbers_ordered (suc k) n)

  led_by : (y x : ℕ) (ys : List ℕ) → Led y ys → 1 ≤ length (filter (nat_eq x) ys) → cmp y x ≡ Less
  led_by y x [] h l = absurd (omega (arith, l))
  led_by y x (z ∷ zs) h l = by (nat_eq x z) refl (λ k. led_by y x zs h.1 k) l
    where
      by : (b : Bool) → nat_eq x z ≡ b → (1 ≤ length (filter (nat_eq x) zs) → cmp y x ≡ Less) → 1 ≤ length (cond b (z ∷ filter (nat_eq x) zs) (filter (nat_eq x) zs)) → cmp y x ≡ Less
      by true e r l = ap (cmp y) (eqb-true x z e) ∙ h.0
      by false e r l = r l

  abbrev times : ℕ → List ℕ → ℕ
  times a xs = length (filter (nat_eq a) xs)

  own_time : (x : ℕ) (xs : List ℕ) → times x (x ∷ xs) ≡ suc (times x xs)
  own_time x xs = ap (λ b. length (cond b (x ∷ filter (nat_eq x) xs) (filter (nat_eq x) xs))) (eq-eqb x x refl)

  other_time : (a x : ℕ) (xs : List ℕ) → nat_eq a x ≡ false → times a (x ∷ xs) ≡ times a xs
  other_time a x xs e = ap (λ b. length (cond b (x ∷ filter (nat_eq a) xs) (filter (nat_eq a) xs))) e

  tails : (x a : ℕ) (xs ys : List ℕ) → times a (x ∷ xs) ≡ times a (x ∷ ys) → times a xs ≡ times a ys
  tails x a xs ys e = by (nat_eq a x) e
    where
      by : (b : Bool) → length (cond b (x ∷ filter (nat_eq a) xs) (filter (nat_eq a) xs)) ≡ length (cond b (x ∷ filter (nat_eq a) ys) (filter (nat_eq a) ys)) → times a xs ≡ times a ys
      by true e = omega (arith, e)
      by false e = e

  one_order : (xs ys : List ℕ) → Ordered xs → Ordered ys → ((a : ℕ) → times a xs ≡ times a ys) → xs ≡ ys
  one_order [] [] o q e = refl
  one_order [] (y ∷ ys) o q e = absurd (omega (arith, e y, own_time y ys))
  one_order (x ∷ xs) [] o q e = absurd (omega (arith, e x, own_time x xs))
  one_order (x ∷ xs) (y ∷ ys) o q e = by (nat_eq x y) refl (λ k. one_order xs ys o.1 q.1 k)
    where
      by : (b : Bool) → nat_eq x y ≡ b → (((a : ℕ) → times a xs ≡ times a ys) → xs ≡ ys) → x ∷ xs ≡ y ∷ ys
      by true s r = let same : y ≡ x = sym (eqb-true x y s) in (λ i. eqb-true x y s i ∷ r (λ a. tails x a xs ys (e a ∙ ap (λ z. times a (z ∷ ys)) same)) i)
      by false s r =
          let later : cmp y x ≡ Less = led_by y x ys q.0 (omega (arith, e x, own_time x xs, other_time x y ys s)) in
          let turned : nat_eq y x ≡ false = unlike (nat_eq y x) refl in
          let earlier : cmp x y ≡ Less = led_by x y xs o.0 (omega (arith, e y, own_time y ys, other_time y x xs turned)) in
          absurd (never (sym later ∙ total_order.antisymm y x ∙ ap ordering_reverse earlier))
        where
          unlike : (b : Bool) → nat_eq y x ≡ b → nat_eq y x ≡ false
          unlike true t = absurd (true≢false (sym (eq-eqb x y (sym (eqb-true y x t))) ∙ s))
          unlike false t = t

          never : Less ≡ Greater → ⊥
          never h = true≢false (ap is_lt h)

  pub places_are_ordered : (n : ℕ) (order : List ℕ) → IsPermutation (numbers_from 0 n) order → IsSorted (order_cmp part keys) order → order ≡ in_order less (numbers_from 0 n)
  places_are_ordered n order m s =
      one_order order (in_order less (numbers_from 0 n)) (sorted_order part keys pt kt n order m s) (numbers_ordered 0 n)
      (λ a. count_moved (nat_eq a) (numbers_from 0 n) order m ∙ sym (count_order less (nat_eq a) (numbers_from 0 n)))

rows_numbered : (done rows : List (List Item)) → map (λ k. slice_index_or (done ++ rows) k []) (numbers_from (length done) (length rows)) ≡ rows
rows_numbered done [] = refl
rows_numbered done (r ∷ rows) =
    λ i. at_end done r rows [] i
    ∷ (ap (λ k. map (λ k. slice_index_or (done ++ r ∷ rows) k []) (numbers_from k (length rows))) (sym (longer done r))
    ∙ ap (λ z. map (λ k. slice_index_or z k []) (numbers_from (length (done ++ r ∷ [])) (length rows))) (sym (app done r rows))
    ∙ rows_numbered (done ++ r ∷ []) rows) i

module _ (texts : List Text) (t : Table Item) (ks : List Key) (columns : List (List Item)) (c_is : columns ≡ key_columns t.cols ks t.rows) (n : ℕ) (n_is : n ≡ length t.rows) (order : List ℕ)
    (m : IsPermutation (numbers_from 0 n) order) (s : IsSorted (order_cmp (places_cmp texts [] []) (places_cmp texts columns ks)) order) where
  abbrev L : List Item → List Item → Bool
  L = keys_less (held_rules texts) (sort_keys (held_rules texts) t.cols ks)

  abbrev row : ℕ → List Item
  row a = slice_index_or t.rows a []

  same_less : (a b : ℕ) → L (row a) (row b) ≡ is_lt (places_cmp texts columns ks a b)
  same_less a b = keys_are texts t.cols ks (row a) (row b) ∙ sym (ap is_lt (ap (λ z. places_cmp texts z ks a b) c_is ∙ places_are texts t.cols t.rows ks a b))

  arranged : rows_at t.rows order ≡ in_order L t.rows
  arranged =
      ap (map row) (places_are_ordered (places_cmp texts [] []) (places_cmp texts columns ks) (places_total texts [] []) (places_total texts columns ks) (λ a b. refl) n order m s)
      ∙ sym (map_order row (λ a b. is_lt (places_cmp texts columns ks a b)) L same_less (numbers_from 0 n))
      ∙ ap (in_order L) (ap (λ k. map row (numbers_from 0 k)) n_is ∙ rows_numbered [] t.rows)

  module _ (places : List ℕ) (p_is : places ≡ order) where
    pub arranged_within : AllWithin (length t.rows) places
    arranged_within = all_within places (subst (λ z. AllBelow (length t.rows) z) (sym p_is) (subst (λ k. AllBelow k order) (moved_long n order m ∙ n_is) (moved_within n order m)))
      where
        all_within : (xs : List ℕ) → AllBelow (length t.rows) xs → AllWithin (length t.rows) xs
        all_within [] b = tt
        all_within (x ∷ xs) b = (b.0, all_within xs b.1)

    pub arranged_whole : {E : Type 0} (keys : List Key) (r : Result (Table Item) E) → ks ≡ keys → IfOk r (λ x. x ≡ whole t.cols (rows_at t.rows places)) → IfOk r (λ x. x ≡ whole t.cols (in_order (keys_less (held_rules texts) (sort_keys (held_rules texts) t.cols keys)) t.rows))
    arranged_whole keys r k h = if_ok_is r _ _ (ap (whole t.cols) (ap (rows_at t.rows) p_is ∙ arranged ∙ ap (λ z. in_order (keys_less (held_rules texts) (sort_keys (held_rules texts) t.cols z)) t.rows) k)) h
