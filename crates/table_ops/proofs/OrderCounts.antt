-- Numbers along places in order are the numbers of rows.
use Rattle.std.proofs.Common.{◌≡◌, ◌≢◌, ◌∙◌, ◌<◌, ◌≤◌, ◌+◌, ◌++◌, ◌∷◌, [], ℕ, zero, suc, Bool, true, false, cond, ◌&&◌, List, length, map, take, set, refl, sym, ap, subst, arith, true≢false}
use Rattle.std.specs.Prelude.{slice_index_or, slice_index, nat_eq}
use Rattle.std.specs.List.{filter, All}
use Rattle.std.specs.List.Sorted.{IsPermutation, IsSorted}
use Rattle.std.specs.declared.cmp.Ordering.{Ordering}
use Rattle.std.specs.declared.cmp.Ordering.TheVariants.{Less, Equal, Greater}
use Rattle.std.specs.Ordering.{nat_cmp, ordering_then, ordering_reverse, is_lt, is_eq, MatchOrdering}
use Rattle.std.specs.Cmp.{IsTotalOrder}
use Rattle.std.proofs.lemmas.Cmp.{ranked, tied_itself, alike_right}
use Rattle.std.proofs.lemmas.Bool.{eq-eqb, eqb-true}
use Rattle.std.proofs.lemmas.List.{length-set, get_or-set_same, get_or-set_other, take_more}
use Rattle.std.proofs.lemmas.List.Sorted.{sum_by-IsPermutation, ranks_by, sorted_far, All-permutation, length_permutation, IsPermutation-sym}
use Rattle.std.proofs.lemmas.List.Elements.{All-nil, All-cons, All-head, All-tail}
use Rattle.std.proofs.lemmas.List.Sums.{length-filter}
use Rattle.xq_base.specs.declared.item.Item.{Item}
use Rattle.table_ops.specs.Chains.{AllBelow}
use Rattle.table_ops.specs.Columns.{numbers_from, cell_of, no_cell}
use Rattle.table_ops.specs.Sorting.{order_cmp, run_from, next_number, number_at, AtMostOnce}
use Rattle.table_ops.proofs.CellOrders.{order_total}
use Rattle.table_ops.proofs.Rowing.{by_places}
use Rattle.table_ops.proofs.Lists.{app, map_append, map_self}

-- as many pass in any order
pub count_moved : {X : Type 0} (p : X → Bool) (xs ys : List X) → IsPermutation xs ys → length (filter p ys) ≡ length (filter p xs)
count_moved p xs ys h = length-filter p ys ∙ sum_by-IsPermutation (λ x. cond (p x) 1 0) xs ys h ∙ sym (length-filter p xs)

pub count_alike : {X : Type 0} (p q : X → Bool) (xs : List X) → ((x : X) → p x ≡ q x) → length (filter p xs) ≡ length (filter q xs)
count_alike p q [] e = refl
count_alike p q (x ∷ xs) e = by (p x) (q x) (e x) (count_alike p q xs e)
  where
    by : (b c : Bool) → b ≡ c → length (filter p xs) ≡ length (filter q xs) → length (cond b (x ∷ filter p xs) (filter p xs)) ≡ length (cond c (x ∷ filter q xs) (filter q xs))
    by true true e r = ap suc r
    by true false e r = absurd (true≢false e)
    by false true e r = absurd (true≢false (sym e))
    by false false e r = r

count_last : {X : Type 0} (p : X → Bool) (xs : List X) (y : X) → length (filter p (xs ++ y ∷ [])) ≡ length (filter p xs) + cond (p y) 1 0
count_last p [] y = by (p y)
  where
    by : (b : Bool) → length (cond b (y ∷ []) []) ≡ 0 + cond b 1 0
    by true = refl
    by false = refl
count_last p (x ∷ xs) y = by (p x) (count_last p xs y)
  where
    by : (b : Bool) → length (filter p (xs ++ y ∷ [])) ≡ length (filter p xs) + cond (p y) 1 0 → length (cond b (x ∷ filter p (xs ++ y ∷ [])) (filter p (xs ++ y ∷ []))) ≡ length (cond b (x ∷ filter p xs) (filter p xs)) + cond (p y) 1 0
    by true e = omega (arith, e)
    by false e = e

-- of numbers from one on each comes once
none_below : (a k n : ℕ) → a < k → length (filter (nat_eq a) (numbers_from k n)) ≡ 0
none_below a k zero h = refl
none_below a k (suc n) h = by (nat_eq a k) refl (none_below a (suc k) n (omega (arith, h)))
  where
    by : (b : Bool) → nat_eq a k ≡ b → length (filter (nat_eq a) (numbers_from (suc k) n)) ≡ 0 → length (cond b (k ∷ filter (nat_eq a) (numbers_from (suc k) n)) (filter (nat_eq a) (numbers_from (suc k) n))) ≡ 0
    by true e r = absurd (let s = eqb-true a k e in omega (arith, s, h))
    by false e r = r

numbers_once : (k n : ℕ) → AtMostOnce (numbers_from k n)
numbers_once k zero a = omega arith
numbers_once k (suc n) a = by (nat_eq a k) refl (numbers_once (suc k) n a)
  where
    by : (b : Bool) → nat_eq a k ≡ b → length (filter (nat_eq a) (numbers_from (suc k) n)) ≤ 1 → length (cond b (k ∷ filter (nat_eq a) (numbers_from (suc k) n)) (filter (nat_eq a) (numbers_from (suc k) n))) ≤ 1
    by true e r = let s = none_below a (suc k) n (let t = eqb-true a k e in omega (arith, t)) in omega (arith, s)
    by false e r = r

pub moved_once : (n : ℕ) (order : List ℕ) → IsPermutation (numbers_from 0 n) order → AtMostOnce order
moved_once n order m a = let e = count_moved (nat_eq a) (numbers_from 0 n) order m in let o = numbers_once 0 n a in omega (arith, e, o)

-- and each is within
all_numbers_within : (n k m : ℕ) → k + m ≤ n → All (λ p. p < n) (numbers_from k m)
all_numbers_within n k zero h = All-nil (λ p. p < n)
all_numbers_within n k (suc m) h = All-cons (λ p. p < n) k (numbers_from (suc k) m) (omega (arith, h)) (all_numbers_within n (suc k) m (omega (arith, h)))

within_all : (n : ℕ) (xs : List ℕ) → All (λ p. p < n) xs → AllBelow n xs
within_all n [] h = tt
within_all n (x ∷ xs) h = (All-head (λ p. p < n) x xs h, within_all n xs (All-tail (λ p. p < n) x xs h))

pub numbers_long : (k n : ℕ) → length (numbers_from k n) ≡ n
numbers_long k zero = refl
numbers_long k (suc n) = ap suc (numbers_long (suc k) n)

pub moved_long : (n : ℕ) (order : List ℕ) → IsPermutation (numbers_from 0 n) order → length order ≡ n
moved_long n order m = length_permutation (numbers_from 0 n) order m ∙ numbers_long 0 n

pub moved_within : (n : ℕ) (order : List ℕ) → IsPermutation (numbers_from 0 n) order → AllBelow (length order) order
moved_within n order m =
    subst (λ k. AllBelow k order) (sym (moved_long n order m))
    (within_all n order (All-permutation (λ p. p < n) (numbers_from 0 n) order m (all_numbers_within n 0 n (omega arith))))

then_last : (o p : Ordering) → ordering_then o p ≡ Equal → p ≡ Equal
then_last Less p e = cc
then_last Equal p e = e
then_last Greater p e = cc

module _ (part keys : ℕ → ℕ → Ordering) (pt : IsTotalOrder part) (kt : IsTotalOrder keys) where
  abbrev cmp : ℕ → ℕ → Ordering
  cmp = order_cmp part keys

  total : IsTotalOrder (order_cmp part keys)
  total = order_total part keys pt kt

  abbrev pub Leads : ℕ → List ℕ → Type 0
  Leads x [] = Unit {0}
  Leads x (y ∷ ys) = (cmp x y ≡ Less) × Leads x ys

  abbrev pub InOrder : List ℕ → Type 0
  InOrder [] = Unit {0}
  InOrder (x ∷ xs) = Leads x xs × InOrder xs

  tied : (a b : ℕ) → cmp a b ≡ Equal → a ≡ b
  tied a b e = let p : nat_cmp a b ≡ Equal = then_last (keys a b) (nat_cmp a b) (then_last (part a b) (ordering_then (keys a b) (nat_cmp a b)) e) in subst (λ o. MatchOrdering o (a < b) (a ≡ b) (b < a)) p (ranked a b (nat_cmp a b) refl)

  back : (a b : ℕ) → cmp a b ≡ Less → is_lt (cmp b a) ≡ false
  back a b e = ap is_lt (total.antisymm b a ∙ ap ordering_reverse e)

  never : (a : ℕ) → is_lt (cmp a a) ≡ false
  never a = ap is_lt (tied_itself total a)

  leads : (x : ℕ) (ys : List ℕ) → ((j d : ℕ) → j < length ys → is_lt (cmp (slice_index_or ys j d) x) ≡ false) → length (filter (nat_eq x) ys) ≡ 0 → Leads x ys
  leads x [] h n = tt
  leads x (y ∷ ys) h n =
      let m = none (nat_eq x y) n in
      (first (cmp y x) refl (h 0 0 (omega arith)) m.0, leads x ys (λ j d l. h (suc j) d (omega (arith, l))) m.1)
    where
      none : (b : Bool) → length (cond b (y ∷ filter (nat_eq x) ys) (filter (nat_eq x) ys)) ≡ 0 → (b ≡ false) × (length (filter (nat_eq x) ys) ≡ 0)
      none true e = absurd (omega (arith, e))
      none false e = (refl, e)

      first : (o : Ordering) → cmp y x ≡ o → is_lt o ≡ false → nat_eq x y ≡ false → cmp x y ≡ Less
      first Less e l f = absurd (true≢false l)
      first Equal e l f = absurd (true≢false (sym (eq-eqb x y (sym (tied y x e))) ∙ f))
      first Greater e l f = total.antisymm x y ∙ ap ordering_reverse e

  pub in_order : (xs : List ℕ) → ((i j d : ℕ) → i ≤ j → j < length xs → is_lt (cmp (slice_index_or xs j d) (slice_index_or xs i d)) ≡ false) → AtMostOnce xs → InOrder xs
  in_order [] h o = tt
  in_order (x ∷ xs) h o = (
    leads x xs (λ j d l. h 0 (suc j) d (omega arith) (omega (arith, l))) (gone (nat_eq x x) (eq-eqb x x refl) (o x)),
    in_order xs (λ i j d a b. h (suc i) (suc j) d (omega (arith, a)) (omega (arith, b))) (λ a. fewer a (nat_eq a x) (o a)),
  )
    where
      gone : (b : Bool) → b ≡ true → length (cond b (x ∷ filter (nat_eq x) xs) (filter (nat_eq x) xs)) ≤ 1 → length (filter (nat_eq x) xs) ≡ 0
      gone true e l = omega (arith, l)
      gone false e l = absurd (true≢false (sym e))

      fewer : (a : ℕ) (b : Bool) → length (cond b (x ∷ filter (nat_eq a) xs) (filter (nat_eq a) xs)) ≤ 1 → length (filter (nat_eq a) xs) ≤ 1
      fewer a true l = omega (arith, l)
      fewer a false l = l

  pub sorted_order : (n : ℕ) (order : List ℕ) → IsPermutation (numbers_from 0 n) order → IsSorted (order_cmp part keys) order → InOrder order
  sorted_order n order m s = in_order order (λ i j d a b. sorted_far (λ x y. is_lt (cmp x y)) (ranks_by total (λ x. x)) order s i j d a b) (moved_once n order m)

  abbrev same : ℕ → ℕ → Bool
  same a b = is_eq (part a b)

  abbrev test : ℕ → ℕ → Bool
  test y q = same q y && is_lt (cmp q y)

  leads_at : (y : ℕ) (xs : List ℕ) (x : ℕ) (zs : List ℕ) → Leads y (xs ++ x ∷ zs) → cmp y x ≡ Less
  leads_at y [] x zs h = h.0
  leads_at y (w ∷ xs) x zs h = leads_at y xs x zs h.1

  at_last : (xs : List ℕ) (y : ℕ) (zs : List ℕ) → InOrder (xs ++ y ∷ zs) → Leads y zs
  at_last [] y zs h = h.0
  at_last (x ∷ xs) y zs h = at_last xs y zs h.1

  and_false : (b c : Bool) → c ≡ false → (b && c) ≡ false
  and_false true c e = e
  and_false false c e = refl

  none_behind : (y : ℕ) (zs : List ℕ) → Leads y zs → length (filter (test y) zs) ≡ 0
  none_behind y [] h = refl
  none_behind y (z ∷ zs) h = ap (λ b. length (cond b (z ∷ filter (test y) zs) (filter (test y) zs))) (and_false (same z y) (is_lt (cmp z y)) (back y z h.0)) ∙ none_behind y zs h.1

  cnt_at : (y : ℕ) (xs zs : List ℕ) → InOrder (xs ++ y ∷ zs) → length (filter (test y) (xs ++ y ∷ zs)) ≡ length (filter (λ q. same q y) xs)
  cnt_at y [] zs h = ap (λ b. length (cond b (y ∷ filter (test y) zs) (filter (test y) zs))) (and_false (same y y) (is_lt (cmp y y)) (never y)) ∙ none_behind y zs h.0
  cnt_at y (x ∷ xs) zs h =
      ap (λ l. length (cond (same x y && l) (x ∷ filter (test y) (xs ++ y ∷ zs)) (filter (test y) (xs ++ y ∷ zs)))) (ap is_lt (leads_at x xs y zs h.0))
      ∙ by (same x y) (cnt_at y xs zs h.1)
    where
      by : (b : Bool) → length (filter (test y) (xs ++ y ∷ zs)) ≡ length (filter (λ q. same q y) xs) → length (cond (b && true) (x ∷ filter (test y) (xs ++ y ∷ zs)) (filter (test y) (xs ++ y ∷ zs))) ≡ length (cond b (x ∷ filter (λ q. same q y) xs) (filter (λ q. same q y) xs))
      by true e = ap suc e
      by false e = e

  -- a later part isn't an earlier one
  part_less : (p y : ℕ) → cmp p y ≡ Less → same p y ≡ false → part p y ≡ Less
  part_less p y e f = by (part p y) e f
    where
      by : (o : Ordering) → ordering_then o (ordering_then (keys p y) (nat_cmp p y)) ≡ Less → is_eq o ≡ false → o ≡ Less
      by Less e f = refl
      by Equal e f = absurd (true≢false f)
      by Greater e f = cc

  apart : (q p y : ℕ) → cmp q p ≡ Less → part p y ≡ Less → same q y ≡ false
  apart q p y e l = by (part q p) refl e
    where
      by : (o : Ordering) → part q p ≡ o → ordering_then o (ordering_then (keys q p) (nat_cmp q p)) ≡ Less → same q y ≡ false
      by Less r e = ap is_eq (pt.trans q p y r l)
      by Equal r e = ap is_eq (pt.congr q p y r ∙ l)
      by Greater r e = cc

  none_of : (xs : List ℕ) (p y : ℕ) (zs : List ℕ) → InOrder (xs ++ p ∷ zs) → part p y ≡ Less → length (filter (λ q. same q y) xs) ≡ 0
  none_of [] p y zs h l = refl
  none_of (x ∷ xs) p y zs h l = ap (λ b. length (cond b (x ∷ filter (λ q. same q y) xs) (filter (λ q. same q y) xs))) (apart x p y (leads_at x xs p zs h.0) l) ∙ none_of xs p y zs h.1 l

  abbrev so_far : List ℕ → ℕ → ℕ
  so_far xs y = 1 + length (filter (λ q. same q y) xs)

  next : (xs : List ℕ) (p y : ℕ) (ys : List ℕ) → InOrder (xs ++ p ∷ y ∷ ys) → next_number (same p y) (so_far xs p) ≡ so_far (xs ++ p ∷ []) y
  next xs p y ys h = by (same p y) refl
    where
      equal_of : (o : Ordering) → is_eq o ≡ true → o ≡ Equal
      equal_of Less e = absurd (true≢false (sym e))
      equal_of Equal e = refl
      equal_of Greater e = absurd (true≢false (sym e))

      by : (b : Bool) → same p y ≡ b → next_number b (so_far xs p) ≡ so_far (xs ++ p ∷ []) y
      by true e =
          let k : length (filter (λ q. same q y) (xs ++ p ∷ [])) ≡ length (filter (λ q. same q y) xs) + 1 = count_last (λ q. same q y) xs p ∙ ap (λ b. length (filter (λ q. same q y) xs) + cond b 1 0) e in
          let m : length (filter (λ q. same q p) xs) ≡ length (filter (λ q. same q y) xs) = count_alike (λ q. same q p) (λ q. same q y) xs (λ q. ap is_eq (alike_right pt p y q (equal_of (part p y) e))) in
          omega (arith, k, m)
      by false e =
          let k : length (filter (λ q. same q y) (xs ++ p ∷ [])) ≡ length (filter (λ q. same q y) xs) + 0 = count_last (λ q. same q y) xs p ∙ ap (λ b. length (filter (λ q. same q y) xs) + cond b 1 0) e in
          let m : length (filter (λ q. same q y) xs) ≡ 0 = none_of xs p y (y ∷ ys) h (part_less p y (leads_at_last xs) e) in
          omega (arith, k, m)
        where
          leads_at_last : (xs : List ℕ) → cmp p y ≡ Less
          leads_at_last zs = (at_last xs p (y ∷ ys) h).0

  law : (all xs : List ℕ) (p : ℕ) (ys : List ℕ) → all ≡ xs ++ p ∷ ys → InOrder all → run_from same p (so_far xs p) ys ≡ map (number_at part keys all) ys
  law all xs p [] e h = refl
  law all xs p (y ∷ ys) e h =
      let o : InOrder (xs ++ p ∷ y ∷ ys) = subst InOrder e h in
      let f : all ≡ (xs ++ p ∷ []) ++ y ∷ ys = e ∙ sym (app xs p (y ∷ ys)) in
      let n : next_number (same p y) (so_far xs p) ≡ so_far (xs ++ p ∷ []) y = next xs p y ys o in
      let c : length (filter (test y) all) ≡ length (filter (λ q. same q y) (xs ++ p ∷ [])) = ap (λ z. length (filter (test y) z)) f ∙ cnt_at y (xs ++ p ∷ []) ys (subst InOrder f h) in
      λ i. (n ∙ ap (λ z. 1 + z) (sym c)) i ∷ (ap (λ z. run_from same y z ys) n ∙ law all (xs ++ p ∷ []) y ys f h) i

  pub runs_are : (order : List ℕ) → InOrder order → run_from same 0 0 order ≡ map (number_at part keys order) order
  runs_are [] h = refl
  runs_are (x ∷ xs) h =
      let n : next_number (same 0 x) 0 ≡ 1 = first (same 0 x) in
      let c : length (filter (test x) (x ∷ xs)) ≡ 0 = cnt_at x [] xs h in
      λ i. (n ∙ ap (λ z. 1 + z) (sym c)) i ∷ (ap (λ z. run_from same x z xs) n ∙ law (x ∷ xs) [] x xs refl h) i
    where
      first : (b : Bool) → next_number b 0 ≡ 1
      first true = refl
      first false = refl

  -- the same by any list that has the places
  pub numbers_are : (n : ℕ) (order : List ℕ) → IsPermutation (numbers_from 0 n) order → IsSorted (order_cmp part keys) order → run_from (λ a b. is_eq (part a b)) 0 0 order ≡ map (number_at part keys (numbers_from 0 n)) order
  numbers_are n order m s = runs_are order (sorted_order n order m s) ∙ each order
    where
      each : (xs : List ℕ) → map (number_at part keys order) xs ≡ map (number_at part keys (numbers_from 0 n)) xs
      each [] = refl
      each (x ∷ xs) = λ i. (1 + count_moved (test x) (numbers_from 0 n) order m i) ∷ each xs i

-- cells at places in order are cells at all places
each_of : {Y : Type 0} (f g : ℕ → Y) (xs : List ℕ) → map f xs ≡ map g xs → All (λ x. f x ≡ g x) xs
each_of f g [] e = All-nil (λ x. f x ≡ g x)
each_of f g (x ∷ xs) e = let p : (f x ≡ g x) × (map f xs ≡ map g xs) = split e in All-cons (λ x. f x ≡ g x) x xs p.0 (each_of f g xs p.1)
  where
    split : f x ∷ map f xs ≡ g x ∷ map g xs → (f x ≡ g x) × (map f xs ≡ map g xs)
    split e = (cc, cc)

all_each : {Y : Type 0} (f g : ℕ → Y) (xs : List ℕ) → All (λ x. f x ≡ g x) xs → map f xs ≡ map g xs
all_each f g [] h = refl
all_each f g (x ∷ xs) h = λ i. All-head (λ x. f x ≡ g x) x xs h i ∷ all_each f g xs (All-tail (λ x. f x ≡ g x) x xs h) i

pub scattered : (g : ℕ → Item) (n : ℕ) (order : List ℕ) (out : List Item) → IsPermutation (numbers_from 0 n) order → map (cell_of out) order ≡ map g order → length out ≡ length order → out ≡ map g (numbers_from 0 n)
scattered g n order out m e l =
    let many : length out ≡ n = l ∙ moved_long n order m in
    let all : map (cell_of out) (numbers_from 0 n) ≡ map g (numbers_from 0 n) = all_each (cell_of out) g (numbers_from 0 n) (All-permutation (λ x. cell_of out x ≡ g x) order (numbers_from 0 n) (IsPermutation-sym (numbers_from 0 n) order m) (each_of (cell_of out) g order e)) in
    sym (map_self out) ∙ sym (by_places no_cell (λ v. v) [] out) ∙ ap (λ k. map (cell_of out) (numbers_from 0 k)) many ∙ all

-- numbers are written each at its place
in_count : (xs : List ℕ) (i : ℕ) → i < length xs → 1 ≤ length (filter (nat_eq (slice_index xs i)) xs)
in_count [] i h = absurd (omega (arith, h))
in_count (x ∷ xs) zero h = ap_one (nat_eq x x) (eq-eqb x x refl)
  where
    ap_one : (b : Bool) → b ≡ true → 1 ≤ length (cond b (x ∷ filter (nat_eq x) xs) (filter (nat_eq x) xs))
    ap_one true e = omega arith
    ap_one false e = absurd (true≢false (sym e))
in_count (x ∷ xs) (suc i) h = by (nat_eq (slice_index xs i) x) (in_count xs i (omega (arith, h)))
  where
    by : (b : Bool) → 1 ≤ length (filter (nat_eq (slice_index xs i)) xs) → 1 ≤ length (cond b (x ∷ filter (nat_eq (slice_index xs i)) xs) (filter (nat_eq (slice_index xs i)) xs))
    by true r = omega arith
    by false r = r

earlier_none : (xs : List ℕ) (i : ℕ) → i < length xs → length (filter (nat_eq (slice_index xs i)) xs) ≤ 1 → length (filter (nat_eq (slice_index xs i)) (take i xs)) ≡ 0
earlier_none [] i h o = absurd (omega (arith, h))
earlier_none (x ∷ xs) zero h o = refl
earlier_none (x ∷ xs) (suc i) h o = by (nat_eq (slice_index xs i) x) o (in_count xs i (omega (arith, h))) (earlier_none xs i (omega (arith, h)))
  where
    by : (b : Bool) → length (cond b (x ∷ filter (nat_eq (slice_index xs i)) xs) (filter (nat_eq (slice_index xs i)) xs)) ≤ 1 → 1 ≤ length (filter (nat_eq (slice_index xs i)) xs)
        → (length (filter (nat_eq (slice_index xs i)) xs) ≤ 1 → length (filter (nat_eq (slice_index xs i)) (take i xs)) ≡ 0)
        → length (cond b (x ∷ filter (nat_eq (slice_index xs i)) (take i xs)) (filter (nat_eq (slice_index xs i)) (take i xs))) ≡ 0
    by true o k r = absurd (omega (arith, o, k))
    by false o k r = r o

unaffected : (out : List Item) (p : ℕ) (v : Item) (qs : List ℕ) → length (filter (nat_eq p) qs) ≡ 0 → map (cell_of (set out p v)) qs ≡ map (cell_of out) qs
unaffected out p v [] h = refl
unaffected out p v (q ∷ qs) h = by (nat_eq p q) refl h (unaffected out p v qs)
  where
    by : (b : Bool) → nat_eq p q ≡ b → length (cond b (q ∷ filter (nat_eq p) qs) (filter (nat_eq p) qs)) ≡ 0 → (length (filter (nat_eq p) qs) ≡ 0 → map (cell_of (set out p v)) qs ≡ map (cell_of out) qs) → cell_of (set out p v) q ∷ map (cell_of (set out p v)) qs ≡ cell_of out q ∷ map (cell_of out) qs
    by true e h r = absurd (omega (arith, h))
    by false e h r =
        let other : q ≢ p = λ s. true≢false (sym (eq-eqb p q (sym s)) ∙ e) in
        λ i. get_or-set_other out p q v no_cell other i ∷ r h i

pub scatter_turn : (order : List ℕ) (cells : List Item) (i : ℕ) (out : List Item) (v : Item) → v ≡ cell_of cells i → i < length order → length order ≡ length cells → AtMostOnce order → slice_index order i < length order → length out ≡ length order
    → map (cell_of out) (take i order) ≡ take i cells
    → (map (cell_of (set out (slice_index order i) v)) (take (i + 1) order) ≡ take (i + 1) cells) × (length (set out (slice_index order i) v) ≡ length order)
scatter_turn order cells i out v e h l once below long was =
    let p : ℕ = slice_index order i in
    let before : map (cell_of (set out p v)) (take i order) ≡ take i cells = unaffected out p v (take i order) (earlier_none order i h (once p)) ∙ was in
    let here : cell_of (set out p v) p ≡ v = get_or-set_same out p v no_cell (omega (arith, below, long)) in (
      ap (map (cell_of (set out p v))) (take_more order i 0 h) ∙ map_append (cell_of (set out p v)) (take i order) (p ∷ [])
          ∙ (λ j. before j ++ (here ∙ e) j ∷ [])
          ∙ sym (take_more cells i no_cell (omega (arith, h, l))),
      length-set out p v ∙ long,
    )

numbers_last : (k n : ℕ) → numbers_from k n ++ (k + n) ∷ [] ≡ numbers_from k (suc n)
numbers_last k zero = let e : k + 0 ≡ k = omega arith in ap (λ (z : ℕ). z ∷ []) e
numbers_last k (suc n) = let e : k + suc n ≡ suc k + n = omega arith in ap (λ (z : List ℕ). k ∷ z) (ap (λ z. numbers_from (suc k) n ++ z ∷ []) e ∙ numbers_last (suc k) n)

pub numbers_push : (n : ℕ) → numbers_from 0 n ++ n ∷ [] ≡ numbers_from 0 (n + 1)
numbers_push n =
    let e : n ≡ 0 + n = omega arith in
    let f : suc n ≡ n + 1 = omega arith in
    ap (λ z. numbers_from 0 n ++ z ∷ []) e ∙ numbers_last 0 n ∙ ap (numbers_from 0) f
