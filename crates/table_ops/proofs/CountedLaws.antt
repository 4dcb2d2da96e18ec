-- How many rows a join and a range have.
use Rattle.std.proofs.Common.{◌≡◌, ◌∙◌, ◌<◌, ◌≤◌, ◌+◌, ◌++◌, ◌∷◌, [], ℕ, zero, suc, ℤ, pos, negsuc, ◌+ℤ◌, ◌-ℤ◌, ◌≤ℤ◌, ◌<ℤ◌, Bool, true, false, cond, List, length, map, drop, refl, sym, ap, arith, Some}
use Rattle.std.specs.Prelude.{slice_index_or, unsigned_abs}
use Rattle.std.specs.List.{filter}
use Rattle.std.proofs.Math.Seq.{drop-cons}
use Rattle.std.proofs.lemmas.Int.{ints}
use Rattle.xq_base.specs.declared.item.Item.{Item}
use Rattle.plan_dag.specs.declared.cols.Col.{Col}
use Rattle.plan_dag.specs.Meaning.{Table, cell_or}
use Rattle.plan_dag.specs.Rows.{joined, range_rows, ints_between, ints_from, not_negative}
use Rattle.table_ops.specs.Chains.{places_of}
use Rattle.table_ops.specs.Columns.{cells_at, no_cell}
use Rattle.table_ops.specs.Counts.{pairs_count, ints_count}
use Rattle.table_ops.specs.Held.{kept}
use Rattle.table_ops.specs.Keys.{item_eq}
use Rattle.table_ops.specs.Ranges.{ints_of}
use Rattle.table_ops.proofs.RangeLaws.{count_end}
use Rattle.table_ops.proofs.AggregateLaws.{places_short}
use Rattle.table_ops.proofs.Lists.{map_long, long_append}

-- as many places as values that pass
places_long : {X Y : Type 0} (test : Y → Bool) (g : X → Y) (k : ℕ) (xs : List X) → length (places_of test k (map g xs)) ≡ length (filter (λ x. test (g x)) xs)
places_long test g k [] = refl
places_long test g k (x ∷ xs) = by (test (g x)) (places_long test g (suc k) xs)
  where
    by : (b : Bool) → length (places_of test (suc k) (map g xs)) ≡ length (filter (λ x. test (g x)) xs) → length (cond b (k ∷ places_of test (suc k) (map g xs)) (places_of test (suc k) (map g xs))) ≡ length (cond b (x ∷ filter (λ x. test (g x)) xs) (filter (λ x. test (g x)) xs))
    by true e = ap suc e
    by false e = e

pub join_long : (f g : List Item → Item) (ls rs : List (List Item)) → pairs_count (map g rs) (map f ls) ≡ length (joined kept f g ls rs)
join_long f g [] rs = refl
join_long f g (l ∷ ls) rs =
    (λ i. (places_long (item_eq (f l)) g 0 rs ∙ sym (map_long (λ r. l ++ r) (filter (λ r. item_eq (f l) (g r)) rs))) i + join_long f g ls rs i)
    ∙ sym (long_append (map (λ r. l ++ r) (filter (λ r. item_eq (f l) (g r)) rs)) (joined kept f g ls rs))

pub join_counted : (l q : Table Item) (a b : Col) (index cells : List Item) (n : ℕ) → index ≡ cells_at q.cols b q.rows → cells ≡ cells_at l.cols a l.rows → n ≡ pairs_count index cells → n ≡ length (joined kept (cell_or no_cell l.cols a) (cell_or no_cell q.cols b) l.rows q.rows)
join_counted l q a b index cells n i_is c_is e = e ∙ (λ i. pairs_count (i_is i) (c_is i)) ∙ join_long (cell_or no_cell l.cols a) (cell_or no_cell q.cols b) l.rows q.rows

pub pairs_turn : (index cells : List Item) (p : ℕ) (d : Item) (total n more all : ℕ) → p < length cells → n ≡ length (places_of (item_eq (slice_index_or cells p d)) 0 index) → more ≡ total + n → total + pairs_count index (drop p cells) ≡ all → more + pairs_count index (drop (p + 1) cells) ≡ all
pairs_turn index cells p d total n more all l e m was =
    let one : p + 1 ≡ suc p = omega arith in
    let here : pairs_count index (drop p cells) ≡ length (places_of (item_eq (slice_index_or cells p d)) 0 index) + pairs_count index (drop (suc p) cells) = ap (pairs_count index) (drop-cons cells p d l) in
    let there : pairs_count index (drop (p + 1) cells) ≡ pairs_count index (drop (suc p) cells) = ap (λ k. pairs_count index (drop k cells)) one in
    omega (arith, here, there, e, m, was)

pub equal_few : (index : List Item) (c : Item) (ps : List ℕ) (n : ℕ) → ps ≡ places_of (item_eq c) 0 index → length index < n → length ps < n
equal_few index c ps n e l = omega (arith, ap (λ (z : List ℕ). length z) e, places_short (item_eq c) 0 index, l)

-- integers
ints_long : (z : ℤ) (n : ℕ) → length (ints_from z n) ≡ n
ints_long z zero = refl
ints_long z (suc n) = ap suc (ints_long (z +ℤ pos 1) n)

pub count_none : (low high : ℤ) → high <ℤ low → 0 ≡ length (ints_between (Some low) (Some high))
count_none low high l = sym (ap (λ (z : List ℤ). length z) (count_end low high l))

one_more : (z : ℤ) → pos 0 ≤ℤ z → unsigned_abs z + 1 ≡ not_negative (z +ℤ pos 1)
one_more (pos n) l = refl
one_more (negsuc n) l = absurd (omega (arith, ints, l))

pub count_some : (low high : ℤ) → low ≤ℤ high → unsigned_abs (high -ℤ low) + 1 ≡ length (ints_between (Some low) (Some high))
count_some low high l = one_more (high -ℤ low) (omega (arith, ints, l)) ∙ sym (ints_long low (not_negative (high -ℤ low +ℤ pos 1)))

pub range_long : (f g : List Item → Item) (rows : List (List Item)) → ints_count (map f rows) (map g rows) ≡ length (range_rows kept f g rows)
range_long f g [] = refl
range_long f g (r ∷ rows) =
    (λ i. sym (map_long (λ z. r ++ kept.int z ∷ []) (ints_of (f r) (g r))) i + range_long f g rows i)
    ∙ sym (long_append (map (λ z. r ++ kept.int z ∷ []) (ints_of (f r) (g r))) (range_rows kept f g rows))

pub range_counted : (t : Table Item) (a b : Col) (lows highs : List Item) (n : ℕ) → lows ≡ cells_at t.cols a t.rows → highs ≡ cells_at t.cols b t.rows → n ≡ ints_count lows highs → n ≡ length (range_rows kept (cell_or no_cell t.cols a) (cell_or no_cell t.cols b) t.rows)
range_counted t a b lows highs n l_is h_is e = e ∙ (λ i. ints_count (l_is i) (h_is i)) ∙ range_long (cell_or no_cell t.cols a) (cell_or no_cell t.cols b) t.rows

pub ints_turn : (lows highs : List Item) (p : ℕ) (d e : Item) (total n more all : ℕ) → p < length lows → p < length highs → n ≡ length (ints_of (slice_index_or lows p d) (slice_index_or highs p e)) → more ≡ total + n → total + ints_count (drop p lows) (drop p highs) ≡ all
    → more + ints_count (drop (p + 1) lows) (drop (p + 1) highs) ≡ all
ints_turn lows highs p d e total n more all l k f m was =
    let one : p + 1 ≡ suc p = omega arith in
    let here : ints_count (drop p lows) (drop p highs) ≡ length (ints_of (slice_index_or lows p d) (slice_index_or highs p e)) + ints_count (drop (suc p) lows) (drop (suc p) highs) = (λ i. ints_count (drop-cons lows p d l i) (drop-cons highs p e k i)) in
    let there : ints_count (drop (p + 1) lows) (drop (p + 1) highs) ≡ ints_count (drop (suc p) lows) (drop (suc p) highs) = ap (λ k. ints_count (drop k lows) (drop k highs)) one in
    omega (arith, here, there, f, m, was)
