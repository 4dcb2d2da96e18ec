-- Literals, sequences and choices.
use Rattle.std.proofs.Common.{◌≡◌, ℕ, ◌+◌, ◌<◌, ◌≤◌, Bool, true, false, cond, not, ◌||◌, List, [], ◌∷◌, ◌++◌, map, refl, sym, ap, ◌∙◌, arith, add-zero, zero-add, nat_eq, nat_lt}
use Rattle.std.specs.List.{filter, flat_map, list_any}
use Rattle.std.proofs.lemmas.Bool.{lt-ltb, ne_eqb}
use Rattle.xq_base.specs.declared.fun.Fun.TheVariants as f'
use Rattle.plan_dag.specs.declared.pairs.Pair.{Pair}
use Rattle.plan_dag.specs.ItemRules.{Cell, cell_eq, is_true}
use Rattle.plan_dag.specs.Rows.{map_rows}
use Rattle.plan_dag.specs.Cells.{given}
use Rattle.std.proofs.Common.{Less, Equal, Greater, is_eq}
use Rattle.doc_table.specs.Items.{IntItem, TextItem, UntypedItem, BoolItem, NodeItem}
use Rattle.core_meaning.specs.Meaning.{holds}
use Rattle.plan_dag.specs.Meaning.{cell}
use Rattle.plan_dag.specs.Meaning.{cells as cells_at}
use Rattle.lift_laws.specs.Sums.{total, count, bit, AllOf, Ascends, Same}
use Rattle.lift_laws.specs.Iterations.{Row, Iter, num, item_rows, value_rows, loop_rows}
use Rattle.lift_laws.specs.States.{column, three, single}
use Rattle.lift_laws.specs.Shapes.{bare, pair, columns, pick, project, less, with_cell, four, five, literal_rows, seq_rows, placed_rows, second_rows, true_rows, chosen_rows, other_rows, restrict_rows, either_rows}
use Rattle.lift_laws.proofs.Numbers.{num_same}
use Rattle.lift_laws.proofs.Multi.{same-map, same-keep, same-of, same-trans, same-append, same-split, total-flat, total-map, total-ext, total-append, total-keep, total-sum}
use Rattle.lift_laws.proofs.Picks.{Picked, picks, map-map, map-flat, flat-all, all_each, all_mono, join_picks, total-all}
use Rattle.lift_laws.proofs.Regroup.{tagged, grid, regroup}
use Rattle.lift_laws.proofs.Loops.{same-join, rows_key}

flat_single : {A B : Type 0} (f : A → B) (xs : List A) → map f xs ≡ flat_map (λ x. f x ∷ []) xs
flat_single f [] = refl
flat_single f (x ∷ xs) = ap (λ l. f x ∷ l) (flat_single f xs)

-- a literal
pub literal_stands : (a : Cell) (its : List Iter) (l : List Row) → Same l (loop_rows its) → Same (literal_rows a l) (value_rows (λ i. a ∷ []) its)
literal_stands a its l s =
    same-trans (same-map (λ r. r ++ a ∷ []) (same-map (λ r. r ++ num 1 ∷ []) s))
    (same-of (ap (map (λ r. r ++ a ∷ [])) (map-map (λ r. r ++ num 1 ∷ []) (λ (i : Iter). num i.number ∷ []) its)
    ∙ map-map (λ r. r ++ a ∷ []) (λ (i : Iter). num i.number ∷ num 1 ∷ []) its
    ∙ flat_single (λ (i : Iter). num i.number ∷ num 1 ∷ a ∷ []) its))

pub empty_stands : (its : List Iter) → Same [] (value_rows (λ i. []) its)
empty_stands its = same-of (go its)
  where
    go : (js : List Iter) → [] ≡ value_rows (λ i. []) js
    go [] = refl
    go (j ∷ js) = go js

-- one list after the other
tag_items : (n k j : ℕ) (vs : List Cell) → map (λ r. r ++ num k ∷ []) (item_rows n j vs) ≡ tagged n k j vs
tag_items n k j [] = refl
tag_items n k j (v ∷ vs) = ap (λ l. (num n ∷ num j ∷ v ∷ num k ∷ []) ∷ l) (tag_items n k (j + 1) vs)

same_tagged : (n k j : ℕ) (vs : List Cell) → map (λ r. cells_at bare four four r) (tagged n k j vs) ≡ tagged n k j vs
same_tagged n k j [] = refl
same_tagged n k j (v ∷ vs) = ap (λ l. (num n ∷ num j ∷ v ∷ num k ∷ []) ∷ l) (same_tagged n k (j + 1) vs)

append_none : {A : Type 0} (xs : List A) → xs ++ [] ≡ xs
append_none [] = refl
append_none (x ∷ xs) = ap (λ l. x ∷ l) (append_none xs)

pub seq_stands : (f g : Iter → List Cell) (its : List Iter) (a b : List Row) → Ascends (λ i. i.number) 0 its → Same a (value_rows f its) → Same b (value_rows g its) → Same (seq_rows a b) (value_rows (λ i. f i ++ g i) its)
seq_stands f g its a b asc sa sb =
    let same_row = λ (r : Row). cells_at bare four four r in
    let ta = same-trans (same-map (λ r. r ++ num 1 ∷ []) sa) (same-of (map-flat (λ r. r ++ num 1 ∷ []) (λ i. item_rows i.number 1 (f i)) its ∙ flat-all _ (λ i. tagged i.number 1 1 (f i)) its (all_each _ (λ i. tag_items i.number 1 1 (f i)) its))) in
    let tb = same-trans (same-map same_row (same-map (λ r. r ++ num 2 ∷ []) sb))
    (same-of (ap (map same_row) (map-flat (λ r. r ++ num 2 ∷ []) (λ i. item_rows i.number 1 (g i)) its ∙ flat-all _ (λ i. tagged i.number 2 1 (g i)) its (all_each _ (λ i. tag_items i.number 2 1 (g i)) its))
    ∙ map-flat same_row (λ i. tagged i.number 2 1 (g i)) its
    ∙ flat-all _ (λ i. tagged i.number 2 1 (g i)) its (all_each _ (λ i. same_tagged i.number 2 1 (g i)) its))) in
    let both = same-trans (same-append ta tb) (same-split (λ i. tagged i.number 1 1 (f i)) (λ i. tagged i.number 2 1 (g i)) its) in
    let grids = flat-all _ (λ i. grid i.number 1 (f i ∷ g i ∷ [])) its (all_each _ (λ i. ap (λ l. tagged i.number 1 1 (f i) ++ l) (sym (append_none (tagged i.number 2 1 (g i))))) its) in
    same-trans (regroup (λ i. i.number) (λ i. f i ∷ g i ∷ []) its _ (picks (λ i. i.number) 0 its asc) (same-trans both (same-of grids)))
    (same-of (flat-all _ _ its (all_each _ (λ i. ap (λ l. item_rows i.number 1 (f i ++ l)) (append_none (g i))) its)))

-- whether a row has this cell
abbrev pub is_there : Cell → List Row → Bool
is_there v rs = list_any (λ r. cell_eq v (cell bare single (column 0) r)) rs

pub any_count : {A : Type 0} (p : A → Bool) (xs : List A) → list_any p xs ≡ nat_lt 0 (count p xs)
any_count p [] = refl
any_count p (x ∷ xs) =
    let h = any_count p xs in
    elim (p x) as (λ b. (b || list_any p xs) ≡ nat_lt 0 (bit b + count p xs)) [ true ↦ sym (lt-ltb 0 (1 + count p xs) (omega arith)) | false ↦ h ∙ ap (nat_lt 0) (sym (zero-add _)) ]

-- the iterations with a second item, told by the position
abbrev pub two_rows : List Row → List Row
two_rows c = project three (pair 0 0 ∷ []) (filter (λ r. cell_eq (cell bare three (column 1) r) (num 2)) c)

abbrev plain_rows : List Row → List Row
plain_rows c = less (true_rows c) (two_rows c)

-- a condition's one item
pub one_holds : (v : Cell) → holds (v ∷ []) ≡ is_true v
one_holds (IntItem z) = refl
one_holds (TextItem t) = refl
one_holds (UntypedItem t) = refl
one_holds (BoolItem b) = refl
one_holds (NodeItem n) = refl

pub two_hold : (v u : Cell) (vs : List Cell) → holds (v ∷ u ∷ vs) ≡ false
two_hold (IntItem z) u vs = refl
two_hold (TextItem t) u vs = refl
two_hold (UntypedItem t) u vs = refl
two_hold (BoolItem b) u vs = refl
two_hold (NodeItem n) u vs = refl

abbrev has_second : List Cell → Bool
has_second (v ∷ u ∷ vs) = true
has_second _ = false

none_second : (n k : ℕ) (vs : List Cell) → 2 < k → count (λ r. cell_eq (cell bare three (column 1) r) (num 2)) (item_rows n k vs) ≡ 0
none_second n k [] h = refl
none_second n k (v ∷ vs) h =
    let e : cell_eq (num k) (num 2) ≡ false = num_same k 2 ∙ ne_eqb k 2 (λ q. omega arith) in
    let r = none_second n (k + 1) vs (omega arith) in
    ap (λ b. bit b + count (λ q. cell_eq (cell bare three (column 1) q) (num 2)) (item_rows n (k + 1) vs)) e ∙ zero-add _ ∙ r

seconds : (n : ℕ) (vs : List Cell) → nat_lt 0 (count (λ r. cell_eq (cell bare three (column 1) r) (num 2)) (item_rows n 1 vs)) ≡ has_second vs
seconds n [] = refl
seconds n (v ∷ []) = refl
seconds n (v ∷ u ∷ vs) = ap (λ m. nat_lt 0 (0 + (1 + m))) (none_second n 3 vs (omega arith))

pub plain_stands : (f : Iter → List Cell) (its : List Iter) (c : List Row) → Ascends (λ i. i.number) 0 its → Same c (value_rows f its) → Same (plain_rows c) (loop_rows (filter (λ i. holds (f i)) its))
plain_stands f its c asc s = record {
  at = λ w.
      let out = λ (r : Row). not (is_there (cell bare single (column 0) r) (two_rows c)) in
      let one = pick three (pair 0 0 ∷ []) in
      let u = λ (r : Row). cond (out r) (w r) 0 in
      total-keep w out (true_rows c)
      ∙ total-map u one (filter (λ r. is_true (cell bare three (column 2) r)) c)
      ∙ total-keep (λ r. u (one r)) (λ r. is_true (cell bare three (column 2) r)) c
      ∙ s.at (λ r. cond (is_true (cell bare three (column 2) r)) (u (one r)) 0)
      ∙ total-flat (λ r. cond (is_true (cell bare three (column 2) r)) (u (one r)) 0) (λ i. item_rows i.number 1 (f i)) its
      ∙ total-all _ _ its (all_mono _ _ (λ i (h : Picked (λ (j : Iter). j.number) its i).
      items w i.number 1 (f i)
      ∙ ap (λ b. total (λ r. cond (is_true (cell bare three (column 2) r)) (cond (not b) (w (num i.number ∷ [])) 0) 0) (item_rows i.number 1 (f i))) (there i h)
      ∙ few w i.number (f i)) its (picks (λ i. i.number) 0 its asc))
      ∙ sym (total-keep (λ (i : Iter). w (num i.number ∷ [])) (λ i. holds (f i)) its)
      ∙ sym (total-map w (λ (i : Iter). num i.number ∷ []) (filter (λ i. holds (f i)) its));
}
  where
    -- within one iteration the test is one
    items : (w : Row → ℕ) (n k : ℕ) (vs : List Cell) → total (λ r. cond (is_true (cell bare three (column 2) r)) (cond (not (is_there (cell bare three (column 0) r) (two_rows c))) (w (pick three (pair 0 0 ∷ []) r)) 0) 0) (item_rows n k vs) ≡ total (λ r. cond (is_true (cell bare three (column 2) r)) (cond (not (is_there (num n) (two_rows c))) (w (num n ∷ [])) 0) 0) (item_rows n k vs)
    items w n k [] = refl
    items w n k (v ∷ vs) = ap (λ t. cond (is_true v) (cond (not (is_there (num n) (two_rows c))) (w (num n ∷ [])) 0) 0 + t) (items w n (k + 1) vs)

    few : (w : Row → ℕ) (n : ℕ) (vs : List Cell) → total (λ r. cond (is_true (cell bare three (column 2) r)) (cond (not (has_second vs)) (w (num n ∷ [])) 0) 0) (item_rows n 1 vs) ≡ cond (holds vs) (w (num n ∷ [])) 0
    few w n [] = refl
    few w n (v ∷ []) = add-zero _ ∙ ap (λ b. cond b (w (num n ∷ [])) 0) (sym (one_holds v))
    few w n (v ∷ u ∷ vs) = none (item_rows n 1 (v ∷ u ∷ vs)) ∙ ap (λ b. cond b (w (num n ∷ [])) 0) (sym (two_hold v u vs))
      where
        none : (rs : List Row) → total (λ r. cond (is_true (cell bare three (column 2) r)) (cond false (w (num n ∷ [])) 0) 0) rs ≡ 0
        none [] = refl
        none (r ∷ rs) = ap (λ m. m + total (λ q. cond (is_true (cell bare three (column 2) q)) 0 0) rs) (elim (is_true (cell bare three (column 2) r)) as (λ b. cond {A = ℕ} b 0 0 ≡ 0) [ true ↦ refl | false ↦ refl ]) ∙ zero-add _ ∙ none rs

    at_number : (b d : Bool) → cond b (bit d) 0 ≡ cond d (bit b) 0
    at_number true true = refl
    at_number true false = refl
    at_number false true = refl
    at_number false false = refl

    second_at : (d : Bool) (n k : ℕ) (vs : List Cell) → total (λ r. cond (cell_eq (cell bare three (column 1) r) (num 2)) (bit d) 0) (item_rows n k vs) ≡ cond d (count (λ r. cell_eq (cell bare three (column 1) r) (num 2)) (item_rows n k vs)) 0
    second_at true n k vs = refl
    second_at false n k [] = refl
    second_at false n k (v ∷ vs) = ap (λ m. m + total (λ r. cond (cell_eq (cell bare three (column 1) r) (num 2)) 0 0) (item_rows n (k + 1) vs)) (elim (cell_eq (num k) (num 2)) as (λ b. cond {A = ℕ} b 0 0 ≡ 0) [ true ↦ refl | false ↦ refl ]) ∙ zero-add _ ∙ second_at false n (k + 1) vs

    number_at : (m : Cell) (n k : ℕ) (vs : List Cell) → total (λ r. cond (cell_eq (cell bare three (column 1) r) (num 2)) (bit (cell_eq m (cell bare three (column 0) r))) 0) (item_rows n k vs) ≡ total (λ r. cond (cell_eq (cell bare three (column 1) r) (num 2)) (bit (cell_eq m (num n))) 0) (item_rows n k vs)
    number_at m n k [] = refl
    number_at m n k (v ∷ vs) = ap (λ t. cond (cell_eq (num k) (num 2)) (bit (cell_eq m (num n))) 0 + t) (number_at m n (k + 1) vs)

    there : (i : Iter) → Picked (λ (j : Iter). j.number) its i → is_there (num i.number) (two_rows c) ≡ has_second (f i)
    there i h =
        let hit = λ (r : Row). bit (cell_eq (num i.number) (cell bare single (column 0) r)) in
        let two = λ (r : Row). cell_eq (cell bare three (column 1) r) (num 2) in
        any_count (λ (r : Row). cell_eq (num i.number) (cell bare single (column 0) r)) (two_rows c)
        ∙ ap (nat_lt 0)
        (total-map hit (pick three (pair 0 0 ∷ [])) (filter two c)
        ∙ total-keep (λ r. hit (pick three (pair 0 0 ∷ []) r)) two c
        ∙ s.at (λ r. cond (two r) (hit (pick three (pair 0 0 ∷ []) r)) 0)
        ∙ total-flat (λ r. cond (two r) (hit (pick three (pair 0 0 ∷ []) r)) 0) (λ j. item_rows j.number 1 (f j)) its
        ∙ total-ext _ _ its (λ j. number_at (num i.number) j.number 1 (f j) ∙ second_at (cell_eq (num i.number) (num j.number)) j.number 1 (f j) ∙ ap (λ b. cond b (count two (item_rows j.number 1 (f j))) 0) (num_same i.number j.number))
        ∙ h (λ j. count two (item_rows j.number 1 (f j))))
        ∙ seconds i.number (f i)

-- as operators make it: a `map` with 2 beside the position, and a `select`
abbrev with_test : Row → List Row
with_test r = map_rows bare f'.Eq (cells_at bare four (column 1 ∷ column 3 ∷ [])) (r ∷ [])

abbrev passed : Row → Bool
passed r = is_true (cell bare five (column 4) r)

told : (j k : ℕ) → not (nat_lt j k || nat_lt k j) ≡ cell_eq (num j) (num k)
told j k = at (nat_lt j k) (nat_lt k j)
  where
    at : (a b : Bool) → not (a || b) ≡ is_eq (cond a Less (cond b Greater Equal))
    at true b = refl
    at false true = refl
    at false false = refl

one_by_one : (rs : List Row) → map_rows bare f'.Eq (cells_at bare four (column 1 ∷ column 3 ∷ [])) rs ≡ flat_map with_test rs
one_by_one [] = refl
one_by_one (r ∷ rs) = let e = one_by_one rs in let a = append_none (map (λ v. r ++ v ∷ []) (given (bare.value f'.Eq (cells_at bare four (column 1 ∷ column 3 ∷ []) r)))) in cc

-- the rows at a position, told by a test
pub place_stands : (k : ℕ) (ps : List Pair) → ((n j : ℕ) (v x y : Cell) → pick five ps (num n ∷ num j ∷ v ∷ x ∷ y ∷ []) ≡ pick three ps (num n ∷ num j ∷ v ∷ [])) → (f : Iter → List Cell) (its : List Iter) (c : List Row) → Same c (value_rows f its)
    → Same (placed_rows k ps c) (project three ps (filter (λ r. cell_eq (cell bare three (column 1) r) (num k)) c))
place_stands k ps same f its c s = record {
  at = λ w.
      let out = pick five ps in
      let u = λ (r : Row). cond (passed r) (w (out r)) 0 in
      let v = λ (r : Row). cond (cell_eq (cell bare three (column 1) r) (num k)) (w (pick three ps r)) 0 in
      total-map w out (filter passed (map_rows bare f'.Eq (cells_at bare four (column 1 ∷ column 3 ∷ [])) (with_cell (num k) c)))
      ∙ total-keep (λ r. w (out r)) passed (map_rows bare f'.Eq (cells_at bare four (column 1 ∷ column 3 ∷ [])) (with_cell (num k) c))
      ∙ ap (total u) (one_by_one (with_cell (num k) c))
      ∙ total-flat u with_test (with_cell (num k) c)
      ∙ total-map (λ r. total u (with_test r)) (λ r. r ++ num k ∷ []) c
      ∙ s.at (λ r. total u (with_test (r ++ num k ∷ [])))
      ∙ total-flat (λ r. total u (with_test (r ++ num k ∷ []))) (λ i. item_rows i.number 1 (f i)) its
      ∙ total-ext _ _ its (λ i. items w i.number 1 (f i))
      ∙ sym (total-flat v (λ i. item_rows i.number 1 (f i)) its)
      ∙ sym (s.at v)
      ∙ sym (total-map w (pick three ps) (filter (λ r. cell_eq (cell bare three (column 1) r) (num k)) c) ∙ total-keep (λ r. w (pick three ps r)) (λ r. cell_eq (cell bare three (column 1) r) (num k)) c);
}
  where
    items : (w : Row → ℕ) (n j : ℕ) (vs : List Cell) → total (λ r. total (λ q. cond (passed q) (w (pick five ps q)) 0) (with_test (r ++ num k ∷ []))) (item_rows n j vs) ≡ total (λ r. cond (cell_eq (cell bare three (column 1) r) (num k)) (w (pick three ps r)) 0) (item_rows n j vs)
    items w n j [] = refl
    items w n j (v ∷ vs) =
        let b = not (nat_lt j k || nat_lt k j) in
        let x = w (pick five ps (num n ∷ num j ∷ v ∷ num k ∷ BoolItem b ∷ [])) in
        let rest = total (λ r. cond (cell_eq (cell bare three (column 1) r) (num k)) (w (pick three ps r)) 0) (item_rows n (j + 1) vs) in
        ap (λ t. cond b x 0 + 0 + t) (items w n (j + 1) vs)
        ∙ ap (λ t. t + rest) (add-zero (cond b x 0) ∙ ap (λ d. cond d x 0) (told j k) ∙ ap (λ q. cond (cell_eq (num j) (num k)) (w q) 0) (same n j v (num k) (BoolItem b)))

pub second_stands : (f : Iter → List Cell) (its : List Iter) (c : List Row) → Same c (value_rows f its) → Same (second_rows c) (two_rows c)
second_stands f its c s = place_stands 2 (pair 0 0 ∷ []) (λ n j v x y. refl) f its c s

-- a difference looks at what stands right, wherever it stands
pub less_same : (ls rs qs : List Row) → Same rs qs → less ls rs ≡ less ls qs
less_same [] rs qs s = refl
less_same (l ∷ ls) rs qs s =
    let v = cell bare single (column 0) l in
    let p = λ (r : Row). cell_eq v (cell bare single (column 0) r) in
    let e = any_count p rs ∙ ap (nat_lt 0) (s.at (λ r. bit (p r))) ∙ sym (any_count p qs) in
    ap (λ d. cond (not d) (l ∷ less ls rs) (less ls rs)) e
    ∙ ap (λ xs. cond (not (list_any p qs)) (l ∷ xs) xs) (less_same ls rs qs s)

pub chosen_stands : (f : Iter → List Cell) (its : List Iter) (c : List Row) → Ascends (λ i. i.number) 0 its → Same c (value_rows f its) → Same (chosen_rows c) (loop_rows (filter (λ i. holds (f i)) its))
chosen_stands f its c asc s = same-trans (same-of (less_same (true_rows c) _ _ (second_stands f its c s))) (plain_stands f its c asc s)

-- the others
pub keep_ascends : (p : Iter → Bool) (n : ℕ) (its : List Iter) → Ascends (λ i. i.number) n its → Ascends (λ i. i.number) n (filter p its)
keep_ascends p n [] a = tt
keep_ascends p n (i ∷ its) a =
    elim (p i) as (λ b. Ascends (λ j. j.number) n (cond b (i ∷ filter p its) (filter p its))) [
      | true ↦ (a.0, keep_ascends p i.number its a.1)
      | false ↦ lower n i.number (filter p its) (let h = a.0 in omega arith) (keep_ascends p i.number its a.1)
    ]
  where
    lower : (m k : ℕ) (js : List Iter) → m ≤ k → Ascends (λ j. j.number) k js → Ascends (λ j. j.number) m js
    lower m k [] le b = tt
    lower m k (j ∷ js) le b = ((let h = b.0 in omega arith), b.1)

-- a variable's table, for some of the iterations
keep_all : {A : Type 0} (P : A → Type 0) (p : A → Bool) (xs : List A) → AllOf P xs → AllOf P (filter p xs)
keep_all P p [] a = tt
keep_all P p (x ∷ xs) a =
    let r = keep_all P p xs a.1 in
    elim (p x) as (λ b. AllOf P (cond b (x ∷ filter p xs) (filter p xs))) [ true ↦ (a.0, r) | false ↦ r ]

restrict_items : (n k : ℕ) (vs : List Cell) → map (λ r. pick (columns (4 ∷ 0 ∷ 1 ∷ 2 ∷ [])) (pair 0 0 ∷ pair 1 1 ∷ pair 2 2 ∷ []) ((num n ∷ []) ++ r)) (item_rows n k vs) ≡ item_rows n k vs
restrict_items n k [] = refl
restrict_items n k (v ∷ vs) = ap (λ l. (num n ∷ num k ∷ v ∷ []) ∷ l) (restrict_items n (k + 1) vs)

pub restrict_stands : (p : Iter → Bool) (g : Iter → List Cell) (its : List Iter) (l v : List Row) → Ascends (λ i. i.number) 0 its → Same l (loop_rows (filter p its)) → Same v (value_rows g its) → Same (restrict_rows l v) (value_rows g (filter p its))
restrict_stands p g its l v a s e =
    let out = pick (columns (4 ∷ 0 ∷ 1 ∷ 2 ∷ [])) (pair 0 0 ∷ pair 1 1 ∷ pair 2 2 ∷ []) in
    let side = λ (i : Iter). num i.number ∷ [] in
    let js = filter p its in
    let left : Same (project single (pair 4 0 ∷ []) l) (map side js) =
    same-trans (same-map (pick single (pair 4 0 ∷ [])) s) (same-of (map-map (pick single (pair 4 0 ∷ [])) side js)) in
    let joins = join_picks (λ i. i.number) (λ (i : Iter). i) side (λ i. item_rows i.number 1 (g i)) (cell bare (columns (4 ∷ [])) (column 4)) (cell bare three (column 0)) (λ i. refl) (λ i. rows_key i.number 1 (g i)) js its (keep_all _ p its (picks (λ i. i.number) 0 its a)) in
    same-trans (same-map out (same-trans (same-join (columns (4 ∷ [])) three (column 4) (column 0) left e) joins))
    (same-of (map-flat out (λ i. map (λ r. side i ++ r) (item_rows i.number 1 (g i))) js
    ∙ flat-all _ _ js (all_each _ (λ i. map-map out (λ r. side i ++ r) (item_rows i.number 1 (g i)) ∙ restrict_items i.number 1 (g i)) js)))

-- both branches together
pub same_items : (n k : ℕ) (vs : List Cell) → map (λ r. cells_at bare three three r) (item_rows n k vs) ≡ item_rows n k vs
same_items n k [] = refl
same_items n k (v ∷ vs) = ap (λ l. (num n ∷ num k ∷ v ∷ []) ∷ l) (same_items n (k + 1) vs)

pub either_stands : (p : Iter → Bool) (f g : Iter → List Cell) (its : List Iter) (a b : List Row) → Same a (value_rows f (filter p its)) → Same b (value_rows g (filter (λ i. not (p i)) its)) → Same (either_rows a b) (value_rows (λ i. cond (p i) (f i) (g i)) its)
either_stands p f g its a b sa sb =
    let same_row = λ (r : Row). cells_at bare three three r in
    let q = λ (i : Iter). not (p i) in
    let fr = λ (i : Iter). item_rows i.number 1 (f i) in
    let gr = λ (i : Iter). item_rows i.number 1 (g i) in
    let sb' = same-trans (same-map same_row sb) (same-of (map-flat same_row gr (filter q its) ∙ flat-all _ gr (filter q its) (all_each _ (λ i. same_items i.number 1 (g i)) (filter q its)))) in
    same-trans (same-append sa sb') (record {
      at = λ w.
          total-append w (value_rows f (filter p its)) (value_rows g (filter q its))
          ∙ ap (λ n. n + total w (value_rows g (filter q its))) (total-flat w fr (filter p its) ∙ total-keep (λ i. total w (fr i)) p its)
          ∙ ap (λ n. total (λ i. cond (p i) (total w (fr i)) 0) its + n) (total-flat w gr (filter q its) ∙ total-keep (λ i. total w (gr i)) q its)
          ∙ sym (total-sum (λ i. cond (p i) (total w (fr i)) 0) (λ i. cond (q i) (total w (gr i)) 0) its)
          ∙ total-ext _ _ its (λ i. elim (p i) as (λ t. cond t (total w (fr i)) 0 + cond (not t) (total w (gr i)) 0 ≡ total w (item_rows i.number 1 (cond t (f i) (g i)))) [ true ↦ add-zero _ | false ↦ zero-add _ ])
          ∙ sym (total-flat w (λ i. item_rows i.number 1 (cond (p i) (f i) (g i))) its);
    })

-- iterations without rows may be left out
pub left_out : (p : Iter → Bool) (f : Iter → List Cell) → ((i : Iter) → p i ≡ false → f i ≡ []) → (its : List Iter) → value_rows f its ≡ value_rows f (filter p its)
left_out p f none [] = refl
left_out p f none (i ∷ its) = go (p i) refl (left_out p f none its)
  where
    go : (b : Bool) → p i ≡ b → value_rows f its ≡ value_rows f (filter p its) → item_rows i.number 1 (f i) ++ value_rows f its ≡ value_rows f (cond (p i) (i ∷ filter p its) (filter p its))
    go true e r = ap (λ l. item_rows i.number 1 (f i) ++ l) r ∙ sym (ap (λ b. value_rows f (cond b (i ∷ filter p its) (filter p its))) e)
    go false e r = ap (λ vs. item_rows i.number 1 vs ++ value_rows f its) (none i e) ∙ r ∙ sym (ap (λ b. value_rows f (cond b (i ∷ filter p its) (filter p its))) e)

pub other_stands : (p : Iter → Bool) (its : List Iter) (l c : List Row) → Ascends (λ i. i.number) 0 its → Same l (loop_rows its) → Same c (loop_rows (filter p its)) → Same (other_rows l c) (loop_rows (filter (λ i. not (p i)) its))
other_stands p its l c a sl sc =
    let out = λ (r : Row). not (is_there (cell bare single (column 0) r) c) in
    same-trans (same-keep out sl) (record {
      at = λ w.
          total-keep w out (loop_rows its)
          ∙ total-map (λ r. cond (out r) (w r) 0) (λ (i : Iter). num i.number ∷ []) its
          ∙ total-all _ _ its (all_mono _ _ (λ i (h : Picked (λ (j : Iter). j.number) its i). ap (λ b. cond (not b) (w (num i.number ∷ [])) 0) (found i h)) its (picks (λ i. i.number) 0 its a))
          ∙ sym (total-keep (λ (i : Iter). w (num i.number ∷ [])) (λ i. not (p i)) its)
          ∙ sym (total-map w (λ (i : Iter). num i.number ∷ []) (filter (λ i. not (p i)) its));
    })
  where
    one_bit : (b : Bool) → nat_lt 0 (cond b 1 0) ≡ b
    one_bit true = refl
    one_bit false = refl

    swap : (x y : Bool) → cond x (bit y) 0 ≡ cond y (cond x 1 0) 0
    swap true true = refl
    swap true false = refl
    swap false true = refl
    swap false false = refl

    found : (i : Iter) → Picked (λ (j : Iter). j.number) its i → is_there (num i.number) c ≡ p i
    found i h =
        let hit = λ (r : Row). bit (cell_eq (num i.number) (cell bare single (column 0) r)) in
        any_count (λ (r : Row). cell_eq (num i.number) (cell bare single (column 0) r)) c
        ∙ ap (nat_lt 0)
        (sc.at hit
        ∙ total-map hit (λ (j : Iter). num j.number ∷ []) (filter p its)
        ∙ total-keep (λ (j : Iter). bit (cell_eq (num i.number) (num j.number))) p its
        ∙ total-ext _ _ its (λ j. ap (λ b. cond (p j) (bit b) 0) (num_same i.number j.number) ∙ swap (p j) (nat_eq i.number j.number))
        ∙ h (λ j. cond (p j) 1 0))
        ∙ one_bit (p i)
