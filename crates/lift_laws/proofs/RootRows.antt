-- The items of a root whose rows are those of one value: the value's cells in their order.
use Rattle.std.proofs.Common.{◌≡◌, ℕ, ◌+◌, ◌<◌, ◌≤◌, Bool, true, false, cond, not, ◌&&◌, ◌||◌, List, [], ◌∷◌, map, refl, sym, ap, ◌∙◌, arith, nat_lt, pos}
use Rattle.std.proofs.lemmas.Bool.{lt-ltb, ltb-true, ltb-false, and_parts, and_from}
use Rattle.xq_base.specs.Texts.{Text}
use Rattle.doc_table.specs.Items.{IntItem}
use Rattle.doc_table.specs.NodeRules.{Docs}
use Rattle.doc_table.specs.Orders.{put, in_order}
use Rattle.plan_dag.specs.ItemRules.{Cell, cell_eq, cell_less, item_rules}
use Rattle.plan_dag.specs.Meaning.{Table, cell_or, root_less, root_items}
use Rattle.lift_laws.specs.Sums.{bit, AllOf, Same}
use Rattle.lift_laws.specs.Iterations.{Row, num, item_rows}
use Rattle.lift_laws.specs.States.{column, three}
use Rattle.lift_laws.proofs.Numbers.{cell_eq_self, num_is}
use Rattle.lift_laws.proofs.Multi.{same-trans}
use Rattle.lift_laws.proofs.Picks.{all_mono}
use Rattle.lift_laws.proofs.Once.{Sorted, put_total, put_all}
use Rattle.lift_laws.proofs.WholeCells.{row_eq, row_sound, row_self, same_tested, counted}

-- an iteration, a position and an item of a row
abbrev col_in : ℕ → Row → Cell
col_in n r = cell_or (IntItem (pos 0)) three (column n) r

abbrev nat_in : Cell → ℕ
nat_in (IntItem (pos n)) = n
nat_in _ = 0

abbrev place : Row → ℕ
place r = nat_in (col_in 1 r)

-- the row is of iteration 1, and its position is a number
abbrev is_proper : Row → Bool
is_proper r = cell_eq (num 1) (col_in 0 r) && cell_eq (num (place r)) (col_in 1 r)

abbrev Proper : Row → Type 0
Proper r = (col_in 0 r ≡ num 1) × (col_in 1 r ≡ num (place r))

proper_row : (r : Row) → is_proper r ≡ true → Proper r
proper_row r e =
    let p = and_parts (cell_eq (num 1) (col_in 0 r)) (cell_eq (num (place r)) (col_in 1 r)) e in
    (num_is 1 (col_in 0 r) p.0, num_is (place r) (col_in 1 r) p.1)

-- insertion by position
abbrev before : Row → Row → Bool
before q r = nat_lt (place q) (place r)

-- none is before what stands before it
abbrev Climbs : List Row → Type 0
Climbs [] = Unit {0}
Climbs (y ∷ ys) = AllOf (λ z. place y ≤ place z) ys × Climbs ys

put_climbs : (x : Row) (ys : List Row) → Climbs ys → Climbs (put before x ys)
put_climbs x [] s = (tt, tt)
put_climbs x (y ∷ ys) s = go (before y x) refl (put_climbs x ys s.1)
  where
    go : (b : Bool) → before y x ≡ b → Climbs (put before x ys) → Climbs (cond b (y ∷ put before x ys) (x ∷ y ∷ ys))
    go true p r = let l = ltb-true (place y) (place x) p in (put_all before before (λ z. place y ≤ place z) x ys (omega arith) s.0, r)
    go false p r = let l = ltb-false (place y) (place x) p in ((omega arith, all_mono _ _ (λ z (q : place y ≤ place z). let w : place x ≤ place z = omega arith in w) ys s.0), s)

climbs : (xs : List Row) → Climbs (in_order before xs)
climbs [] = tt
climbs (x ∷ xs) = put_climbs x (in_order before xs) (climbs xs)

order_same : (xs : List Row) → Same (in_order before xs) xs
order_same [] = record { at = λ w. refl }
order_same (x ∷ xs) = record { at = λ w. let r = (order_same xs).at w in put_total before before w x (in_order before xs) ∙ ap (λ n. w x + n) r }

rest_same : (x y : Row) (xs ys : List Row) → x ≡ y → Same (x ∷ xs) (y ∷ ys) → Same xs ys
rest_same x y xs ys e s = record { at = λ w. let h = s.at w in let k = ap w e in omega arith }

-- a list that climbs is the one that strictly climbs and has the same rows
one_order : (xs ys : List Row) → Climbs xs → Sorted before ys → Same xs ys → xs ≡ ys
one_order [] [] lx sy s = refl
one_order [] (y ∷ ys) lx sy s = absurd (let h = s.at (λ r. 1) in omega arith)
one_order (x ∷ xs) [] lx sy s = absurd (let h = s.at (λ r. 1) in omega arith)
one_order (x ∷ xs) (y ∷ ys) lx sy s = go (row_eq x y) refl (row_eq y x) refl (λ e. one_order xs ys lx.1 sy.1 (rest_same x y xs ys e s))
  where
    go : (b : Bool) → row_eq x y ≡ b → (d : Bool) → row_eq y x ≡ d → (x ≡ y → xs ≡ ys) → (x ∷ xs) ≡ (y ∷ ys)
    go true e d f r = let k = row_sound x y e in ap (λ z. z ∷ xs) k ∙ ap (λ l. y ∷ l) (r k)
    go false e true f r = let k = sym (row_sound y x f) in ap (λ z. z ∷ xs) k ∙ ap (λ l. y ∷ l) (r k)
    go false e false f r =
        let a = s.at (λ z. bit (row_eq x z)) in
        let a0 = ap bit (row_self x) in
        let a1 = ap bit e in
        let b = s.at (λ z. bit (row_eq y z)) in
        let b0 = ap bit (row_self y) in
        let b1 = ap bit f in
        let p = ltb-true (place y) (place x) (counted (λ z. before y z ≡ true) x ys sy.0 (λ z. omega arith)) in
        let q = counted (λ z. place x ≤ place z) y xs lx.0 (λ z. omega arith) in
        absurd (omega arith)

module _ (docs : Docs) (texts : List Text) where
  abbrev less : Row → Row → Bool
  less = root_less (item_rules docs texts) three

  abbrev cell_less_of : Cell → Cell → Cell → Cell → Bool
  cell_less_of a b d e = cell_less a b || (not (cell_less b a) && cell_less d e)

  less_is : (q r : Row) → Proper q → Proper r → less q r ≡ before q r
  less_is q r p h =
      ap (λ v. cell_less_of v (col_in 0 r) (col_in 1 q) (col_in 1 r)) p.0
      ∙ ap (λ v. cell_less_of (num 1) v (col_in 1 q) (col_in 1 r)) h.0
      ∙ ap (λ v. cell_less_of (num 1) (num 1) v (col_in 1 r)) p.1
      ∙ ap (λ v. cell_less_of (num 1) (num 1) (num (place q)) v) h.1

  put_is : (x : Row) (ys : List Row) → Proper x → AllOf Proper ys → put less x ys ≡ put before x ys
  put_is x [] p a = refl
  put_is x (y ∷ ys) p a = ap (λ b. cond b (y ∷ put less x ys) (x ∷ y ∷ ys)) (less_is y x a.0 p) ∙ ap (λ l. cond (before y x) (y ∷ l) (x ∷ y ∷ ys)) (put_is x ys p a.1)

  order_all : (xs : List Row) → AllOf Proper xs → AllOf Proper (in_order before xs)
  order_all [] a = tt
  order_all (x ∷ xs) a = put_all before before Proper x (in_order before xs) a.0 (order_all xs a.1)

  order_is : (xs : List Row) → AllOf Proper xs → in_order less xs ≡ in_order before xs
  order_is [] a = refl
  order_is (x ∷ xs) a = ap (put less x) (order_is xs a.1) ∙ put_is x (in_order before xs) a.0 (order_all xs a.1)

  rows_after : (j k : ℕ) (v : Cell) (vs : List Cell) → j < k → AllOf (λ r. before (num 1 ∷ num j ∷ v ∷ []) r ≡ true) (item_rows 1 k vs)
  rows_after j k v [] h = tt
  rows_after j k v (u ∷ us) h = (lt-ltb j k h, rows_after j (k + 1) v us (omega arith))

  rows_sorted : (k : ℕ) (vs : List Cell) → Sorted before (item_rows 1 k vs)
  rows_sorted k [] = tt
  rows_sorted k (v ∷ vs) = (rows_after k (k + 1) v vs (omega arith), rows_sorted (k + 1) vs)

  rows_proper : (k : ℕ) (vs : List Cell) → AllOf (λ r. is_proper r ≡ true) (item_rows 1 k vs)
  rows_proper k [] = tt
  rows_proper k (v ∷ vs) = (and_from (cell_eq (num 1) (num 1)) (cell_eq (num k) (num k)) (cell_eq_self (num 1)) (cell_eq_self (num k)), rows_proper (k + 1) vs)

  items_of : (k : ℕ) (vs : List Cell) → map (col_in 2) (item_rows 1 k vs) ≡ vs
  items_of k [] = refl
  items_of k (v ∷ vs) = ap (λ l. v ∷ l) (items_of (k + 1) vs)

  -- the root's items are the value's cells
  pub root_value : (t : Table Cell) (vs : List Cell) → t.cols ≡ three → Same t.rows (item_rows 1 1 vs) → root_items (item_rules docs texts) t ≡ vs
  root_value t vs c s =
      let proper = all_mono _ _ (λ r (e : is_proper r ≡ true). proper_row r e) t.rows (same_tested is_proper t.rows (item_rows 1 1 vs) s (rows_proper 1 vs)) in
      ap (λ cs. map (cell_or (IntItem (pos 0)) cs (column 2)) (in_order (root_less (item_rules docs texts) cs) t.rows)) c
      ∙ ap (map (col_in 2)) (order_is t.rows proper ∙ one_order (in_order before t.rows) (item_rows 1 1 vs) (climbs t.rows) (rows_sorted 1 vs) (same-trans (order_same t.rows) s))
      ∙ items_of 1 vs
