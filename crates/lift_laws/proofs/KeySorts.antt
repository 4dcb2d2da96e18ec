-- Tuples in the order of all their keys as rows, and their bodies in that order.
use Rattle.std.proofs.Common.{◌≡◌, ℕ, ◌+◌, ◌≤◌, Bool, false, cond, not, List, [], ◌∷◌, ◌++◌, length, map, refl, sym, ap, ◌∙◌, arith}
use Rattle.std.specs.List.{flat_map}
use Rattle.std.proofs.lemmas.Bool.{lt-ltb}
use Rattle.std.proofs.Math.Nat.{max-le}
use Rattle.xq_base.specs.Atoms.{Atom, as_string}
use Rattle.doc_table.specs.Items.{BoolItem}
use Rattle.doc_table.specs.Orders.{put, in_order}
use Rattle.doc_table.specs.Values.{item_of_atom, items_of, atomized, data_of}
use Rattle.plan_dag.specs.declared.op.OpId.{OpId}
use Rattle.plan_dag.specs.ItemRules.{Cell}
use Rattle.plan_dag.specs.Meaning.{cell}
use Rattle.core_meaning.specs.Expr.{Order}
use Rattle.core_meaning.specs.Sorting.{absent_first}
use Rattle.lift_laws.specs.Sums.{total, AllOf, Ascends, Same}
use Rattle.lift_laws.specs.Iterations.{Row, Iter, num, item_rows, value_rows, loop_rows, joined}
use Rattle.lift_laws.specs.States.{State, at, HoldAll, column, three}
use Rattle.lift_laws.specs.Shapes.{pair, columns, pick, project, four, bare, any_rows}
use Rattle.lift_laws.specs.Sequences.{rows_at}
use Rattle.lift_laws.specs.Tuples.{numbers}
use Rattle.lift_laws.specs.Sorted.{key_rows, value_of_rows, presence_rows, by_value_rows, by_key_rows, by_keys_rows, bodies_rows, key_most, keys_most}
use Rattle.lift_laws.proofs.Multi.{same-map, same-of, same-trans, same-length, length-total, total-ext}
use Rattle.lift_laws.proofs.Picks.{Picked, picks, all_each, all_mono, flat-all, map-map, map-flat, flat-flat, join_picks}
use Rattle.lift_laws.proofs.Regroup.{tagged, grid, regroup}
use Rattle.lift_laws.proofs.Loops.{same-join, rows_key, back_items}
use Rattle.lift_laws.proofs.Sizes.{size_cells, map_length}
use Rattle.lift_laws.proofs.Marks.{some}
use Rattle.lift_laws.proofs.Operands.{marks_any}
use Rattle.lift_laws.proofs.FunctionCases.{truth_stands}
use Rattle.lift_laws.proofs.PairRows.{fill, filled_stands}
use Rattle.lift_laws.proofs.WeakOrders.{lex, lex_weak, values_weak, order_hold, radix}
use Rattle.lift_laws.proofs.ByValue.{in_order_same, Spot, spot, spot_row, placed_from, spots_in, spots_are, spots_hold, by_value_stands}
use Rattle.lift_laws.proofs.KeyRows.{keys_stand}
use Rattle.lift_laws.proofs.KeyCells.{compared_of, two}
use Rattle.lift_laws.proofs.KeyOrders.{first_or, presence, as_compared, by_presence, by_first, by_all, all_weak}

-- an order in which nothing is before anything
plain_order : {A : Type 0} (xs : List A) → xs ≡ in_order (λ x y. false) xs
plain_order [] = refl
plain_order (x ∷ []) = refl
plain_order (x ∷ y ∷ xs) = ap (λ l. x ∷ l) (plain_order (y ∷ xs)) ∙ front x (in_order (λ x y. false) (y ∷ xs))
  where
    front : {A : Type 0} (x : A) (ys : List A) → x ∷ ys ≡ put (λ x y. false) x ys
    front x [] = refl
    front x (y ∷ ys) = refl

filled_one : (as' : List Atom) → two as' ≡ false → fill (num 0) (items_of as') ≡ item_of_atom (first_or as') ∷ []
filled_one [] e = refl
filled_one (a ∷ []) e = refl
filled_one (a ∷ b ∷ as') e = cc

present : (o : Order) (as' : List Atom) → BoolItem (cond (some (items_of as')) (absent_first o) (not (absent_first o))) ∷ [] ≡ item_of_atom (presence o as') ∷ []
present o [] = refl
present o (a ∷ as') = ap (λ b. BoolItem (cond b (absent_first o) (not (absent_first o))) ∷ []) (lt-ltb 0 (1 + total (λ x. 1) (items_of as')) (omega arith))

joined_flat : {A B : Type 0} (f : A → List B) (xs : List A) → joined (map f xs) ≡ flat_map f xs
joined_flat f [] = refl
joined_flat f (x ∷ xs) = ap (λ l. f x ++ l) (joined_flat f xs)

-- as many rows as there are tuples, in whatever order
abbrev Orders : Type 0
Orders = Iter → Iter → Bool

ordered_size : (G : Iter → List Iter) (lt : Orders) (its : List Iter) → length (value_rows (λ i. numbers (in_order lt (G i))) its) ≡ total (λ i. length (G i)) its
ordered_size G lt its =
    size_cells (λ i. numbers (in_order lt (G i))) its ∙ total-ext _ _ its (λ i. map_length (λ (l : Iter). num l.number) (in_order lt (G i)) ∙ same-length (in_order_same lt (G i)))

single_size : (V : Iter → Cell) (tuples : List Iter) → length (value_rows (λ l. V l ∷ []) tuples) ≡ length tuples
single_size V tuples = size_cells (λ l. V l ∷ []) tuples ∙ sym (length-total tuples)

module _ (its tuples : List Iter) (asc : Ascends (λ i. i.number) 0 its) (tasc : Ascends (λ i. i.number) 0 tuples) where
  abbrev pub AllPicked : (Iter → List Iter) → Type 0
  AllPicked G = AllOf (λ i. AllOf (Picked (λ (l : Iter). l.number) tuples) (G i)) its

  pub sorted_picked : (G : Iter → List Iter) (lt : Orders) → AllPicked G → AllPicked (λ i. in_order lt (G i))
  sorted_picked G lt p = all_mono _ _ (λ i (h : AllOf (Picked (λ (l : Iter). l.number) tuples) (G i)). order_hold (Picked (λ (l : Iter). l.number) tuples) lt (G i) h) its p

  module _ (l : List Row) (sl : Same l (loop_rows tuples)) (G : Iter → List Iter) (picked : AllPicked G) where
    module _ (o : Order) (A : Iter → List Atom) (x : List Row) (sx : Same x (value_rows (λ l. items_of (A l)) tuples)) where
      presence_stands : Same (presence_rows o l x) (value_rows (λ l. item_of_atom (presence o (A l)) ∷ []) tuples)
      presence_stands =
          same-trans (truth_stands (absent_first o) (λ l. some (items_of (A l))) tuples l (any_rows x) tasc sl (marks_any (λ l. items_of (A l)) tuples x tasc sx))
          (same-of (flat-all _ _ tuples (all_each _ (λ l. ap (item_rows l.number 1) (present o (A l))) tuples)))

      module _ (ones : AllOf (λ l. two (A l) ≡ false) tuples) where
        value_stands : Same (value_of_rows l x) (value_rows (λ l. item_of_atom (first_or (A l)) ∷ []) tuples)
        value_stands =
            same-trans (filled_stands (num 0) (λ l. items_of (A l)) tuples l x tasc sl sx)
            (same-of (flat-all _ _ tuples (all_mono _ _ (λ l (e : two (A l) ≡ false). ap (item_rows l.number 1) (filled_one (A l) e)) tuples ones)))

        module _ (rest : Orders) (r : List Row) (sr : Same r (value_rows (λ i. numbers (in_order rest (G i))) its)) where
          by_first_stands : Same (by_value_rows o.descending (value_of_rows l x) r) (value_rows (λ i. numbers (in_order (by_first o A) (in_order rest (G i)))) its)
          by_first_stands =
              by_value_stands o.descending (λ l. item_of_atom (first_or (A l))) (values_weak o.descending (λ l. first_or (A l))) (λ i. in_order rest (G i)) its tuples asc (sorted_picked G rest picked) r (value_of_rows l x) sr value_stands

          by_key_stands : Same (by_key_rows o l x r) (value_rows (λ i. numbers (in_order (by_presence o A) (in_order (by_first o A) (in_order rest (G i))))) its)
          by_key_stands =
              by_value_stands false (λ l. item_of_atom (presence o (A l))) (values_weak false (λ l. presence o (A l))) (λ i. in_order (by_first o A) (in_order rest (G i))) its tuples asc
              (sorted_picked (λ i. in_order rest (G i)) (by_first o A) (sorted_picked G rest picked)) _ (presence_rows o l x) by_first_stands presence_stands

          key_few : (N : ℕ) → length tuples ≤ N → length r ≤ N → key_most o l x r ≤ N
          key_few N few fr =
              let a = same-length value_stands ∙ single_size (λ l. item_of_atom (first_or (A l))) tuples in
              let b = same-length presence_stands ∙ single_size (λ l. item_of_atom (presence o (A l))) tuples in
              let c = same-length sr ∙ ordered_size G rest its in
              let d = same-length by_first_stands ∙ ordered_size (λ i. in_order rest (G i)) (by_first o A) its in
              let e = same-length by_key_stands ∙ ordered_size (λ i. in_order (by_first o A) (in_order rest (G i))) (by_presence o A) its in
              let f = total-ext (λ i. length (in_order rest (G i))) (λ i. length (G i)) its (λ i. same-length (in_order_same rest (G i))) in
              let g = total-ext (λ i. length (in_order (by_first o A) (in_order rest (G i)))) (λ i. length (in_order rest (G i))) its (λ i. same-length (in_order_same (by_first o A) (in_order rest (G i)))) in
              max-le (max-le {a = length (value_of_rows l x)} {b = length (presence_rows o l x)} (omega arith) (omega arith)) (max-le {a = length (by_value_rows o.descending (value_of_rows l x) r)} {b = length (by_key_rows o l x r)} (omega arith) (omega arith))

    abbrev pub AllOnes : List (Iter → List Cell) → Type 0
    AllOnes gs = AllOf (λ g. AllOf (λ l. two (compared_of (g l)) ≡ false) tuples) gs

    -- by all keys
    pub keys_sort : (os : List Order) (s : State) (ts : List OpId) (gs : List (Iter → List Cell)) (r : List Row) → HoldAll s ts gs tuples → AllOnes gs → Same r (value_rows (λ i. numbers (G i)) its)
        → Same (by_keys_rows os l (rows_at s ts) r) (value_rows (λ i. numbers (in_order (by_all os (map as_compared gs)) (G i))) its)
    keys_sort [] s ts gs r h a sr = same-trans sr (same-of (flat-all _ _ its (all_each _ (λ i. ap (λ ls. item_rows i.number 1 (numbers ls)) (plain_order (G i))) its)))
    keys_sort (o ∷ os) s [] [] r h a sr = same-trans sr (same-of (flat-all _ _ its (all_each _ (λ i. ap (λ ls. item_rows i.number 1 (numbers ls)) (plain_order (G i))) its)))
    keys_sort (o ∷ os) s [] (g ∷ gs) r h a sr = absurd h
    keys_sort (o ∷ os) s (t ∷ ts) [] r h a sr = absurd h
    keys_sort (o ∷ os) s (t ∷ ts) (g ∷ gs) r h a sr =
        let rest = by_all os (map as_compared gs) in
        let first = by_first o (as_compared g) in
        let w = values_weak o.descending (λ l. first_or (as_compared g l)) in
        same-trans (by_key_stands o (as_compared g) (key_rows (at s t).rows) (keys_stand g tuples (at s t).rows h.0.rows_are) a.0 rest _ (keys_sort os s ts gs r h.1 a.1 sr))
        (same-of (flat-all _ _ its (all_each _ (λ i.
        ap (λ ls. item_rows i.number 1 (numbers ls))
        (sym (radix (by_presence o (as_compared g)) (lex first rest) (values_weak false (λ l. presence o (as_compared g l))) (lex_weak first rest w (all_weak os (map as_compared gs))) (G i)
        ∙ ap (in_order (by_presence o (as_compared g))) (radix first rest w (all_weak os (map as_compared gs)) (G i))))) its)))

    -- what the operators demand
    pub keys_few : (N : ℕ) (os : List Order) (s : State) (ts : List OpId) (gs : List (Iter → List Cell)) (r : List Row) → HoldAll s ts gs tuples → AllOnes gs → Same r (value_rows (λ i. numbers (G i)) its)
        → length tuples ≤ N → length r ≤ N → AllOf (λ (g : Iter → List Cell). total (λ l. length (g l)) tuples ≤ N) gs → keys_most os l (rows_at s ts) r ≤ N
    keys_few N [] s ts gs r h a sr few fr n = omega arith
    keys_few N (o ∷ os) s [] gs r h a sr few fr n = omega arith
    keys_few N (o ∷ os) s (t ∷ ts) [] r h a sr few fr n = absurd h
    keys_few N (o ∷ os) s (t ∷ ts) (g ∷ gs) r h a sr few fr n =
        let rest = by_all os (map as_compared gs) in
        let x = key_rows (at s t).rows in
        let sx = keys_stand g tuples (at s t).rows h.0.rows_are in
        let sk = keys_sort os s ts gs r h.1 a.1 sr in
        let b = same-length h.0.rows_are ∙ size_cells g tuples in
        let c = same-length sx ∙ size_cells (λ l. items_of (compared_of (g l))) tuples ∙ total-ext _ _ tuples (λ l. map_length item_of_atom (compared_of (g l)) ∙ map_length as_string (data_of (g l)) ∙ map_length atomized (g l)) in
        let d = same-length sk ∙ ordered_size G rest its in
        let e = same-length sr ∙ size_cells (λ i. numbers (G i)) its ∙ total-ext _ _ its (λ i. map_length (λ (l : Iter). num l.number) (G i)) in
        let f = n.0 in
        let q : length (by_keys_rows os l (rows_at s ts) r) ≤ N = omega arith in
        max-le (max-le (max-le {a = length (at s t).rows} {b = length x} (omega arith) (omega arith)) (key_few o (as_compared g) x sx a.0 rest (by_keys_rows os l (rows_at s ts) r) sk N few q)) (keys_few N os s ts gs r h.1 a.1 sr few fr n.1)

  -- the bodies, in the order of the tuples
  module _ (B : Iter → List Cell) where
    abbrev side : Spot → Row
    side s = num s.at.tuple.number ∷ num s.outer ∷ num s.at.place ∷ []

    abbrev tags : Spot → List Row
    tags s = tagged s.outer s.at.place 1 (B s.at.tuple)

    one_grid : (n j : ℕ) (ls : List Iter) → flat_map tags (map (spot n) (placed_from j ls)) ≡ grid n j (map B ls)
    one_grid n j [] = refl
    one_grid n j (l ∷ ls) = ap (λ q. tagged n j 1 (B l) ++ q) (one_grid n (j + 1) ls)

    pub bodies_stand : (H : Iter → List Iter) (r b : List Row) → AllPicked H → Same r (value_rows (λ i. numbers (H i)) its) → Same b (value_rows B tuples) → Same (bodies_rows r b) (value_rows (λ i. flat_map B (H i)) its)
    bodies_stand H r b p sr sb =
        let twice = pick three (pair 0 0 ∷ pair 1 1 ∷ pair 2 2 ∷ pair 3 2 ∷ []) in
        let first = pick four (pair 4 3 ∷ pair 5 0 ∷ pair 6 1 ∷ []) in
        let out = pick (columns (4 ∷ 5 ∷ 6 ∷ 0 ∷ 1 ∷ 2 ∷ [])) (pair 0 5 ∷ pair 1 1 ∷ pair 2 2 ∷ pair 3 6 ∷ []) in
        let ss = spots_in H its in
        let left : Same (project four (pair 4 3 ∷ pair 5 0 ∷ pair 6 1 ∷ []) (project three (pair 0 0 ∷ pair 1 1 ∷ pair 2 2 ∷ pair 3 2 ∷ []) r)) (map side ss) =
        same-trans (same-map first (same-map twice (same-trans sr (same-of (spots_are H its))))) (same-of (ap (map first) (map-map twice spot_row ss) ∙ map-map first (λ s. twice (spot_row s)) ss)) in
        let joins = join_picks (λ (l : Iter). l.number) (λ (s : Spot). s.at.tuple) side (λ (l : Iter). item_rows l.number 1 (B l)) (cell bare (columns (4 ∷ 5 ∷ 6 ∷ [])) (column 4)) (cell bare three (column 0)) (λ s. refl) (λ l. rows_key l.number 1 (B l)) ss tuples (spots_hold (Picked (λ (l : Iter). l.number) tuples) H its p) in
        let moved = same-map out (same-trans (same-join (columns (4 ∷ 5 ∷ 6 ∷ [])) three (column 4) (column 0) left sb) joins) in
        let flat = map-flat out (λ (s : Spot). map (λ r. side s ++ r) (item_rows s.at.tuple.number 1 (B s.at.tuple))) ss
        ∙ flat-all _ tags ss (all_each _ (λ (s : Spot). map-map out (λ r. side s ++ r) (item_rows s.at.tuple.number 1 (B s.at.tuple)) ∙ back_items s.at.tuple.number s.outer s.at.place 1 (B s.at.tuple)) ss)
        ∙ flat-flat tags (λ (i : Iter). map (spot i.number) (placed_from 1 (H i))) its
        ∙ flat-all _ (λ i. grid i.number 1 (map B (H i))) its (all_each _ (λ i. one_grid i.number 1 (H i)) its) in
        same-trans (regroup (λ (i : Iter). i.number) (λ i. map B (H i)) its _ (picks (λ i. i.number) 0 its asc) (same-trans moved (same-of flat)))
        (same-of (flat-all _ _ its (all_each _ (λ i. ap (item_rows i.number 1) (joined_flat B (H i))) its)))
