-- The iterations in which an argument has an item, a second one, or one of a kind, as operators mark them.
use Rattle.std.proofs.Common.{◌≡◌, ℕ, ◌+◌, ◌<◌, Bool, true, false, cond, ◌||◌, List, [], ◌∷◌, ◌++◌, map, refl, sym, ap, ◌∙◌, arith, add-zero, nat_lt}
use Rattle.std.specs.List.{filter, flat_map, list_any}
use Rattle.std.proofs.lemmas.Bool.{lt-ltb, ne_eqb}
use Rattle.xq_base.specs.declared.fun.Fun.TheVariants as f'
use Rattle.xq_base.specs.declared.fun.ItemKind.{ItemKind}
use Rattle.doc_table.specs.Nodes.{item_kind_eq}
use Rattle.doc_table.specs.Values.{kind_of_item}
use Rattle.plan_dag.specs.declared.cols.Col.{Col}
use Rattle.plan_dag.specs.Cells.{given}
use Rattle.plan_dag.specs.ItemRules.{Cell, cell_eq, is_true}
use Rattle.plan_dag.specs.Meaning.{cell}
use Rattle.plan_dag.specs.Meaning.{cells as cells_at}
use Rattle.lift_laws.specs.Sums.{total, Ascends, Same}
use Rattle.lift_laws.specs.Iterations.{Row, Iter, num, item_rows, value_rows}
use Rattle.lift_laws.specs.States.{column, three}
use Rattle.lift_laws.specs.Shapes.{bare, pair, pick, project, four, head_rows, second_rows, kind_rows}
use Rattle.lift_laws.proofs.Numbers.{num_same}
use Rattle.lift_laws.proofs.Multi.{same-of, same-trans, same-keep, same-map, total-ext, total-map, total-flat, total-keep}
use Rattle.lift_laws.proofs.Picks.{all_each, all-map, flat-all, map-flat}
use Rattle.lift_laws.proofs.Loops.{rows_key}
use Rattle.lift_laws.proofs.Keeping.{filter_append}
use Rattle.lift_laws.proofs.ChoiceCase.{keep_hold}
use Rattle.lift_laws.proofs.Simple.{place_stands, second_stands}
use Rattle.lift_laws.proofs.Marks.{Marks, marks_is, marks_same, marks_rows, some, Keyed}

-- kept rows name their iterations
pub keep_flat : (p : Row → Bool) (R : Iter → List Row) (its : List Iter) → filter p (flat_map R its) ≡ flat_map (λ i. filter p (R i)) its
keep_flat p R [] = refl
keep_flat p R (i ∷ its) = filter_append p (R i) (flat_map R its) ∙ ap (λ l. filter p (R i) ++ l) (keep_flat p R its)

size_map : (f : Row → Row) (rs : List Row) → total (λ r. 1) (map f rs) ≡ total (λ r. 1) rs
size_map f rs = total-map (λ r. 1) f rs

pub marks_kept : (cs : List Col) (test : Row → Bool) (R : Iter → List Row) (its : List Iter) (a : List Row) → Ascends (λ i. i.number) 0 its → Keyed (cell bare cs (column 0)) R → Same a (flat_map R its) → Marks (project cs (pair 0 0 ∷ []) (filter test a)) (λ i. some (filter test (R i))) its
marks_kept cs test R its a asc keyed s =
    let out = pick cs (pair 0 0 ∷ []) in
    marks_is (all_each _ (λ i. ap (nat_lt 0) (size_map out (filter test (R i)))) its)
    (marks_rows (λ i. map out (filter test (R i))) its _ asc
    (λ i. all-map _ out (filter test (R i)) (keep_hold (λ r. cell bare cs (column 0) r ≡ num i.number) test (R i) (keyed i)))
    (same-trans (same-map out (same-keep test s)) (same-of (ap (map out) (keep_flat test R its) ∙ map-flat out (λ i. filter test (R i)) its))))

all_true : (rs : List Row) → filter (λ r. true) rs ≡ rs
all_true [] = refl
all_true (r ∷ rs) = ap (λ l. r ∷ l) (all_true rs)

some_items : (n k : ℕ) (vs : List Cell) → some (item_rows n k vs) ≡ some vs
some_items n k [] = refl
some_items n k (v ∷ vs) = lt-ltb 0 (1 + total (λ r. 1) (item_rows n (k + 1) vs)) (omega arith) ∙ sym (lt-ltb 0 (1 + total (λ x. 1) vs) (omega arith))

keyed_items : (g : Iter → List Cell) → Keyed (cell bare three (column 0)) (λ i. item_rows i.number 1 (g i))
keyed_items g i = rows_key i.number 1 (g i)

-- the iterations that have an item
pub marks_any : (g : Iter → List Cell) (its : List Iter) (a : List Row) → Ascends (λ i. i.number) 0 its → Same a (value_rows g its) → Marks (project three (pair 0 0 ∷ []) a) (λ i. some (g i)) its
marks_any g its a asc s =
    let m = marks_kept three (λ r. true) (λ i. item_rows i.number 1 (g i)) its a asc (keyed_items g) s in
    marks_is (all_each _ (λ i. ap some (all_true (item_rows i.number 1 (g i))) ∙ some_items i.number 1 (g i)) its)
    (marks_same (same-of (ap (project three (pair 0 0 ∷ [])) (sym (all_true a)))) m)

-- those that have a second one
abbrev pub has_two : List Cell → Bool
has_two (v ∷ u ∷ vs) = true
has_two _ = false

pub none_placed : (p n k : ℕ) (vs : List Cell) → p < k → filter (λ r. cell_eq (cell bare three (column 1) r) (num p)) (item_rows n k vs) ≡ []
none_placed p n k [] h = refl
none_placed p n k (v ∷ vs) h =
    let e : cell_eq (num k) (num p) ≡ false = num_same k p ∙ ne_eqb k p (λ q. omega arith) in
    let r = none_placed p n (k + 1) vs (omega arith) in
    ap (λ b. cond b ((num n ∷ num k ∷ v ∷ []) ∷ filter (λ r. cell_eq (cell bare three (column 1) r) (num p)) (item_rows n (k + 1) vs)) (filter (λ r. cell_eq (cell bare three (column 1) r) (num p)) (item_rows n (k + 1) vs))) e ∙ r

second_item : (n : ℕ) (vs : List Cell) → some (filter (λ r. cell_eq (cell bare three (column 1) r) (num 2)) (item_rows n 1 vs)) ≡ has_two vs
second_item n [] = refl
second_item n (v ∷ []) = refl
second_item n (v ∷ u ∷ vs) = ap (λ l. some ((num n ∷ num 2 ∷ u ∷ []) ∷ l)) (none_placed 2 n 3 vs (omega arith))

pub marks_second : (g : Iter → List Cell) (its : List Iter) (a : List Row) → Ascends (λ i. i.number) 0 its → Same a (value_rows g its) → Marks (second_rows a) (λ i. has_two (g i)) its
marks_second g its a asc s =
    marks_same (second_stands g its a s)
    (marks_is (all_each _ (λ i. second_item i.number (g i)) its) (marks_kept three (λ r. cell_eq (cell bare three (column 1) r) (num 2)) (λ i. item_rows i.number 1 (g i)) its a asc (keyed_items g) s))

-- the first items
abbrev pub heads : List Cell → List Cell
heads [] = []
heads (v ∷ vs) = v ∷ []

pub heads_stand : (g : Iter → List Cell) (its : List Iter) (a : List Row) → Same a (value_rows g its) → Same (head_rows a) (value_rows (λ i. heads (g i)) its)
heads_stand g its a s =
    let ps = pair 0 0 ∷ pair 1 1 ∷ pair 2 2 ∷ [] in
    let test = λ (r : Row). cell_eq (cell bare three (column 1) r) (num 1) in
    same-trans (place_stands 1 ps (λ n j v x y. refl) g its a s)
    (same-trans (same-map (pick three ps) (same-keep test s))
    (same-of (ap (map (pick three ps)) (keep_flat test (λ i. item_rows i.number 1 (g i)) its)
    ∙ map-flat (pick three ps) (λ i. filter test (item_rows i.number 1 (g i))) its
    ∙ flat-all _ _ its (all_each _ (λ i. at_first i.number (g i)) its))))
  where
    at_first : (n : ℕ) (vs : List Cell) → map (pick three (pair 0 0 ∷ pair 1 1 ∷ pair 2 2 ∷ [])) (filter (λ r. cell_eq (cell bare three (column 1) r) (num 1)) (item_rows n 1 vs)) ≡ item_rows n 1 (heads vs)
    at_first n [] = refl
    at_first n (v ∷ vs) = ap (λ l. map (pick three (pair 0 0 ∷ pair 1 1 ∷ pair 2 2 ∷ [])) ((num n ∷ num 1 ∷ v ∷ []) ∷ l)) (none_placed 1 n 2 vs (omega arith))

-- those that have an item that passes a test
some_passed : (t : Cell → Bool) (test : Row → Bool) → ((n k : ℕ) (v : Cell) → test (num n ∷ num k ∷ v ∷ []) ≡ t v) → (n k : ℕ) (vs : List Cell) → some (filter test (item_rows n k vs)) ≡ list_any t vs
some_passed t test same n k [] = refl
some_passed t test same n k (v ∷ vs) =
    let e = some_passed t test same n (k + 1) vs in
    let rest = filter test (item_rows n (k + 1) vs) in
    ap (λ b. some (cond b ((num n ∷ num k ∷ v ∷ []) ∷ rest) rest)) (same n k v)
    ∙ elim (t v) as (λ b. some (cond b ((num n ∷ num k ∷ v ∷ []) ∷ rest) rest) ≡ (b || list_any t vs)) [
      | true ↦ lt-ltb 0 (1 + total (λ r. 1) rest) (omega arith)
      | false ↦ e
    ]

pub marks_items : (t : Cell → Bool) (test : Row → Bool) → ((n k : ℕ) (v : Cell) → test (num n ∷ num k ∷ v ∷ []) ≡ t v) → (g : Iter → List Cell) (its : List Iter) (a : List Row) → Ascends (λ i. i.number) 0 its → Same a (value_rows g its) → Marks (project three (pair 0 0 ∷ []) (filter test a)) (λ i. list_any t (g i)) its
marks_items t test same g its a asc s =
    marks_is (all_each _ (λ i. some_passed t test same i.number 1 (g i)) its) (marks_kept three test (λ i. item_rows i.number 1 (g i)) its a asc (keyed_items g) s)

-- those that have an item of a kind
abbrev pub is_kind : ItemKind → Cell → Bool
is_kind kind v = item_kind_eq kind (kind_of_item v)

abbrev with_kind : ItemKind → Row → List Row
with_kind kind r = map (λ v. r ++ v ∷ []) (given (bare.value (f'.IsKind kind) (cells_at bare three (column 2 ∷ []) r)))

kinds_stand : (kind : ItemKind) (g : Iter → List Cell) (its : List Iter) (a : List Row) → Same a (value_rows g its) → Same (kind_rows kind a) (project three (pair 0 0 ∷ []) (filter (λ r. is_kind kind (cell bare three (column 2) r)) a))
kinds_stand kind g its a s = record {
  at = λ w.
      let out = pick four (pair 0 0 ∷ []) in
      let m = with_kind kind in
      let t = λ (r : Row). is_true (cell bare four (column 3) r) in
      let q = λ (r : Row). is_kind kind (cell bare three (column 2) r) in
      let u = λ (r : Row). cond (t r) (w (out r)) 0 in
      let v = λ (r : Row). cond (q r) (w (pick three (pair 0 0 ∷ []) r)) 0 in
      total-map w out (filter t (flat_map m a))
      ∙ total-keep (λ r. w (out r)) t (flat_map m a)
      ∙ total-flat u m a
      ∙ s.at (λ r. total u (m r))
      ∙ total-flat (λ r. total u (m r)) (λ i. item_rows i.number 1 (g i)) its
      ∙ total-ext _ _ its (λ i. items w i.number 1 (g i))
      ∙ sym (total-flat v (λ i. item_rows i.number 1 (g i)) its)
      ∙ sym (s.at v)
      ∙ sym (total-map w (pick three (pair 0 0 ∷ [])) (filter q a) ∙ total-keep (λ r. w (pick three (pair 0 0 ∷ []) r)) q a);
}
  where
    items : (w : Row → ℕ) (n k : ℕ) (vs : List Cell) → total (λ r. total (λ q. cond (is_true (cell bare four (column 3) q)) (w (pick four (pair 0 0 ∷ []) q)) 0) (with_kind kind r)) (item_rows n k vs) ≡ total (λ r. cond (is_kind kind (cell bare three (column 2) r)) (w (pick three (pair 0 0 ∷ []) r)) 0) (item_rows n k vs)
    items w n k [] = refl
    items w n k (v ∷ vs) =
        ap (λ t. cond (is_kind kind v) (w (num n ∷ [])) 0 + 0 + t) (items w n (k + 1) vs)
        ∙ ap (λ t. t + total (λ r. cond (is_kind kind (cell bare three (column 2) r)) (w (pick three (pair 0 0 ∷ []) r)) 0) (item_rows n (k + 1) vs)) (add-zero (cond (is_kind kind v) (w (num n ∷ [])) 0))

pub marks_kind : (kind : ItemKind) (g : Iter → List Cell) (its : List Iter) (a : List Row) → Ascends (λ i. i.number) 0 its → Same a (value_rows g its) → Marks (kind_rows kind a) (λ i. list_any (is_kind kind) (g i)) its
marks_kind kind g its a asc s =
    marks_same (kinds_stand kind g its a s) (marks_items (is_kind kind) (λ r. is_kind kind (cell bare three (column 2) r)) (λ n k v. refl) g its a asc s)
