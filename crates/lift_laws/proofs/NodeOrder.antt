-- Cells of each iteration that rise, and nodes in document order: their rows with positions.
use Rattle.std.proofs.Common.{◌≡◌, ℕ, ◌+◌, Bool, true, false, not, ◌&&◌, ◌||◌, List, [], ◌∷◌, map, refl, sym, ap, ◌∙◌, Some, nat_eq}
use Rattle.std.proofs.Math.Bool.{and-false}
use Rattle.std.specs.List.{flat_map}
use Rattle.xq_base.specs.Texts.{Text}
use Rattle.doc_table.specs.Identity.{Node, node_eq, node_less}
use Rattle.doc_table.specs.Items.{NodeItem}
use Rattle.doc_table.specs.Ascending.{IsOrder}
use Rattle.doc_table.specs.Steps.{items_at}
use Rattle.doc_table.proofs.StrictOrders.{nodes_order}
use Rattle.plan_dag.specs.declared.keys.Key.{Key}
use Rattle.plan_dag.specs.ItemRules.{Cell, cell_less}
use Rattle.plan_dag.specs.Rows.{ties}
use Rattle.plan_dag.specs.Meaning.{same_part}
use Rattle.lift_laws.specs.Sums.{AllOf, Ascends, Same}
use Rattle.lift_laws.specs.Iterations.{Row, Iter, num, item_rows, value_rows}
use Rattle.lift_laws.specs.States.{column}
use Rattle.lift_laws.specs.Shapes.{bare, less_by, up, pair, columns, pick}
use Rattle.lift_laws.specs.Walks.{node_cols, ordered_rows}
use Rattle.lift_laws.proofs.Numbers.{cell_eq_self, num_same, nat_eq_turn}
use Rattle.lift_laws.proofs.Multi.{same-map, same-of, same-trans}
use Rattle.lift_laws.proofs.Picks.{picks, map-flat, flat-all, all_each, all_mono, all-map, map-map}
use Rattle.lift_laws.proofs.Ranks.{part_self, less_self, goes_before, goes_beside, stamped, numbered_same, Goes, InRow, block_ranks, block_free}
use Rattle.lift_laws.proofs.Once.{Sorted}

abbrev keys : List Key
keys = up 2 ∷ []

-- an iteration and a node
abbrev pub node_row : ℕ → Node Text → Row
node_row n m = num n ∷ NodeItem m ∷ []

abbrev part : Row → Row → Bool
part q r = same_part bare node_cols (Some (column 0)) q r

abbrev under : Row → Row → Bool
under q r = less_by node_cols keys q r

abbrev lt : Row → Row → Bool
lt q r = goes_before part under q r

abbrev tie : Row → Row → Bool
tie q r = goes_beside part under q r

lt_self : (r : Row) → lt r r ≡ false
lt_self r = rw (part_self node_cols (Some (column 0)) r) (less_self node_cols keys r)

-- an iteration and a cell
abbrev pub cell_row : ℕ → Cell → Row
cell_row n v = num n ∷ v ∷ []

-- each is before all behind it, and none is before it
abbrev pub Rising : List Cell → Type 0
Rising [] = Unit {0}
Rising (x ∷ xs) = AllOf (λ y. (cell_less x y ≡ true) × (cell_less y x ≡ false)) xs × Rising xs

goes : (n : ℕ) (x y : Cell) → cell_less x y ≡ true → cell_less y x ≡ false → Goes lt tie (cell_row n x) (cell_row n y)
goes n x y h k =
    let p = cell_eq_self (num n) in
    let yes' : under (cell_row n x) (cell_row n y) ≡ true = ap (λ z. z || (not (cell_less y x) && false)) h in
    let no' : under (cell_row n y) (cell_row n x) ≡ false = ap (λ z. z || (not (cell_less x y) && false)) k ∙ and-false (not (cell_less x y)) in (
      ap (λ z. z && under (cell_row n x) (cell_row n y)) p ∙ yes',
      ap (λ z. z && under (cell_row n y) (cell_row n x)) p ∙ no',
      ap (λ z. z && ties bare under (cell_row n x) (cell_row n y)) p ∙ ap (λ z. not z && not (under (cell_row n y) (cell_row n x))) yes',
      ap (λ z. z && ties bare under (cell_row n y) (cell_row n x)) p ∙ ap (λ z. not z && not (under (cell_row n x) (cell_row n y))) no' ∙ ap not yes',
    )

in_row : (n : ℕ) (vs : List Cell) → Rising vs → InRow lt tie (map (cell_row n) vs)
in_row n [] s = tt
in_row n (v ∷ vs) s = (
  all-map (Goes lt tie (cell_row n v)) (cell_row n) vs (all_mono _ _ (λ x (h : (cell_less v x ≡ true) × (cell_less x v ≡ false)). goes n v x h.0 h.1) vs s.0),
  in_row n vs s.1,
)

apart : (n m : ℕ) (us vs : List Cell) → nat_eq m n ≡ false → AllOf (λ r. AllOf (λ q. (lt q r ≡ false) × (tie q r ≡ false)) (map (cell_row n) us)) (map (cell_row m) vs)
apart n m us vs h =
    all-map _ (cell_row m) vs (all_each _ (λ v. all-map (λ q. (lt q (cell_row m v) ≡ false) × (tie q (cell_row m v) ≡ false)) (cell_row n) us (all_each _ (λ u.
    let p : part (cell_row n u) (cell_row m v) ≡ false = num_same n m ∙ nat_eq_turn m n h in
    (ap (λ b. b && under (cell_row n u) (cell_row m v)) p, ap (λ b. b && ties bare under (cell_row n u) (cell_row m v)) p)) us)) vs)

abbrev out_row : Row → Row
out_row r = pick (columns (0 ∷ 2 ∷ 1 ∷ [])) (pair 0 0 ∷ pair 1 1 ∷ pair 2 2 ∷ []) r

rows_out : (n k : ℕ) (vs : List Cell) → map out_row (stamped k (map (cell_row n) vs)) ≡ item_rows n k vs
rows_out n k [] = refl
rows_out n k (v ∷ vs) = ap (λ l. (num n ∷ num k ∷ v ∷ []) ∷ l) (rows_out n (k + 1) vs)

-- cells that rise get positions
pub rising_stands : (vs : Iter → List Cell) (its : List Iter) (t : List Row) → Ascends (λ i. i.number) 0 its → ((i : Iter) → Rising (vs i)) → Same t (flat_map (λ i. map (cell_row i.number) (vs i)) its) → Same (ordered_rows t) (value_rows vs its)
rising_stands vs its t asc rising s =
    let key = λ (i : Iter). i.number in
    let block = λ (i : Iter). map (cell_row i.number) (vs i) in
    let p = picks (λ i. i.number) 0 its asc in
    let parted = λ (x y : Iter) (h : nat_eq y.number x.number ≡ false). apart x.number y.number (vs x) (vs y) h in
    let rows = λ (x : Iter). in_row x.number (vs x) (rising x) in
    let free = block_free lt tie lt_self key block parted its p rows in
    let ranks = block_ranks lt tie lt_self key block parted 0 its p rows in
    let n = numbered_same part under (part_self node_cols (Some (column 0))) (less_self node_cols keys) t (flat_map block its) s free in
    same-trans (same-map out_row (same-trans n (same-of ranks)))
    (same-of (map-flat out_row (λ x. stamped 1 (block x)) its ∙ flat-all _ _ its (all_each _ (λ x. rows_out x.number 1 (vs x)) its)))

nodes_rise : (ms : List (Node Text)) → Sorted node_less ms → Rising (items_at ms)
nodes_rise [] s = tt
nodes_rise (m ∷ ms) s =
    let o : IsOrder (node_less {T = Text}) node_eq = nodes_order in
    (all-map _ NodeItem ms (all_mono _ _ (λ x (h : node_less m x ≡ true). (h, o.less_turn m x h)) ms s.0), nodes_rise ms s.1)

-- nodes in document order get positions
pub order_stands : (ns : Iter → List (Node Text)) (its : List Iter) (t : List Row) → Ascends (λ i. i.number) 0 its → ((i : Iter) → Sorted node_less (ns i)) → Same t (flat_map (λ i. map (node_row i.number) (ns i)) its) → Same (ordered_rows t) (value_rows (λ i. items_at (ns i)) its)
order_stands ns its t asc sorted s =
    rising_stands (λ i. items_at (ns i)) its t asc (λ i. nodes_rise (ns i) (sorted i)) (same-trans s (same-of (flat-all _ _ its (all_each _ (λ i. sym (map-map (cell_row i.number) NodeItem (ns i))) its))))
