-- How many rows the operators of a form have at most: by those of their inputs, but for joins.
use Rattle.std.proofs.Common.{◌≡◌, ℕ, zero, suc, ◌+◌, ◌≤◌, ◌<◌, Bool, true, false, cond, not, ◌&&◌, List, [], ◌∷◌, ◌++◌, length, map, refl, sym, ap, ◌∙◌, subst, arith, length-append, slice_index_or, Option, Some, None, min}
use Rattle.std.proofs.Math.Nat.{le-min, min-le_left, min-le_right}
use Rattle.std.specs.List.{filter, flat_map, list_any}
use Rattle.plan_dag.specs.declared.cols.Col.{Col}
use Rattle.plan_dag.specs.declared.op.OpId.{OpId}
use Rattle.plan_dag.specs.declared.op.Op.{Op}
use Rattle.plan_dag.specs.declared.op.Op.TheVariants as o
use Rattle.plan_dag.specs.Cells.{Rules, Outcome, Gives, Fails, Silent, given, code_in}
use Rattle.plan_dag.specs.ItemRules.{Cell}
use Rattle.plan_dag.specs.Orders.{firsts, has}
use Rattle.plan_dag.specs.Rows.{numbered, group_rows, group_value, first_rows, is_code, all_same, keys_less, rows_with, num, compared}
use Rattle.xq_base.specs.declared.fun.CompOp.{CompOp}
use Rattle.plan_dag.specs.Meaning.{Table, no_table, table_of, table_at, input_table, cell, cells, sort_keys, same_part, is_true_outcome, fails_with}
use Rattle.plan_dag.specs.Schema.{first_input, second_input}
use Rattle.lift_prims.specs.Forms.{FormSmall}

pub map_long : {A B : Type 0} (f : A → B) (xs : List A) → length (map f xs) ≡ length xs
map_long f [] = refl
map_long f (x ∷ xs) = ap suc (map_long f xs)

pub filter_few : {A : Type 0} (p : A → Bool) (xs : List A) → length (filter p xs) ≤ length xs
filter_few p [] = omega arith
filter_few p (x ∷ xs) = go (p x) (filter_few p xs)
  where
    go : (b : Bool) → length (filter p xs) ≤ length xs → length (cond b (x ∷ filter p xs) (filter p xs)) ≤ length (x ∷ xs)
    go true h = omega arith
    go false h = omega arith

firsts_few : {A : Type 0} (eq : A → A → Bool) (seen xs : List A) → length (firsts eq seen xs) ≤ length xs
firsts_few eq seen [] = omega arith
firsts_few eq seen (x ∷ xs) = go (has eq x seen) (firsts_few eq seen xs) (firsts_few eq (x ∷ seen) xs)
  where
    go : (b : Bool) → length (firsts eq seen xs) ≤ length xs → length (firsts eq (x ∷ seen) xs) ≤ length xs → length (cond b (firsts eq seen xs) (x ∷ firsts eq (x ∷ seen) xs)) ≤ length (x ∷ xs)
    go true h k = omega arith
    go false h k = omega arith

flat_few : {A B : Type 0} (f : A → List B) (xs : List A) → ((x : A) → length (f x) ≤ 1) → length (flat_map f xs) ≤ length xs
flat_few f [] h = omega arith
flat_few f (x ∷ xs) h = let a = h x in let b = flat_few f xs h in let c = length-append (f x) (flat_map f xs) in omega arith

given_few : {X Y : Type 0} (f : X → Y) (u : Outcome X) → length (map f (given u)) ≤ 1
given_few f (Gives x) = omega arith
given_few f (Fails c) = omega arith
given_few f Silent = omega arith

pub numbered_long : (R : Rules Cell) (part lt : List Cell → List Cell → Bool) (all done rows : List (List Cell)) → length (numbered R part lt all done rows) ≡ length rows
numbered_long R part lt all done [] = refl
numbered_long R part lt all done (r ∷ rows) = ap suc (numbered_long R part lt all (done ++ r ∷ []) rows)

-- a union has at most the rows of both, and exactly its own
pub by_both : (x y : ℕ) {n : ℕ} → x ≤ n → min x y ≤ n
by_both x y h = let m = min-le_left x y in omega arith

pub by_own : (x y : ℕ) {n : ℕ} → y ≤ n → min x y ≤ n
by_own x y h = let m = min-le_right x y in omega arith

-- a bound of a place, where there is one
abbrev pub bound_at : List ℕ → OpId → ℕ
bound_at bs i = slice_index_or bs i.0 0

module _ (R : Rules Cell) where
  abbrev pub rows_long : List (Table Cell) → Op → ℕ
  rows_long ts op = length (table_of R ts op).rows

  abbrev pub bound_of : List (Table Cell) → List ℕ → Op → ℕ
  bound_of ts bs (o.Unit c) = 1
  bound_of ts bs (o.Empty cs) = 0
  bound_of ts bs (o.Project i ps) = bound_at bs i
  bound_of ts bs (o.Attach i c v) = bound_at bs i
  bound_of ts bs (o.Select i c) = bound_at bs i
  bound_of ts bs (o.Union i j) = min (bound_at bs i + bound_at bs j) (rows_long ts (o.Union i j))
  bound_of ts bs (o.Difference i j a b) = bound_at bs i
  bound_of ts bs (o.Distinct i cs) = bound_at bs i
  bound_of ts bs (o.Rownum i c ks part) = bound_at bs i
  bound_of ts bs (o.Count i g c) = bound_at bs i
  bound_of ts bs (o.Aggregate i agg g v c) = bound_at bs i
  bound_of ts bs (o.AggregateFails i agg code g v) = bound_at bs i
  bound_of ts bs (o.Map i fun as' c) = bound_at bs i
  bound_of ts bs (o.MapFails i fun code as') = bound_at bs i
  bound_of ts bs (o.ExistsCompare i j op a v b w) = bound_at bs i
  bound_of ts bs (o.CompareFails i j op code a v b w) = bound_at bs i
  bound_of ts bs op = rows_long ts op

  abbrev pub Bounded : List (Table Cell) → List ℕ → Type 0
  Bounded ts bs = (k : ℕ) → length (slice_index_or ts k no_table).rows ≤ slice_index_or bs k 0

  -- each operator's bound is at most this number
  abbrev pub AllMost : ℕ → List (Table Cell) → List ℕ → List Op → Type 0
  AllMost most ts bs [] = Unit {0}
  AllMost most ts bs (op ∷ ops) = (bound_of ts bs op ≤ most) × AllMost most (ts ++ table_of R ts op ∷ []) (bs ++ bound_of ts bs op ∷ []) ops

  module _ (ts : List (Table Cell)) (bs : List ℕ) (h : Bounded ts bs) where
    compared_few : (passes : Outcome Bool → Bool) (op : CompOp) (i j : OpId) (a v b w : Col)
        → length (compared R passes op (cell R (table_at ts i).cols a) (cell R (table_at ts i).cols v) (cell R (table_at ts j).cols b) (cell R (table_at ts j).cols w) (table_at ts i).rows (table_at ts j).rows) ≤ bound_at bs i
    compared_few passes op i j a v b w =
        let x = h i.0 in
        let f = cell R (table_at ts i).cols a in
        let g = cell R (table_at ts i).cols v in
        let p : List Cell → Bool = λ l. list_any (λ r. R.same (f l) (cell R (table_at ts j).cols b r) && passes (R.pair op (g l) (cell R (table_at ts j).cols w r))) (table_at ts j).rows in
        let k = filter_few p (table_at ts i).rows in
        let y = firsts_few (λ q r. R.same (f q) (f r)) [] (filter p (table_at ts i).rows) in
        let z = map_long (λ l. f l ∷ []) (group_rows R f (filter p (table_at ts i).rows)) in
        omega arith

    bounds : (op : Op) → rows_long ts op ≤ bound_of ts bs op
    bounds (o.Unit c) = omega arith
    bounds (o.Empty cs) = omega arith
    bounds (o.Project i ps) = let a = h i.0 in let b = map_long (cells R (table_at ts i).cols (map (λ p. p.old) ps)) (table_at ts i).rows in omega arith
    bounds (o.Attach i c v) = let a = h i.0 in let b = map_long (λ q. q ++ R.constant v ∷ []) (table_at ts i).rows in omega arith
    bounds (o.Select i c) = let a = h i.0 in let b = filter_few (λ q. R.is_true (cell R (table_at ts i).cols c q)) (table_at ts i).rows in omega arith
    bounds (o.Join i j a b) = omega arith
    bounds (o.Union i j) =
        let x = h i.0 in
        let y = h j.0 in
        let m = map_long (cells R (table_at ts j).cols (table_at ts i).cols) (table_at ts j).rows in
        let n = length-append (table_at ts i).rows (map (cells R (table_at ts j).cols (table_at ts i).cols) (table_at ts j).rows) in
        le-min (omega arith) (omega arith)
    bounds (o.Difference i j a b) =
        let x = h i.0 in
        let y = filter_few (λ l. not (list_any (λ r. R.same (cell R (table_at ts i).cols a l) (cell R (table_at ts j).cols b r)) (table_at ts j).rows)) (table_at ts i).rows in
        omega arith
    bounds (o.Distinct i cs) =
        let x = h i.0 in
        let f = cells R (table_at ts i).cols cs in
        let y = firsts_few (λ q r. all_same R (f q) (f r)) [] (table_at ts i).rows in
        omega arith
    bounds (o.Rownum i c ks part) =
        let x = h i.0 in
        let y = numbered_long R (same_part R (table_at ts i).cols part) (keys_less R (sort_keys R (table_at ts i).cols ks)) (table_at ts i).rows [] (table_at ts i).rows in
        omega arith
    bounds (o.Count i g c) =
        let x = h i.0 in
        let f = cell R (table_at ts i).cols g in
        let y = firsts_few (λ q r. R.same (f q) (f r)) [] (table_at ts i).rows in
        let z = map_long (λ r. f r ∷ num R (length (rows_with R f (f r) (table_at ts i).rows)) ∷ []) (group_rows R f (table_at ts i).rows) in
        omega arith
    bounds (o.Aggregate i agg g v c) =
        let x = h i.0 in
        let f = cell R (table_at ts i).cols g in
        let k = cell R (table_at ts i).cols v in
        let rs = (table_at ts i).rows in
        let y = firsts_few (λ q r. R.same (f q) (f r)) [] rs in
        let z = flat_few (λ r. map (λ w. f r ∷ w ∷ []) (given (group_value R agg f k rs r))) (group_rows R f rs) (λ r. given_few (λ w. f r ∷ w ∷ []) (group_value R agg f k rs r)) in
        omega arith
    bounds (o.AggregateFails i agg code g v) =
        let x = h i.0 in
        let f = cell R (table_at ts i).cols g in
        let k = cell R (table_at ts i).cols v in
        let rs = (table_at ts i).rows in
        let y = firsts_few (λ q r. R.same (f q) (f r)) [] rs in
        let p : List Cell → Bool = λ r. is_code code (code_in (group_value R agg f k rs r)) in
        let z = filter_few p (group_rows R f rs) in
        let u = map_long (λ r. f r ∷ []) (filter p (group_rows R f rs)) in
        omega arith
    bounds (o.Map i fun as' c) =
        let x = h i.0 in
        let f = cells R (table_at ts i).cols as' in
        let rs = (table_at ts i).rows in
        let z = flat_few (λ r. map (λ v. r ++ v ∷ []) (given (R.value fun (f r)))) rs (λ r. given_few (λ v. r ++ v ∷ []) (R.value fun (f r))) in
        omega arith
    bounds (o.MapFails i fun code as') =
        let x = h i.0 in
        let f = cells R (table_at ts i).cols as' in
        let z = filter_few (λ r. is_code code (code_in (R.value fun (f r)))) (table_at ts i).rows in
        omega arith
    bounds (o.Range i a b c) = omega arith
    bounds (o.ExistsCompare i j op a v b w) = compared_few (is_true_outcome) op i j a v b w
    bounds (o.CompareFails i j op code a v b w) = compared_few (fails_with code) op i j a v b w
    bounds (o.Step i axis wanted site offset it v) = omega arith
    bounds (o.Element i j site it p v) = omega arith
    bounds (o.Attribute i j site it p v) = omega arith
    bounds (o.Pi i j site it p v) = omega arith
    bounds (o.Text i j site it p v) = omega arith
    bounds (o.Comment i j site it p v) = omega arith
    bounds (o.Document i j site it p v) = omega arith
    bounds (o.ContentFails j place code it p v) = omega arith

  more_bounded : (ts : List (Table Cell)) (bs : List ℕ) → length bs ≡ length ts → Bounded ts bs → (t : Table Cell) (b : ℕ) → length t.rows ≤ b → Bounded (ts ++ t ∷ []) (bs ++ b ∷ [])
  more_bounded [] [] e h t b l zero = l
  more_bounded [] [] e h t b l (suc k) = omega arith
  more_bounded [] (c ∷ bs) e h t b l k = absurd (omega arith)
  more_bounded (u ∷ ts) [] e h t b l k = absurd (omega arith)
  more_bounded (u ∷ ts) (c ∷ bs) e h t b l zero = h 0
  more_bounded (u ∷ ts) (c ∷ bs) e h t b l (suc k) = more_bounded ts bs (omega arith) (λ j. h (suc j)) t b l k

  pub small_by : (most : ℕ) (ts : List (Table Cell)) (bs : List ℕ) (ops : List Op) → length bs ≡ length ts → Bounded ts bs → AllMost most ts bs ops → FormSmall R most ts ops
  small_by most ts bs [] e h a = tt
  small_by most ts bs (op ∷ ops) e h a =
      let l = bounds ts bs h op in
      let x = length-append bs (bound_of ts bs op ∷ []) in
      let y = length-append ts (table_of R ts op ∷ []) in
      (omega (arith, a.0), small_by most (ts ++ table_of R ts op ∷ []) (bs ++ bound_of ts bs op ∷ []) ops (omega arith) (more_bounded ts bs e h (table_of R ts op) (bound_of ts bs op) l) a.1)

  -- over inputs with these tables, by the numbers of their rows
  abbrev pub long_rows : List (Table Cell) → List ℕ
  long_rows ts = map (λ (t : Table Cell). length t.rows) ts

  own_bound : (ts : List (Table Cell)) → Bounded ts (long_rows ts)
  own_bound [] k = omega arith
  own_bound (t ∷ ts) zero = omega arith
  own_bound (t ∷ ts) (suc k) = own_bound ts k

  pub small_form : (most : ℕ) (ts : List (Table Cell)) (ops : List Op) → AllMost most ts (long_rows ts) ops → FormSmall R most ts ops
  small_form most ts ops a = small_by most ts (long_rows ts) ops (map_long (λ (t : Table Cell). length t.rows) ts) (own_bound ts) a
