-- The tables of a plan: each is that of its operator over those of its inputs, with the operator's columns.
use Rattle.std.proofs.Common.{◌≡◌, ℕ, zero, suc, ◌+◌, ◌<◌, true, List, [], ◌∷◌, ◌++◌, length, map, refl, sym, ap, ◌∙◌, subst, arith, Option, Some, None}
use Rattle.std.specs.Prelude.{slice_get, slice_index_or}
use Rattle.std.proofs.lemmas.Bool.{and_parts, ltb-true}
use Rattle.plan_dag.specs.declared.cols.Col.{Col}
use Rattle.plan_dag.specs.declared.op.Op.{Op}
use Rattle.plan_dag.specs.declared.op.OpId.{OpId}
use Rattle.plan_dag.specs.Cells.{Rules}
use Rattle.plan_dag.specs.Meaning.{Table, no_table, input_table, table_over, table_of, tables_from, tables}
use Rattle.plan_dag.specs.Schema.{columns_of, input_cols, columns, schemas_from, schemas, first_input, second_input, stands_before, reads_before, fits, fits_columns, fits_over, site_is_new, valid_from, is_valid}
use Rattle.plan_eval.proofs.OnceMaps.{append-assoc}

-- ---- lists

index-left : {X : Type 0} (xs ys : List X) (k : ℕ) (d : X) → k < length xs → slice_index_or (xs ++ ys) k d ≡ slice_index_or xs k d
index-left [] ys k d l = absurd (omega (arith, l))
index-left (x ∷ xs) ys zero d l = refl
index-left (x ∷ xs) ys (suc k) d l = index-left xs ys k d (omega (arith, l))

index-end : {X : Type 0} (xs : List X) (x d : X) → slice_index_or (xs ++ x ∷ []) (length xs) d ≡ x
index-end [] x d = refl
index-end (y ∷ xs) x d = index-end xs x d

longer : {X : Type 0} (xs : List X) (x : X) → length (xs ++ x ∷ []) ≡ suc (length xs)
longer [] x = refl
longer (y ∷ xs) x = ap suc (longer xs x)

index-map : {X Y : Type 0} (f : X → Y) (xs : List X) (k : ℕ) (d : X) (e : Y) → f d ≡ e → f (slice_index_or xs k d) ≡ slice_index_or (map f xs) k e
index-map f [] k d e q = q
index-map f (x ∷ xs) zero d e q = refl
index-map f (x ∷ xs) (suc k) d e q = index-map f xs k d e q

map-end : {X Y : Type 0} (f : X → Y) (xs : List X) (x : X) → map f (xs ++ x ∷ []) ≡ map f xs ++ f x ∷ []
map-end f [] x = refl
map-end f (y ∷ xs) x = ap (λ z. f y ∷ z) (map-end f xs x)

inner : {X : Type 0} {x y : X} → Some x ≡ Some y → x ≡ y
inner e = cc

module _ {C : Type 0} (R : Rules C) where
  kept-from : (ts : List (Table C)) (ops : List Op) (k : ℕ) → k < length ts → slice_index_or (tables_from R ts ops) k no_table ≡ slice_index_or ts k no_table
  kept-from ts [] k l = refl
  kept-from ts (op ∷ ops) k l =
      let t = table_of R ts op in
      let n = longer ts t in
      kept-from (ts ++ t ∷ []) ops k (omega (arith, l, n)) ∙ index-left ts (t ∷ []) k no_table l

  input-from : (ts : List (Table C)) (ops : List Op) (input : Option OpId) → stands_before (length ts) input ≡ true → input_table R (tables_from R ts ops) input ≡ input_table R ts input
  input-from ts ops None h = refl
  input-from ts ops (Some i) h = kept-from ts ops i.0 (ltb-true i.0 (length ts) h)

  at-from : (ts : List (Table C)) (ops : List Op) (k : ℕ) (op : Op) → slice_get ops k ≡ Some op → stands_before (length ts + k) (first_input op) ≡ true → stands_before (length ts + k) (second_input op) ≡ true
      → slice_index_or (tables_from R ts ops) (length ts + k) no_table ≡ table_of R (tables_from R ts ops) op
  at-from ts [] k op g a b = absurd (cc)
  at-from ts (x ∷ ops) zero op g a b =
      let same : x ≡ op = inner g in
      let t = table_of R ts x in
      let n = longer ts t in
      let z : length ts + 0 ≡ length ts = omega arith in
      let fa = subst (λ m. stands_before m (first_input op) ≡ true) z a in
      let fb = subst (λ m. stands_before m (second_input op) ≡ true) z b in
      let all = tables_from R ts (x ∷ ops) in
      ap (λ m. slice_index_or all m no_table) z ∙ kept-from (ts ++ t ∷ []) ops (length ts) (omega (arith, n)) ∙ index-end ts t no_table ∙ ap (table_of R ts) same
      ∙ ap (λ l. table_over R op l (input_table R ts (second_input op))) (sym (input-from ts (x ∷ ops) (first_input op) fa))
      ∙ ap (λ r. table_over R op (input_table R all (first_input op)) r) (sym (input-from ts (x ∷ ops) (second_input op) fb))
  at-from ts (x ∷ ops) (suc k) op g a b =
      let t = table_of R ts x in
      let n = longer ts t in
      let z : length ts + suc k ≡ length (ts ++ t ∷ []) + k = omega (arith, n) in
      ap (λ m. slice_index_or (tables_from R ts (x ∷ ops)) m no_table) z
      ∙ at-from (ts ++ t ∷ []) ops k op g (subst (λ m. stands_before m (first_input op) ≡ true) z a) (subst (λ m. stands_before m (second_input op) ≡ true) z b)

  input-cols : (ts : List (Table C)) (input : Option OpId) → (input_table R ts input).cols ≡ input_cols (map (λ t. t.cols) ts) input
  input-cols ts None = refl
  input-cols ts (Some i) = index-map (λ (t : Table C). t.cols) ts i.0 no_table [] refl

  cols-of : (ts : List (Table C)) (op : Op) → (table_of R ts op).cols ≡ columns (map (λ t. t.cols) ts) op
  cols-of ts op =
      ap (λ z. columns_of op z (input_table R ts (second_input op)).cols) (input-cols ts (first_input op))
      ∙ ap (columns_of op (input_cols (map (λ (t : Table C). t.cols) ts) (first_input op))) (input-cols ts (second_input op))

  cols-from : (ts : List (Table C)) (ops : List Op) → map (λ t. t.cols) (tables_from R ts ops) ≡ schemas_from (map (λ t. t.cols) ts) ops
  cols-from ts [] = refl
  cols-from ts (op ∷ ops) =
      cols-from (ts ++ table_of R ts op ∷ []) ops
      ∙ ap (λ z. schemas_from z ops) (map-end (λ (t : Table C). t.cols) ts (table_of R ts op) ∙ ap (λ z. map (λ (t : Table C). t.cols) ts ++ z ∷ []) (cols-of ts op))

  tables-from-length : (ts : List (Table C)) (ops : List Op) → length (tables_from R ts ops) ≡ length ts + length ops
  tables-from-length ts [] = omega arith
  tables-from-length ts (op ∷ ops) =
      let r = tables-from-length (ts ++ table_of R ts op ∷ []) ops in
      let n = longer ts (table_of R ts op) in
      omega (arith, r, n)

  pub tables-length : (ops : List Op) → length (tables R ops) ≡ length ops
  tables-length ops = let r = tables-from-length [] ops in omega (arith, r)

  -- the columns of the table of an input
  pub table-cols : (ops : List Op) (input : Option OpId) → (input_table R (tables R ops) input).cols ≡ input_cols (schemas ops) input
  table-cols ops input = input-cols (tables R ops) input ∙ ap (λ z. input_cols z input) (cols-from [] ops)

-- ---- what validity says

schemas-kept : (s : List (List Col)) (ops : List Op) (k : ℕ) → k < length s → slice_index_or (schemas_from s ops) k [] ≡ slice_index_or s k []
schemas-kept s [] k l = refl
schemas-kept s (op ∷ ops) k l =
    let t = columns s op in
    let n = longer s t in
    schemas-kept (s ++ t ∷ []) ops k (omega (arith, l, n)) ∙ index-left s (t ∷ []) k [] l

schemas-length : (s : List (List Col)) (ops : List Op) → length (schemas_from s ops) ≡ length s + length ops
schemas-length s [] = omega arith
schemas-length s (op ∷ ops) =
    let r = schemas-length (s ++ columns s op ∷ []) ops in
    let n = longer s (columns s op) in
    omega (arith, r, n)

schemas-append : (s : List (List Col)) (xs ys : List Op) → schemas_from s (xs ++ ys) ≡ schemas_from (schemas_from s xs) ys
schemas-append s [] ys = refl
schemas-append s (x ∷ xs) ys = schemas-append (s ++ columns s x ∷ []) xs ys

-- an operator fits behind some first ones, which are those before it
record FitsAfter (done ops : List Op) (k : ℕ) (op : Op) : Type 0 where
  pub before : List Op
  pub behind : List Op
  pub whole : done ++ ops ≡ before ++ behind
  pub many : length before ≡ length done + k
  pub fits_there : fits before op ≡ true

fits-after : (done ops : List Op) (k : ℕ) (op : Op) → valid_from done ops ≡ true → slice_get ops k ≡ Some op → FitsAfter done ops k op
fits-after done [] k op v g = absurd (cc)
fits-after done (x ∷ ops) zero op v g =
    let p = and_parts (fits done x) (valid_from (done ++ x ∷ []) ops) v in
    record { before = done; behind = x ∷ ops; whole = refl; many = omega arith; fits_there = ap (fits done) (sym (inner g)) ∙ p.0 }
fits-after done (x ∷ ops) (suc k) op v g =
    let p = and_parts (fits done x) (valid_from (done ++ x ∷ []) ops) v in
    let r = fits-after (done ++ x ∷ []) ops k op p.1 g in
    let n = longer done x in
    let m = r.many in
    record { before = r.before; behind = r.behind; whole = sym (append-assoc done (x ∷ []) ops) ∙ r.whole; many = omega (arith, m, n); fits_there = r.fits_there }

-- what is known of an operator of a valid plan
pub record FitsIn (ops : List Op) (k : ℕ) (op : Op) : Type 0 where
  pub first_before : stands_before k (first_input op) ≡ true
  pub second_before : stands_before k (second_input op) ≡ true
  pub over : fits_over op (input_cols (schemas ops) (first_input op)) (input_cols (schemas ops) (second_input op)) ≡ true

pub fits-in : (ops : List Op) (k : ℕ) (op : Op) → is_valid ops ≡ true → slice_get ops k ≡ Some op → FitsIn ops k op
fits-in ops k op v g =
    let r = fits-after [] ops k op v g in
    let s = schemas r.before in
    let n = schemas-length [] r.before in
    let m = r.many in
    let many : length s ≡ k = omega (arith, n, m) in
    let a = and_parts (fits_columns s op) (site_is_new r.before op) r.fits_there in
    let b = and_parts (reads_before (length s) op) (fits_over op (input_cols s (first_input op)) (input_cols s (second_input op))) a.0 in
    let c = and_parts (stands_before (length s) (first_input op)) (stands_before (length s) (second_input op)) b.0 in
    let all : schemas ops ≡ schemas_from s r.behind = ap schemas r.whole ∙ schemas-append [] r.before r.behind in
    record {
      first_before = subst (λ z. stands_before z (first_input op) ≡ true) many c.0;
      second_before = subst (λ z. stands_before z (second_input op) ≡ true) many c.1;
      over =
          ap (λ z. fits_over op z (input_cols (schemas ops) (second_input op))) (kept s r.behind (schemas ops) all (first_input op) c.0)
          ∙ ap (fits_over op (input_cols s (first_input op))) (kept s r.behind (schemas ops) all (second_input op) c.1) ∙ b.1;
    }
  where
    kept : (s : List (List Col)) (behind : List Op) (whole : List (List Col)) → whole ≡ schemas_from s behind → (input : Option OpId) → stands_before (length s) input ≡ true → input_cols whole input ≡ input_cols s input
    kept s behind whole e None h = refl
    kept s behind whole e (Some i) h = ap (λ z. slice_index_or z i.0 []) e ∙ schemas-kept s behind i.0 (ltb-true i.0 (length s) h)

-- the table of an operator's number is its table over its inputs'
pub table-is : {C : Type 0} (R : Rules C) (ops : List Op) (k : ℕ) (op : Op) → slice_get ops k ≡ Some op → FitsIn ops k op → slice_index_or (tables R ops) k no_table ≡ table_of R (tables R ops) op
table-is R ops k op g f =
    let z : 0 + k ≡ k = omega arith in
    ap (λ m. slice_index_or (tables R ops) m no_table) (sym z) ∙ at-from R [] ops k op g (subst (λ m. stands_before m (first_input op) ≡ true) (sym z) f.first_before) (subst (λ m. stands_before m (second_input op) ≡ true) (sym z) f.second_before)
