-- An operator of a form and the one of a plan that stands for it: the same but for what they read.
use Rattle.std.proofs.Common.{◌≡◌, ℕ, zero, suc, ◌<◌, Bool, true, false, ◌&&◌, List, [], ◌∷◌, length, map, refl, sym, ap, ◌∙◌, subst, arith, slice_index_or, Option, Some, None, nat_lt}
use Rattle.std.proofs.lemmas.Bool.{ltb-true, and_parts}
use Rattle.xq_base.specs.Texts.{Text}
use Rattle.plan_dag.specs.declared.cols.Col.{Col}
use Rattle.plan_dag.specs.declared.op.OpId.{OpId}
use Rattle.plan_dag.specs.declared.op.Op.{Op}
use Rattle.plan_dag.specs.declared.op.Op.TheVariants as o
use Rattle.plan_dag.specs.Cells.{Rules}
use Rattle.plan_dag.specs.ItemRules.{Cell}
use Rattle.plan_dag.specs.Meaning.{Table, Graph, no_table, table_at, rows_of, table_over, input_table, table_of}
use Rattle.plan_dag.specs.Schema.{first_input, second_input, stands_before, reads_before, names_fit, fits_over, fits_columns, columns_of, input_cols, columns, cols_at, is_schema, site_of, is_constructor}
use Rattle.lift_laws.specs.Sums.{AllOf}
use Rattle.lift_laws.specs.States.{step_at, op_id}
use Rattle.lift_prims.specs.Forms.{is_plain, id_at, placed}

abbrev pub moved : List OpId → Option OpId → Option OpId
moved ids None = None
moved ids (Some i) = Some (id_at ids i)

pub record Twin (ids : List OpId) (op new : Op) : Type 0 where
  pub first : first_input new ≡ moved ids (first_input op)
  pub second : second_input new ≡ moved ids (second_input op)
  pub rows : (R : Rules Cell) → rows_of R new ≡ rows_of R op
  pub cols : columns_of new ≡ columns_of op
  pub names : names_fit new ≡ names_fit op
  pub site : site_of new ≡ None
  pub step : (texts : List Text) (n : ℕ) → step_at texts n new ≡ []
  pub plain : is_constructor new ≡ false

pub twin : (ids : List OpId) (op : Op) → is_plain op ≡ true → Twin ids op (placed ids op)
twin ids (o.Unit c) e = record { first = refl; second = refl; rows = λ R. refl; cols = refl; names = refl; site = refl; step = λ texts n. refl; plain = refl }
twin ids (o.Empty cs) e = record { first = refl; second = refl; rows = λ R. refl; cols = refl; names = refl; site = refl; step = λ texts n. refl; plain = refl }
twin ids (o.Project i ps) e = record { first = refl; second = refl; rows = λ R. refl; cols = refl; names = refl; site = refl; step = λ texts n. refl; plain = refl }
twin ids (o.Attach i c v) e = record { first = refl; second = refl; rows = λ R. refl; cols = refl; names = refl; site = refl; step = λ texts n. refl; plain = refl }
twin ids (o.Select i c) e = record { first = refl; second = refl; rows = λ R. refl; cols = refl; names = refl; site = refl; step = λ texts n. refl; plain = refl }
twin ids (o.Join i j a b) e = record { first = refl; second = refl; rows = λ R. refl; cols = refl; names = refl; site = refl; step = λ texts n. refl; plain = refl }
twin ids (o.Union i j) e = record { first = refl; second = refl; rows = λ R. refl; cols = refl; names = refl; site = refl; step = λ texts n. refl; plain = refl }
twin ids (o.Difference i j a b) e = record { first = refl; second = refl; rows = λ R. refl; cols = refl; names = refl; site = refl; step = λ texts n. refl; plain = refl }
twin ids (o.Distinct i cs) e = record { first = refl; second = refl; rows = λ R. refl; cols = refl; names = refl; site = refl; step = λ texts n. refl; plain = refl }
twin ids (o.Rownum i c ks part) e = record { first = refl; second = refl; rows = λ R. refl; cols = refl; names = refl; site = refl; step = λ texts n. refl; plain = refl }
twin ids (o.Count i g c) e = record { first = refl; second = refl; rows = λ R. refl; cols = refl; names = refl; site = refl; step = λ texts n. refl; plain = refl }
twin ids (o.Aggregate i agg g v c) e = record { first = refl; second = refl; rows = λ R. refl; cols = refl; names = refl; site = refl; step = λ texts n. refl; plain = refl }
twin ids (o.AggregateFails i agg code g v) e = record { first = refl; second = refl; rows = λ R. refl; cols = refl; names = refl; site = refl; step = λ texts n. refl; plain = refl }
twin ids (o.Map i fun as' c) e = record { first = refl; second = refl; rows = λ R. refl; cols = refl; names = refl; site = refl; step = λ texts n. refl; plain = refl }
twin ids (o.MapFails i fun code as') e = record { first = refl; second = refl; rows = λ R. refl; cols = refl; names = refl; site = refl; step = λ texts n. refl; plain = refl }
twin ids (o.Range i a b c) e = record { first = refl; second = refl; rows = λ R. refl; cols = refl; names = refl; site = refl; step = λ texts n. refl; plain = refl }
twin ids (o.ExistsCompare i j op a v b w) e = record { first = refl; second = refl; rows = λ R. refl; cols = refl; names = refl; site = refl; step = λ texts n. refl; plain = refl }
twin ids (o.CompareFails i j op code a v b w) e = record { first = refl; second = refl; rows = λ R. refl; cols = refl; names = refl; site = refl; step = λ texts n. refl; plain = refl }
twin ids (o.Step i axis wanted site offset it v) e = cc
twin ids (o.Element i j site it p v) e = cc
twin ids (o.Attribute i j site it p v) e = cc
twin ids (o.Pi i j site it p v) e = cc
twin ids (o.Text i j site it p v) e = cc
twin ids (o.Comment i j site it p v) e = cc
twin ids (o.Document i j site it p v) e = cc
twin ids (o.ContentFails j place code it p v) e = cc

-- what stands at a place of a list
get_map : {A B : Type 0} (f : A → B) (xs : List A) (k : ℕ) (d : A) (e : B) → k < length xs → slice_index_or (map f xs) k e ≡ f (slice_index_or xs k d)
get_map f [] k d e l = absurd (omega arith)
get_map f (x ∷ xs) zero d e l = refl
get_map f (x ∷ xs) (suc k) d e l = get_map f xs k d e (omega arith)

length_map : {A B : Type 0} (f : A → B) (xs : List A) → length (map f xs) ≡ length xs
length_map f [] = refl
length_map f (x ∷ xs) = ap suc (length_map f xs)

-- over the tables of the places
module _ (R : Rules Cell) (ts : List (Table Cell)) (ids : List OpId) where
  abbrev here : List (Table Cell)
  here = map (table_at ts) ids

  input_same : (i : Option OpId) → stands_before (length ids) i ≡ true → input_table R ts (moved ids i) ≡ input_table R here i
  input_same None e = refl
  input_same (Some i) e = sym (get_map (table_at ts) ids i.0 (op_id 0) no_table (ltb-true i.0 (length ids) e))

  pub table_same : (op : Op) → is_plain op ≡ true → reads_before (length ids) op ≡ true → table_of R ts (placed ids op) ≡ table_of R here op
  table_same op p e =
      let w = twin ids op p in
      let b = and_parts (stands_before (length ids) (first_input op)) (stands_before (length ids) (second_input op)) e in
      let l : input_table R ts (first_input (placed ids op)) ≡ input_table R here (first_input op) = ap (input_table R ts) w.first ∙ input_same (first_input op) b.0 in
      let r : input_table R ts (second_input (placed ids op)) ≡ input_table R here (second_input op) = ap (input_table R ts) w.second ∙ input_same (second_input op) b.1 in
      ap (λ x. table_over R (placed ids op) x (input_table R ts (second_input (placed ids op)))) l
      ∙ ap (λ x. table_over R (placed ids op) (input_table R here (first_input op)) x) r
      ∙ ap (λ (f : List Col → List Col → List Col). record { cols = f (input_table R here (first_input op)).cols (input_table R here (second_input op)).cols; rows = rows_of R (placed ids op) (input_table R here (first_input op)) (input_table R here (second_input op)) }) w.cols
      ∙ ap (λ (f : Table Cell → Table Cell → List (List Cell)). record { cols = columns_of op (input_table R here (first_input op)).cols (input_table R here (second_input op)).cols; rows = f (input_table R here (first_input op)) (input_table R here (second_input op)) }) (w.rows R)

-- over the columns of the places
module _ (s : List (List Col)) (ids : List OpId) (there : AllOf (λ i. i.0 < length s) ids) where
  abbrev cols_here : List (List Col)
  cols_here = map (cols_at s) ids

  cols_same : (i : Option OpId) → stands_before (length ids) i ≡ true → input_cols s (moved ids i) ≡ input_cols cols_here i
  cols_same None e = refl
  cols_same (Some i) e = sym (get_map (cols_at s) ids i.0 (op_id 0) [] (ltb-true i.0 (length ids) e))

  below : (ids : List OpId) → AllOf (λ i. i.0 < length s) ids → (k : ℕ) → k < length ids → (slice_index_or ids k (op_id 0)).0 < length s
  below [] a k l = absurd (omega arith)
  below (i ∷ is) a zero l = a.0
  below (i ∷ is) a (suc k) l = below is a.1 k (omega arith)

  before_same : (i : Option OpId) → stands_before (length ids) i ≡ true → stands_before (length s) (moved ids i) ≡ true
  before_same None e = refl
  before_same (Some i) e = grind (arith, below ids there i.0 (ltb-true i.0 (length ids) e))

  pub columns_same : (op : Op) → is_plain op ≡ true → reads_before (length ids) op ≡ true → columns s (placed ids op) ≡ columns cols_here op
  columns_same op p e =
      let w = twin ids op p in
      let b = and_parts (stands_before (length ids) (first_input op)) (stands_before (length ids) (second_input op)) e in
      ap (λ (f : List Col → List Col → List Col). f (input_cols s (first_input (placed ids op))) (input_cols s (second_input (placed ids op)))) w.cols
      ∙ ap (λ x. columns_of op x (input_cols s (second_input (placed ids op)))) (ap (input_cols s) w.first ∙ cols_same (first_input op) b.0)
      ∙ ap (λ x. columns_of op (input_cols cols_here (first_input op)) x) (ap (input_cols s) w.second ∙ cols_same (second_input op) b.1)

  pub fits_same : (op : Op) → is_plain op ≡ true → fits_columns cols_here op ≡ true → fits_columns s (placed ids op) ≡ true
  fits_same op p e =
      let w = twin ids op p in
      let a = and_parts (reads_before (length cols_here) op) (fits_over op (input_cols cols_here (first_input op)) (input_cols cols_here (second_input op))) e in
      let n : reads_before (length ids) op ≡ true = subst (λ n. reads_before n op ≡ true) (length_map (cols_at s) ids) a.0 in
      let b = and_parts (stands_before (length ids) (first_input op)) (stands_before (length ids) (second_input op)) n in
      let l : input_cols s (first_input (placed ids op)) ≡ input_cols cols_here (first_input op) = ap (input_cols s) w.first ∙ cols_same (first_input op) b.0 in
      let r : input_cols s (second_input (placed ids op)) ≡ input_cols cols_here (second_input op) = ap (input_cols s) w.second ∙ cols_same (second_input op) b.1 in
      let q0 : stands_before (length s) (first_input (placed ids op)) ≡ true = ap (stands_before (length s)) w.first ∙ before_same (first_input op) b.0 in
      let q1 : stands_before (length s) (second_input (placed ids op)) ≡ true = ap (stands_before (length s)) w.second ∙ before_same (second_input op) b.1 in
      let f : fits_over (placed ids op) (input_cols s (first_input (placed ids op))) (input_cols s (second_input (placed ids op))) ≡ true =
      ap (λ x. fits_over (placed ids op) x (input_cols s (second_input (placed ids op)))) l
      ∙ ap (λ x. fits_over (placed ids op) (input_cols cols_here (first_input op)) x) r
      ∙ ap (λ (g : List Col → List Col → Bool). g (input_cols cols_here (first_input op)) (input_cols cols_here (second_input op)) && is_schema (columns_of (placed ids op) (input_cols cols_here (first_input op)) (input_cols cols_here (second_input op)))) w.names
      ∙ ap (λ (g : List Col → List Col → List Col). names_fit op (input_cols cols_here (first_input op)) (input_cols cols_here (second_input op)) && is_schema (g (input_cols cols_here (first_input op)) (input_cols cols_here (second_input op)))) w.cols
      ∙ a.1 in
      grind (arith, q0, q1, f)
