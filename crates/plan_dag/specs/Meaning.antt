-- What operators and plans mean, over the rules of cells (own rule).
use Rattle.std.specs.Prelude.{ℕ, ◌+◌, ℤ, pos, Bool, true, false, cond, not, ◌&&◌, ◌||◌, List, [], ◌∷◌, ◌++◌, length, map, Option, Some, None, nat_lt, nat_le, max, slice_index_or}
use Rattle.std.specs.List.{filter, flat_map, sum}
use Rattle.xq_base.specs.declared.code.Code.{Code}
use Rattle.doc_table.specs.Tree.{NodeKind, DocumentNode, ElementNode, AttributeNode, TextNode, CommentNode, InstructionNode}
use Rattle.plan_dag.specs.declared.cols.Col.{Col}
use Rattle.plan_dag.specs.declared.keys.Key.{Key}
use Rattle.plan_dag.specs.declared.pairs.Pair.{Pair}
use Rattle.plan_dag.specs.declared.op.OpId.{OpId}
use Rattle.plan_dag.specs.declared.op.Op.{Op}
use Rattle.plan_dag.specs.declared.op.Op.TheVariants as o
use Rattle.plan_dag.specs.declared.check.Check.{Check}
use Rattle.plan_dag.specs.Padded.{col_eq}
use Rattle.plan_dag.specs.Cells.{Rules, Outcome, Gives, Fails, Silent}
use Rattle.plan_dag.specs.Orders.{in_order}
use Rattle.plan_dag.specs.Rows.{joined, left_over, first_rows, keys_less, rownum_rows, count_rows, aggregate_rows, aggregate_fails_rows, map_rows, map_fails_rows, range_rows, compared, step_rows, content_at, made_rows, content_fails_rows, is_code, num}
use Rattle.plan_dag.specs.Cells.{code_in}
use Rattle.plan_dag.specs.Schema.{columns_of, first_input, second_input, is_constructor}

-- columns, and rows with a cell for each
pub record Table (C : Type 0) : Type 0 where
  pub cols : List Col
  pub rows : List (List C)

abbrev pub is_true_outcome : Outcome Bool → Bool
is_true_outcome (Gives b) = b
is_true_outcome (Fails c) = false
is_true_outcome Silent = false

abbrev pub fails_with : Code → Outcome Bool → Bool
fails_with c x = is_code c (code_in x)

module _ {C : Type 0} where
  abbrev pub no_table : Table C
  no_table = record { cols = []; rows = [] }

  -- the table of a number
  abbrev pub table_at : List (Table C) → OpId → Table C
  table_at ts i = slice_index_or ts i.0 no_table

  -- the cell of a row in a column, or this one, where the row has none there
  abbrev pub cell_or : C → List Col → Col → List C → C
  cell_or d [] c r = d
  cell_or d (k ∷ ks) c [] = d
  cell_or d (k ∷ ks) c (v ∷ vs) = cond (col_eq k c) v (cell_or d ks c vs)

module _ {C : Type 0} (R : Rules C) where
  -- the cell of a row in a column; every column that a valid plan names is there
  abbrev pub cell : List Col → Col → List C → C
  cell cs c r = cell_or (R.int (pos 0)) cs c r

  abbrev pub cells : List Col → List Col → List C → List C
  cells cs ds r = map (λ d. cell cs d r) ds

  abbrev pub sort_keys : List Col → List Key → List ((List C → C) × Bool)
  sort_keys cs ks = map (λ k. (cell cs k.col, k.descending)) ks

  abbrev pub same_part : List Col → Option Col → List C → List C → Bool
  same_part cs None q r = true
  same_part cs (Some c) q r = R.same (cell cs c q) (cell cs c r)

  -- the content of an iteration in a table
  abbrev pub content : Table C → Col → Col → Col → C → List C
  content t it p v i = content_at R (cell t.cols it) (cell t.cols p) (cell t.cols v) i t.rows

  abbrev pub built : NodeKind → ℕ → Table C → Table C → Col → Col → Col → (Table C → List C → List C) → List (List C)
  built kind site l t it p v name = made_rows R kind site (cell l.cols it) (name l) (content t it p v) l.rows

  abbrev pub named : Col → Table C → List C → List C
  named v l r = cell l.cols v r ∷ []

  abbrev pub unnamed : Table C → List C → List C
  unnamed l r = []

  -- the rows of an operator over its first and its second input
  abbrev pub rows_of : Op → Table C → Table C → List (List C)
  rows_of (o.Unit c) l r = (num R 1 ∷ []) ∷ []
  rows_of (o.Empty cs) l r = []
  rows_of (o.Project i ps) l r = map (cells l.cols (map (λ p. p.old) ps)) l.rows
  rows_of (o.Attach i c v) l r = map (λ q. q ++ R.constant v ∷ []) l.rows
  rows_of (o.Select i c) l r = filter (λ q. R.is_true (cell l.cols c q)) l.rows
  rows_of (o.Join i j a b) l r = joined R (cell l.cols a) (cell r.cols b) l.rows r.rows
  rows_of (o.Union i j) l r = l.rows ++ map (cells r.cols l.cols) r.rows
  rows_of (o.Difference i j a b) l r = left_over R (cell l.cols a) (cell r.cols b) l.rows r.rows
  rows_of (o.Distinct i cs) l r = first_rows R (cells l.cols cs) l.rows
  rows_of (o.Rownum i c ks part) l r = rownum_rows R (same_part l.cols part) (keys_less R (sort_keys l.cols ks)) l.rows
  rows_of (o.Count i g c) l r = count_rows R (cell l.cols g) l.rows
  rows_of (o.Aggregate i agg g v c) l r = aggregate_rows R agg (cell l.cols g) (cell l.cols v) l.rows
  rows_of (o.AggregateFails i agg code g v) l r = aggregate_fails_rows R agg code (cell l.cols g) (cell l.cols v) l.rows
  rows_of (o.Map i fun as' c) l r = map_rows R fun (cells l.cols as') l.rows
  rows_of (o.MapFails i fun code as') l r = map_fails_rows R fun code (cells l.cols as') l.rows
  rows_of (o.Range i a b c) l r = range_rows R (cell l.cols a) (cell l.cols b) l.rows
  rows_of (o.ExistsCompare i j op a v b w) l r = compared R is_true_outcome op (cell l.cols a) (cell l.cols v) (cell r.cols b) (cell r.cols w) l.rows r.rows
  rows_of (o.CompareFails i j op code a v b w) l r = compared R (fails_with code) op (cell l.cols a) (cell l.cols v) (cell r.cols b) (cell r.cols w) l.rows r.rows
  rows_of (o.Step i axis wanted site offset it n) l r = step_rows R axis wanted (cell l.cols it) (cell l.cols n) l.rows
  rows_of (o.Element i j site it p v) l r = built ElementNode site l r it p v (named v)
  rows_of (o.Attribute i j site it p v) l r = built AttributeNode site l r it p v (named v)
  rows_of (o.Pi i j site it p v) l r = built InstructionNode site l r it p v (named v)
  rows_of (o.Text i j site it p v) l r = built TextNode site l r it p v unnamed
  rows_of (o.Comment i j site it p v) l r = built CommentNode site l r it p v unnamed
  rows_of (o.Document i j site it p v) l r = built DocumentNode site l r it p v unnamed
  rows_of (o.ContentFails j place code it p v) l r = content_fails_rows R place code (cell l.cols it) (content l it p v) l.rows

  -- an operator's table over its inputs' tables
  abbrev pub table_over : Op → Table C → Table C → Table C
  table_over op l r = record { cols = columns_of op l.cols r.cols; rows = rows_of op l r }

  abbrev pub input_table : List (Table C) → Option OpId → Table C
  input_table ts None = no_table
  input_table ts (Some i) = table_at ts i

  -- an operator's table, behind operators with these tables
  abbrev pub table_of : List (Table C) → Op → Table C
  table_of ts op = table_over op (input_table ts (first_input op)) (input_table ts (second_input op))

  -- the tables of all operators, each made from those before it
  abbrev pub tables_from : List (Table C) → List Op → List (Table C)
  tables_from ts [] = ts
  tables_from ts (op ∷ ops) = tables_from (ts ++ table_of ts op ∷ []) ops

  abbrev pub tables : List Op → List (Table C)
  tables ops = tables_from [] ops

  -- the rows and attributes that a constructor makes
  abbrev pub extents : Op → List (List C) → ℕ
  extents op rs = cond (is_constructor op) (sum (map (λ r. sum (map R.extent r)) rs)) 0

  -- the number of rows, and for a constructor that of the rows and attributes that it makes, where it
  -- is greater
  abbrev pub demand_of : Op → Table C → ℕ
  demand_of op t = max (length t.rows) (extents op t.rows)

-- a plan: its operators, its checks and its root, where one was set
pub record Graph : Type 0 where
  pub ops : List Op
  pub checks : List Check
  pub root : Option OpId

-- what a plan answers: items, or the code and the offset of the first check that has a row
pub data PlanAnswer (C : Type 0) : Type 0 where
  Answers : List C → PlanAnswer C
  Refuses : Code → ℕ → PlanAnswer C

module _ {C : Type 0} (R : Rules C) where
  abbrev pub root_table : List (Table C) → Option OpId → Table C
  root_table ts i = input_table R ts i

  -- the tables of the checks, and the root's
  abbrev pub plan_meaning : Graph → List (Table C)
  plan_meaning g = map (λ (c : Check). table_at (tables R g.ops) c.op) g.checks ++ root_table (tables R g.ops) g.root ∷ []

  abbrev pub col : ℕ → Col
  col n = record { 0 = n }

  -- by iteration, then by position
  abbrev pub root_less : List Col → List C → List C → Bool
  root_less cs q r =
      R.less (cell R cs (col 0) q) (cell R cs (col 0) r)
      || (not (R.less (cell R cs (col 0) r) (cell R cs (col 0) q)) && R.less (cell R cs (col 1) q) (cell R cs (col 1) r))

  abbrev pub root_items : Table C → List C
  root_items t = map (cell R t.cols (col 2)) (in_order (root_less t.cols) t.rows)

  abbrev pub answer_from : List (Table C) → List Check → Option OpId → PlanAnswer C
  answer_from ts [] root = Answers (root_items (root_table ts root))
  answer_from ts (c ∷ cs) root = cond (nat_lt 0 (length (table_at ts c.op).rows)) (Refuses c.code c.offset) (answer_from ts cs root)

  abbrev pub plan_answer : Graph → PlanAnswer C
  plan_answer g = answer_from (tables R g.ops) g.checks g.root
