-- Forms: operators over the tables of their inputs (own rule). An operator of a form names what it reads by places: the form's
-- inputs stand at the first places, in their order, and behind them its operators.
use Rattle.std.specs.Prelude.{ℕ, ◌+◌, ◌-◌, ◌≤◌, ◌≡◌, Bool, true, false, ◌&&◌, List, [], ◌∷◌, ◌++◌, length, map, slice_index_or}
use Rattle.plan_dag.specs.declared.cols.Col.{Col}
use Rattle.plan_dag.specs.declared.op.OpId.{OpId}
use Rattle.plan_dag.specs.declared.op.Op.{Op}
use Rattle.plan_dag.specs.declared.op.Op.TheVariants as o
use Rattle.plan_dag.specs.Cells.{Rules}
use Rattle.plan_dag.specs.ItemRules.{Cell}
use Rattle.plan_dag.specs.Meaning.{Table, Graph, no_table, table_of, tables_from}
use Rattle.plan_dag.specs.Schema.{columns, fits_columns, schemas, schemas_from, cols_at}
use Rattle.lift_laws.specs.States.{State, at, IsIn, Small, Grows, op_id}

-- neither a step nor a constructor
abbrev pub is_plain : Op → Bool
is_plain (o.Unit c) = true
is_plain (o.Empty cs) = true
is_plain (o.Project i ps) = true
is_plain (o.Attach i c v) = true
is_plain (o.Select i c) = true
is_plain (o.Join i j a b) = true
is_plain (o.Union i j) = true
is_plain (o.Difference i j a b) = true
is_plain (o.Distinct i cs) = true
is_plain (o.Rownum i c ks part) = true
is_plain (o.Count i g c) = true
is_plain (o.Aggregate i agg g v c) = true
is_plain (o.AggregateFails i agg code g v) = true
is_plain (o.Map i fun as' c) = true
is_plain (o.MapFails i fun code as') = true
is_plain (o.Range i a b c) = true
is_plain (o.ExistsCompare i j op a v b w) = true
is_plain (o.CompareFails i j op code a v b w) = true
is_plain _ = false

-- the operator at a place
abbrev pub id_at : List OpId → OpId → OpId
id_at ids i = slice_index_or ids i.0 (op_id 0)

-- an operator of a form as one of a plan, with these operators at the places
abbrev pub placed : List OpId → Op → Op
placed ids (o.Unit c) = o.Unit c
placed ids (o.Empty cs) = o.Empty cs
placed ids (o.Project i ps) = o.Project (id_at ids i) ps
placed ids (o.Attach i c v) = o.Attach (id_at ids i) c v
placed ids (o.Select i c) = o.Select (id_at ids i) c
placed ids (o.Join i j a b) = o.Join (id_at ids i) (id_at ids j) a b
placed ids (o.Union i j) = o.Union (id_at ids i) (id_at ids j)
placed ids (o.Difference i j a b) = o.Difference (id_at ids i) (id_at ids j) a b
placed ids (o.Distinct i cs) = o.Distinct (id_at ids i) cs
placed ids (o.Rownum i c ks part) = o.Rownum (id_at ids i) c ks part
placed ids (o.Count i g c) = o.Count (id_at ids i) g c
placed ids (o.Aggregate i agg g v c) = o.Aggregate (id_at ids i) agg g v c
placed ids (o.AggregateFails i agg code g v) = o.AggregateFails (id_at ids i) agg code g v
placed ids (o.Map i fun as' c) = o.Map (id_at ids i) fun as' c
placed ids (o.MapFails i fun code as') = o.MapFails (id_at ids i) fun code as'
placed ids (o.Range i a b c) = o.Range (id_at ids i) a b c
placed ids (o.ExistsCompare i j op a v b w) = o.ExistsCompare (id_at ids i) (id_at ids j) op a v b w
placed ids (o.CompareFails i j op code a v b w) = o.CompareFails (id_at ids i) (id_at ids j) op code a v b w
placed ids op = op

-- whether each operator of a form is plain and fits behind those before it, over inputs with these columns
abbrev pub form_fits : List (List Col) → List Op → Bool
form_fits cs [] = true
form_fits cs (op ∷ ops) = (is_plain op && fits_columns cs op) && form_fits (cs ++ columns cs op ∷ []) ops

-- no operator of a form has more rows, over inputs with these tables
abbrev pub FormSmall : Rules Cell → ℕ → List (Table Cell) → List Op → Type 0
FormSmall R most ts [] = Unit {0}
FormSmall R most ts (op ∷ ops) = (length (table_of R ts op).rows ≤ most) × FormSmall R most (ts ++ table_of R ts op ∷ []) ops

-- the table of a form's last operator
abbrev pub form_table : Rules Cell → List (Table Cell) → List Op → Table Cell
form_table R ts ops = slice_index_or (tables_from R ts ops) (length ts + length ops - 1) no_table

-- its columns, over inputs with these columns
abbrev pub form_cols : List (List Col) → List Op → List Col
form_cols cs ops = slice_index_or (schemas_from cs ops) (length cs + length ops - 1) []

-- the columns of operators
abbrev pub cols_in : Graph → List OpId → List (List Col)
cols_in g ids = map (cols_at (schemas g.ops)) ids

-- a form is made over these inputs: its last operator is there with its table, no check and no step is added, and no new operator
-- has more rows than one of the form's
pub record FormMade (R : Rules Cell) (s s' : State) (ins : List OpId) (ops : List Op) (t : OpId) : Type 0 where
  pub grows : Grows s s' []
  pub is_in : IsIn s' t
  pub is : at s' t ≡ form_table R (map (at s) ins) ops
  pub small : (most : ℕ) → FormSmall R most (map (at s) ins) ops → Small s' (length s.tables) (length s'.tables) most
  pub quiet : s'.steps ≡ s.steps
