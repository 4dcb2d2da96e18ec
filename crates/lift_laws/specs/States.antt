-- What a plan under construction means: tables and demands of its operators, its checks and its steps (own rule).
use Rattle.std.specs.Prelude.{◌≡◌, ℕ, ◌+◌, ◌<◌, ◌≤◌, List, [], ◌∷◌, ◌++◌, length, slice_index_or}
use Rattle.xq_base.specs.Texts.{Text}
use Rattle.doc_table.specs.Tree.{text_in}
use Rattle.doc_table.specs.Axes.{test_of}
use Rattle.doc_table.specs.Steps.{test_with}
use Rattle.doc_table.specs.Values.{Items}
use Rattle.doc_table.specs.NodeRules.{Docs}
use Rattle.plan_dag.specs.declared.cols.Col.{Col}
use Rattle.plan_dag.specs.declared.op.OpId.{OpId}
use Rattle.plan_dag.specs.declared.op.Op.{Op}
use Rattle.plan_dag.specs.declared.op.Op.TheVariants as o
use Rattle.plan_dag.specs.declared.check.Check.{Check}
use Rattle.plan_dag.specs.Cells.{Rules}
use Rattle.plan_dag.specs.ItemRules.{Cell, item_rules}
use Rattle.plan_dag.specs.Meaning.{Table, Graph, table_at, tables, demand_of}
use Rattle.lift_laws.specs.Sums.{AllOf, Same}
use Rattle.lift_laws.specs.Iterations.{Row, Iter, value_rows, cells}
use Rattle.lift_laws.specs.Bulk.{Step}
use Rattle.lift_laws.specs.Worlds.{World, cell_of, Known}

-- a step's operator: the step, the operator that it reads, its own number
pub record StepAt : Type 0 where
  pub step : Step
  pub input : OpId
  pub op : OpId

pub record State : Type 0 where
  pub tables : List (Table Cell)
  pub demands : List ℕ
  pub checks : List Check
  pub steps : List StepAt

abbrev pub column : ℕ → Col
column n = record { 0 = n }

abbrev pub op_id : ℕ → OpId
op_id n = record { 0 = n }

abbrev pub demands_of : Rules Cell → List Op → List (Table Cell) → List ℕ
demands_of R [] ts = []
demands_of R (op ∷ ops) [] = []
demands_of R (op ∷ ops) (t ∷ ts) = demand_of R op t ∷ demands_of R ops ts

-- the steps among operators, where the first has this number, with the plan's texts
abbrev pub step_at : List Text → ℕ → Op → List StepAt
step_at texts n (o.Step i axis wanted site offset it v) =
    record { step = record { site = record { number = site; offset = offset }; axis = axis; test = test_with (text_in texts) (test_of wanted) }; input = i; op = op_id n } ∷ []
step_at texts n _ = []

abbrev pub steps_from : List Text → ℕ → List Op → List StepAt
steps_from texts n [] = []
steps_from texts n (op ∷ ops) = step_at texts n op ++ steps_from texts (n + 1) ops

-- the state of a plan over documents, with the plan's texts
abbrev pub state_of : Docs → List Text → Graph → State
state_of docs texts g = record {
  tables = tables (item_rules docs texts) g.ops;
  demands = demands_of (item_rules docs texts) g.ops (tables (item_rules docs texts) g.ops);
  checks = g.checks;
  steps = steps_from texts 0 g.ops;
}

-- the table of an operator, and its demand by the operator's number
abbrev pub at : State → OpId → Table Cell
at s i = table_at s.tables i

abbrev pub demand_at : State → ℕ → ℕ
demand_at s i = slice_index_or s.demands i 0

abbrev pub IsIn : State → OpId → Type 0
IsIn s i = i.0 < length s.tables

-- the operators from lo to below hi have at most this demand
pub record Small (s : State) (lo hi N : ℕ) : Type 0 where
  pub each : (i : ℕ) → lo ≤ i → i < hi → demand_at s i ≤ N

-- the tables and the demands stay, and these checks are added
pub record Grows (s s' : State) (new : List Check) : Type 0 where
  pub longer : length s.tables ≤ length s'.tables
  pub same : (i : OpId) → IsIn s i → at s' i ≡ at s i
  pub same_demand : (i : ℕ) → i < length s.tables → demand_at s' i ≡ demand_at s i
  pub checks : s'.checks ≡ s.checks ++ new

-- an operator with these columns and rows is there afterwards, no check and no step is added, and no new operator has more than
-- this demand
pub record Makes (s s' : State) (t : OpId) (cols : List Col) (rows : List Row) (most : ℕ) : Type 0 where
  pub grows : Grows s s' []
  pub is_in : IsIn s' t
  pub is : at s' t ≡ record { cols = cols; rows = rows }
  pub small : Small s' (length s.tables) (length s'.tables) most
  pub quiet : s'.steps ≡ s.steps

-- a check of an operator that is there is added, and no operator and no step
pub record Checks (s s' : State) (c : Check) : Type 0 where
  pub grows : Grows s s' (c ∷ [])
  pub as_many : length s'.tables ≡ length s.tables
  pub is_in : IsIn s c.op
  pub quiet : s'.steps ≡ s.steps

-- the table has these columns and, in some order, these rows
pub record Holds (s : State) (t : OpId) (cols : List Col) (rows : List Row) : Type 0 where
  pub is_in : IsIn s t
  pub cols_are : (at s t).cols ≡ cols
  pub rows_are : Same (at s t).rows rows

-- number of the iteration, position, item
abbrev pub three : List Col
three = column 0 ∷ column 1 ∷ column 2 ∷ []

-- the number of the iteration alone
abbrev pub single : List Col
single = column 0 ∷ []

-- the table stands for the values in all iterations, and their nodes are of this world
pub record StandsFor (docs : Docs) (W : World) (s : State) (t : OpId) (f : Iter → Items) (its : List Iter) : Type 0 where
  pub there : Holds s t three (value_rows (cells (cell_of W) f) its)
  pub known : AllOf (λ i. AllOf (Known docs W) (f i)) its

-- each table stands for its values
abbrev pub HoldAll : State → List OpId → List (Iter → List Cell) → List Iter → Type 0
HoldAll s [] [] its = Unit {0}
HoldAll s [] (g ∷ gs) its = ⊥
HoldAll s (t ∷ ts) [] its = ⊥
HoldAll s (t ∷ ts) (g ∷ gs) its = Holds s t three (value_rows g its) × HoldAll s ts gs its
