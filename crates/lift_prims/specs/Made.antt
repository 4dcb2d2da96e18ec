-- What a function that makes operators in a plan leaves (own rule), over all documents and whatever texts the plan's numbers stand for.
use Rattle.std.specs.Prelude.{ℕ, ◌≡◌, List, map}
use Rattle.xq_base.specs.Texts.{Text}
use Rattle.doc_table.specs.NodeRules.{Docs}
use Rattle.plan_dag.specs.declared.cols.Col.{Col}
use Rattle.plan_dag.specs.declared.op.OpId.{OpId}
use Rattle.plan_dag.specs.ItemRules.{Cell}
use Rattle.plan_dag.specs.Meaning.{Graph, Table}
use Rattle.plan_dag.specs.Schema.{schemas, cols_at}
use Rattle.plan_dag.specs.Graphs.{in_graph}
use Rattle.lift_laws.specs.Iterations.{Row}
use Rattle.lift_laws.specs.States.{at, state_of, Makes, single, three}
use Rattle.lift_laws.specs.Shapes.{four}

-- an operator that is there, with these columns
abbrev pub Shaped : Graph → OpId → List Col → Type 0
Shaped g i cols = in_graph g i × (cols_at (schemas g.ops) i ≡ cols)

-- numbers of iterations
abbrev pub IsLoop : Graph → OpId → Type 0
IsLoop g i = Shaped g i single

-- items of iterations: number, position, item
abbrev pub HasItems : Graph → OpId → Type 0
HasItems g i = Shaped g i three

-- the map of a loop's turns: number, position and item outside, and the number inside
abbrev pub IsMap : Graph → OpId → Type 0
IsMap g i = Shaped g i four

-- the rows of an operator
abbrev pub rows_in : Docs → List Text → Graph → OpId → List Row
rows_in docs texts g i = (at (state_of docs texts g) i).rows

-- what rows, and how many, over documents and texts
abbrev pub Rows : Type 0
Rows = Docs → List Text → List Row

abbrev pub Most : Type 0
Most = Docs → List Text → ℕ

-- an operator with these columns and rows is there afterwards, no check and no step is added, and no new operator has more than
-- so many rows
pub record Made (g g' : Graph) (cols : List Col) (rows : Rows) (most : Most) (t : OpId) : Type 0 where
  pub shaped : Shaped g' t cols
  pub makes : (docs : Docs) (texts : List Text) → Makes (state_of docs texts g) (state_of docs texts g') t cols (rows docs texts) (most docs texts)

-- a table with these columns and rows
abbrev pub tab : List Col → List Row → Table Cell
tab cols rows = record { cols = cols; rows = rows }
