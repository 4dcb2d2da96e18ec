-- Nodes of each iteration in document order, steps over all iterations at once, unions and the results of paths (own rule).
use Rattle.std.specs.Prelude.{◌≡◌, ◌++◌, List, [], ◌∷◌, length, Some}
use Rattle.xq_base.specs.declared.axis.Axis.{Axis}
use Rattle.xq_base.specs.declared.axis.NodeTest.{NodeTest}
use Rattle.xq_base.specs.declared.code.Code.{Code}
use Rattle.xq_base.specs.declared.code.Code.TheVariants as c
use Rattle.xq_base.specs.declared.fun.Fun.TheVariants as f
use Rattle.xq_base.specs.Texts.{Text}
use Rattle.doc_table.specs.Tree.{text_in}
use Rattle.doc_table.specs.Axes.{Test, test_of}
use Rattle.doc_table.specs.Steps.{test_with}
use Rattle.plan_dag.specs.declared.cols.Col.{Col}
use Rattle.plan_dag.specs.ItemRules.{item_rules}
use Rattle.plan_dag.specs.Rows.{first_rows, map_rows, map_fails_rows, step_rows}
use Rattle.plan_dag.specs.Meaning.{cell, cells}
use Rattle.lift_laws.specs.Iterations.{Row}
use Rattle.lift_laws.specs.States.{State, StepAt, at, IsIn, Small, Grows, column, three}
use Rattle.lift_laws.specs.Shapes.{bare, up, pair, columns, project, four, numbered_by, beside, either_rows, named_rows, item_fails_rows}
use Rattle.lift_laws.specs.Pairs.{gathered}

-- the number of an iteration, and a node
abbrev pub node_cols : List Col
node_cols = columns (0 ∷ 2 ∷ [])

-- with positions, by document order
abbrev pub ordered_rows : List Row → List Row
ordered_rows rs = project (columns (0 ∷ 2 ∷ 1 ∷ [])) (pair 0 0 ∷ pair 1 1 ∷ pair 2 2 ∷ []) (numbered_by node_cols (up 2 ∷ []) (Some (column 0)) rs)

-- a step from all items, with the plan's texts
abbrev pub walk_rows : List Text → Axis → NodeTest → List Row → List Row
walk_rows texts axis wanted a = step_rows (item_rules [] texts) axis wanted (cell bare three (column 0)) (cell bare three (column 2)) a

abbrev pub walk_test : List Text → NodeTest → Test Text
walk_test texts wanted = test_with (text_in texts) (test_of wanted)

-- a step's operator with these columns and rows is there afterwards, and it is the one step that is added
pub record MakesStep (s s' : State) (q : StepAt) (cols : List Col) (rows : List Row) : Type 0 where
  pub grows : Grows s s' []
  pub is_in : IsIn s' q.op
  pub is : at s' q.op ≡ record { cols = cols; rows = rows }
  pub small : Small s' (length s.tables) (length s'.tables) (length rows)
  pub added : s'.steps ≡ s.steps ++ q ∷ []

-- each node once
abbrev pub each_once_rows : List Row → List Row
each_once_rows rs = ordered_rows (first_rows bare (cells bare node_cols node_cols) rs)

-- the iterations with an item that is no node
abbrev pub stray_rows : List Row → List Row
stray_rows a = item_fails_rows f.Name c.XPTY0004 a

-- a union of two operands, which are nodes
abbrev pub union_rows : List Row → List Row → List Row
union_rows a b = each_once_rows (beside node_cols (project three (pair 0 0 ∷ pair 2 2 ∷ []) a) (project three (pair 0 0 ∷ pair 2 2 ∷ []) b))

abbrev pub union_marks : List Row → List Row → List Row → List (Code × List Row)
union_marks l a b = (c.XPTY0004, gathered l (stray_rows a ∷ stray_rows b ∷ [])) ∷ []

-- the result of a path: nodes each once, and items that are no nodes as they stand; both in one iteration are refused
abbrev pub named_nodes : List Row → List Row
named_nodes a = map_rows bare f.Name (cells bare three (column 2 ∷ [])) a

abbrev pub path_rows : List Row → List Row
path_rows a = either_rows (each_once_rows (project four (pair 0 0 ∷ pair 2 2 ∷ []) (named_nodes a))) (map_fails_rows bare f.Name c.XPTY0004 (cells bare three (column 2 ∷ [])) a)

abbrev pub path_marks : List Row → List (Code × List Row)
path_marks a = (c.XPTY0018, named_rows (project four (pair 0 0 ∷ []) (named_nodes a)) (stray_rows a)) ∷ []
