-- Nodes of one operand that another one has, or hasn't (own rule): the rows of their operators.
use Rattle.std.specs.Prelude.{true, false, List, [], ◌∷◌}
use Rattle.std.specs.List.{filter}
use Rattle.doc_table.specs.Items.{BoolItem}
use Rattle.plan_dag.specs.declared.cols.Col.{Col}
use Rattle.plan_dag.specs.ItemRules.{is_true}
use Rattle.plan_dag.specs.Rows.{first_rows}
use Rattle.plan_dag.specs.Meaning.{cell, cells}
use Rattle.lift_laws.specs.Iterations.{Row}
use Rattle.lift_laws.specs.States.{column, three}
use Rattle.lift_laws.specs.Shapes.{bare, pair, columns, project, beside, with_cell}
use Rattle.lift_laws.specs.Walks.{node_cols, ordered_rows}

-- the number of an iteration, a node, and whether it is one of those that are asked for
abbrev pub asked_cols : List Col
asked_cols = columns (0 ∷ 2 ∷ 3 ∷ [])

-- iterations and nodes of an operand
abbrev pub node_rows : List Row → List Row
node_rows a = project three (pair 0 0 ∷ pair 2 2 ∷ []) a

-- iterations and nodes that others don't have, each once: the others stand first, so that of equal rows one of them is kept where there is one
abbrev pub apart_rows : List Row → List Row → List Row
apart_rows a b =
    project asked_cols (pair 0 0 ∷ pair 2 2 ∷ [])
    (filter (λ r. is_true (cell bare asked_cols (column 3) r)) (first_rows bare (cells bare asked_cols node_cols) (beside asked_cols (with_cell (BoolItem false) b) (with_cell (BoolItem true) a))))

-- the nodes of one operand that the other hasn't, and those that it has: those that aren't among the former
abbrev pub except_rows : List Row → List Row → List Row
except_rows a b = ordered_rows (apart_rows (node_rows a) (node_rows b))

abbrev pub intersect_rows : List Row → List Row → List Row
intersect_rows a b = ordered_rows (apart_rows (node_rows a) (apart_rows (node_rows a) (node_rows b)))
