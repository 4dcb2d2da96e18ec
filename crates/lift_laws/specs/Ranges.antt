-- Runs of whole numbers (own rule): the rows of `to`.
use Rattle.std.specs.Prelude.{ℕ, max, List, [], ◌∷◌, length}
use Rattle.xq_base.specs.declared.code.Code.{Code}
use Rattle.xq_base.specs.declared.fun.Fun.TheVariants as f
use Rattle.xq_base.specs.declared.fun.AtomKind.TheVariants as k
use Rattle.plan_dag.specs.declared.cols.Col.{Col}
use Rattle.plan_dag.specs.Rows.{map_rows, range_rows}
use Rattle.plan_dag.specs.Meaning.{cell, cells}
use Rattle.lift_laws.specs.Iterations.{Row}
use Rattle.lift_laws.specs.States.{column}
use Rattle.lift_laws.specs.Shapes.{bare, pair, columns, project}
use Rattle.lift_laws.specs.Pairs.{beside_cols, side_rows}
use Rattle.lift_laws.specs.Walks.{ordered_rows}
use Rattle.lift_laws.specs.Readings.{MaybeNumber, operand_marks, calm_rows, sided_most}

-- the checks of both bounds
abbrev pub range_marks : List Row → List Row → List Row → List (Code × List Row)
range_marks l a b = operand_marks l ((MaybeNumber, a) ∷ (MaybeNumber, b) ∷ [])

-- both bounds beside each other, in the iterations that no check names, and as integers
abbrev pub bounds_rows : List Row → List Row → List Row → List Row
bounds_rows l a b = side_rows (calm_rows l (range_marks l a b)) a b

abbrev pub first_cast_cols : List Col
first_cast_cols = columns (0 ∷ 1 ∷ 2 ∷ 4 ∷ 5 ∷ 3 ∷ [])

abbrev pub both_cast_cols : List Col
both_cast_cols = columns (0 ∷ 1 ∷ 2 ∷ 4 ∷ 5 ∷ 3 ∷ 6 ∷ [])

abbrev pub cast_bounds : List Row → List Row
cast_bounds j = map_rows bare (f.CastTo k.Integer) (cells bare first_cast_cols (column 5 ∷ [])) (map_rows bare (f.CastTo k.Integer) (cells bare beside_cols (column 2 ∷ [])) j)

-- a row for each integer from the first bound up to the second, and these with positions
abbrev pub between_rows : List Row → List Row
between_rows j = project (columns (0 ∷ 1 ∷ 2 ∷ 4 ∷ 5 ∷ 3 ∷ 6 ∷ 7 ∷ [])) (pair 0 0 ∷ pair 2 7 ∷ []) (range_rows bare (cell bare both_cast_cols (column 3)) (cell bare both_cast_cols (column 6)) (cast_bounds j))

abbrev pub range_value_rows : List Row → List Row → List Row → List Row
range_value_rows l a b = ordered_rows (between_rows (bounds_rows l a b))

-- what the operators may demand
abbrev pub range_most : List Row → List Row → List Row → ℕ
range_most l a b = max (sided_most l (calm_rows l (range_marks l a b)) a b) (length (between_rows (bounds_rows l a b)))
