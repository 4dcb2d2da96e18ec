-- Each value once (own rule): the rows of `distinct-values`. Texts and untyped values are compared as texts, all others as they are.
use Rattle.std.specs.Prelude.{ℕ, max, List, [], ◌∷◌, length}
use Rattle.xq_base.specs.declared.code.Code.TheVariants as c
use Rattle.xq_base.specs.declared.fun.Fun.TheVariants as f
use Rattle.plan_dag.specs.Rows.{first_rows, map_rows, map_fails_rows}
use Rattle.plan_dag.specs.Meaning.{cells}
use Rattle.lift_laws.specs.Iterations.{Row}
use Rattle.lift_laws.specs.States.{column, three}
use Rattle.lift_laws.specs.Shapes.{bare, pair, project, four, five, beside, data_rows}
use Rattle.lift_laws.specs.Aggregates.{sorted_rows}
use Rattle.lift_laws.specs.Places.{renumbered_rows}

-- the first of equal texts in an iteration: only texts and untyped values have a length
abbrev pub texts_beside : List Row → List Row
texts_beside rs = map_rows bare f.StringOf (cells bare four (column 2 ∷ [])) (map_rows bare f.StringLength (cells bare three (column 2 ∷ [])) rs)

abbrev pub first_texts : List Row → List Row
first_texts rs = project five (pair 0 0 ∷ pair 1 1 ∷ pair 2 2 ∷ []) (first_rows bare (cells bare five (column 0 ∷ column 4 ∷ [])) (texts_beside rs))

-- the first of other equal values
abbrev pub first_others : List Row → List Row
first_others rs = first_rows bare (cells bare three (column 0 ∷ column 2 ∷ [])) (map_fails_rows bare f.StringLength c.XPTY0004 (cells bare three (column 2 ∷ [])) rs)

-- both, in the order of their positions
abbrev pub first_values : List Row → List Row
first_values rs = renumbered_rows (beside three (first_texts rs) (first_others rs))

abbrev pub distinct_rows : List Row → List Row
distinct_rows a = first_values (sorted_rows (data_rows a))

-- what the operators may demand
abbrev pub distinct_most : List Row → ℕ
distinct_most a = max (length a) (max (length (sorted_rows (data_rows a))) (length (distinct_rows a)))
