-- Rows in the order of their iterations and positions, and what functions give of all items of an argument (own rule).
use Rattle.std.specs.Prelude.{ℕ, ◌+◌, max, List, [], ◌∷◌, length, map}
use Rattle.xq_base.specs.declared.code.Code.{Code}
use Rattle.xq_base.specs.declared.code.Code.TheVariants as c
use Rattle.xq_base.specs.declared.fun.Fun.{Fun}
use Rattle.xq_base.specs.declared.fun.Fun.TheVariants as f
use Rattle.plan_dag.specs.declared.op.Agg.{Agg}
use Rattle.plan_dag.specs.declared.op.Agg.TheVariants as g
use Rattle.plan_dag.specs.Rows.{count_rows, range_rows, aggregate_rows, aggregate_fails_rows}
use Rattle.plan_dag.specs.Meaning.{cell}
use Rattle.lift_laws.specs.Iterations.{Row, num}
use Rattle.lift_laws.specs.States.{column, three, single}
use Rattle.lift_laws.specs.Shapes.{bare, pair, columns, project, join_by, with_cell, four, literal_rows, either_rows, less, turn_map, any_rows, second_rows, restrict_rows, data_rows}

-- the numbers of all rows, from one on, in order
abbrev pub places_rows : List Row → List Row
places_rows a =
    project (columns (3 ∷ 5 ∷ 6 ∷ [])) (pair 6 6 ∷ [])
    (range_rows bare (cell bare (columns (3 ∷ 5 ∷ [])) (column 3)) (cell bare (columns (3 ∷ 5 ∷ [])) (column 5)) (count_rows bare (cell bare four (column 3)) (with_cell (num 1) a)))

-- the rows of an argument, in the order of their iterations and positions
abbrev pub sorted_rows : List Row → List Row
sorted_rows a = project (columns (6 ∷ 0 ∷ 1 ∷ 2 ∷ 3 ∷ [])) (pair 0 0 ∷ pair 1 1 ∷ pair 2 2 ∷ []) (join_by (columns (6 ∷ [])) four (column 6) (column 3) (places_rows a) (turn_map a))

-- sums and extremes
pub data AggRule : Type 0 where
  Totals : AggRule
  Minima : AggRule
  Maxima : AggRule

abbrev pub agg_of : AggRule → Agg
agg_of Totals = g.Sum
agg_of Minima = g.Min
agg_of Maxima = g.Max

abbrev pub agg_fun : AggRule → Fun
agg_fun Totals = f.Sum
agg_fun Minima = f.Min
agg_fun Maxima = f.Max

abbrev pub agg_codes : AggRule → List Code
agg_codes Totals = c.FORG0001 ∷ c.FORG0006 ∷ c.FOAR0002 ∷ []
agg_codes Minima = c.FORG0001 ∷ c.FORG0006 ∷ []
agg_codes Maxima = c.FORG0001 ∷ c.FORG0006 ∷ []

-- what they give of none
abbrev pub none_rows : AggRule → List Row → List Row
none_rows Totals l = literal_rows (num 0) l
none_rows Minima l = []
none_rows Maxima l = []

-- what is given of each group of rows, beside the loop; and at position 1
abbrev pub grouped_by : Agg → List Row → List Row → List Row
grouped_by agg l rs =
    join_by single (columns (4 ∷ 5 ∷ [])) (column 0) (column 4) l (project (columns (0 ∷ 1 ∷ [])) (pair 4 0 ∷ pair 5 1 ∷ []) (aggregate_rows bare agg (cell bare three (column 0)) (cell bare three (column 2)) rs))

abbrev pub given_by : Agg → List Row → List Row → List Row
given_by agg l rs = project (columns (0 ∷ 4 ∷ 5 ∷ 1 ∷ [])) (pair 0 0 ∷ pair 1 1 ∷ pair 2 5 ∷ []) (with_cell (num 1) (grouped_by agg l rs))

-- their values in the iterations that have an item; and in all
abbrev pub grouped_rows : AggRule → List Row → List Row → List Row
grouped_rows q l rs = grouped_by (agg_of q) l rs

abbrev pub agg_given_rows : AggRule → List Row → List Row → List Row
agg_given_rows q l a = given_by (agg_of q) l (sorted_rows a)

abbrev pub agg_value_rows : AggRule → List Row → List Row → List Row
agg_value_rows q l a = either_rows (agg_given_rows q l a) (none_rows q (less l (any_rows a)))

abbrev pub agg_marks : AggRule → List Row → List (Code × List Row)
agg_marks q a = map (λ d. (d, aggregate_fails_rows bare (agg_of q) d (cell bare three (column 0)) (cell bare three (column 2)) (sorted_rows a))) (agg_codes q)

-- what the operators may demand
abbrev pub agg_most : AggRule → List Row → List Row → ℕ
agg_most q l a = max (length l + length a) (max (length (sorted_rows a)) (max (length (grouped_rows q l (sorted_rows a))) (length (agg_value_rows q l a))))

-- `sum` of two arguments: the second one, of at most one item, where the first has none
abbrev pub sum_or_rows : List Row → List Row → List Row → List Row
sum_or_rows l a b = either_rows (agg_given_rows Totals l a) (data_rows (restrict_rows (less l (any_rows a)) b))

abbrev pub sum_or_marks : List Row → List Row → List (Code × List Row)
sum_or_marks a b = (c.XPTY0004, second_rows b) ∷ agg_marks Totals a

abbrev pub sum_or_most : List Row → List Row → List Row → ℕ
sum_or_most l a b =
    max (length l + length a + length b)
    (max (length (sorted_rows a)) (max (length (grouped_rows Totals l (sorted_rows a))) (max (length (restrict_rows (less l (any_rows a)) b)) (length (sum_or_rows l a b)))))
