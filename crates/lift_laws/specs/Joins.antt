-- Texts with a text between each two (own rule): the rows of `string-join` and of the text of content.
use Rattle.std.specs.Prelude.{ℕ, ◌+◌, max, List, [], ◌∷◌, length}
use Rattle.xq_base.specs.declared.code.Code.{Code}
use Rattle.xq_base.specs.declared.code.Code.TheVariants as c
use Rattle.xq_base.specs.declared.fun.Fun.TheVariants as f
use Rattle.xq_base.specs.Texts.{blank}
use Rattle.doc_table.specs.Items.{TextItem}
use Rattle.plan_dag.specs.declared.op.Agg.TheVariants as g
use Rattle.plan_dag.specs.ItemRules.{Cell}
use Rattle.plan_dag.specs.Rows.{map_rows}
use Rattle.plan_dag.specs.Meaning.{cells}
use Rattle.lift_laws.specs.Iterations.{Row}
use Rattle.lift_laws.specs.States.{column}
use Rattle.lift_laws.specs.Shapes.{bare, pair, columns, project, less, restrict_rows, literal_rows, either_rows, any_rows}
use Rattle.lift_laws.specs.Pairs.{beside_cols, side_rows, side_value_rows, own_fail_rows, gathered}
use Rattle.lift_laws.specs.Aggregates.{sorted_rows, grouped_by, given_by}
use Rattle.lift_laws.specs.Readings.{OneText, unfit_tables, calm_rows}

-- each item's text behind the text that stands between, in a part of the loop
abbrev pub turned_cells : Row → List Cell
turned_cells r = cells bare beside_cols (column 5 ∷ column 2 ∷ []) r

abbrev pub led_rows : List Row → List Row → List Row → List Row
led_rows m a b = project (columns (0 ∷ 1 ∷ 2 ∷ 4 ∷ 5 ∷ 3 ∷ [])) (pair 0 0 ∷ pair 1 1 ∷ pair 2 3 ∷ []) (map_rows bare f.Concat turned_cells (side_rows m a b))

-- the texts of an iteration in one, which begins with the text between
abbrev pub whole_rows : List Row → List Row → List Row → List Row → List Row
whole_rows l m a b = given_by g.Concat l (sorted_rows (led_rows m a b))

-- that text without its beginning, and the empty text where there is no item
abbrev pub joined_rows : List Row → List Row → List Row → List Row → List Row
joined_rows l m a b = either_rows (side_value_rows f.SubstringAfter (side_rows m (whole_rows l m a b) b)) (literal_rows (TextItem []) (less m (any_rows a)))

-- what the operators may demand
abbrev pub joined_most : List Row → List Row → List Row → List Row → ℕ
joined_most l m a b =
    max (max (length l + length a) (length b))
    (max (max (length (restrict_rows m a)) (max (length (side_rows m a b)) (max (length (sorted_rows (led_rows m a b))) (length (grouped_by g.Concat l (sorted_rows (led_rows m a b)))))))
    (max (length (restrict_rows m (whole_rows l m a b))) (max (length (side_rows m (whole_rows l m a b) b)) (length (joined_rows l m a b)))))

-- `string-join`: every item is a text, and one text stands between
abbrev pub join_marks : List Row → List Row → List Row → List (Code × List Row)
join_marks l a b = (c.XPTY0004, gathered l (own_fail_rows f.Compare c.XPTY0004 a ∷ unfit_tables OneText l b)) ∷ []

abbrev pub join_loop : List Row → List Row → List Row → List Row
join_loop l a b = calm_rows l (join_marks l a b)

-- the text of content: a blank stands between
abbrev pub blank_rows : List Row → List Row
blank_rows l = literal_rows (TextItem blank) l
