-- `subsequence` of a start and a length (own rule): a text has a character for each item of an iteration, and `substring` of it
-- tells how many items stay.
use Rattle.std.specs.Prelude.{ℕ, max, List, [], ◌∷◌, length}
use Rattle.xq_base.specs.declared.code.Code.{Code}
use Rattle.xq_base.specs.declared.fun.Fun.TheVariants as f
use Rattle.doc_table.specs.Items.{TextItem}
use Rattle.plan_dag.specs.declared.op.Agg.TheVariants as g
use Rattle.plan_dag.specs.ItemRules.{Cell}
use Rattle.lift_laws.specs.Iterations.{Row}
use Rattle.lift_laws.specs.Shapes.{pair, project, four, with_cell, item_value_rows}
use Rattle.lift_laws.specs.Pairs.{side_rows}
use Rattle.lift_laws.specs.Aggregates.{sorted_rows, grouped_by, given_by}
use Rattle.lift_laws.specs.Readings.{calm_rows, sided_most}
use Rattle.lift_laws.specs.TextParts.{Parts, trio_marks, trio_rows, trio_value_rows, trio_most}
use Rattle.lift_laws.specs.Places.{OfPlaces, passing_rows}

-- a character in the place of each item, and those of an iteration in one text
abbrev pub tally_mark : Cell
tally_mark = TextItem (120 ∷ [])

abbrev pub tally_rows : List Row → List Row
tally_rows a = project four (pair 0 0 ∷ pair 1 1 ∷ pair 2 3 ∷ []) (with_cell tally_mark a)

abbrev pub tallied_rows : List Row → List Row → List Row
tallied_rows l a = given_by g.Concat l (sorted_rows (tally_rows a))

-- the checks are those of `substring` of that text
abbrev pub slice_marks : List Row → List Row → List Row → List Row → List (Code × List Row)
slice_marks l a b d = trio_marks Parts l (tallied_rows l a) b d

abbrev pub slice_loop : List Row → List Row → List Row → List Row → List Row
slice_loop l a b d = calm_rows l (slice_marks l a b d)

-- how many characters it has, and so many of the items from the start on
abbrev pub many_rows : List Row → List Row → List Row → List Row → List Row
many_rows l a b d = item_value_rows f.StringLength (trio_value_rows f.Substring (trio_rows Parts l (tallied_rows l a) b d))

abbrev pub rest_rows : List Row → List Row → List Row → List Row → List Row
rest_rows l a b d = passing_rows OfPlaces f.GeneralGe (side_rows (slice_loop l a b d) a b)

abbrev pub slice_rows : List Row → List Row → List Row → List Row → List Row
slice_rows l a b d = passing_rows OfPlaces f.GeneralLe (side_rows (slice_loop l a b d) (rest_rows l a b d) (many_rows l a b d))

-- what the operators may demand
abbrev pub slice_most : List Row → List Row → List Row → List Row → ℕ
slice_most l a b d =
    max (max (length (sorted_rows (tally_rows a))) (length (grouped_by g.Concat l (sorted_rows (tally_rows a)))))
    (max (trio_most Parts l (tallied_rows l a) b d)
    (max (sided_most l (slice_loop l a b d) a b) (sided_most l (slice_loop l a b d) (rest_rows l a b d) (many_rows l a b d))))
