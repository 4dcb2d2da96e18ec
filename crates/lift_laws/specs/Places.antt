-- Items by their places (own rule): the rows of `remove`, `subsequence`, `insert-before` and `index-of`.
use Rattle.std.specs.Prelude.{ℕ, ◌+◌, max, List, [], ◌∷◌, length, Some}
use Rattle.std.specs.List.{filter}
use Rattle.xq_base.specs.declared.code.Code.{Code}
use Rattle.xq_base.specs.declared.code.Code.TheVariants as c
use Rattle.xq_base.specs.declared.fun.Fun.{Fun}
use Rattle.xq_base.specs.declared.fun.Fun.TheVariants as f
use Rattle.plan_dag.specs.declared.cols.Col.{Col}
use Rattle.plan_dag.specs.ItemRules.{Cell, is_true}
use Rattle.plan_dag.specs.Rows.{map_rows}
use Rattle.plan_dag.specs.Meaning.{cell, cells}
use Rattle.lift_laws.specs.Iterations.{Row}
use Rattle.lift_laws.specs.States.{column, three}
use Rattle.lift_laws.specs.Shapes.{bare, up, pair, columns, project, four, numbered_by, seq_rows, less, any_rows, second_rows}
use Rattle.lift_laws.specs.Pairs.{beside_cols, side_rows, gathered}
use Rattle.lift_laws.specs.Readings.{OneNumber, operand_marks, calm_rows, sided_most}

-- new positions, in the order of the old ones
abbrev pub renumbered_rows : List Row → List Row
renumbered_rows rs = project four (pair 0 0 ∷ pair 1 3 ∷ pair 2 2 ∷ []) (numbered_by three (up 1 ∷ []) (Some (column 0)) rs)

-- what is compared with another operand's item: places, of which the items are given, or items, of which the places are
pub data Compared : Type 0 where
  OfPlaces : Compared
  OfItems : Compared

abbrev pub compared_at : Compared → ℕ
compared_at OfPlaces = 1
compared_at OfItems = 2

abbrev pub given_from : Compared → ℕ
given_from OfPlaces = 2
given_from OfItems = 1

-- the comparison beside each row
abbrev pub tested_cols : List Col
tested_cols = columns (0 ∷ 1 ∷ 2 ∷ 4 ∷ 5 ∷ 3 ∷ [])

abbrev pub tested_cells : Compared → Row → List Cell
tested_cells q r = cells bare beside_cols (column (compared_at q) ∷ column 5 ∷ []) r

-- of rows beside another operand's items, those for which a comparison is true, with new positions
abbrev pub passing_rows : Compared → Fun → List Row → List Row
passing_rows q g j =
    renumbered_rows
    (project tested_cols (pair 0 0 ∷ pair 1 1 ∷ pair 2 (given_from q) ∷ []) (filter (λ r. is_true (cell bare tested_cols (column 3) r)) (map_rows bare g (tested_cells q) j)))

-- a place is one number: the rows of its checks, and items beside it in the iterations that these leave
abbrev pub place_marks : List Row → List Row → List (Code × List Row)
place_marks l b = operand_marks l ((OneNumber, b) ∷ [])

abbrev pub place_loop : List Row → List Row → List Row
place_loop l b = calm_rows l (place_marks l b)

abbrev pub beside_place : List Row → List Row → List Row → List Row
beside_place l a b = side_rows (place_loop l b) a b

-- the items but for that at the place, and those from the place on
abbrev pub removed_rows : List Row → List Row → List Row → List Row
removed_rows l a b = passing_rows OfPlaces f.GeneralNe (beside_place l a b)

abbrev pub from_rows : List Row → List Row → List Row → List Row
from_rows l a b = passing_rows OfPlaces f.GeneralGe (beside_place l a b)

-- what the operators may demand
abbrev pub place_most : List Row → List Row → List Row → ℕ
place_most l a b = sided_most l (place_loop l b) a b

-- items before the place, others, and the items from the place on
abbrev pub inserted_rows : List Row → List Row → List Row → List Row → List Row
inserted_rows l a b d = seq_rows (seq_rows (passing_rows OfPlaces f.GeneralLt (beside_place l a b)) d) (from_rows l a b)

abbrev pub inserted_most : List Row → List Row → List Row → List Row → ℕ
inserted_most l a b d = max (length l + length a + length d) (max (place_most l a b) (length (inserted_rows l a b d)))

-- the places of the items that equal one item
abbrev pub index_marks : List Row → List Row → List (Code × List Row)
index_marks l b = (c.XPTY0004, gathered l (second_rows b ∷ less l (any_rows b) ∷ [])) ∷ []

abbrev pub index_loop : List Row → List Row → List Row
index_loop l b = calm_rows l (index_marks l b)

abbrev pub index_rows : List Row → List Row → List Row → List Row
index_rows l a b = passing_rows OfItems f.Eq (side_rows (index_loop l b) a b)

abbrev pub index_most : List Row → List Row → List Row → ℕ
index_most l a b = sided_most l (index_loop l b) a b
