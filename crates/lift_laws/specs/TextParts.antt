-- Parts and maps of texts (own rule): the rows of `substring` and `translate`, whose operands stand side by side.
use Rattle.std.specs.Prelude.{ℕ, ◌+◌, max, List, [], ◌∷◌, length}
use Rattle.xq_base.specs.declared.code.Code.{Code}
use Rattle.xq_base.specs.declared.fun.Fun.{Fun}
use Rattle.xq_base.specs.declared.fun.Fun.TheVariants as f
use Rattle.doc_table.specs.Items.{TextItem}
use Rattle.plan_dag.specs.declared.cols.Col.{Col}
use Rattle.plan_dag.specs.ItemRules.{Cell}
use Rattle.plan_dag.specs.Rows.{map_rows}
use Rattle.plan_dag.specs.Meaning.{cells}
use Rattle.lift_laws.specs.Iterations.{Row}
use Rattle.lift_laws.specs.States.{column, three}
use Rattle.lift_laws.specs.Shapes.{bare, pair, columns, project, join_by}
use Rattle.lift_laws.specs.Pairs.{beside_cols, side_rows, side_value_rows, filled_rows}
use Rattle.lift_laws.specs.Readings.{MaybeText, OneNumber, OneText, Operand, operand_marks, calm_rows, sided_most}

-- a text, of which an absent one is empty
abbrev pub text_rows : List Row → List Row → List Row
text_rows l a = filled_rows (TextItem []) l a

-- `substring` from a start on
abbrev pub part_marks : List Row → List Row → List Row → List (Code × List Row)
part_marks l a b = operand_marks l ((MaybeText, a) ∷ (OneNumber, b) ∷ [])

abbrev pub part_rows : List Row → List Row → List Row → List Row
part_rows l a b = side_value_rows f.Substring (side_rows (calm_rows l (part_marks l a b)) (text_rows l a) b)

abbrev pub part_most : List Row → List Row → List Row → ℕ
part_most l a b = max (length l + length a) (sided_most l (calm_rows l (part_marks l a b)) (text_rows l a) b)

-- a third operand beside two
abbrev pub trio_cols : List Col
trio_cols = columns (0 ∷ 1 ∷ 2 ∷ 4 ∷ 5 ∷ 6 ∷ 7 ∷ [])

abbrev pub third_rows : List Row → List Row → List Row
third_rows j d = join_by beside_cols (columns (6 ∷ 7 ∷ [])) (column 0) (column 6) j (project three (pair 6 0 ∷ pair 7 2 ∷ []) d)

abbrev pub trio_cells : Row → List Cell
trio_cells r = cells bare trio_cols (column 2 ∷ column 5 ∷ column 7 ∷ []) r

-- what a function gives of three items, at position 1
abbrev pub trio_value_rows : Fun → List Row → List Row
trio_value_rows g j = project (columns (0 ∷ 1 ∷ 2 ∷ 4 ∷ 5 ∷ 6 ∷ 7 ∷ 3 ∷ [])) (pair 0 0 ∷ pair 1 1 ∷ pair 2 3 ∷ []) (map_rows bare g trio_cells j)

-- `substring` with a length, and `translate`
pub data TrioRule : Type 0 where
  Parts : TrioRule
  Maps : TrioRule

abbrev pub trio_fun : TrioRule → Fun
trio_fun Parts = f.Substring
trio_fun Maps = f.Translate

abbrev pub trio_operands : TrioRule → List Row → List Row → List Row → List Operand
trio_operands Parts a b d = (MaybeText, a) ∷ (OneNumber, b) ∷ (OneNumber, d) ∷ []
trio_operands Maps a b d = (MaybeText, a) ∷ (OneText, b) ∷ (OneText, d) ∷ []

abbrev pub trio_marks : TrioRule → List Row → List Row → List Row → List Row → List (Code × List Row)
trio_marks q l a b d = operand_marks l (trio_operands q a b d)

abbrev pub trio_rows : TrioRule → List Row → List Row → List Row → List Row → List Row
trio_rows q l a b d = third_rows (side_rows (calm_rows l (trio_marks q l a b d)) (text_rows l a) b) d

abbrev pub trio_most : TrioRule → List Row → List Row → List Row → List Row → ℕ
trio_most q l a b d = max (length l + length a + length d) (max (sided_most l (calm_rows l (trio_marks q l a b d)) (text_rows l a) b) (length (trio_rows q l a b d)))
