-- Texts of any number of arguments one after the other, and items in reverse order (own rule): the rows of their operators.
use Rattle.std.specs.Prelude.{ℕ, ◌+◌, max, true, List, [], ◌∷◌, length, map, Some}
use Rattle.xq_base.specs.declared.code.Code.{Code}
use Rattle.xq_base.specs.declared.code.Code.TheVariants as c
use Rattle.xq_base.specs.declared.fun.Fun.TheVariants as f
use Rattle.doc_table.specs.Items.{TextItem}
use Rattle.plan_dag.specs.declared.keys.Key.{Key}
use Rattle.plan_dag.specs.declared.op.OpId.{OpId}
use Rattle.lift_laws.specs.Iterations.{Row}
use Rattle.lift_laws.specs.States.{State, at, column, three}
use Rattle.lift_laws.specs.Shapes.{pair, project, four, numbered_by, second_rows, literal_rows}
use Rattle.lift_laws.specs.Pairs.{gathered, pair_most, pair_value_rows, filled_rows}

-- the rows of operators
abbrev pub rows_at : State → List OpId → List (List Row)
rows_at s ts = map (λ t. (at s t).rows) ts

-- texts one after the other, from the last one on; an absent one is empty
abbrev pub concat_rows : List Row → List (List Row) → List Row
concat_rows l [] = literal_rows (TextItem []) l
concat_rows l (a ∷ as') = pair_value_rows f.Concat l (filled_rows (TextItem []) l a) (concat_rows l as')

abbrev pub concat_marks : List Row → List (List Row) → List (Code × List Row)
concat_marks l as' = (c.XPTY0004, gathered l (map second_rows as')) ∷ []

-- what the operators may demand
abbrev pub concat_most : List Row → List (List Row) → ℕ
concat_most l [] = length l
concat_most l (a ∷ as') = max (max (length l + length a) (pair_most l (filled_rows (TextItem []) l a) (concat_rows l as'))) (concat_most l as')

-- items in reverse order, with new positions
abbrev pub down : ℕ → Key
down n = record { col = column n; descending = true }

abbrev pub reversed_rows : List Row → List Row
reversed_rows a = project four (pair 0 0 ∷ pair 1 3 ∷ pair 2 2 ∷ []) (numbered_by three (down 1 ∷ []) (Some (column 0)) a)
