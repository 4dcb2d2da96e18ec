-- Conversions and casts to one kind of atomic values (own rule): the rows of their checks.
use Rattle.std.specs.Prelude.{false, List, [], ◌∷◌, ◌++◌}
use Rattle.std.specs.List.{filter}
use Rattle.xq_base.specs.declared.code.Code.{Code}
use Rattle.xq_base.specs.declared.code.Code.TheVariants as c
use Rattle.xq_base.specs.declared.fun.Fun.TheVariants as f
use Rattle.xq_base.specs.declared.fun.AtomKind.{AtomKind}
use Rattle.xq_base.specs.declared.fun.AtomKind.TheVariants as a'
use Rattle.xq_base.specs.declared.fun.ItemKind.TheVariants as k
use Rattle.doc_table.specs.Items.{BoolItem}
use Rattle.plan_dag.specs.declared.cols.Col.{Col}
use Rattle.plan_dag.specs.ItemRules.{is_true}
use Rattle.plan_dag.specs.Rows.{map_rows}
use Rattle.plan_dag.specs.Meaning.{cell, cells}
use Rattle.core_meaning.specs.declared.node.Occurs.{Occurs}
use Rattle.core_meaning.specs.declared.node.Occurs.TheVariants as o
use Rattle.lift_laws.specs.Iterations.{Row}
use Rattle.lift_laws.specs.States.{column, three}
use Rattle.lift_laws.specs.Shapes.{bare, pair, columns, project, four, five, with_cell, item_fails_rows, data_rows}
use Rattle.lift_laws.specs.Pairs.{gathered}
use Rattle.lift_laws.specs.TypeTests.{other_counts}

-- whether an atomic value is untyped or of the kind
abbrev pub fit_rows : AtomKind → List Row → List Row
fit_rows kind d =
    map_rows bare f.Or (cells bare five (column 3 ∷ column 4 ∷ []))
    (map_rows bare (f.IsKind (k.Atom kind)) (cells bare four (column 2 ∷ [])) (map_rows bare (f.IsKind (k.Atom a'.Untyped)) (cells bare three (column 2 ∷ [])) d))

-- the iterations with one that is neither
abbrev pub seven : List Col
seven = columns (0 ∷ 1 ∷ 2 ∷ 3 ∷ 4 ∷ 5 ∷ 6 ∷ [])

abbrev pub eight : List Col
eight = columns (0 ∷ 1 ∷ 2 ∷ 3 ∷ 4 ∷ 5 ∷ 6 ∷ 7 ∷ [])

abbrev pub misfit_rows : AtomKind → List Row → List Row
misfit_rows kind d =
    project eight (pair 0 0 ∷ [])
    (filter (λ r. is_true (cell bare eight (column 7) r)) (map_rows bare f.Eq (cells bare seven (column 5 ∷ column 6 ∷ [])) (with_cell (BoolItem false) (fit_rows kind d))))

-- a wrong number of items or a misfit, and then a cast that fails
abbrev pub kind_marks : AtomKind → Occurs → List Row → List Row → List (Code × List Row)
kind_marks kind occurs l a =
    (c.XPTY0004, gathered l (other_counts occurs l a ++ misfit_rows kind (data_rows a) ∷ [])) ∷ (c.FORG0001, item_fails_rows (f.CastTo kind) c.FORG0001 (data_rows a)) ∷ []

-- a cast of exactly one item
abbrev pub strict_marks : AtomKind → List Row → List Row → List (Code × List Row)
strict_marks kind l a = (c.XPTY0004, gathered l (other_counts o.One l a)) ∷ (c.FORG0001, item_fails_rows (f.CastTo kind) c.FORG0001 a) ∷ []
