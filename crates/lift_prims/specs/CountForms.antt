-- The forms of rules by the number of an argument's items, and of its items in another order or as atomic values (own rule), over
-- a loop and an argument.
use Rattle.std.specs.Prelude.{pos, true, false, List, [], ◌∷◌, ◌++◌, Some}
use Rattle.xq_base.specs.declared.item.Atom.TheVariants as a
use Rattle.plan_dag.specs.declared.op.Op.{Op}
use Rattle.plan_dag.specs.declared.op.Op.TheVariants as o
use Rattle.lift_laws.specs.States.{column, op_id}
use Rattle.lift_prims.specs.Listed.{pair_in}
use Rattle.lift_prims.specs.TruthForms.{placed_form, or_none_form}

-- a table without rows
abbrev pub empty_form : List Op
empty_form = o.Empty (column 0 ∷ column 1 ∷ column 2 ∷ []) ∷ []

-- the iterations with a second item
abbrev pub second_form : List Op
second_form = placed_form (pos 2) (pair_in (0, 0) ∷ [])

-- those without an item
abbrev pub none_form : List Op
none_form = o.Project (op_id 1) (pair_in (0, 0) ∷ []) ∷ o.Difference (op_id 0) (op_id 2) (column 0) (column 0) ∷ []

-- both
abbrev pub not_one_form : List Op
not_one_form = second_form ++ or_none_form 5

-- how many items each iteration has
abbrev pub count_form : List Op
count_form =
    o.Count (op_id 1) (column 0) (column 3)
    ∷ o.Project (op_id 2) (pair_in (4, 0) ∷ pair_in (5, 3) ∷ [])
    ∷ o.Join (op_id 0) (op_id 3) (column 0) (column 4)
    ∷ o.Attach (op_id 4) (column 1) (a.Int (pos 1))
    ∷ o.Project (op_id 5) (pair_in (0, 0) ∷ pair_in (1, 1) ∷ pair_in (2, 5) ∷ [])
    ∷ o.Project (op_id 1) (pair_in (0, 0) ∷ [])
    ∷ o.Difference (op_id 0) (op_id 7) (column 0) (column 0)
    ∷ o.Attach (op_id 8) (column 1) (a.Int (pos 1))
    ∷ o.Attach (op_id 9) (column 2) (a.Int (pos 0))
    ∷ o.Union (op_id 6) (op_id 10)
    ∷ []

-- the items from the last one on
abbrev pub reverse_form : List Op
reverse_form = o.Rownum (op_id 1) (column 3) (record { col = column 1; descending = true } ∷ []) (Some (column 0)) ∷ o.Project (op_id 2) (pair_in (0, 0) ∷ pair_in (1, 3) ∷ pair_in (2, 2) ∷ []) ∷ []
