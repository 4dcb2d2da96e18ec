-- The forms of the rules of at most one item (own rule), over a loop and an argument.
use Rattle.std.specs.Prelude.{ℕ, pos, List, [], ◌∷◌}
use Rattle.xq_base.specs.declared.code.Code.{Code}
use Rattle.xq_base.specs.declared.fun.Fun.{Fun}
use Rattle.xq_base.specs.declared.fun.Fun.TheVariants as f
use Rattle.xq_base.specs.declared.item.Atom.TheVariants as a
use Rattle.plan_dag.specs.declared.op.Op.{Op}
use Rattle.plan_dag.specs.declared.op.Op.TheVariants as o
use Rattle.lift_laws.specs.States.{column, op_id}
use Rattle.lift_prims.specs.Listed.{pair_in}

-- the values of a function at the items' positions
abbrev pub item_value_form : Fun → List Op
item_value_form g = o.Map (op_id 1) g (column 2 ∷ []) (column 3) ∷ o.Project (op_id 2) (pair_in (0, 0) ∷ pair_in (1, 1) ∷ pair_in (2, 3) ∷ []) ∷ []

-- the iterations with an item for which it fails with a code
abbrev pub item_fails_form : Fun → Code → List Op
item_fails_form g d = o.MapFails (op_id 1) g d (column 2 ∷ []) ∷ o.Project (op_id 2) (pair_in (0, 0) ∷ []) ∷ []

-- those, and the iterations with a second item
abbrev pub unfit_form : Fun → Code → List Op
unfit_form g d =
    o.Attach (op_id 1) (column 3) (a.Int (pos 2))
    ∷ o.Map (op_id 2) f.Eq (column 1 ∷ column 3 ∷ []) (column 4)
    ∷ o.Select (op_id 3) (column 4)
    ∷ o.Project (op_id 4) (pair_in (0, 0) ∷ [])
    ∷ o.MapFails (op_id 1) g d (column 2 ∷ [])
    ∷ o.Project (op_id 6) (pair_in (0, 0) ∷ [])
    ∷ o.Union (op_id 5) (op_id 7)
    ∷ []
