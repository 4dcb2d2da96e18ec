-- The forms of booleans by rows that name iterations (own rule), over a loop and an argument.
use Rattle.std.specs.Prelude.{ℕ, ℤ, ◌+◌, pos, Bool, true, false, not, List, [], ◌∷◌, ◌++◌}
use Rattle.xq_base.specs.declared.fun.AtomKind.{AtomKind}
use Rattle.xq_base.specs.declared.fun.Fun.{Fun}
use Rattle.xq_base.specs.declared.fun.Fun.TheVariants as f
use Rattle.xq_base.specs.declared.code.Code.TheVariants as c
use Rattle.xq_base.specs.declared.item.Atom.TheVariants as a
use Rattle.plan_dag.specs.declared.op.Agg.TheVariants as g
use Rattle.plan_dag.specs.declared.pairs.Pair.{Pair}
use Rattle.plan_dag.specs.declared.op.Op.{Op}
use Rattle.plan_dag.specs.declared.op.Op.TheVariants as o
use Rattle.lift_laws.specs.States.{column, op_id}
use Rattle.lift_prims.specs.Listed.{pair_in}
use Rattle.lift_prims.specs.ItemForms.{unfit_form}

-- behind the rows at this place, which is the last so far: this boolean for each iteration that they name, and else the other one
abbrev pub truth_form : ℕ → Bool → List Op
truth_form b there =
    o.Difference (op_id 0) (op_id b) (column 0) (column 0)
    ∷ o.Difference (op_id 0) (op_id (b + 1)) (column 0) (column 0)
    ∷ o.Attach (op_id (b + 2)) (column 1) (a.Int (pos 1))
    ∷ o.Attach (op_id (b + 3)) (column 2) (a.Bool there)
    ∷ o.Attach (op_id (b + 1)) (column 1) (a.Int (pos 1))
    ∷ o.Attach (op_id (b + 5)) (column 2) (a.Bool (not there))
    ∷ o.Union (op_id (b + 4)) (op_id (b + 6))
    ∷ []

-- the iterations in which the argument has an item
abbrev pub any_form : List Op
any_form = o.Project (op_id 1) (pair_in (0, 0) ∷ []) ∷ []

-- a boolean by whether it has one
abbrev pub any_truth_form : Bool → List Op
any_truth_form there = any_form ++ truth_form 2 there

-- the items at a position, with these columns
abbrev pub placed_form : ℤ → List Pair → List Op
placed_form k ps =
    o.Attach (op_id 1) (column 3) (a.Int k)
    ∷ o.Map (op_id 2) f.Eq (column 1 ∷ column 3 ∷ []) (column 4)
    ∷ o.Select (op_id 3) (column 4)
    ∷ o.Project (op_id 4) ps
    ∷ []

-- the first items
abbrev pub head_form : List Op
head_form = placed_form (pos 1) (pair_in (0, 0) ∷ pair_in (1, 1) ∷ pair_in (2, 2) ∷ [])

-- behind them, the iterations with a true one
abbrev pub true_form : List Op
true_form = o.Aggregate (op_id 5) g.Ebv (column 0) (column 2) (column 3) ∷ o.Select (op_id 6) (column 3) ∷ o.Project (op_id 7) (pair_in (0, 0) ∷ []) ∷ []

-- a boolean by whether the first item is true
abbrev pub head_truth_form : Bool → List Op
head_truth_form there = (head_form ++ true_form) ++ truth_form 8 there

-- behind the first items, the iterations with a second item behind one that is no node
abbrev pub mixed_form : List Op
mixed_form =
    o.MapFails (op_id 5) f.Name c.XPTY0004 (column 2 ∷ []) ∷ o.Project (op_id 6) (pair_in (0, 0) ∷ [])
    ∷ o.Attach (op_id 1) (column 3) (a.Int (pos 2))
    ∷ o.Map (op_id 8) f.Eq (column 1 ∷ column 3 ∷ []) (column 4)
    ∷ o.Select (op_id 9) (column 4)
    ∷ o.Project (op_id 10) (pair_in (0, 0) ∷ [])
    ∷ o.Difference (op_id 11) (op_id 7) (column 0) (column 0)
    ∷ o.Difference (op_id 11) (op_id 12) (column 0) (column 0)
    ∷ []

abbrev pub mixed_head_form : List Op
mixed_head_form = head_form ++ mixed_form

-- behind the rows at this place, which is the last so far: those iterations, and the ones without an item
abbrev pub or_none_form : ℕ → List Op
or_none_form b = o.Project (op_id 1) (pair_in (0, 0) ∷ []) ∷ o.Difference (op_id 0) (op_id (b + 1)) (column 0) (column 0) ∷ o.Union (op_id b) (op_id (b + 2)) ∷ []

-- a boolean by whether the argument can be cast
abbrev pub castable_form : AtomKind → Bool → List Op
castable_form kind true = unfit_form (f.CastTo kind) c.FORG0001 ++ truth_form 8 false
castable_form kind false = (unfit_form (f.CastTo kind) c.FORG0001 ++ or_none_form 8) ++ truth_form 11 false

-- the function that a boolean constant is, and the one that asks for an item or for none
abbrev pub constant_fun : Bool → Fun
constant_fun true = f.True
constant_fun false = f.False

abbrev pub exists_fun : Bool → Fun
exists_fun true = f.Exists
exists_fun false = f.Empty
