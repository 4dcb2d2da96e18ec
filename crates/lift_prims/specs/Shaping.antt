-- The forms of the shapes of expressions (own rule): their operators, by the places of what they read.
use Rattle.std.specs.Prelude.{ℕ, pos, List, [], ◌∷◌, map, None, Some}
use Rattle.xq_base.specs.declared.item.Atom.{Atom as Constant}
use Rattle.xq_base.specs.declared.item.Atom.TheVariants as a
use Rattle.xq_base.specs.declared.fun.Fun.TheVariants as f
use Rattle.plan_dag.specs.declared.op.Op.{Op}
use Rattle.plan_dag.specs.declared.op.Op.TheVariants as o
use Rattle.lift_laws.specs.States.{column, op_id}
use Rattle.lift_prims.specs.Listed.{pair_in, key_in}

-- over a loop
abbrev pub literal_form : Constant → List Op
literal_form v = o.Attach (op_id 0) (column 1) (a.Int (pos 1)) ∷ o.Attach (op_id 1) (column 2) v ∷ []

-- over both parts
abbrev pub sequence_form : List Op
sequence_form =
    o.Attach (op_id 0) (column 3) (a.Int (pos 1))
    ∷ o.Attach (op_id 1) (column 3) (a.Int (pos 2))
    ∷ o.Union (op_id 2) (op_id 3)
    ∷ o.Rownum (op_id 4) (column 4) (key_in 3 ∷ key_in 1 ∷ []) (Some (column 0))
    ∷ o.Project (op_id 5) (pair_in (0, 0) ∷ pair_in (1, 4) ∷ pair_in (2, 2) ∷ [])
    ∷ []

-- over a loop and rows that name iterations: the loop without them
abbrev pub less_form : List Op
less_form = o.Difference (op_id 0) (op_id 1) (column 0) (column 0) ∷ []

-- a table without rows
abbrev pub nothing_form : List Op
nothing_form = o.Empty (map column (0 ∷ 1 ∷ 2 ∷ [])) ∷ []

-- over a sequence: the map of a loop's turns
abbrev pub turn_map_form : List Op
turn_map_form = o.Rownum (op_id 0) (column 3) (key_in 0 ∷ key_in 1 ∷ []) None ∷ []

-- over that map: the loop inside
abbrev pub inner_form : List Op
inner_form = o.Project (op_id 0) (pair_in (0, 3) ∷ []) ∷ []

-- over that map: a column of it, one item in each turn
abbrev pub each_form : ℕ → List Op
each_form n = o.Attach (op_id 0) (column 4) (a.Int (pos 1)) ∷ o.Project (op_id 1) (pair_in (0, 3) ∷ pair_in (1, 4) ∷ pair_in (2, n) ∷ []) ∷ []

-- over that map and a variable's table: the variable in the turns
abbrev pub into_form : List Op
into_form =
    o.Project (op_id 0) (pair_in (4, 0) ∷ pair_in (5, 3) ∷ [])
    ∷ o.Join (op_id 2) (op_id 1) (column 4) (column 0)
    ∷ o.Project (op_id 3) (pair_in (0, 5) ∷ pair_in (1, 1) ∷ pair_in (2, 2) ∷ [])
    ∷ []

-- over that map and the values of the turns: the values of the iterations outside
abbrev pub back_form : List Op
back_form =
    o.Project (op_id 0) (pair_in (4, 3) ∷ pair_in (5, 0) ∷ pair_in (6, 1) ∷ [])
    ∷ o.Join (op_id 2) (op_id 1) (column 4) (column 0)
    ∷ o.Project (op_id 3) (pair_in (0, 5) ∷ pair_in (1, 1) ∷ pair_in (2, 2) ∷ pair_in (3, 6) ∷ [])
    ∷ o.Rownum (op_id 4) (column 4) (key_in 3 ∷ key_in 1 ∷ []) (Some (column 0))
    ∷ o.Project (op_id 5) (pair_in (0, 0) ∷ pair_in (1, 4) ∷ pair_in (2, 2) ∷ [])
    ∷ []

-- over a condition: the iterations that it chooses
abbrev pub chosen_form : List Op
chosen_form =
    o.Attach (op_id 0) (column 3) (a.Int (pos 2))
    ∷ o.Map (op_id 1) f.Eq (map column (1 ∷ 3 ∷ [])) (column 4)
    ∷ o.Select (op_id 2) (column 4)
    ∷ o.Project (op_id 3) (pair_in (0, 0) ∷ [])
    ∷ o.Select (op_id 0) (column 2)
    ∷ o.Project (op_id 5) (pair_in (0, 0) ∷ [])
    ∷ o.Difference (op_id 6) (op_id 4) (column 0) (column 0)
    ∷ []

-- over a branch's loop and a variable's table: the variable in the branch
abbrev pub restrict_form : List Op
restrict_form =
    o.Project (op_id 0) (pair_in (4, 0) ∷ [])
    ∷ o.Join (op_id 2) (op_id 1) (column 4) (column 0)
    ∷ o.Project (op_id 3) (pair_in (0, 0) ∷ pair_in (1, 1) ∷ pair_in (2, 2) ∷ [])
    ∷ []

-- over both branches
abbrev pub either_form : List Op
either_form = o.Union (op_id 0) (op_id 1) ∷ []
