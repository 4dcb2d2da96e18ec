-- The operators of the variables in scope (own rule).
use Rattle.std.specs.Prelude.{ℕ, cond, nat_eq, List, [], ◌∷◌}
use Rattle.plan_dag.specs.declared.op.OpId.{OpId}
use Rattle.lift_laws.specs.States.{op_id}
use Rattle.lift_prims.specs.declared.carry.Bound.{Bound}

-- the last binding counts
abbrev pub look : OpId → List Bound → ℕ → OpId
look found [] y = found
look found (b ∷ bs) y = look (cond (nat_eq y b.var) b.op found) bs y

-- the operator of a variable
abbrev pub scope_of : List Bound → ℕ → OpId
scope_of bs y = look (op_id 0) bs y
