-- Variables carried into a loop or a branch (own rule): exactly the free ones, each by operators with the rows of its shape.
use Rattle.std.specs.Prelude.{◌≡◌, ◌≢◌, ℕ, ◌≤◌, true, cond, List, [], length, nat_eq}
use Rattle.plan_dag.specs.declared.op.OpId.{OpId}
use Rattle.core_meaning.specs.Expr.{Expr}
use Rattle.core_meaning.specs.Work.{is_member}
use Rattle.lift_laws.specs.Iterations.{Row}
use Rattle.lift_laws.specs.States.{State, at, IsIn, Small, Grows, three}
use Rattle.lift_laws.specs.Shapes.{into_rows, restrict_rows}
use Rattle.lift_laws.specs.Lifting.{IsFree}

-- the tables of the variables, with one more
abbrev pub set_var : (ℕ → OpId) → ℕ → OpId → ℕ → OpId
set_var vars x t y = cond (nat_eq y x) t (vars y)

-- one variable: its table, by the loop's map or the branch's loop
pub record CarryOne (R : List Row → List Row → List Row) (s s' : State) (m v op : OpId) : Type 0 where
  pub grows : Grows s s' []
  pub quiet : s'.steps ≡ s.steps
  pub is_in : IsIn s' op
  pub is : at s' op ≡ record { cols = three; rows = R (at s m).rows (at s v).rows }
  pub small : (N : ℕ) → length (at s m).rows ≤ N → length (R (at s m).rows (at s v).rows) ≤ N → Small s' (length s.tables) (length s'.tables) N

-- these variables
pub record CarriedFor (R : List Row → List Row → List Row) (s s' : State) (m : OpId) (vars inner : ℕ → OpId) (ys : List ℕ) : Type 0 where
  pub grows : Grows s s' []
  pub quiet : s'.steps ≡ s.steps
  pub carried : (y : ℕ) → is_member y ys ≡ true → IsIn s' (inner y) × (at s' (inner y) ≡ record { cols = three; rows = R (at s m).rows (at s (vars y)).rows })
  pub small : (N : ℕ) → length (at s m).rows ≤ N → ((y : ℕ) → is_member y ys ≡ true → length (R (at s m).rows (at s (vars y)).rows) ≤ N) → Small s' (length s.tables) (length s'.tables) N

-- the outer variables of a loop's body are carried into it
pub record Carries (s s' : State) (m : OpId) (vars vars' : ℕ → OpId) (x p : ℕ) (e : Expr) : Type 0 where
  pub grows : Grows s s' []
  pub quiet : s'.steps ≡ s.steps
  pub carried : (y : ℕ) → y ≢ x → y ≢ p → IsFree y e → IsIn s' (vars' y) × (at s' (vars' y) ≡ record { cols = three; rows = into_rows (at s m).rows (at s (vars y)).rows })
  pub small : (N : ℕ) → length (at s m).rows ≤ N → ((y : ℕ) → y ≢ x → y ≢ p → IsFree y e → length (into_rows (at s m).rows (at s (vars y)).rows) ≤ N) → Small s' (length s.tables) (length s'.tables) N

-- the free variables of a branch are carried into it
pub record Restricts (s s' : State) (l : OpId) (vars vars' : ℕ → OpId) (e : Expr) : Type 0 where
  pub grows : Grows s s' []
  pub quiet : s'.steps ≡ s.steps
  pub carried : (y : ℕ) → IsFree y e → IsIn s' (vars' y) × (at s' (vars' y) ≡ record { cols = three; rows = restrict_rows (at s l).rows (at s (vars y)).rows })
  pub small : (N : ℕ) → length (at s l).rows ≤ N → ((y : ℕ) → IsFree y e → length (restrict_rows (at s l).rows (at s (vars y)).rows) ≤ N) → Small s' (length s.tables) (length s'.tables) N
