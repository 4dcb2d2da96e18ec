-- What the nodes of a context look for (own rule).
use Rattle.std.specs.Prelude.{ℕ, ◌+◌, ◌-◌, ◌^◌, Bool, if◌then◌else◌, List, [], ◌∷◌, ◌++◌, Option, Some, None, nat_eq}
use Rattle.xq_base.specs.declared.axis.Axis.{Axis}
use Rattle.xq_base.specs.declared.axis.Axis.TheVariants as a
use Rattle.staircase.specs.declared.kinds.Ctx.{Ctx}
use Rattle.staircase.specs.declared.seen.Seen.{Seen}
use Rattle.staircase.specs.declared.task.Task.{Task}

-- the first row with this number
abbrev pub row_found : List Seen → ℕ → Option Seen
row_found [] pre = None
row_found (s ∷ ss) pre = if nat_eq s.pre pre then Some s else row_found ss pre

abbrev pub where_row : ℕ → Option Task → Option Task
where_row attr t = if nat_eq attr 0 then t else None

-- the rows that a node of this row or attribute looks for on an axis, where they stand between two
-- numbers
abbrev pub task_for : Axis → ℕ → ℕ → Seen → Option Task
task_for a.SelfNode iter attr own = where_row attr (Some (record { iter = iter; first = own.pre; end = own.pre + 1; limit = None }))
task_for a.Descendant iter attr own = where_row attr (Some (record { iter = iter; first = own.pre + 1; end = own.last + 1; limit = None }))
task_for a.DescendantOrSelf iter attr own = where_row attr (Some (record { iter = iter; first = own.pre; end = own.last + 1; limit = None }))
task_for a.Following iter attr own = Some (record { iter = iter; first = (if nat_eq attr 0 then own.last else own.pre) + 1; end = 2 ^ 32 - 1; limit = None })
task_for a.Preceding iter attr own = Some (record { iter = iter; first = 0; end = own.pre; limit = Some own.pre })
task_for _ iter attr own = None

abbrev pub listed : Option Task → List Task
listed None = []
listed (Some t) = t ∷ []

-- all nodes are of iteration 0 where they are counted
abbrev pub iter_for : Bool → Ctx → ℕ
iter_for counting c = if counting then 0 else c.iter

abbrev pub task_at : Axis → Bool → Ctx → Option Seen → List Task
task_at axis counting c None = []
task_at axis counting c (Some own) = listed (task_for axis (iter_for counting c) c.attr own)

abbrev pub made_one : Axis → Bool → List Seen → Ctx → List Task
made_one axis counting seen c = task_at axis counting c (row_found seen c.pre)

abbrev pub made : Axis → Bool → List Seen → List Ctx → List Task
made axis counting seen [] = []
made axis counting seen (c ∷ cs) = made_one axis counting seen c ++ made axis counting seen cs
