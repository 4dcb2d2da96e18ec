-- When the table of an operator is used for the last time (own rule).
use Rattle.std.specs.Prelude.{ℕ, ◌≡◌, ◌<◌, ◌≤◌, Bool, true, false, cond, List, length, set, get_or, Option, Some, None, nat_eq, nat_lt, slice_get}
use Rattle.plan_dag.specs.declared.op.Op.{Op}
use Rattle.plan_dag.specs.declared.op.OpId.{OpId}
use Rattle.plan_dag.specs.Needed.{is_input}
use Rattle.plan_dag.specs.Schema.{first_input, second_input}
use Rattle.plan_eval.specs.declared.events.Event.{Event}
use Rattle.plan_eval.specs.declared.events.Event.TheVariants as e
use Rattle.plan_eval.specs.Turns.{reads_op}

-- whether an event reads the table of the operator of a number
abbrev pub reads_with : ℕ → Option Op → Bool
reads_with k None = false
reads_with k (Some op) = reads_op k op

abbrev pub uses : List Op → ℕ → Event → Bool
uses ops k (e.Make i) = reads_with k (slice_get ops i.0)
uses ops k (e.Test c) = nat_eq c.op.0 k

-- for each operator a place that no event that reads its table stands behind; for the root one behind all
pub record LastUses (ops : List Op) (root : Option OpId) (events : List Event) (last : List ℕ) : Type 0 where
  pub as_many : length last ≡ length ops
  pub used : (k place : ℕ) (event : Event) → k < length ops → slice_get events place ≡ Some event → uses ops k event ≡ true → place ≤ get_or last k 0
  pub root_used : (k : ℕ) → k < length ops → is_input k root ≡ true → length events ≤ get_or last k 0

-- the place at an operator
abbrev pub raised : ℕ → Option OpId → List ℕ → List ℕ
raised place None last = last
raised place (Some k) last = cond (nat_lt k.0 (length last)) (set last k.0 place) last

abbrev pub raised_by : ℕ → Option Op → List ℕ → List ℕ
raised_by place None last = last
raised_by place (Some op) last = raised place (second_input op) (raised place (first_input op) last)

-- the place at the operators that an event reads
abbrev pub raised_at : List Op → ℕ → Event → List ℕ → List ℕ
raised_at ops place (e.Make i) last = raised_by place (slice_get ops i.0) last
raised_at ops place (e.Test c) last = raised place (Some c.op) last
