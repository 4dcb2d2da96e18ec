-- In which order the operators of a plan are evaluated (own rule): for each check in turn, and then for
-- the root, its operator and the operators below it that aren't evaluated yet, by ascending number.
use Rattle.std.specs.Prelude.{ℕ, suc, ◌≡◌, ◌<◌, Bool, cond, ◌||◌, ◌&&◌, List, [], ◌∷◌, ◌++◌, map, min, length, set, get_or, Option, Some, None, nat_eq, nat_lt}
use Rattle.xq_base.specs.declared.item.Item.{Item}
use Rattle.xq_base.specs.declared.item.Item.TheVariants as i
use Rattle.plan_dag.specs.declared.check.Check.{Check}
use Rattle.plan_dag.specs.declared.op.Op.{Op}
use Rattle.plan_dag.specs.declared.op.OpId.{OpId}
use Rattle.plan_dag.specs.Meaning.{Graph}
use Rattle.plan_dag.specs.Needed.{is_input}
use Rattle.plan_dag.specs.Schema.{first_input, second_input}
use Rattle.table_ops.specs.Chains.{places_of}
use Rattle.table_ops.specs.Keys.{item_eq}
use Rattle.plan_eval.specs.declared.events.Event.{Event}
use Rattle.plan_eval.specs.declared.events.Event.TheVariants as e

-- the operators of the checks in their order, and the root
abbrev pub targets_of : List Check → Option OpId → List (Option OpId)
targets_of checks root = map (λ (c : Check). Some c.op) checks ++ root ∷ []

-- the turn of the first target that is the operator of a number, or one past the last turn
abbrev pub first_turn : ℕ → List (Option OpId) → ℕ
first_turn k [] = 0
first_turn k (t ∷ ts) = cond (is_input k t) 0 (suc (first_turn k ts))

-- whether an operator reads the operator of a number
abbrev pub reads_op : ℕ → Op → Bool
reads_op k op = is_input k (first_input op) || is_input k (second_input op)

-- the least of a turn and the turns of those that read an operator
abbrev pub least_turn : ℕ → ℕ → List (Op × ℕ) → ℕ
least_turn k turn [] = turn
least_turn k turn (r ∷ rs) = cond (reads_op k r.0) (min (least_turn k turn rs) r.1) (least_turn k turn rs)

-- the operators from a number on, each with its turn: the first one whose target is this operator or
-- stands above it
abbrev pub turns_from : List (Option OpId) → ℕ → List Op → List (Op × ℕ)
turns_from ts k [] = []
turns_from ts k (op ∷ ops) =
    let rest : List (Op × ℕ) = turns_from ts (suc k) ops in
    (op, least_turn k (first_turn k ts) rest) ∷ rest

abbrev pub turns_of : Graph → List ℕ
turns_of g = map (λ r. r.1) (turns_from (targets_of g.checks g.root) 0 g.ops)

-- the operators of a turn, ascending
abbrev pub makes_at : List ℕ → ℕ → List Event
makes_at turns turn = map (λ k. e.Make (record { 0 = k })) (places_of (nat_eq turn) 0 turns)

-- what is done from a turn on: operators are evaluated and checks are looked at
abbrev pub events_from : List ℕ → ℕ → List Check → List Event
events_from turns turn [] = makes_at turns turn
events_from turns turn (c ∷ cs) = makes_at turns turn ++ e.Test c ∷ events_from turns (suc turn) cs

abbrev pub events_of : Graph → List Event
events_of g = events_from (turns_of g) 0 g.checks

-- ---- what the code keeps

-- the turn of an operator is this one, where it was greater
abbrev pub lowered : ℕ → Option OpId → List ℕ → List ℕ
lowered turn None ts = ts
lowered turn (Some k) ts = cond (nat_lt k.0 (length ts) && nat_lt turn (get_or ts k.0 0)) (set ts k.0 turn) ts

-- the turns of the targets alone
pub record AreFirst (g : Graph) (turns : List ℕ) : Type 0 where
  pub as_many : length turns ≡ length g.ops
  pub first : (k : ℕ) → k < length g.ops → get_or turns k 0 ≡ first_turn k (targets_of g.checks g.root)

-- a turn as a cell
abbrev pub turn_cell : ℕ → Item
turn_cell turn = i.Str (record { 0 = turn })

abbrev pub make_event : ℕ → Event
make_event k = e.Make (record { 0 = k })

-- the operators of a turn, where these are the turns as cells
abbrev pub makes_in : List Item → ℕ → List Event
makes_in cells turn = map make_event (places_of (item_eq (turn_cell turn)) 0 cells)

abbrev pub events_in : List Item → ℕ → List Check → List Event
events_in cells turn [] = makes_in cells turn
events_in cells turn (c ∷ cs) = makes_in cells turn ++ e.Test c ∷ events_in cells (suc turn) cs
