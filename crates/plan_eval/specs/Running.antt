-- The tables that are kept while a plan is evaluated, and what its events answer (own rule).
use Rattle.std.specs.Prelude.{ℕ, ◌≡◌, ◌≤◌, cond, ◌&&◌, List, ◌++◌, length, set, get_or, Option, Some, None, nat_eq, nat_lt, slice_get, slice_index_or, Result, Ok, Err}
use Rattle.xq_base.specs.declared.item.Item.{Item}
use Rattle.xq_base.specs.Texts.{Text}
use Rattle.doc_table.specs.Stores.{Holdings}
use Rattle.plan_dag.specs.declared.op.Op.{Op}
use Rattle.plan_dag.specs.declared.op.OpId.{OpId}
use Rattle.plan_dag.specs.Meaning.{Graph, Table, no_table, input_table, plan_answer, Answers, Refuses, root_items}
use Rattle.plan_dag.specs.Schema.{first_input, second_input}
use Rattle.table_ops.specs.Demands.{rules_in}
use Rattle.table_ops.specs.Standing.{standing, RowsGiven}
use Rattle.plan_eval.specs.declared.events.Event.{Event}
use Rattle.plan_eval.specs.declared.events.Event.TheVariants as e
use Rattle.plan_eval.specs.declared.fault.EvalFault.{EvalFault}
use Rattle.plan_eval.specs.declared.fault.EvalFault.TheVariants as v
use Rattle.plan_eval.specs.declared.fault.StepTally.{StepTally}
use Rattle.plan_eval.specs.Evaluating.{row_limit, tables_in, beyond_in, tallies_in}
use Rattle.plan_eval.specs.Making.{kept_input}

-- so many tables without a column
pub record AreEmpty (n : ℕ) (ts : List (Table Item)) : Type 0 where
  pub many : length ts ≡ n
  pub none : (k : ℕ) → slice_index_or ts k no_table ≡ no_table

-- without the table of an operator, where it is used here for the last time
abbrev pub released : ℕ → List ℕ → Option OpId → List (Table Item) → List (Table Item)
released place last None ts = ts
released place last (Some k) ts = cond (nat_lt k.0 (length ts) && (nat_lt k.0 (length last) && nat_eq (get_or last k.0 0) place)) (set ts k.0 no_table) ts

abbrev pub released_by : ℕ → List ℕ → Option Op → List (Table Item) → List (Table Item)
released_by place last None ts = ts
released_by place last (Some op) ts = released place last (second_input op) (released place last (first_input op) ts)

-- without the tables that an event uses for the last time
abbrev pub released_at : List Op → ℕ → List ℕ → Event → List (Table Item) → List (Table Item)
released_at ops place last (e.Make i) ts = released_by place last (slice_get ops i.0) ts
released_at ops place last (e.Test c) ts = released place last (Some c.op) ts

-- the kept table of the root stands for it
pub record RootStands (old new : List Text) (h : Holdings) (g : Graph) (ts : List (Table Item)) : Type 0 where
  pub stands : standing new h (kept_input ts g.root) ≡ input_table (rules_in old h) (tables_in old h g) g.root
  pub given : RowsGiven new h (kept_input ts g.root).rows
  pub few : length (kept_input ts g.root).rows ≤ row_limit

-- what the events of a plan answer
abbrev pub RunGives : List Text → List Text → Holdings → Graph → List (Table Item) → List StepTally → List StepTally → Result Unit EvalFault → Type 0
RunGives old new h g ts told after (Ok x) =
    (beyond_in old h g ≡ None) × (plan_answer (rules_in old h) g ≡ Answers (root_items (rules_in old h) (input_table (rules_in old h) (tables_in old h g) g.root)))
    × (after ≡ told ++ tallies_in old h g) × RootStands old new h g ts
RunGives old new h g ts told after (Err (v.Dynamic code offset)) = (beyond_in old h g ≡ None) × (plan_answer (rules_in old h) g ≡ Refuses code offset)
RunGives old new h g ts told after (Err (v.TableLimit op rows)) = beyond_in old h g ≡ Some (op, rows)
RunGives old new h g ts told after (Err v.NoMemory) = Unit {0}
