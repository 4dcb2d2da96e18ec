-- What an evaluation of a plan answers and notes (own rule).
use Rattle.std.specs.Prelude.{ℕ, ◌≡◌, cond, List, [], ◌∷◌, length, Option, Some, None, nat_lt, slice_get, Result, Ok, Err}
use Rattle.std.specs.List.{flat_map}
use Rattle.xq_base.specs.Texts.{Text}
use Rattle.doc_table.specs.declared.ledger.Note.{Note}
use Rattle.doc_table.specs.Documents.{documents_in}
use Rattle.doc_table.specs.NodeRules.{Docs}
use Rattle.doc_table.specs.Notes.{AppendsAll}
use Rattle.doc_table.specs.Stores.{Holdings}
use Rattle.doc_table.specs.StoredItems.{meanings, ItemsGiven}
use Rattle.plan_dag.specs.declared.op.Op.{Op}
use Rattle.plan_dag.specs.declared.op.OpId.{OpId}
use Rattle.plan_dag.specs.Cells.{Rules}
use Rattle.plan_dag.specs.ItemRules.{Cell}
use Rattle.plan_dag.specs.Meaning.{Graph, Table, Answers, Refuses, plan_answer, tables, table_at, input_table, demand_of}
use Rattle.plan_dag.specs.Schema.{first_input}
use Rattle.table_ops.specs.Demands.{rules_in}
use Rattle.plan_eval.specs.declared.events.Event.{Event}
use Rattle.plan_eval.specs.declared.events.Event.TheVariants as e
use Rattle.plan_eval.specs.declared.fault.Evaluated.{Evaluated}
use Rattle.plan_eval.specs.declared.fault.EvalFault.{EvalFault}
use Rattle.plan_eval.specs.declared.fault.EvalFault.TheVariants as v
use Rattle.plan_eval.specs.declared.fault.StepTally.{StepTally}
use Rattle.plan_eval.specs.Contexts.{op_notes, op_tallies}
use Rattle.plan_eval.specs.Turns.{events_of}

-- how many rows an operator may need
abbrev pub row_limit : ℕ
row_limit = 16777216

-- the operators that are evaluated, in order: those up to the first check that has a row
abbrev pub evaluated : {C : Type 0} → List (Table C) → List Event → List OpId
evaluated ts [] = []
evaluated ts (e.Make i ∷ es) = i ∷ evaluated ts es
evaluated ts (e.Test c ∷ es) = cond (nat_lt 0 (length (table_at ts c.op).rows)) [] (evaluated ts es)

-- the demand of an operator, where there is one
abbrev pub demand_with : {C : Type 0} → Rules C → Option Op → Table C → ℕ
demand_with R None t = 0
demand_with R (Some op) t = demand_of R op t

abbrev pub demand_at : {C : Type 0} → Rules C → List Op → List (Table C) → OpId → ℕ
demand_at R ops ts i = demand_with R (slice_get ops i.0) (table_at ts i)

-- the first of these operators whose demand passes the limit, with its demand
abbrev pub beyond : {C : Type 0} → Rules C → List Op → List (Table C) → List OpId → Option (OpId × ℕ)
beyond R ops ts [] = None
beyond R ops ts (i ∷ is) = cond (nat_lt row_limit (demand_at R ops ts i)) (Some (i, demand_at R ops ts i)) (beyond R ops ts is)

-- these operators up to the first whose demand passes the limit, which is one of them
abbrev pub begun : {C : Type 0} → Rules C → List Op → List (Table C) → List OpId → List OpId
begun R ops ts [] = []
begun R ops ts (i ∷ is) = i ∷ cond (nat_lt row_limit (demand_at R ops ts i)) [] (begun R ops ts is)

-- what the operator of a number notes and counts, over these documents
abbrev pub notes_with : Rules Cell → Docs → List (Table Cell) → Option Op → List Note
notes_with R docs ts None = []
notes_with R docs ts (Some op) = op_notes docs op (input_table R ts (first_input op))

abbrev pub notes_at : Rules Cell → Docs → List Op → List (Table Cell) → OpId → List Note
notes_at R docs ops ts i = notes_with R docs ts (slice_get ops i.0)

abbrev pub tallies_with : Rules Cell → Docs → List (Table Cell) → Option Op → List StepTally
tallies_with R docs ts None = []
tallies_with R docs ts (Some op) = op_tallies docs op (input_table R ts (first_input op))

abbrev pub tallies_at : Rules Cell → Docs → List Op → List (Table Cell) → OpId → List StepTally
tallies_at R docs ops ts i = tallies_with R docs ts (slice_get ops i.0)

-- over the documents of a store and the texts of a pool
abbrev pub tables_in : List Text → Holdings → Graph → List (Table Cell)
tables_in texts h g = tables (rules_in texts h) g.ops

abbrev pub evaluated_in : List Text → Holdings → Graph → List OpId
evaluated_in texts h g = evaluated (tables_in texts h g) (events_of g)

abbrev pub beyond_in : List Text → Holdings → Graph → Option (OpId × ℕ)
beyond_in texts h g = beyond (rules_in texts h) g.ops (tables_in texts h g) (evaluated_in texts h g)

abbrev pub begun_in : List Text → Holdings → Graph → List OpId
begun_in texts h g = begun (rules_in texts h) g.ops (tables_in texts h g) (evaluated_in texts h g)

abbrev pub tallies_in : List Text → Holdings → Graph → List StepTally
tallies_in texts h g = flat_map (tallies_at (rules_in texts h) (documents_in texts h) g.ops (tables_in texts h g)) (evaluated_in texts h g)

abbrev pub notes_in : List Text → Holdings → Graph → List Note
notes_in texts h g = flat_map (notes_at (rules_in texts h) (documents_in texts h) g.ops (tables_in texts h g)) (begun_in texts h g)

-- the answer of an evaluation, where the pool had these texts and has those: the plan's, where no
-- operator that is evaluated passes the limit, with the tallies of the steps among these; else the
-- first that passes it. Want of memory tells nothing
abbrev pub Gives : List Text → List Text → Holdings → Graph → Result Evaluated EvalFault → Type 0
Gives old new h g (Ok r) = (beyond_in old h g ≡ None) × (plan_answer (rules_in old h) g ≡ Answers (meanings new h r.items.items)) × (r.tallies.items ≡ tallies_in old h g) × ItemsGiven new h r.items.items
Gives old new h g (Err (v.Dynamic code offset)) = (beyond_in old h g ≡ None) × (plan_answer (rules_in old h) g ≡ Refuses code offset)
Gives old new h g (Err (v.TableLimit op rows)) = beyond_in old h g ≡ Some (op, rows)
Gives old new h g (Err v.NoMemory) = Unit {0}

-- what holds unless memory was wanting
abbrev pub UnlessWant : {T : Type 0} → Result T EvalFault → Type 0 → Type 0
UnlessWant (Ok x) P = P
UnlessWant (Err (v.Dynamic code offset)) P = P
UnlessWant (Err (v.TableLimit op rows)) P = P
UnlessWant (Err v.NoMemory) P = Unit {0}

-- the notes of the steps that are evaluated, in their order, were appended
abbrev pub Notes : List Text → Holdings → Graph → Option (List Note) → Option (List Note) → Result Evaluated EvalFault → Type 0
Notes texts h g old new result = UnlessWant result (AppendsAll old new (notes_in texts h g))
