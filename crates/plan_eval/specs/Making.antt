-- What the evaluation of one operator leaves (own rule).
use Rattle.std.specs.Prelude.{ℕ, ◌≡◌, ◌<◌, ◌≤◌, List, [], ◌∷◌, length, pos, Option, Some, None, Result, Ok, Err}
use Rattle.xq_base.specs.declared.item.Item.{Item}
use Rattle.xq_base.specs.declared.item.Item.TheVariants as i
use Rattle.xq_base.specs.Texts.{Text}
use Rattle.doc_table.specs.declared.ledger.Note.{Note}
use Rattle.doc_table.specs.Documents.{documents_in}
use Rattle.doc_table.specs.Notes.{AppendsAll}
use Rattle.doc_table.specs.Stores.{Holdings}
use Rattle.plan_dag.specs.declared.op.Op.{Op}
use Rattle.plan_dag.specs.declared.op.OpId.{OpId}
use Rattle.plan_dag.specs.Meaning.{Table, demand_of, table_at, no_table}
use Rattle.table_ops.specs.Demands.{rules_in}
use Rattle.table_ops.specs.Results.{op_table}
use Rattle.table_ops.specs.Standing.{standing, RowsGiven}
use Rattle.plan_eval.specs.declared.entries.Reached.{Reached}
use Rattle.plan_eval.specs.declared.fault.EvalFault.{EvalFault}
use Rattle.plan_eval.specs.declared.fault.EvalFault.TheVariants as v
use Rattle.plan_eval.specs.declared.fault.StepTally.{StepTally}
use Rattle.plan_eval.specs.Contexts.{op_notes, op_tallies}
use Rattle.plan_eval.specs.Evaluating.{row_limit, UnlessWant}

-- the row of what a step reached
abbrev pub row_of : Reached → List Item
row_of r = i.Int (pos r.iter) ∷ i.Node r.node ∷ []

-- the demand of an operator over kept tables
abbrev pub demand_in : List Text → Holdings → Op → Table Item → Table Item → ℕ
demand_in texts h op l r = demand_of (rules_in texts h) op (op_table texts h op l r)

-- a kept table that stands for an operator's, over the pool after it, and that isn't too large
pub record Made (old new : List Text) (h : Holdings) (op : Op) (l r t : Table Item) : Type 0 where
  pub table : standing new h t ≡ op_table old h op l r
  pub given : RowsGiven new h t.rows
  pub few : demand_in old h op l r ≤ row_limit
  pub rows_few : length t.rows ≤ row_limit

-- a table, or that its operator has too many rows
abbrev pub MakesOp : List Text → List Text → Holdings → OpId → Op → Table Item → Table Item → Result (Table Item) EvalFault → Type 0
MakesOp old new h id op l r (Ok t) = Made old new h op l r t
MakesOp old new h id op l r (Err (v.Dynamic code offset)) = ⊥
MakesOp old new h id op l r (Err (v.TableLimit at rows)) = (at ≡ id) × (rows ≡ demand_in old h op l r) × (row_limit < rows)
MakesOp old new h id op l r (Err v.NoMemory) = Unit {0}

-- the notes of an operator over kept tables
abbrev pub NotesOp : List Text → Holdings → Op → Table Item → Option (List Note) → Option (List Note) → Result (Table Item) EvalFault → Type 0
NotesOp texts h op l old new result = UnlessWant result (AppendsAll old new (op_notes (documents_in texts h) op (standing texts h l)))

abbrev pub tallies_op : List Text → Holdings → Op → Table Item → List StepTally
tallies_op texts h op l = op_tallies (documents_in texts h) op (standing texts h l)

-- the table of an operator among kept ones, or none
abbrev pub kept_input : List (Table Item) → Option OpId → Table Item
kept_input ts None = no_table
kept_input ts (Some k) = table_at ts k
