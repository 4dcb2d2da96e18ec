-- The number of rows of an operator over kept tables (own rule).
use Rattle.std.specs.Prelude.{ℕ, ◌≡◌, Bool, true, false, List, length, Result, Ok, Err}
use Rattle.xq_base.specs.declared.item.Want.{Want}
use Rattle.xq_base.specs.declared.item.Item.{Item}
use Rattle.xq_base.specs.Pool.{NoRepeats}
use Rattle.xq_base.specs.Texts.{Text}
use Rattle.doc_table.specs.Documents.{documents_in}
use Rattle.doc_table.specs.Stores.{Holdings}
use Rattle.plan_dag.specs.declared.op.Op.{Op}
use Rattle.plan_dag.specs.declared.op.Op.TheVariants as o
use Rattle.plan_dag.specs.Cells.{Rules}
use Rattle.plan_dag.specs.ItemRules.{Cell, item_rules}
use Rattle.plan_dag.specs.Meaning.{Table, rows_of}
use Rattle.table_ops.specs.Standing.{standing}

-- the rules of items over a pool and a store
abbrev pub rules_in : List Text → Holdings → Rules Cell
rules_in texts h = item_rules (documents_in texts h) texts

-- the rows of an operator over what kept tables stand for
abbrev pub op_rows : List Text → Holdings → Op → Table Item → Table Item → List (List Cell)
op_rows texts h op l r = rows_of (rules_in texts h) op (standing texts h l) (standing texts h r)

-- so many, where the pool has each text once
abbrev pub HasRows : List Text → Holdings → Op → Table Item → Table Item → ℕ → Type 0
HasRows texts h op l r n = NoRepeats texts → n ≡ length (op_rows texts h op l r)

-- the number of rows of a table that was made
abbrev pub counted : Result (Table Item) Want → Result ℕ Want
counted (Ok t) = Ok (length t.rows)
counted (Err e) = Err e

-- the operators that apply a function to each row, those that make one row of a group, and those that compare
abbrev pub is_mapped : Op → Bool
is_mapped (o.Map i fun as' c) = true
is_mapped (o.MapFails i fun code as') = true
is_mapped _ = false

abbrev pub is_grouped : Op → Bool
is_grouped (o.Aggregate i agg g v c) = true
is_grouped (o.AggregateFails i agg code g v) = true
is_grouped (o.ContentFails j place code it p v) = true
is_grouped _ = false

abbrev pub is_compared : Op → Bool
is_compared (o.ExistsCompare i j op a v b w) = true
is_compared (o.CompareFails i j op code a v b w) = true
is_compared _ = false
