-- What an operator gives over kept tables (own rule).
use Rattle.std.specs.Prelude.{ℕ, ◌≡◌, Bool, true, false, List}
use Rattle.xq_base.specs.declared.item.Item.{Item}
use Rattle.xq_base.specs.Pool.{NoRepeats}
use Rattle.xq_base.specs.Texts.{Text}
use Rattle.doc_table.specs.Stores.{Holdings}
use Rattle.xq_funs.specs.Answering.{atom_given}
use Rattle.plan_dag.specs.declared.op.Op.{Op}
use Rattle.plan_dag.specs.declared.op.Op.TheVariants as o
use Rattle.plan_dag.specs.ItemRules.{Cell}
use Rattle.plan_dag.specs.Meaning.{Table, table_over}
use Rattle.table_ops.specs.Demands.{rules_in}
use Rattle.table_ops.specs.Standing.{standing, RowsGiven}

-- the table of an operator over what kept tables stand for
abbrev pub op_table : List Text → Holdings → Op → Table Item → Table Item → Table Cell
op_table texts h op l r = table_over (rules_in texts h) op (standing texts h l) (standing texts h r)

-- a kept table stands for it over the pool after it, where the pool before it has each text once; and its cells are given
pub record Makes (old : List Text) (h : Holdings) (op : Op) (l r : Table Item) (new : List Text) (t : Table Item) : Type 0 where
  pub table : NoRepeats old → standing new h t ≡ op_table old h op l r
  pub given : RowsGiven new h t.rows

-- a pool of so many texts gave that of the constant
abbrev pub constant_given : ℕ → Op → Bool
constant_given n (o.Attach i c v) = atom_given n v
constant_given n _ = true

-- the operators over no table or one that apply no function and make no group's value, and those over two that compare no values
abbrev pub is_of_one : Op → Bool
is_of_one (o.Unit c) = true
is_of_one (o.Empty cs) = true
is_of_one (o.Project i ps) = true
is_of_one (o.Attach i c v) = true
is_of_one (o.Select i c) = true
is_of_one (o.Distinct i cs) = true
is_of_one (o.Rownum i c ks part) = true
is_of_one (o.Count i g c) = true
is_of_one (o.Range i a b c) = true
is_of_one _ = false

abbrev pub is_of_two : Op → Bool
is_of_two (o.Join i j a b) = true
is_of_two (o.Union i j) = true
is_of_two (o.Difference i j a b) = true
is_of_two _ = false
