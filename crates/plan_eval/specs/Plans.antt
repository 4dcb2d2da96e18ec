-- Which plans are evaluated over a pool (own rule).
use Rattle.std.specs.Prelude.{ℕ, Bool, true, not, ◌&&◌, List, [], length, Option, Some, None, ◌≡◌}
use Rattle.std.specs.List.{list_all}
use Rattle.xq_base.specs.Texts.{Text}
use Rattle.doc_table.specs.Axes.{test_of}
use Rattle.doc_table.specs.Given.{trees_given}
use Rattle.doc_table.specs.Stores.{Holdings, AreGiven}
use Rattle.doc_table.specs.TestTexts.{test_given}
use Rattle.plan_dag.specs.declared.op.Op.{Op}
use Rattle.plan_dag.specs.declared.op.Op.TheVariants as o
use Rattle.plan_dag.specs.declared.op.OpId.{OpId}
use Rattle.plan_dag.specs.Graphs.{HasRootColumns}
use Rattle.plan_dag.specs.Meaning.{Graph}
use Rattle.plan_dag.specs.Schema.{is_constructor}
use Rattle.table_ops.specs.Results.{constant_given}

-- a pool of so many texts gave the name in a step's test
abbrev pub step_given : ℕ → Op → Bool
step_given n (o.Step i axis wanted site offset iter node) = test_given n (test_of wanted)
step_given n _ = true

-- a pool of so many texts gave the texts of an operator
abbrev pub op_given : ℕ → Op → Bool
op_given n op = constant_given n op && step_given n op

abbrev pub ops_given : ℕ → List Op → Bool
ops_given n ops = list_all (op_given n) ops

-- no operator makes trees
abbrev pub makes_none : List Op → Bool
makes_none ops = list_all (λ op. not (is_constructor op)) ops

-- the root, where one was set, has the columns that an answer is read from
abbrev pub HasRoot : Graph → Option OpId → Type 0
HasRoot g None = Unit {0}
HasRoot g (Some i) = HasRootColumns g i

-- a plan without constructors, over a pool that gave its texts and those of a store of documents alone
pub record PlanOver (texts : List Text) (h : Holdings) (g : Graph) : Type 0 where
  pub given : ops_given (length texts) g.ops ≡ true
  pub makes : makes_none g.ops ≡ true
  pub trees : trees_given (length texts) h ≡ true
  pub names : AreGiven texts h.docs
  pub built : h.built ≡ []
