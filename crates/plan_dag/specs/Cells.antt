-- What tables need of their cells: equality, an order, and rules (own rule: cells are items). Every
-- definition on tables is made from these, so that it is one and the same over items with texts and
-- trees, and over the cells that the code keeps.
use Rattle.std.specs.Prelude.{ℕ, ℤ, Bool, true, false, List, [], ◌∷◌, Option, Some, None}
use Rattle.xq_base.specs.declared.item.Atom.{Atom}
use Rattle.xq_base.specs.declared.code.Code.{Code}
use Rattle.xq_base.specs.declared.fun.Fun.{Fun}
use Rattle.xq_base.specs.declared.fun.CompOp.{CompOp}
use Rattle.xq_base.specs.declared.axis.Axis.{Axis}
use Rattle.xq_base.specs.declared.axis.NodeTest.{NodeTest}
use Rattle.doc_table.specs.Tree.{NodeKind}
use Rattle.plan_dag.specs.declared.op.Agg.{Agg}
use Rattle.plan_dag.specs.declared.op.Place.{Place}

-- what a rule gives: a value, a code, or neither where it doesn't speak of such cells
pub data Outcome (X : Type 0) : Type 0 where
  Gives : X → Outcome X
  Fails : Code → Outcome X
  Silent : Outcome X

pub record Rules (C : Type 0) : Type 0 where
  pub same : C → C → Bool
  pub less : C → C → Bool
  pub int : ℤ → C
  pub int_in : C → Option ℤ
  pub is_true : C → Bool
  pub constant : Atom → C
  -- a function on single cells
  pub value : Fun → List C → Outcome C
  -- an aggregate over the cells of a group
  pub whole : Agg → List C → Outcome C
  -- one pair of a general comparison
  pub pair : CompOp → C → C → Outcome Bool
  -- what a step finds from a cell, in document order
  pub found : Axis → NodeTest → C → List C
  -- the first code of content
  pub refused : Place → List C → Option Code
  -- the node of this kind that a constructor makes at a site in an iteration, of a name, where it has
  -- one, and of content
  pub made : NodeKind → ℕ → ℕ → List C → List C → Option C
  -- the rows and attributes of a made node's tree
  pub extent : C → ℕ

module _ {X : Type 0} where
  abbrev pub given : Outcome X → List X
  given (Gives x) = x ∷ []
  given (Fails c) = []
  given Silent = []

  abbrev pub code_in : Outcome X → Option Code
  code_in (Gives x) = None
  code_in (Fails c) = Some c
  code_in Silent = None
