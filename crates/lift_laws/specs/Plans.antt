-- What it means that a plan lifts a query's expression, and what such a plan computes over some documents (own rule).
use Rattle.std.specs.Prelude.{◌≡◌, ℕ, true, cond, List, [], ◌∷◌, length, map, nat_eq, Some}
use Rattle.std.specs.List.{flat_map}
use Rattle.xq_base.specs.Texts.{Text}
use Rattle.doc_table.specs.Identity.{TreeId, DocTree, BuiltTree}
use Rattle.doc_table.specs.Items.{Item, IntItem, TextItem, UntypedItem, BoolItem, NodeItem}
use Rattle.doc_table.specs.Values.{Items}
use Rattle.doc_table.specs.NodeRules.{Docs}
use Rattle.plan_dag.specs.declared.op.OpId.{OpId}
use Rattle.plan_dag.specs.declared.op.Op.TheVariants as o
use Rattle.plan_dag.specs.declared.check.Check.{Check}
use Rattle.plan_dag.specs.ItemRules.{Cell, item_rules}
use Rattle.plan_dag.specs.Meaning.{Graph, PlanAnswer, Answers, Refuses, plan_answer, cell}
use Rattle.plan_dag.specs.Graphs.{Adds, empty_graph}
use Rattle.core_meaning.specs.Expr.{Walk, Expr, Call}
use Rattle.core_meaning.specs.Meaning.{Env, no_variables, val, vals}
use Rattle.core_meaning.specs.Reached.{Part, OfExpr, OfTuple, where_some, reached}
use Rattle.core_meaning.specs.Failures.{Failure, fails, first}
use Rattle.core_meaning.specs.Work.{work}
use Rattle.core_meaning.specs.Lawful.{is_dynamic}
use Rattle.lift_laws.specs.Sums.{AllOf, Same}
use Rattle.lift_laws.specs.Iterations.{Iter, joined}
use Rattle.lift_laws.specs.Bulk.{walks}
use Rattle.lift_laws.specs.States.{State, StepAt, state_of, at, column, three}
use Rattle.lift_laws.specs.Shapes.{bare}
use Rattle.lift_laws.specs.Lifting.{Lifts}
use Rattle.lift_laws.specs.Verdicts.{SmallFrom}

-- the one iteration outside all loops
abbrev pub outermost : Iter
outermost = record { number = 1; env = no_variables; vector = [] }

-- the number that stands for a vector at a site
abbrev pub Naming : Type 0
Naming = ℕ → List ℕ → ℕ

-- the identity of a tree in a table
abbrev pub named_id : Naming → TreeId → TreeId
named_id m (DocTree d) = DocTree d
named_id m (BuiltTree s v) = BuiltTree s (m s v ∷ [])

-- the cell that stands for an item: the same, but that a built node has the number for the vector
abbrev pub named : Naming → Item Text → Cell
named m (IntItem z) = IntItem z
named m (TextItem t) = TextItem t
named m (UntypedItem t) = UntypedItem t
named m (BoolItem b) = BoolItem b
named m (NodeItem n) = NodeItem (record { id = named_id m n.id; tree = n.tree; path = n.path })

-- a plan that begins with the one iteration outside all loops lifts the expression over all documents, with these texts, and its
-- root is the expression's table
pub record LiftsCore (texts : List Text) (e : Expr) (g : Graph) : Type 0 where
  pub start : Graph
  pub looped : OpId
  pub vars : ℕ → OpId
  pub root : OpId
  pub begins : Adds empty_graph (o.Unit (column 0)) looped start
  pub rooted : g.root ≡ Some root
  pub lifted : (docs : Docs) → Lifts docs (state_of docs texts start) (state_of docs texts g) 0 e looped vars root

module _ (docs : Docs) where
  -- what a plan has to answer: the cells of the value, or the first failure with the offset of its node
  pub data Expected (e : Expr) (naming : Naming) : PlanAnswer Cell → Type 0 where
    the_value : (vs : Items) → val docs e no_variables [] ≡ Some vs → fails docs e no_variables [] ≡ [] → Expected e naming (Answers (map (named naming) vs))
    the_failure : (f : Failure) → first (fails docs e no_variables []) ≡ Some f → Expected e naming (Refuses f.code f.site.offset)

  -- the items of a step's input, where this is an evaluation of the step of this site
  abbrev pub input_items : ℕ → Expr → Env → List ℕ → Items
  input_items n (Call site (Walk from axis test) es) env vec = cond (nat_eq site.number n) (where_some (vals docs es env vec) joined) []
  input_items n _ env vec = []

  abbrev pub part_items : ℕ → Part → Env → List ℕ → Items
  part_items n (OfExpr e) env vec = input_items n e env vec
  part_items n (OfTuple sp) env vec = []

  -- over all reached evaluations
  abbrev pub inputs : ℕ → Expr → Items
  inputs n e = flat_map (λ v. part_items n v.part v.env v.vector) (reached docs e no_variables [])

  -- the operator that a step reads has exactly the step's input over all reached evaluations
  pub record ReadsInput (naming : Naming) (e : Expr) (s : State) (q : StepAt) : Type 0 where
    pub cols_are : (at s q.input).cols ≡ three
    pub items_are : Same (map (cell bare three (column 2)) (at s q.input).rows) (map (named naming) (inputs q.step.site.number e))

  -- the plan's answer, within the work: no operator up to the check that answers has a greater demand, and none at all where none
  -- answers; its steps are the expression's, one each in their order; where nothing fails each reads its input; and each check
  -- has the code of a dynamic error
  pub record Computes (texts : List Text) (e : Expr) (g : Graph) : Type 0 where
    pub naming : Naming
    pub answer : Expected e naming (plan_answer (item_rules docs texts) g)
    pub demand : SmallFrom (work docs e no_variables []) (state_of docs texts g) (length g.ops) g.checks
    pub steps : map (λ (q : StepAt). q.step) (state_of docs texts g).steps ≡ walks e
    pub contexts : fails docs e no_variables [] ≡ [] → AllOf (ReadsInput naming e (state_of docs texts g)) (state_of docs texts g).steps
    pub coded : AllOf (λ (c : Check). is_dynamic c.code ≡ true) g.checks
