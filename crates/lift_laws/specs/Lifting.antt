-- What it means that a plan lifts an expression (own rule).
use Rattle.std.specs.Prelude.{◌≡◌, ◌⊎◌, ℕ, ◌+◌, ◌<◌, ◌≤◌, true, ◌&&◌, List, [], ◌∷◌, ◌++◌, length, map, Option, Some, nat_eq}
use Rattle.std.specs.List.{filter, flat_map}
use Rattle.xq_base.specs.declared.code.Code.{Code}
use Rattle.xq_base.specs.Answers.{Answer, Value, Fault as Refused, check_rank}
use Rattle.xq_base.specs.Texts.{Text}
use Rattle.doc_table.specs.Ascending.{In}
use Rattle.doc_table.specs.Tree.{Tree}
use Rattle.doc_table.specs.Paths.{has_node}
use Rattle.doc_table.specs.Identity.{TreeId}
use Rattle.doc_table.specs.Items.{Item, NodeItem}
use Rattle.doc_table.specs.Values.{Items}
use Rattle.doc_table.specs.NodeRules.{Docs}
use Rattle.plan_dag.specs.declared.op.OpId.{OpId}
use Rattle.plan_dag.specs.declared.check.Check.{Check}
use Rattle.plan_dag.specs.ItemRules.{Cell}
use Rattle.plan_dag.specs.Meaning.{Table, cell}
use Rattle.plan_dag.specs.Rows.{code_eq}
use Rattle.core_meaning.specs.Expr.{Site, Rule, Expr, Exprs}
use Rattle.core_meaning.specs.Rules.{rule_answer}
use Rattle.core_meaning.specs.Meaning.{value_in, vals}
use Rattle.core_meaning.specs.Failures.{failure, faults_of}
use Rattle.core_meaning.specs.Work.{is_member, free, free_all, rule_work}
use Rattle.core_meaning.specs.Lawful.{nodes, nodes_all, is_dynamic}
use Rattle.lift_laws.specs.Sums.{total, AllOf, Ascends}
use Rattle.lift_laws.specs.Iterations.{Iter, num, value_rows, loop_rows, cells}
use Rattle.lift_laws.specs.Bulk.{list_of, value, values_of, Fault, fault, faults, faults_all, cost, cost_all, Step, walks, walks_all, own_walks, sites, sites_all}
use Rattle.lift_laws.specs.Worlds.{World, cell_of, Known, Faithful, Among, Numbers, NumbersAll}
use Rattle.lift_laws.specs.States.{State, StepAt, at, IsIn, Small, Grows, Holds, HoldAll, StandsFor, three, single, column}
use Rattle.lift_laws.specs.Shapes.{bare}

-- the checks of one node, by its site
pub record Group : Type 0 where
  pub site : Site
  pub checks : List Check

abbrev pub checks_of : List Group → List Check
checks_of gs = flat_map (λ g. g.checks) gs

-- the numbers of the iterations that fail at a node with a code
abbrev pub numbers_at : ℕ → Code → List Fault → List Cell
numbers_at n c fs = map (λ f. num f.number) (filter (λ f. nat_eq n f.failure.site.number && code_eq c f.failure.code) fs)

abbrev pub first_cells : Table Cell → List Cell
first_cells t = map (cell bare t.cols (column 0)) t.rows

-- one of the checks has this code
abbrev pub HasCode : Code → List Check → Type 0
HasCode c [] = ⊥
HasCode c (k ∷ ks) = (c ≡ k.code) ⊎ HasCode c ks

-- a check's table names exactly the iterations that fail with its code, and no operator from lo up to the check's has more than
-- the demand
abbrev pub TellsOf : ℕ → State → ℕ → Site → List Fault → Check → Type 0
TellsOf N s lo site fs c = ((v : Cell → ℕ) → total v (first_cells (at s c.op)) ≡ total v (numbers_at site.number c.code fs)) × Small s lo (c.op.0 + 1) N

-- where no check of a smaller node has a row, each check tells its failures, and each failure of the node has its check; where
-- none has a row nothing fails, and no operator from lo to below hi has more than the demand
abbrev pub Tells : ℕ → State → ℕ → ℕ → List Group → List Fault → Type 0
Tells N s lo hi [] fs = (fs ≡ []) × Small s lo hi N
Tells N s lo hi (g ∷ gs) fs =
    AllOf (λ f. (g.site.number ≤ f.failure.site.number) × (f.failure.site.number ≡ g.site.number → HasCode f.failure.code g.checks)) fs
    × AllOf (TellsOf N s lo g.site fs) g.checks
    × (AllOf (λ c. (at s c.op).rows ≡ []) g.checks → Tells N s lo hi gs fs)

abbrev pub IsFree : ℕ → Expr → Type 0
IsFree y e = is_member y (free e) ≡ true

abbrev pub IsFreeAll : ℕ → Exprs → Type 0
IsFreeAll y es = is_member y (free_all es) ≡ true

-- a step's site, its parts, and the operators of these
pub record Note : Type 0 where
  pub site : Site
  pub parts : Exprs
  pub ops : List OpId

-- a step's operator has a note, whose one operator is its input
abbrev pub NotedBy : StepAt → List Note → Type 0
NotedBy q [] = ⊥
NotedBy q (m ∷ ms) = ((m.site ≡ q.step.site) × (m.ops ≡ q.input ∷ [])) ⊎ NotedBy q ms

-- exactly these steps' operators are added, one each, and each has its note
pub record Walked (s s' : State) (notes : List Note) (steps : List Step) : Type 0 where
  pub added : List StepAt
  pub steps_are : s'.steps ≡ s.steps ++ added
  pub walks_are : map (λ (q : StepAt). q.step) added ≡ steps
  pub noted : AllOf (λ q. NotedBy q notes) added

-- the checks of a node stand in the order of their codes
abbrev pub InCodeOrder : List Check → Type 0
InCodeOrder [] = Unit {0}
InCodeOrder (c ∷ cs) = AllOf (λ d. check_rank c.code < check_rank d.code) cs × InCodeOrder cs

-- a check of an operator that is there, at the site's offset, with the code of a dynamic error
abbrev pub PlacedCheck : State → Site → Check → Type 0
PlacedCheck s site c = IsIn s c.op × (c.offset ≡ site.offset) × (is_dynamic c.code ≡ true)

-- the group's site is from lo to below hi
abbrev pub PlacedIn : State → ℕ → ℕ → Group → Type 0
PlacedIn s lo hi g = (lo ≤ g.site.number) × (g.site.number < hi) × AllOf (PlacedCheck s g.site) g.checks

-- the checks of the nodes from lo to below hi are added
pub record Chunk (s s' : State) (lo hi : ℕ) : Type 0 where
  pub groups : List Group
  pub notes : List Note
  pub grows : Grows s s' (checks_of groups)
  pub placed : AllOf (PlacedIn s' lo hi) groups
  pub coded : AllOf (λ g. InCodeOrder g.checks) groups

-- the group is of one of these nodes
abbrev pub SitedIn : List Site → Group → Type 0
SitedIn ss g = In g.site ss

-- a call adds the one operator of a step, and no other
pub record OwnSteps (s s' : State) (site : Site) (r : Rule) (args : List OpId) : Type 0 where
  pub added : List StepAt
  pub steps_are : s'.steps ≡ s.steps ++ added
  pub walks_are : map (λ (q : StepAt). q.step) added ≡ own_walks site r
  pub inputs : AllOf (λ q. args ≡ q.input ∷ []) added

-- a cell's node has the tree that stands under its identity, and stands in it
abbrev pub Rooted : (TreeId → Option (Tree Text)) → Cell → Type 0
Rooted tree (NodeItem n) = (tree n.id ≡ Some n.tree) × (has_node n.tree n.path ≡ true)
Rooted tree _ = Unit {0}

abbrev pub answer_cells : (Item Text → Cell) → Answer Items → Answer Items
answer_cells c (Value v) = Value (map c v)
answer_cells c (Refused d) = Refused d

module _ (docs : Docs) where
  abbrev pub part_cells : World → Exprs → List (Iter → List Cell)
  part_cells W es = map (cells (cell_of W)) (values_of docs es)

  -- the nodes of the parts' values are of this world
  abbrev pub PartsKnown : World → Exprs → List Iter → Type 0
  PartsKnown W es its = AllOf (λ i. AllOf (AllOf (Known docs W)) (map (λ g. g i) (values_of docs es))) its

  -- the note's parts are those of its node, and their tables stand for their values in all iterations that reach it: of a step this is its context
  abbrev pub NoteStands : World → State → Note → Type 0
  NoteStands W s m = HoldAll s m.ops (part_cells W m.parts) (W m.site.number).its × PartsKnown W m.parts (W m.site.number).its × ((W m.site.number).parts ≡ m.parts)

  -- an expression is entered in these iterations: the world has their numbers, the demand is at least their work, and the
  -- tables of the loop and of the free variables stand
  pub record Enters (W : World) (N : ℕ) (s : State) (e : Expr) (looped : OpId) (vars : ℕ → OpId) (its : List Iter) : Type 0 where
    pub faithful : Faithful W
    pub numbered : Numbers docs W e its
    pub enough : cost docs e its ≤ N
    pub ascends : Ascends (λ i. i.number) 0 its
    pub loop : Holds s looped single (loop_rows its)
    pub scope : (y : ℕ) → IsFree y e → StandsFor docs W s (vars y) (λ i. i.env y) its

  -- the checks are of the expression's nodes; for all lists of iterations at once they tell the failures and the demands, and where nothing fails the table
  -- stands for the values, and the notes stand
  pub record Lifts (s s' : State) (n : ℕ) (e : Expr) (looped : OpId) (vars : ℕ → OpId) (t : OpId) : Type 0 where
    pub chunk : Chunk s s' n (n + nodes e)
    pub sited : AllOf (SitedIn (sites e)) chunk.groups
    pub walked : Walked s s' chunk.notes (walks e)
    pub told : (W : World) (N : ℕ) (its : List Iter) → Enters W N s e looped vars its
        → Tells N s' (length s.tables) (length s'.tables) chunk.groups (faults docs e its)
        × (faults docs e its ≡ [] → StandsFor docs W s' t (value docs e) its × AllOf (NoteStands W s') chunk.notes)

  -- the same of parts
  pub record EntersAll (W : World) (N : ℕ) (s : State) (es : Exprs) (looped : OpId) (vars : ℕ → OpId) (its : List Iter) : Type 0 where
    pub faithful : Faithful W
    pub numbered : NumbersAll docs W es its
    pub enough : cost_all docs es its ≤ N
    pub ascends : Ascends (λ i. i.number) 0 its
    pub loop : Holds s looped single (loop_rows its)
    pub scope : (y : ℕ) → IsFreeAll y es → StandsFor docs W s (vars y) (λ i. i.env y) its

  pub record LiftsAll (s s' : State) (n : ℕ) (es : Exprs) (looped : OpId) (vars : ℕ → OpId) (ts : List OpId) : Type 0 where
    pub chunk : Chunk s s' n (n + nodes_all es)
    pub sited : AllOf (SitedIn (sites_all es)) chunk.groups
    pub walked : Walked s s' chunk.notes (walks_all es)
    pub told : (W : World) (N : ℕ) (its : List Iter) → EntersAll W N s es looped vars its
        → Tells N s' (length s.tables) (length s'.tables) chunk.groups (faults_all docs es its)
        × (faults_all docs es its ≡ [] → HoldAll s' ts (part_cells W es) its × PartsKnown W es its × AllOf (NoteStands W s') chunk.notes)

  -- a call's rule in one iteration, over cells
  abbrev pub call_answer : Site → Rule → List (Iter → List Cell) → Iter → Answer Items
  call_answer site r gs i = rule_answer docs site (i.number ∷ []) r (map (λ g. g i) gs)

  -- its failures
  abbrev pub call_faults : Site → Rule → List (Iter → List Cell) → List Iter → List Fault
  call_faults site r gs its = flat_map (λ i. map (fault i.number) (faults_of (call_answer site r gs i) (failure site i.vector))) its

  -- what it may demand: over the iterations, one, the items of its arguments and of its value, and the rule's own work
  abbrev pub call_cost : Site → Rule → List (Iter → List Cell) → List Iter → ℕ
  call_cost site r gs its =
      total (λ i. 1 + total (λ g. length (g i)) gs + length (list_of (value_in (call_answer site r gs i))) + rule_work r (Some (map (λ g. g i) gs)) (value_in (call_answer site r gs i))) its

  -- a lifted call, over cells alone: its checks are the failures of its rule, and the table stands for the values
  pub record CallLifts (s s' : State) (site : Site) (r : Rule) (looped : OpId) (args : List OpId) (t : OpId) : Type 0 where
    pub new : List Check
    pub grows : Grows s s' new
    pub placed : AllOf (PlacedCheck s' site) new
    pub coded : InCodeOrder new
    pub steps : OwnSteps s s' site r args
    pub told : (N : ℕ) (its : List Iter) (gs : List (Iter → List Cell)) → Ascends (λ i. i.number) 0 its → Holds s looped single (loop_rows its) → HoldAll s args gs its
        → (tree : TreeId → Option (Tree Text)) → AllOf (λ g. AllOf (λ i. AllOf (Rooted tree) (g i)) its) gs → call_cost site r gs its ≤ N
        → Tells N s' (length s.tables) (length s'.tables) (record { site = site; checks = new } ∷ []) (call_faults site r gs its)
        × (call_faults site r gs its ≡ [] → Holds s' t three (value_rows (λ i. list_of (value_in (call_answer site r gs i))) its))

  -- the rule gives the same over cells, and keeps to the world
  abbrev pub Fair : Site → Rule → Type 0
  Fair site r =
      (W : World) (es : Exprs) (its : List Iter) → Faithful W → W site.number ≡ record { site = site; rule = r; parts = es; its = its } → (i : Iter) → Among i its
      → (vs : List Items) → vals docs es i.env i.vector ≡ Some vs → AllOf (AllOf (Known docs W)) vs
      → (rule_answer docs site (i.number ∷ []) r (map (map (cell_of W)) vs) ≡ answer_cells (cell_of W) (rule_answer docs site i.vector r vs))
      × AllOf (Known docs W) (list_of (value_in (rule_answer docs site i.vector r vs)))
