-- The declared functions that an expression calls, as the code finds them: each part's behind those that were found before.
use Rattle.std.specs.Prelude.{ℕ, ℤ, List, [], ◌∷◌, ◌++◌, Option, Some, None}
use Rattle.xq_base.specs.declared.fun.AtomKind.{AtomKind}
use Rattle.xq_base.specs.declared.item.TextId.{TextId}
use Rattle.xq_ast.specs.declared.leaf.Callee.{Callee}
use Rattle.xq_ast.specs.declared.leaf.SeqType.{SeqType}
use Rattle.xq_ast.specs.declared.leaf.TextRun.{TextRun as CodeRun}
use Rattle.xq_ast.specs.declared.node.AsResolved.{AsResolved}
use Rattle.xq_ast.specs.declared.node.Attribute.{Attribute}
use Rattle.xq_ast.specs.declared.node.Behind.{Behind}
use Rattle.xq_ast.specs.declared.node.BuildName.{BuildName as CodeName}
use Rattle.xq_ast.specs.declared.node.BuildName.TheVariants as name_
use Rattle.xq_ast.specs.declared.node.Clause.{Clause}
use Rattle.xq_ast.specs.declared.node.Clause.TheVariants as clause_
use Rattle.xq_ast.specs.declared.node.ForBind.{ForBind}
use Rattle.xq_ast.specs.declared.node.Key.{Key}
use Rattle.xq_ast.specs.declared.node.LetBind.{LetBind}
use Rattle.xq_ast.specs.declared.node.Node.TheOpen.{Node-F}
use Rattle.xq_ast.specs.declared.node.Node.TheOpen as o
use Rattle.xq_ast.specs.declared.node.Node.TheFolds.{fold-Node}
use Rattle.xq_ast.specs.declared.node.Part.{Part}
use Rattle.xq_ast.specs.declared.node.Part.TheVariants as part_
use Rattle.xq_ast.specs.declared.node.QuantBind.{QuantBind}
use Rattle.xq_ast.specs.declared.node.Right.{Right}
use Rattle.xq_ast.specs.declared.node.Step.{Step}
use Rattle.xq_ast.specs.declared.node.StepKind.{StepKind}
use Rattle.xq_ast.specs.declared.node.StepKind.TheVariants as step_
use Rattle.xq_ast.specs.declared.node.ValuePart.{ValuePart}
use Rattle.xq_ast.specs.declared.node.ValuePart.TheVariants as value_
use Rattle.core_scope.specs.Leaves.{ResolvedTree}
use Rattle.core_normal.specs.Calls.{called_by}

-- what is found in the end, by what was found before
abbrev pub Finds : Type 0
Finds = List ℕ → List ℕ

-- the function of a call itself
abbrev pub called : Callee → Finds
called f found = found ++ called_by f

-- parts of each kind, where each expression in them finds its calls
module _ {A : Type 0} (finds : A → Finds) where
  abbrev pub maybe : Option A → Finds
  maybe None found = found
  maybe (Some a) found = finds a found

  abbrev pub every : List A → Finds
  every [] found = found
  every (a ∷ as') found = every as' (finds a found)

  abbrev pub operands : List (Right A) → Finds
  operands [] found = found
  operands (b ∷ bs) found = operands bs (finds b.operand found)

  abbrev pub kind : StepKind TextId A → Finds
  kind (step_.Walk x t) found = found
  kind (step_.Primary m) found = finds m found

  abbrev pub step : Step TextId A → Finds
  step x found = every x.predicates (kind x.kind found)

  abbrev pub steps : List (Behind TextId A) → Finds
  steps [] found = found
  steps (b ∷ bs) found = steps bs (step b.step found)

  abbrev pub for_binds : List (ForBind ℕ SeqType A) → Finds
  for_binds [] found = found
  for_binds (b ∷ bs) found = for_binds bs (finds b.source found)

  abbrev pub let_binds : List (LetBind ℕ SeqType A) → Finds
  let_binds [] found = found
  let_binds (b ∷ bs) found = let_binds bs (finds b.value found)

  abbrev pub quant_binds : List (QuantBind ℕ SeqType A) → Finds
  quant_binds [] found = found
  quant_binds (b ∷ bs) found = quant_binds bs (finds b.source found)

  abbrev pub clause : Clause ℕ SeqType A → Finds
  clause (clause_.For bs) found = for_binds bs found
  clause (clause_.Let bs) found = let_binds bs found

  abbrev pub clauses : List (Clause ℕ SeqType A) → Finds
  clauses [] found = found
  clauses (c ∷ cs) found = clauses cs (clause c found)

  abbrev pub keys : List (Key A) → Finds
  keys [] found = found
  keys (k ∷ ks) found = keys ks (finds k.key found)

  abbrev pub name : CodeName TextId A → Finds
  name name_.Absent found = found
  name (name_.Named n) found = found
  name (name_.Computed x) found = finds x found

  abbrev pub value_part : ValuePart TextId A → Finds
  value_part (value_.Run at w) found = found
  value_part (value_.Brace at x) found = finds x found

  abbrev pub values : List (ValuePart TextId A) → Finds
  values [] found = found
  values (v ∷ vs) found = values vs (value_part v found)

  abbrev pub attributes : List (Attribute TextId TextId A) → Finds
  attributes [] found = found
  attributes (a ∷ as') found = attributes as' (values a.value found)

  abbrev pub part : Part CodeRun A → Finds
  part (part_.Run at r) found = found
  part (part_.Brace at x) found = finds x found
  part (part_.Inner x) found = finds x found

  abbrev pub parts : List (Part CodeRun A) → Finds
  parts [] found = found
  parts (p ∷ ps) found = parts ps (part p found)

-- an expression over those in it
abbrev pub layer : Node-F AsResolved TextId ℕ Callee SeqType AtomKind ℤ CodeRun TextId Finds → Finds
layer (o.Comma at a es) found = every (λ x. x) es (a found)
layer (o.Flwor at cs w ks e) found = e (keys (λ x. x) ks (maybe (λ x. x) w (clauses (λ x. x) cs found)))
layer (o.Quantified at q bs e) found = e (quant_binds (λ x. x) bs found)
layer (o.If at a b d) found = d (b (a found))
layer (o.Chain at a bs) found = operands (λ x. x) bs (a found)
layer (o.Signed at gs a) found = a found
layer (o.Instance at a ty) found = a found
layer (o.Treat at a ty) found = a found
layer (o.Castable at a k m) found = a found
layer (o.Cast at a k m) found = a found
layer (o.Root at) found = found
layer (o.Path from' x bs) found = steps (λ y. y) bs (step (λ y. y) x found)
layer (o.Integer at z) found = found
layer (o.Text at t) found = found
layer (o.Var at v) found = found
layer (o.Paren at e) found = maybe (λ x. x) e found
layer (o.Dot at) found = found
layer (o.Call at f es) found = every (λ x. x) es (called f found)
layer (o.Build at k n e) found = maybe (λ x. x) e (name (λ x. x) n found)
layer (o.Element at n as' ps) found = parts (λ x. x) ps (attributes (λ x. x) as' found)
layer (o.Comment at t) found = found
layer (o.Instruction at n t) found = found

-- what was found, and then the functions that an expression calls
abbrev pub with_calls : ResolvedTree → Finds
with_calls = fold-Node AsResolved TextId ℕ Callee SeqType AtomKind ℤ CodeRun TextId Finds layer
