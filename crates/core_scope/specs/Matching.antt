-- The pieces of the code's resolved tree over the texts of a pool (`node_in` and the like), and what the pieces of a tree that is
-- read are to be (`node_for` and the like). The code makes the one what the other says, over the texts of each later pool.
use Rattle.std.specs.Prelude.{◌≡◌, ℕ, List, [], ◌∷◌, map, Option, Some, None}
use Rattle.xq_base.specs.declared.axis.Axis.{Axis}
use Rattle.xq_base.specs.declared.item.TextId.{TextId}
use Rattle.xq_base.specs.Texts.{Text}
use Rattle.doc_table.specs.Axes.{Test}
use Rattle.doc_table.specs.Tree.{text_in}
use Rattle.core_meaning.specs.Types.{SequenceTest}
use Rattle.xq_ast.specs.declared.leaf.Variable.{Variable as VariableOf}
use Rattle.xq_ast.specs.declared.leaf.SeqType.{SeqType}
use Rattle.xq_ast.specs.declared.leaf.TextRun.{TextRun}
use Rattle.xq_ast.specs.declared.node.Slashes.{Slashes}
use Rattle.xq_ast.specs.declared.node.Right.{Right as RightOf}
use Rattle.xq_ast.specs.declared.node.Step.{Step as StepOf}
use Rattle.xq_ast.specs.declared.node.StepKind.{StepKind as StepKindOf}
use Rattle.xq_ast.specs.declared.node.StepKind.TheVariants as step_
use Rattle.xq_ast.specs.declared.node.Behind.{Behind as BehindOf}
use Rattle.xq_ast.specs.declared.node.Clause.{Clause as ClauseOf}
use Rattle.xq_ast.specs.declared.node.Clause.TheVariants as clause_
use Rattle.xq_ast.specs.declared.node.ForBind.{ForBind as ForOf}
use Rattle.xq_ast.specs.declared.node.LetBind.{LetBind as LetOf}
use Rattle.xq_ast.specs.declared.node.QuantBind.{QuantBind as QuantOf}
use Rattle.xq_ast.specs.declared.node.Key.{Key as KeyOf}
use Rattle.xq_ast.specs.declared.node.BuildName.{BuildName as BuildNameOf}
use Rattle.xq_ast.specs.declared.node.BuildName.TheVariants as name_
use Rattle.xq_ast.specs.declared.node.Attribute.{Attribute as AttributeOf}
use Rattle.xq_ast.specs.declared.node.Part.{Part as PartOf}
use Rattle.xq_ast.specs.declared.node.Part.TheVariants as part_
use Rattle.xq_ast.specs.declared.node.ValuePart.{ValuePart as ValueOf}
use Rattle.xq_ast.specs.declared.node.ValuePart.TheVariants as value_
use Rattle.xq_ast.specs.Trees.{Variable, Tree, Right, Step, StepKind, Behind, Clause, ForBind, LetBind, QuantBind, Key, BuildName as ReadName, Attribute, Part, ValuePart}
use Rattle.core_scope.specs.Syn.{Syn, BuildName, Values, Parts, resolved}
use Rattle.core_scope.specs.Syn as s
use Rattle.core_scope.specs.Erasure.{test_of}
use Rattle.core_scope.specs.Leaves.{ResolvedTree, syn_read, syn_resolved, sequence_of, run_of}
use Rattle.core_scope.specs.Literals.{content_text, is_white_piece, value_text}
use Rattle.core_scope.specs.Names.{Signature}
use Rattle.core_scope.specs.Resolving.{resolve, resolved_types, with_piece, with_value}
use Rattle.core_scope.specs.Open.{Open, entered_variable}
use Rattle.core_scope.specs.Telling.{entered_for, entered_clause}
use Rattle.core_scope.specs.Standing.{Lasting}

-- the first step of a path, or a later one: what is walked, or a primary
pub data StepHead : Type 0 where
  walks : Axis → Test Text → StepHead
  is_primary : Syn resolved → StepHead

-- its place, what it is, its predicates
pub record PlainStep : Type 0 where
  pub offset : ℕ
  pub head : StepHead
  pub predicates : List (Syn resolved)

pub record PlainBehind : Type 0 where
  pub slashes : Slashes
  pub step : PlainStep

abbrev pub SynRight : Type 0
SynRight = RightOf (Syn resolved)

abbrev pub SynFor : Type 0
SynFor = ForOf ℕ SequenceTest (Syn resolved)

abbrev pub SynLet : Type 0
SynLet = LetOf ℕ SequenceTest (Syn resolved)

abbrev pub SynQuant : Type 0
SynQuant = QuantOf ℕ SequenceTest (Syn resolved)

abbrev pub SynClause : Type 0
SynClause = ClauseOf ℕ SequenceTest (Syn resolved)

abbrev pub SynKey : Type 0
SynKey = KeyOf (Syn resolved)

-- an attribute: the place of its name, its name, its value
pub record PlainAttribute : Type 0 where
  pub offset : ℕ
  pub name : Text
  pub value : Values resolved

-- over these texts
module _ (texts : List Text) where
  unfoldable pub node_in : ResolvedTree → Syn resolved
  node_in r = syn_resolved texts r

  abbrev pub maybe_in : Option ResolvedTree → Option (Syn resolved)
  maybe_in None = None
  maybe_in (Some r) = Some (node_in r)

  abbrev pub right_in : RightOf ResolvedTree → SynRight
  right_in b = record { operator = b.operator; operand = node_in b.operand }

  abbrev pub head_in : StepKindOf TextId ResolvedTree → StepHead
  head_in (step_.Walk a t) = walks a (test_of (text_in texts) t)
  head_in (step_.Primary r) = is_primary (node_in r)

  abbrev pub step_in : StepOf TextId ResolvedTree → PlainStep
  step_in x = record { offset = x.offset; head = head_in x.kind; predicates = map node_in x.predicates }

  abbrev pub behind_in : BehindOf TextId ResolvedTree → PlainBehind
  behind_in b = record { slashes = b.slashes; step = step_in b.step }

  abbrev pub types_in : Option SeqType → Option SequenceTest
  types_in None = None
  types_in (Some t) = Some (sequence_of texts t)

  abbrev pub for_in : ForOf ℕ SeqType ResolvedTree → SynFor
  for_in b = record { var = b.var; ty = types_in b.ty; at = b.at; source = node_in b.source }

  abbrev pub let_in : LetOf ℕ SeqType ResolvedTree → SynLet
  let_in b = record { var = b.var; ty = types_in b.ty; value = node_in b.value }

  abbrev pub quant_in : QuantOf ℕ SeqType ResolvedTree → SynQuant
  quant_in b = record { var = b.var; ty = types_in b.ty; source = node_in b.source }

  abbrev pub clause_in : ClauseOf ℕ SeqType ResolvedTree → SynClause
  clause_in (clause_.For bs) = clause_.For (map for_in bs)
  clause_in (clause_.Let bs) = clause_.Let (map let_in bs)

  abbrev pub key_in : KeyOf ResolvedTree → SynKey
  key_in k = record { key = node_in k.key; descending = k.descending; empty_greatest = k.empty_greatest }

  -- the name of a constructor
  abbrev pub name_in : BuildNameOf TextId ResolvedTree → BuildName resolved
  name_in name_.Absent = s.no_name
  name_in (name_.Named n) = s.named (text_in texts n.text)
  name_in (name_.Computed r) = s.computed (node_in r)

  -- a value, and content, before what follows
  abbrev pub values_before : List (ValueOf TextId ResolvedTree) → Values resolved → Values resolved
  values_before [] rest = rest
  values_before (value_.Run at x ∷ vs) rest = s.value_run (text_in texts x) (values_before vs rest)
  values_before (value_.Brace at r ∷ vs) rest = s.value_brace (node_in r) (values_before vs rest)

  abbrev pub values_in : List (ValueOf TextId ResolvedTree) → Values resolved
  values_in vs = values_before vs s.no_values

  abbrev pub attribute_in : AttributeOf TextId TextId ResolvedTree → PlainAttribute
  attribute_in a = record { offset = a.name.offset; name = text_in texts a.name.text; value = values_in a.value }

  abbrev pub parts_before : List (PartOf TextRun ResolvedTree) → Parts resolved → Parts resolved
  parts_before [] rest = rest
  parts_before (part_.Run at x ∷ ps) rest = s.run (run_of texts x) (parts_before ps rest)
  parts_before (part_.Brace at r ∷ ps) rest = s.brace (node_in r) (parts_before ps rest)
  parts_before (part_.Inner r ∷ ps) rest = s.inner (node_in r) (parts_before ps rest)

  abbrev pub parts_in : List (PartOf TextRun ResolvedTree) → Parts resolved
  parts_in ps = parts_before ps s.no_parts

-- a variable is the place of its "$"
abbrev pub variable_for : Variable → VariableOf ℕ
variable_for v = record { offset = v.offset; name = v.offset }

abbrev pub position_for : Option Variable → Option (VariableOf ℕ)
position_for None = None
position_for (Some v) = Some (variable_for v)

-- the declared functions
module _ (fs : List Signature) where
  unfoldable pub node_for : Open → Tree → Syn resolved
  node_for w t = resolve fs (syn_read t) w.scope

  abbrev pub maybe_for : Open → Option Tree → Option (Syn resolved)
  maybe_for w None = None
  maybe_for w (Some t) = Some (node_for w t)

  abbrev pub right_for : Open → Right → SynRight
  right_for w b = record { operator = b.operator; operand = node_for w b.operand }

  abbrev pub head_for : Open → StepKind → StepHead
  head_for w (step_.Walk a t) = walks a (test_of (λ x. x) t)
  head_for w (step_.Primary e) = is_primary (node_for w e)

  abbrev pub step_for : Open → Step → PlainStep
  step_for w x = record { offset = x.offset; head = head_for w x.kind; predicates = map (node_for w) x.predicates }

  abbrev pub behind_for : Open → Behind → PlainBehind
  behind_for w b = record { slashes = b.slashes; step = step_for w b.step }

  -- binds, each behind those before it
  abbrev pub for_for : Open → ForBind → SynFor
  for_for w b = record { var = variable_for b.var; ty = resolved_types b.ty; at = position_for b.at; source = node_for w b.source }

  abbrev pub fors_for : Open → List ForBind → List SynFor
  fors_for w [] = []
  fors_for w (b ∷ bs) = for_for w b ∷ fors_for (entered_for b w) bs

  abbrev pub let_for : Open → LetBind → SynLet
  let_for w b = record { var = variable_for b.var; ty = resolved_types b.ty; value = node_for w b.value }

  abbrev pub lets_for : Open → List LetBind → List SynLet
  lets_for w [] = []
  lets_for w (b ∷ bs) = let_for w b ∷ lets_for (entered_variable b.var w) bs

  abbrev pub quant_for : Open → QuantBind → SynQuant
  quant_for w b = record { var = variable_for b.var; ty = resolved_types b.ty; source = node_for w b.source }

  abbrev pub quants_for : Open → List QuantBind → List SynQuant
  quants_for w [] = []
  quants_for w (b ∷ bs) = quant_for w b ∷ quants_for (entered_variable b.var w) bs

  abbrev pub clause_for : Open → Clause → SynClause
  clause_for w (clause_.For bs) = clause_.For (fors_for w bs)
  clause_for w (clause_.Let bs) = clause_.Let (lets_for w bs)

  abbrev pub clauses_for : Open → List Clause → List SynClause
  clauses_for w [] = []
  clauses_for w (c ∷ cs) = clause_for w c ∷ clauses_for (entered_clause c w) cs

  abbrev pub key_for : Open → Key → SynKey
  key_for w k = record { key = node_for w k.key; descending = k.descending; empty_greatest = k.empty_greatest }

  abbrev pub name_for : Open → ReadName → BuildName resolved
  name_for w name_.Absent = s.no_name
  name_for w (name_.Named n) = s.named n.text
  name_for w (name_.Computed e) = s.computed (node_for w e)

  -- a value, and content: neighbouring pieces are one text
  abbrev pub value_for : Open → ValuePart → Values resolved → Values resolved
  value_for w (value_.Run at x) rest = with_value (value_text x) rest
  value_for w (value_.Brace at e) rest = s.value_brace (node_for w e) rest

  abbrev pub values_for : Open → List ValuePart → Values resolved
  values_for w [] = s.no_values
  values_for w (v ∷ vs) = value_for w v (values_for w vs)

  abbrev pub attribute_for : Open → Attribute → PlainAttribute
  attribute_for w a = record { offset = a.name.offset; name = a.name.text; value = values_for w a.value }

  abbrev pub part_for : Open → Part → Parts resolved → Parts resolved
  part_for w (part_.Run at x) rest = with_piece (content_text x) (is_white_piece x) rest
  part_for w (part_.Brace at e) rest = s.brace (node_for w e) rest
  part_for w (part_.Inner e) rest = s.inner (node_for w e) rest

  abbrev pub parts_for : Open → List Part → Parts resolved
  parts_for w [] = s.no_parts
  parts_for w (p ∷ ps) = part_for w p (parts_for w ps)

-- a node is what it is to be, over each later pool
abbrev pub NodeStands : List Signature → Open → Tree → List Text → ResolvedTree → Type 0
NodeStands fs w t texts r = Lasting texts (λ later. node_in later r ≡ node_for fs w t)
