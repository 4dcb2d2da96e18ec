-- What the parts of the code's resolved tree stand for, over the texts of a pool.
use Rattle.std.specs.Prelude.{ℕ, List, [], ◌∷◌, Option, Some, None}
use Rattle.xq_base.specs.declared.item.TextId.{TextId}
use Rattle.xq_base.specs.Texts.{Text}
use Rattle.doc_table.specs.Tree.{text_in}
use Rattle.core_meaning.specs.Types.{SequenceTest}
use Rattle.xq_ast.specs.declared.leaf.SeqType.{SeqType}
use Rattle.xq_ast.specs.declared.leaf.TextRun.{TextRun as CodeRun}
use Rattle.xq_ast.specs.declared.leaf.Variable.{Variable}
use Rattle.xq_ast.specs.declared.node.Attribute.{Attribute}
use Rattle.xq_ast.specs.declared.node.Behind.{Behind}
use Rattle.xq_ast.specs.declared.node.BuildName.{BuildName as CodeName}
use Rattle.xq_ast.specs.declared.node.BuildName.TheVariants as name_
use Rattle.xq_ast.specs.declared.node.Clause.{Clause}
use Rattle.xq_ast.specs.declared.node.Clause.TheVariants as clause_
use Rattle.xq_ast.specs.declared.node.ForBind.{ForBind}
use Rattle.xq_ast.specs.declared.node.Key.{Key}
use Rattle.xq_ast.specs.declared.node.LetBind.{LetBind}
use Rattle.xq_ast.specs.declared.node.Part.{Part}
use Rattle.xq_ast.specs.declared.node.Part.TheVariants as part_
use Rattle.xq_ast.specs.declared.node.QuantBind.{QuantBind}
use Rattle.xq_ast.specs.declared.node.Right.{Right}
use Rattle.xq_ast.specs.declared.node.Step.{Step}
use Rattle.xq_ast.specs.declared.node.StepKind.{StepKind}
use Rattle.xq_ast.specs.declared.node.StepKind.TheVariants as step_
use Rattle.xq_ast.specs.declared.node.ValuePart.{ValuePart}
use Rattle.xq_ast.specs.declared.node.ValuePart.TheVariants as value_
use Rattle.core_scope.specs.Syn.{Syn, Maybe, Syns, Binds, Keys, BuildName, Attributes, Values, Parts, resolved}
use Rattle.core_scope.specs.Syn as s
use Rattle.core_scope.specs.Erasure.{primary_from, with_predicates, behind_of, test_of}
use Rattle.core_scope.specs.Erasure as e
use Rattle.core_scope.specs.Leaves.{ResolvedTree, resolved_leaves, run_of, syn_resolved}

module _ (t : List Text) where
  abbrev pub syns : List ResolvedTree → Syns resolved
  syns [] = s.no_more
  syns (x ∷ xs) = s.one_more (syn_resolved t x) (syns xs)

  abbrev pub maybe : Option ResolvedTree → Maybe resolved
  maybe None = s.absent
  maybe (Some x) = s.present (syn_resolved t x)

  abbrev pub type_of : Option SeqType → Option SequenceTest
  type_of = e.type_of (resolved_leaves t)

  abbrev pub position : Option (Variable ℕ) → Option (ℕ × ℕ)
  position = e.position_of (resolved_leaves t)

  -- operators of one level, behind what stands before them
  abbrev pub rights : ℕ → Syn resolved → List (Right ResolvedTree) → Syn resolved
  rights o a [] = a
  rights o a (b ∷ bs) = rights o (s.binary o b.operator a (syn_resolved t b.operand)) bs

  abbrev pub step_kind : ℕ → StepKind TextId ResolvedTree → Syns resolved → Maybe resolved → Syn resolved
  step_kind o (step_.Walk a test) qs from' = s.step o a (test_of (text_in t) test) from' qs
  step_kind o (step_.Primary x) qs from' = primary_from o from' (with_predicates o (syn_resolved t x) qs)

  abbrev pub step : Maybe resolved → Step TextId ResolvedTree → Syn resolved
  step from' x = step_kind x.offset x.kind (syns x.predicates) from'

  abbrev pub behinds : Syn resolved → List (Behind TextId ResolvedTree) → Syn resolved
  behinds a [] = a
  behinds a (b ∷ bs) = behinds (step (s.present (behind_of b.slashes a)) b.step) bs

  abbrev pub for_binds : List (ForBind ℕ SeqType ResolvedTree) → Binds resolved → Binds resolved
  for_binds [] rest = rest
  for_binds (b ∷ bs) rest = s.for_bind b.var.offset b.var.name (type_of b.ty) (position b.at) (syn_resolved t b.source) (for_binds bs rest)

  abbrev pub let_binds : List (LetBind ℕ SeqType ResolvedTree) → Binds resolved → Binds resolved
  let_binds [] rest = rest
  let_binds (b ∷ bs) rest = s.let_bind b.var.offset b.var.name (type_of b.ty) (syn_resolved t b.value) (let_binds bs rest)

  abbrev pub quant_binds : List (QuantBind ℕ SeqType ResolvedTree) → Binds resolved
  quant_binds [] = s.no_binds
  quant_binds (b ∷ bs) = s.for_bind b.var.offset b.var.name (type_of b.ty) None (syn_resolved t b.source) (quant_binds bs)

  abbrev pub clause : Clause ℕ SeqType ResolvedTree → Binds resolved → Binds resolved
  clause (clause_.For bs) rest = for_binds bs rest
  clause (clause_.Let bs) rest = let_binds bs rest

  abbrev pub clauses : List (Clause ℕ SeqType ResolvedTree) → Binds resolved
  clauses [] = s.no_binds
  clauses (c ∷ cs) = clause c (clauses cs)

  abbrev pub keys : List (Key ResolvedTree) → Keys resolved
  keys [] = s.no_keys
  keys (k ∷ ks) = s.one_key (syn_resolved t k.key) k.descending k.empty_greatest (keys ks)

  abbrev pub name : CodeName TextId ResolvedTree → BuildName resolved
  name name_.Absent = s.no_name
  name (name_.Named n) = s.named (text_in t n.text)
  name (name_.Computed x) = s.computed (syn_resolved t x)

  abbrev pub value : ValuePart TextId ResolvedTree → Values resolved → Values resolved
  value (value_.Run at w) vs = s.value_run (text_in t w) vs
  value (value_.Brace at x) vs = s.value_brace (syn_resolved t x) vs

  abbrev pub values : List (ValuePart TextId ResolvedTree) → Values resolved
  values [] = s.no_values
  values (v ∷ vs) = value v (values vs)

  abbrev pub attributes : List (Attribute TextId TextId ResolvedTree) → Attributes resolved
  attributes [] = s.no_attributes
  attributes (a ∷ as') = s.attribute a.name.offset (text_in t a.name.text) (values a.value) (attributes as')

  abbrev pub part : Part CodeRun ResolvedTree → Parts resolved → Parts resolved
  part (part_.Run at r) ps = s.run (run_of t r) ps
  part (part_.Brace at x) ps = s.brace (syn_resolved t x) ps
  part (part_.Inner x) ps = s.inner (syn_resolved t x) ps

  abbrev pub parts : List (Part CodeRun ResolvedTree) → Parts resolved
  parts [] = s.no_parts
  parts (x ∷ xs) = part x (parts xs)
