-- The code's flat tree as the plain one, for either phase: what stands in lists nests to the left (XQuery 1.0, appendix A.4).
use Rattle.std.specs.Prelude.{ℕ, ℤ, Bool, List, [], ◌∷◌, map, Option, Some, None}
use Rattle.xq_base.specs.declared.axis.Axis.TheVariants as axis_
use Rattle.xq_base.specs.Texts.{Text}
use Rattle.doc_table.specs.Axes.{Test, AnyNode, Named, Principal, IsText, IsComment, IsInstruction, IsDocumentNode, IsElement, IsAttribute}
use Rattle.xq_ast.specs.declared.leaf.Name.{Name}
use Rattle.xq_ast.specs.declared.leaf.Variable.{Variable}
use Rattle.xq_ast.specs.declared.leaf.KindTest.{KindTest}
use Rattle.xq_ast.specs.declared.leaf.KindTest.TheVariants as kind_
use Rattle.xq_ast.specs.declared.leaf.Test.{Test as CodeTest}
use Rattle.xq_ast.specs.declared.leaf.Test.TheVariants as test_
use Rattle.xq_ast.specs.declared.node.Node.{Node}
use Rattle.xq_ast.specs.declared.node.Node.TheOpen.{Node-F}
use Rattle.xq_ast.specs.declared.node.Node.TheOpen as o
use Rattle.xq_ast.specs.declared.node.Node.TheFolds.{fold-Node}
use Rattle.xq_ast.specs.declared.node.Right.{Right}
use Rattle.xq_ast.specs.declared.node.Signed.{Signed}
use Rattle.xq_ast.specs.declared.node.Start.{Start}
use Rattle.xq_ast.specs.declared.node.Start.TheVariants as start_
use Rattle.xq_ast.specs.declared.node.Step.{Step}
use Rattle.xq_ast.specs.declared.node.StepKind.{StepKind}
use Rattle.xq_ast.specs.declared.node.StepKind.TheVariants as step_
use Rattle.xq_ast.specs.declared.node.Behind.{Behind}
use Rattle.xq_ast.specs.declared.node.Slashes.{Slashes}
use Rattle.xq_ast.specs.declared.node.Slashes.TheVariants as slashes_
use Rattle.xq_ast.specs.declared.node.Clause.{Clause}
use Rattle.xq_ast.specs.declared.node.Clause.TheVariants as clause_
use Rattle.xq_ast.specs.declared.node.ForBind.{ForBind}
use Rattle.xq_ast.specs.declared.node.LetBind.{LetBind}
use Rattle.xq_ast.specs.declared.node.QuantBind.{QuantBind}
use Rattle.xq_ast.specs.declared.node.Key.{Key}
use Rattle.xq_ast.specs.declared.node.BuildName.{BuildName as CodeName}
use Rattle.xq_ast.specs.declared.node.BuildName.TheVariants as name_
use Rattle.xq_ast.specs.declared.node.Attribute.{Attribute}
use Rattle.xq_ast.specs.declared.node.ValuePart.{ValuePart}
use Rattle.xq_ast.specs.declared.node.ValuePart.TheVariants as value_
use Rattle.xq_ast.specs.declared.node.Part.{Part}
use Rattle.xq_ast.specs.declared.node.Part.TheVariants as part_
use Rattle.xq_ast.specs.declared.query.Query.{Query as CodeQuery}
use Rattle.xq_ast.specs.declared.query.Version.{Version}
use Rattle.xq_ast.specs.declared.query.Declaration.{Declaration as CodeDeclaration}
use Rattle.xq_ast.specs.declared.query.Declaration.TheVariants as declaration_
use Rattle.xq_ast.specs.declared.query.Param.{Param}
use Rattle.core_scope.specs.Syn.{Phase, Syn, Maybe, Syns, Binds, Keys, BuildName, Attributes, Values, Parts, Params, Declaration, Query}
use Rattle.core_scope.specs.Syn as s

-- what the code's leaves stand for: texts, variables, functions, types, kinds, numbers, runs of content and of values
pub record Leaves (X V F T K N R W : Type 0) (p : Phase) : Type 0 where
  pub text : X → Text
  pub var : V → p.Var
  pub fun : F → p.Fun
  pub ty : T → p.Ty
  pub kind : K → p.Kind
  pub number : N → p.Number
  pub run : R → p.Run
  pub value : W → p.ValueRun

-- a test, with its names as texts (XQuery 1.0, section 3.2.1.2)
module _ {X : Type 0} (text : X → Text) where
  abbrev pub named_of : Option (Name X) → Option Text
  named_of None = None
  named_of (Some n) = Some (text n.text)

  abbrev pub kind_test_of : KindTest X → Test Text
  kind_test_of kind_.Node = AnyNode
  kind_test_of kind_.Text = IsText
  kind_test_of kind_.Comment = IsComment
  kind_test_of kind_.Document = IsDocumentNode
  kind_test_of (kind_.Instruction n) = IsInstruction (named_of n)
  kind_test_of (kind_.Element n) = IsElement (named_of n)
  kind_test_of (kind_.Attribute n) = IsAttribute (named_of n)

  abbrev pub test_of : CodeTest X → Test Text
  test_of test_.Star = Principal
  test_of (test_.Named n) = Named (text n.text)
  test_of (test_.Kind k) = kind_test_of k

module _ {p : Phase} where
  abbrev pub syns_of : List (Syn p) → Syns p
  syns_of [] = s.no_more
  syns_of (e ∷ es) = s.one_more e (syns_of es)

  abbrev pub maybe_of : Option (Syn p) → Maybe p
  maybe_of None = s.absent
  maybe_of (Some e) = s.present e

  -- operators of one level nest to the left
  abbrev pub to_left : ℕ → Syn p → List (Right (Syn p)) → Syn p
  to_left o a [] = a
  to_left o a (b ∷ bs) = to_left o (s.binary o b.operator a b.operand) bs

  -- the outer sign comes first
  abbrev pub with_signs : List Signed → Syn p → Syn p
  with_signs [] a = a
  with_signs (x ∷ xs) a = s.signed x.offset x.sign (with_signs xs a)

  abbrev pub with_predicates : ℕ → Syn p → Syns p → Syn p
  with_predicates o e s.no_more = e
  with_predicates o e (s.one_more q qs) = s.filtered o e (s.one_more q qs)

  -- a primary from what stands before it
  abbrev pub primary_from : ℕ → Maybe p → Syn p → Syn p
  primary_from o s.absent e = e
  primary_from o (s.present a) e = s.through o a e

  -- `//` is `/descendant-or-self::node()/` (section 3.2)
  abbrev pub all_below : ℕ → Syn p → Syn p
  all_below o a = s.step o axis_.DescendantOrSelf AnyNode (s.present a) s.no_more

  abbrev pub start_of : Start → Maybe p
  start_of start_.Here = s.absent
  start_of (start_.Root o) = s.present (s.root o)
  start_of (start_.Deep o) = s.present (all_below o (s.root o))

  abbrev pub behind_of : Slashes → Syn p → Syn p
  behind_of slashes_.One a = a
  behind_of (slashes_.Two o) a = all_below o a

  abbrev pub keys_of : List (Key (Syn p)) → Keys p
  keys_of [] = s.no_keys
  keys_of (k ∷ ks) = s.one_key k.key k.descending k.empty_greatest (keys_of ks)

module _ {X V F T K N R W : Type 0} {p : Phase} (l : Leaves X V F T K N R W p) where
  abbrev pub step_of : ℕ → StepKind X (Syn p) → Syns p → Maybe p → Syn p
  step_of o (step_.Walk a t) qs from' = s.step o a (test_of l.text t) from' qs
  step_of o (step_.Primary e) qs from' = primary_from o from' (with_predicates o e qs)

  abbrev pub step_from : Maybe p → Step X (Syn p) → Syn p
  step_from from' x = step_of x.offset x.kind (syns_of x.predicates) from'

  -- steps of a path nest to the left
  abbrev pub path_of : Syn p → List (Behind X (Syn p)) → Syn p
  path_of a [] = a
  path_of a (b ∷ bs) = path_of (step_from (s.present (behind_of b.slashes a)) b.step) bs

  abbrev pub type_of : Option T → Option p.Ty
  type_of None = None
  type_of (Some t) = Some (l.ty t)

  abbrev pub position_of : Option (Variable V) → Option (ℕ × p.Var)
  position_of None = None
  position_of (Some v) = Some (v.offset, l.var v.name)

  abbrev pub for_binds_of : List (ForBind V T (Syn p)) → Binds p → Binds p
  for_binds_of [] rest = rest
  for_binds_of (b ∷ bs) rest = s.for_bind b.var.offset (l.var b.var.name) (type_of b.ty) (position_of b.at) b.source (for_binds_of bs rest)

  abbrev pub let_binds_of : List (LetBind V T (Syn p)) → Binds p → Binds p
  let_binds_of [] rest = rest
  let_binds_of (b ∷ bs) rest = s.let_bind b.var.offset (l.var b.var.name) (type_of b.ty) b.value (let_binds_of bs rest)

  abbrev pub quant_binds_of : List (QuantBind V T (Syn p)) → Binds p
  quant_binds_of [] = s.no_binds
  quant_binds_of (b ∷ bs) = s.for_bind b.var.offset (l.var b.var.name) (type_of b.ty) None b.source (quant_binds_of bs)

  abbrev pub clause_of : Clause V T (Syn p) → Binds p → Binds p
  clause_of (clause_.For bs) rest = for_binds_of bs rest
  clause_of (clause_.Let bs) rest = let_binds_of bs rest

  abbrev pub clauses_of : List (Clause V T (Syn p)) → Binds p
  clauses_of [] = s.no_binds
  clauses_of (c ∷ cs) = clause_of c (clauses_of cs)

  abbrev pub build_name_of : CodeName X (Syn p) → BuildName p
  build_name_of name_.Absent = s.no_name
  build_name_of (name_.Named n) = s.named (l.text n.text)
  build_name_of (name_.Computed e) = s.computed e

  abbrev pub value_of : ValuePart W (Syn p) → Values p → Values p
  value_of (value_.Run at w) vs = s.value_run (l.value w) vs
  value_of (value_.Brace at e) vs = s.value_brace e vs

  abbrev pub values_of : List (ValuePart W (Syn p)) → Values p
  values_of [] = s.no_values
  values_of (v ∷ vs) = value_of v (values_of vs)

  abbrev pub attributes_of : List (Attribute X W (Syn p)) → Attributes p
  attributes_of [] = s.no_attributes
  attributes_of (a ∷ as') = s.attribute a.name.offset (l.text a.name.text) (values_of a.value) (attributes_of as')

  abbrev pub part_of : Part R (Syn p) → Parts p → Parts p
  part_of (part_.Run at r) ps = s.run (l.run r) ps
  part_of (part_.Brace at e) ps = s.brace e ps
  part_of (part_.Inner e) ps = s.inner e ps

  abbrev pub parts_of : List (Part R (Syn p)) → Parts p
  parts_of [] = s.no_parts
  parts_of (x ∷ xs) = part_of x (parts_of xs)

  module _ (Q : Type 0) where
    abbrev pub node_of : Node-F Q X V F T K N R W (Syn p) → Syn p
    node_of (o.Comma at e es) = s.comma at e (syns_of es)
    node_of (o.Flwor at cs w ks e) = s.flwor at (clauses_of cs) (maybe_of w) (keys_of ks) e
    node_of (o.Quantified at q bs e) = s.quantified at q (quant_binds_of bs) e
    node_of (o.If at a b d) = s.conditional at a b d
    node_of (o.Chain at a bs) = to_left at a bs
    node_of (o.Signed at xs a) = with_signs xs a
    node_of (o.Instance at a t) = s.instance at a (l.ty t)
    node_of (o.Treat at a t) = s.treat at a (l.ty t)
    node_of (o.Castable at a k m) = s.castable at a (l.kind k) m
    node_of (o.Cast at a k m) = s.cast at a (l.kind k) m
    node_of (o.Root at) = s.root at
    node_of (o.Path from' x bs) = path_of (step_from (start_of from') x) bs
    node_of (o.Integer at n) = s.integer at (l.number n)
    node_of (o.Text at t) = s.text at (l.text t)
    node_of (o.Var at x) = s.var at (l.var x)
    node_of (o.Paren at e) = s.paren at (maybe_of e)
    node_of (o.Dot at) = s.dot at
    node_of (o.Call at f es) = s.call at (l.fun f) (syns_of es)
    node_of (o.Build at k n e) = s.build at k (build_name_of n) (maybe_of e)
    node_of (o.Element at n as' ps) = s.element at (l.text n.text) (attributes_of as') (parts_of ps)
    node_of (o.Comment at t) = s.comment at (l.text t)
    node_of (o.Instruction at n t) = s.instruction at (l.text n.text) (l.text t)

    -- an expression
    abbrev pub syn_of : Node Q X V F T K N R W → Syn p
    syn_of = fold-Node Q X V F T K N R W (Syn p) node_of

    abbrev pub params_of : List (Param V T) → Params p
    params_of [] = s.no_params
    params_of (x ∷ xs) = s.param x.var.offset (l.var x.var.name) (type_of x.ty) (params_of xs)

    abbrev pub declaration_of : CodeDeclaration X V T (Node Q X V F T K N R W) → Declaration p
    declaration_of (declaration_.Var at x t e) = s.variable at x.offset (l.var x.name) (type_of t) (syn_of e)
    declaration_of (declaration_.Fun at n xs t e) = s.function at n.offset (l.text n.text) (params_of xs) (type_of t) (syn_of e)

    abbrev pub version_of : Option (Version X) → Option (ℕ × Text)
    version_of None = None
    version_of (Some v) = Some (v.version.offset, l.text v.version.text)

    -- a whole query
    abbrev pub query_of : CodeQuery Q X V F T K N R W → Query p
    query_of q = record { version = version_of q.version; setters = q.prolog.setters; declarations = map declaration_of q.prolog.declarations; body = syn_of q.body }
