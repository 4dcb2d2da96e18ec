-- A node of the code's resolved tree of each form, by its pieces, over the texts of a pool.
use Rattle.std.proofs.Common.{◌≡◌, refl, sym, ap, ◌∙◌, ℕ, ℤ, Bool, map, List, [], ◌∷◌, Option, Some, None, option_map}
use Rattle.xq_base.specs.declared.fun.AtomKind.{AtomKind}
use Rattle.xq_base.specs.declared.item.TextId.{TextId}
use Rattle.xq_base.specs.Texts.{Text}
use Rattle.doc_table.specs.Axes.{AnyNode}
use Rattle.doc_table.specs.Tree.{text_in}
use Rattle.core_meaning.specs.Types.{SequenceTest}
use Rattle.xq_ast.specs.declared.leaf.Callee.{Callee}
use Rattle.xq_ast.specs.declared.leaf.Name.{Name}
use Rattle.xq_ast.specs.declared.leaf.Variable.{Variable}
use Rattle.xq_ast.specs.declared.leaf.Quantifier.{Quantifier}
use Rattle.xq_ast.specs.declared.leaf.BuildKind.{BuildKind}
use Rattle.xq_ast.specs.declared.leaf.SeqType.{SeqType}
use Rattle.xq_ast.specs.declared.leaf.TextRun.{TextRun}
use Rattle.xq_ast.specs.declared.node.AsResolved.{AsResolved}
use Rattle.xq_ast.specs.declared.node.Right.{Right}
use Rattle.xq_ast.specs.declared.node.Signed.{Signed}
use Rattle.xq_ast.specs.declared.node.Start.{Start}
use Rattle.xq_ast.specs.declared.node.Step.{Step}
use Rattle.xq_ast.specs.declared.node.StepKind.{StepKind}
use Rattle.xq_ast.specs.declared.node.StepKind.TheVariants as step_
use Rattle.xq_ast.specs.declared.node.Behind.{Behind}
use Rattle.xq_ast.specs.declared.node.Clause.{Clause}
use Rattle.xq_ast.specs.declared.node.Clause.TheVariants as clause_
use Rattle.xq_ast.specs.declared.node.ForBind.{ForBind}
use Rattle.xq_ast.specs.declared.node.LetBind.{LetBind}
use Rattle.xq_ast.specs.declared.node.QuantBind.{QuantBind}
use Rattle.xq_ast.specs.declared.node.Key.{Key}
use Rattle.xq_ast.specs.declared.node.BuildName.{BuildName}
use Rattle.xq_ast.specs.declared.node.BuildName.TheVariants as name_
use Rattle.xq_ast.specs.declared.node.Attribute.{Attribute}
use Rattle.xq_ast.specs.declared.node.Part.{Part}
use Rattle.xq_ast.specs.declared.node.Part.TheVariants as part_
use Rattle.xq_ast.specs.declared.node.ValuePart.{ValuePart}
use Rattle.xq_ast.specs.declared.node.ValuePart.TheVariants as value_
use Rattle.xq_ast.specs.declared.node.Node.TheVariants as n
use Rattle.core_scope.specs.Syn.{Syn, Syns, Maybe, Binds, Keys, Attributes, Values, resolved}
use Rattle.core_scope.specs.Syn as s
use Rattle.core_scope.specs.Syn.{TextRun as PlainRun}
use Rattle.core_scope.specs.Erasure.{Leaves, syns_of, maybe_of, keys_of}
use Rattle.core_scope.specs.Erasure as e
use Rattle.core_scope.specs.Leaves.{ResolvedTree, resolved_leaves, sequence_of, run_of}
use Rattle.core_scope.specs.Matching.{StepHead, walks, is_primary, PlainStep, PlainBehind, PlainAttribute, SynRight, SynFor, SynLet, SynQuant, SynClause, SynKey, node_in, maybe_in, right_in, head_in, step_in, behind_in, types_in, for_in, let_in, quant_in, clause_in, key_in, name_in, values_in, attribute_in, parts_in}
use Rattle.core_scope.proofs.Nodes.{syn_comma, syn_flwor, syn_quantified, syn_if, syn_chain, syn_signed, syn_instance, syn_treat, syn_castable, syn_cast, syn_root, syn_path, syn_integer, syn_text, syn_var, syn_paren, syn_dot, syn_call, syn_build, syn_element, syn_comment, syn_instruction}
use Rattle.core_scope.proofs.Nodes as nodes

-- binds whose types and variables are resolved stand for themselves
abbrev pub plain_leaves : Leaves Text ℕ Callee SequenceTest AtomKind ℤ PlainRun Text resolved
plain_leaves =
    record { text = λ t. t; var = λ x. x; fun = λ f. f; ty = λ t. t; kind = λ k. k; number = λ z. z; run = λ x. x; value = λ x. x }

abbrev pub clauses_syn : List SynClause → Binds resolved
clauses_syn = e.clauses_of plain_leaves

abbrev pub quants_syn : List SynQuant → Binds resolved
quants_syn = e.quant_binds_of plain_leaves

abbrev pub head_syn : ℕ → StepHead → Syns resolved → Maybe resolved → Syn resolved
head_syn o (walks a t) qs from' = s.step o a t from' qs
head_syn o (is_primary x) qs from' = e.primary_from o from' (e.with_predicates o x qs)

abbrev pub step_syn : Maybe resolved → PlainStep → Syn resolved
step_syn from' x = head_syn x.offset x.head (syns_of x.predicates) from'

abbrev pub path_syn : Syn resolved → List PlainBehind → Syn resolved
path_syn a [] = a
path_syn a (b ∷ bs) = path_syn (step_syn (s.present (e.behind_of b.slashes a)) b.step) bs

abbrev pub attributes_syn : List PlainAttribute → Attributes resolved
attributes_syn [] = s.no_attributes
attributes_syn (a ∷ as') = s.attribute a.offset a.name a.value (attributes_syn as')

module _ (u : List Text) where
  abbrev l : Leaves TextId ℕ Callee SeqType AtomKind ℤ TextRun TextId resolved
  l = resolved_leaves u

  -- the lists of a node
  nodes_law : (ts : List ResolvedTree) → map (nodes.syn l AsResolved) ts ≡ map (node_in u) ts
  unfolding node_in
  nodes_law ts = refl

  maybe_law : (t : Option ResolvedTree) → option_map (nodes.syn l AsResolved) t ≡ maybe_in u t
  unfolding node_in
  maybe_law None = refl
  maybe_law (Some t) = refl

  rights_law : (bs : List (Right ResolvedTree)) → nodes.mapped_rights l AsResolved bs ≡ map (right_in u) bs
  unfolding node_in
  rights_law [] = refl
  rights_law (b ∷ bs) = ap (λ r. right_in u b ∷ r) (rights_law bs)

  keys_law : (ks : List (Key ResolvedTree)) → nodes.mapped_keys l AsResolved ks ≡ map (key_in u) ks
  unfolding node_in
  keys_law [] = refl
  keys_law (k ∷ ks) = ap (λ r. key_in u k ∷ r) (keys_law ks)

  kind_law : (o : ℕ) (x : StepKind TextId ResolvedTree) (ps : List ResolvedTree) (from' : Maybe resolved) →
      e.step_from l from' (nodes.mapped_step l AsResolved (record { offset = o; kind = x; predicates = ps }))
      ≡ head_syn o (head_in u x) (syns_of (map (node_in u) ps)) from'
  unfolding node_in
  kind_law o (step_.Walk a t) ps from' = refl
  kind_law o (step_.Primary x) ps from' = refl

  behinds_law : (a : Syn resolved) (bs : List (Behind TextId ResolvedTree)) → e.path_of l a (nodes.mapped_behinds l AsResolved bs) ≡ path_syn a (map (behind_in u) bs)
  unfolding node_in
  behinds_law a [] = refl
  behinds_law a (b ∷ bs) =
      behinds_law (e.step_from l (s.present (e.behind_of b.slashes a)) (nodes.mapped_step l AsResolved b.step)) bs
      ∙ ap (λ x. path_syn x (map (behind_in u) bs)) (kind_law b.step.offset b.step.kind b.step.predicates (s.present (e.behind_of b.slashes a)))

  types_law : (t : Option SeqType) → e.type_of l t ≡ e.type_of plain_leaves (types_in u t)
  types_law None = refl
  types_law (Some t) = refl

  position_law : (v : Option (Variable ℕ)) → e.position_of l v ≡ e.position_of plain_leaves v
  position_law None = refl
  position_law (Some v) = refl

  fors_law : (bs : List (ForBind ℕ SeqType ResolvedTree)) (r : Binds resolved) → e.for_binds_of l (nodes.mapped_fors l AsResolved bs) r ≡ e.for_binds_of plain_leaves (map (for_in u) bs) r
  unfolding node_in
  fors_law [] r = refl
  fors_law (b ∷ bs) r =
      let rest : Binds resolved = e.for_binds_of l (nodes.mapped_fors l AsResolved bs) r in
      ap (λ t. s.for_bind b.var.offset b.var.name t (e.position_of l b.at) (node_in u b.source) rest) (types_law b.ty)
      ∙ ap (λ p. s.for_bind b.var.offset b.var.name (e.type_of plain_leaves (types_in u b.ty)) p (node_in u b.source) rest) (position_law b.at)
      ∙ ap (s.for_bind b.var.offset b.var.name (e.type_of plain_leaves (types_in u b.ty)) (e.position_of plain_leaves b.at) (node_in u b.source)) (fors_law bs r)

  lets_law : (bs : List (LetBind ℕ SeqType ResolvedTree)) (r : Binds resolved) → e.let_binds_of l (nodes.mapped_lets l AsResolved bs) r ≡ e.let_binds_of plain_leaves (map (let_in u) bs) r
  unfolding node_in
  lets_law [] r = refl
  lets_law (b ∷ bs) r =
      let rest : Binds resolved = e.let_binds_of l (nodes.mapped_lets l AsResolved bs) r in
      ap (λ t. s.let_bind b.var.offset b.var.name t (node_in u b.value) rest) (types_law b.ty)
      ∙ ap (s.let_bind b.var.offset b.var.name (e.type_of plain_leaves (types_in u b.ty)) (node_in u b.value)) (lets_law bs r)

  quants_law : (bs : List (QuantBind ℕ SeqType ResolvedTree)) → e.quant_binds_of l (nodes.mapped_quants l AsResolved bs) ≡ quants_syn (map (quant_in u) bs)
  unfolding node_in
  quants_law [] = refl
  quants_law (b ∷ bs) =
      let rest : Binds resolved = e.quant_binds_of l (nodes.mapped_quants l AsResolved bs) in
      ap (λ t. s.for_bind b.var.offset b.var.name t None (node_in u b.source) rest) (types_law b.ty)
      ∙ ap (s.for_bind b.var.offset b.var.name (e.type_of plain_leaves (types_in u b.ty)) None (node_in u b.source)) (quants_law bs)

  clauses_law : (cs : List (Clause ℕ SeqType ResolvedTree)) → e.clauses_of l (nodes.mapped_clauses l AsResolved cs) ≡ clauses_syn (map (clause_in u) cs)
  clauses_law [] = refl
  clauses_law (clause_.For bs ∷ cs) =
      fors_law bs (e.clauses_of l (nodes.mapped_clauses l AsResolved cs)) ∙ ap (e.for_binds_of plain_leaves (map (for_in u) bs)) (clauses_law cs)
  clauses_law (clause_.Let bs ∷ cs) =
      lets_law bs (e.clauses_of l (nodes.mapped_clauses l AsResolved cs)) ∙ ap (e.let_binds_of plain_leaves (map (let_in u) bs)) (clauses_law cs)

  name_law : (x : BuildName TextId ResolvedTree) → e.build_name_of l (nodes.mapped_name l AsResolved x) ≡ name_in u x
  unfolding node_in
  name_law name_.Absent = refl
  name_law (name_.Named x) = refl
  name_law (name_.Computed x) = refl

  values_law : (x : Name TextId) (vs : List (ValuePart TextId ResolvedTree)) → e.values_of l (nodes.mapped_values l AsResolved x vs) ≡ values_in u vs
  unfolding node_in
  values_law x [] = refl
  values_law x (value_.Run at w ∷ vs) = ap (s.value_run (text_in u w)) (values_law x vs)
  values_law x (value_.Brace at r ∷ vs) = ap (s.value_brace (node_in u r)) (values_law x vs)

  attributes_law : (as' : List (Attribute TextId TextId ResolvedTree)) → e.attributes_of l (nodes.mapped_attributes l AsResolved as') ≡ attributes_syn (map (attribute_in u) as')
  attributes_law [] = refl
  attributes_law (a ∷ as') =
      let rest : Attributes resolved = e.attributes_of l (nodes.mapped_attributes l AsResolved as') in
      ap (λ v. s.attribute a.name.offset (text_in u a.name.text) v rest) (values_law a.name a.value)
      ∙ ap (s.attribute a.name.offset (text_in u a.name.text) (values_in u a.value)) (attributes_law as')

  parts_law : (ps : List (Part TextRun ResolvedTree)) → e.parts_of l (nodes.mapped_parts l AsResolved ps) ≡ parts_in u ps
  unfolding node_in
  parts_law [] = refl
  parts_law (part_.Run at x ∷ ps) = ap (s.run (run_of u x)) (parts_law ps)
  parts_law (part_.Brace at r ∷ ps) = ap (s.brace (node_in u r)) (parts_law ps)
  parts_law (part_.Inner r ∷ ps) = ap (s.inner (node_in u r)) (parts_law ps)

  -- each form
  pub in_comma : (i : ℕ) (a : ResolvedTree) (ts : List ResolvedTree) → node_in u (n.Comma i a ts) ≡ s.comma i (node_in u a) (syns_of (map (node_in u) ts))
  unfolding node_in
  in_comma i a ts = syn_comma l AsResolved i a ts

  pub in_flwor : (i : ℕ) (cs : List (Clause ℕ SeqType ResolvedTree)) (c : Option ResolvedTree) (ks : List (Key ResolvedTree)) (x : ResolvedTree) →
      node_in u (n.Flwor i cs c ks x) ≡ s.flwor i (clauses_syn (map (clause_in u) cs)) (maybe_of (maybe_in u c)) (keys_of (map (key_in u) ks)) (node_in u x)
  unfolding node_in
  in_flwor i cs c ks x =
      syn_flwor l AsResolved i cs c ks x
      ∙ ap (λ bs. s.flwor i bs (maybe_of (option_map (nodes.syn l AsResolved) c)) (keys_of (nodes.mapped_keys l AsResolved ks)) (node_in u x)) (clauses_law cs)
      ∙ ap (λ m. s.flwor i (clauses_syn (map (clause_in u) cs)) (maybe_of m) (keys_of (nodes.mapped_keys l AsResolved ks)) (node_in u x)) (maybe_law c)
      ∙ ap (λ ks. s.flwor i (clauses_syn (map (clause_in u) cs)) (maybe_of (maybe_in u c)) (keys_of ks) (node_in u x)) (keys_law ks)

  pub in_quantified : (i : ℕ) (q : Quantifier) (bs : List (QuantBind ℕ SeqType ResolvedTree)) (x : ResolvedTree) → node_in u (n.Quantified i q bs x) ≡ s.quantified i q (quants_syn (map (quant_in u) bs)) (node_in u x)
  unfolding node_in
  in_quantified i q bs x = syn_quantified l AsResolved i q bs x ∙ ap (λ b. s.quantified i q b (node_in u x)) (quants_law bs)

  pub in_if : (i : ℕ) (a b d : ResolvedTree) → node_in u (n.If i a b d) ≡ s.conditional i (node_in u a) (node_in u b) (node_in u d)
  unfolding node_in
  in_if i a b d = syn_if l AsResolved i a b d

  pub in_chain : (i : ℕ) (a : ResolvedTree) (bs : List (Right ResolvedTree)) → node_in u (n.Chain i a bs) ≡ e.to_left i (node_in u a) (map (right_in u) bs)
  unfolding node_in
  in_chain i a bs = syn_chain l AsResolved i a bs ∙ ap (e.to_left i (node_in u a)) (rights_law bs)

  pub in_signed : (i : ℕ) (xs : List Signed) (a : ResolvedTree) → node_in u (n.Signed i xs a) ≡ e.with_signs xs (node_in u a)
  unfolding node_in
  in_signed i xs a = syn_signed l AsResolved i xs a

  pub in_instance : (i : ℕ) (a : ResolvedTree) (t : SeqType) → node_in u (n.Instance i a t) ≡ s.instance i (node_in u a) (sequence_of u t)
  unfolding node_in
  in_instance i a t = syn_instance l AsResolved i a t

  pub in_treat : (i : ℕ) (a : ResolvedTree) (t : SeqType) → node_in u (n.Treat i a t) ≡ s.treat i (node_in u a) (sequence_of u t)
  unfolding node_in
  in_treat i a t = syn_treat l AsResolved i a t

  pub in_castable : (i : ℕ) (a : ResolvedTree) (t : AtomKind) (m : Bool) → node_in u (n.Castable i a t m) ≡ s.castable i (node_in u a) t m
  unfolding node_in
  in_castable i a t m = syn_castable l AsResolved i a t m

  pub in_cast : (i : ℕ) (a : ResolvedTree) (t : AtomKind) (m : Bool) → node_in u (n.Cast i a t m) ≡ s.cast i (node_in u a) t m
  unfolding node_in
  in_cast i a t m = syn_cast l AsResolved i a t m

  pub in_root : (i : ℕ) → node_in u (n.Root i) ≡ s.root i
  unfolding node_in
  in_root i = syn_root l AsResolved i

  pub in_path : (x : Start) (y : Step TextId ResolvedTree) (bs : List (Behind TextId ResolvedTree)) → node_in u (n.Path x y bs) ≡ path_syn (step_syn (e.start_of x) (step_in u y)) (map (behind_in u) bs)
  unfolding node_in
  in_path x y bs =
      syn_path l AsResolved x y bs
      ∙ behinds_law (e.step_from l (e.start_of x) (nodes.mapped_step l AsResolved y)) bs
      ∙ ap (λ z. path_syn z (map (behind_in u) bs)) (kind_law y.offset y.kind y.predicates (e.start_of x))

  pub in_integer : (i : ℕ) (z : ℤ) → node_in u (n.Integer i z) ≡ s.integer i z
  unfolding node_in
  in_integer i z = syn_integer l AsResolved i z

  pub in_text : (i : ℕ) (x : TextId) → node_in u (n.Text i x) ≡ s.text i (text_in u x)
  unfolding node_in
  in_text i x = syn_text l AsResolved i x

  pub in_var : (i x : ℕ) → node_in u (n.Var i x) ≡ s.var i x
  unfolding node_in
  in_var i x = syn_var l AsResolved i x

  pub in_paren : (i : ℕ) (x : Option ResolvedTree) → node_in u (n.Paren i x) ≡ s.paren i (maybe_of (maybe_in u x))
  unfolding node_in
  in_paren i x = syn_paren l AsResolved i x ∙ ap (λ m. s.paren i (maybe_of m)) (maybe_law x)

  pub in_dot : (i : ℕ) → node_in u (n.Dot i) ≡ s.dot i
  unfolding node_in
  in_dot i = syn_dot l AsResolved i

  pub in_call : (i : ℕ) (f : Callee) (ts : List ResolvedTree) → node_in u (n.Call i f ts) ≡ s.call i f (syns_of (map (node_in u) ts))
  unfolding node_in
  in_call i f ts = syn_call l AsResolved i f ts

  pub in_build : (i : ℕ) (b : BuildKind) (x : BuildName TextId ResolvedTree) (y : Option ResolvedTree) → node_in u (n.Build i b x y) ≡ s.build i b (name_in u x) (maybe_of (maybe_in u y))
  unfolding node_in
  in_build i b x y =
      syn_build l AsResolved i b x y
      ∙ ap (λ z. s.build i b z (maybe_of (option_map (nodes.syn l AsResolved) y))) (name_law x)
      ∙ ap (λ m. s.build i b (name_in u x) (maybe_of m)) (maybe_law y)

  pub in_element : (i : ℕ) (x : Name TextId) (as' : List (Attribute TextId TextId ResolvedTree)) (ps : List (Part TextRun ResolvedTree)) →
      node_in u (n.Element i x as' ps) ≡ s.element i (text_in u x.text) (attributes_syn (map (attribute_in u) as')) (parts_in u ps)
  unfolding node_in
  in_element i x as' ps =
      syn_element l AsResolved i x as' ps
      ∙ ap (λ a. s.element i (text_in u x.text) a (e.parts_of l (nodes.mapped_parts l AsResolved ps))) (attributes_law as')
      ∙ ap (s.element i (text_in u x.text) (attributes_syn (map (attribute_in u) as'))) (parts_law ps)

  pub in_comment : (i : ℕ) (x : TextId) → node_in u (n.Comment i x) ≡ s.comment i (text_in u x)
  unfolding node_in
  in_comment i x = syn_comment l AsResolved i x

  pub in_instruction : (i : ℕ) (x : Name TextId) (y : TextId) → node_in u (n.Instruction i x y) ≡ s.instruction i (text_in u x.text) (text_in u y)
  unfolding node_in
  in_instruction i x y = syn_instruction l AsResolved i x y
