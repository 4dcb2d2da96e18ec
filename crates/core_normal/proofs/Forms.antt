-- What a resolved tree stands for, form by form.
use Rattle.std.proofs.Common.{◌≡◌, refl, sym, ap, ◌∙◌, ℕ, ℤ, Bool, List, [], ◌∷◌, map, Option, Some, None}
use Rattle.xq_base.specs.declared.fun.AtomKind.{AtomKind}
use Rattle.xq_base.specs.declared.item.TextId.{TextId}
use Rattle.xq_base.specs.Texts.{Text}
use Rattle.doc_table.specs.Tree.{text_in}
use Rattle.xq_ast.specs.declared.leaf.BuildKind.{BuildKind}
use Rattle.xq_ast.specs.declared.leaf.Callee.{Callee}
use Rattle.xq_ast.specs.declared.leaf.Name.{Name}
use Rattle.xq_ast.specs.declared.leaf.Quantifier.{Quantifier}
use Rattle.xq_ast.specs.declared.leaf.SeqType.{SeqType}
use Rattle.xq_ast.specs.declared.leaf.TextRun.{TextRun as CodeRun}
use Rattle.xq_ast.specs.declared.node.AsResolved.{AsResolved}
use Rattle.xq_ast.specs.declared.node.Attribute.{Attribute}
use Rattle.xq_ast.specs.declared.node.Behind.{Behind}
use Rattle.xq_ast.specs.declared.node.BuildName.{BuildName as CodeName}
use Rattle.xq_ast.specs.declared.node.BuildName.TheVariants as name_
use Rattle.xq_ast.specs.declared.node.Clause.{Clause}
use Rattle.xq_ast.specs.declared.node.Clause.TheVariants as clause_
use Rattle.xq_ast.specs.declared.node.ForBind.{ForBind}
use Rattle.xq_ast.specs.declared.node.Key.{Key}
use Rattle.xq_ast.specs.declared.node.LetBind.{LetBind}
use Rattle.xq_ast.specs.declared.node.Node.TheVariants as n
use Rattle.xq_ast.specs.declared.node.Node.TheOpen as o
use Rattle.xq_ast.specs.declared.node.Node.TheFolds.{fold-roll-Node}
use Rattle.xq_ast.specs.declared.node.Node.TheViews.{rolls-Comma, rolls-Flwor, rolls-Quantified, rolls-If, rolls-Chain, rolls-Signed, rolls-Instance, rolls-Treat, rolls-Castable, rolls-Cast, rolls-Root, rolls-Path, rolls-Integer, rolls-Text, rolls-Var, rolls-Paren, rolls-Dot, rolls-Call, rolls-Build, rolls-Element, rolls-Comment, rolls-Instruction}
use Rattle.xq_ast.specs.declared.node.Node.TheShapes.{former-Node-Chain-2, former-Node-Flwor-1, former-Node-Flwor-3, former-Node-Quantified-2, former-Node-Path-1, former-Node-Path-2, former-Node-Element-2, former-Node-Element-3}
use Rattle.xq_ast.specs.declared.node.Part.{Part}
use Rattle.xq_ast.specs.declared.node.Part.TheVariants as part_
use Rattle.xq_ast.specs.declared.node.QuantBind.{QuantBind}
use Rattle.xq_ast.specs.declared.node.Right.{Right}
use Rattle.xq_ast.specs.declared.node.Signed.{Signed}
use Rattle.xq_ast.specs.declared.node.Start.{Start}
use Rattle.xq_ast.specs.declared.node.Step.{Step}
use Rattle.xq_ast.specs.declared.node.StepKind.{StepKind}
use Rattle.xq_ast.specs.declared.node.StepKind.TheVariants as step_
use Rattle.xq_ast.specs.declared.node.ValuePart.{ValuePart}
use Rattle.xq_ast.specs.declared.node.ValuePart.TheVariants as value_
use Rattle.core_scope.specs.Syn.{Syn, Maybe, Attributes, Values, resolved}
use Rattle.core_scope.specs.Syn as s
use Rattle.core_scope.specs.Erasure.{node_of, syns_of, with_signs, start_of, behind_of}
use Rattle.core_scope.specs.Erasure as e
use Rattle.core_scope.specs.Leaves.{ResolvedTree, resolved_leaves, run_of, sequence_of, syn_resolved}
use Rattle.core_normal.specs.Trees.{syns, maybe, rights, step, behinds, for_binds, let_binds, quant_binds, clauses, keys, name, value, values, attributes, parts, type_of, position}

module _ (t : List Text) where
  mapped_rights : List (Right ResolvedTree) → List (Right (Syn resolved))
  mapped_rights x = (former-Node-Chain-2 AsResolved TextId ℕ Callee SeqType AtomKind ℤ CodeRun TextId).map ResolvedTree (Syn resolved) (syn_resolved t) x

  mapped_clauses : List (Clause ℕ SeqType ResolvedTree) → List (Clause ℕ SeqType (Syn resolved))
  mapped_clauses x = (former-Node-Flwor-1 AsResolved TextId ℕ Callee SeqType AtomKind ℤ CodeRun TextId).map ResolvedTree (Syn resolved) (syn_resolved t) x

  mapped_keys : List (Key ResolvedTree) → List (Key (Syn resolved))
  mapped_keys x = (former-Node-Flwor-3 AsResolved TextId ℕ Callee SeqType AtomKind ℤ CodeRun TextId).map ResolvedTree (Syn resolved) (syn_resolved t) x

  mapped_quant : List (QuantBind ℕ SeqType ResolvedTree) → List (QuantBind ℕ SeqType (Syn resolved))
  mapped_quant x = (former-Node-Quantified-2 AsResolved TextId ℕ Callee SeqType AtomKind ℤ CodeRun TextId).map ResolvedTree (Syn resolved) (syn_resolved t) x

  mapped_step : Step TextId ResolvedTree → Step TextId (Syn resolved)
  mapped_step x = (former-Node-Path-1 AsResolved TextId ℕ Callee SeqType AtomKind ℤ CodeRun TextId).map ResolvedTree (Syn resolved) (syn_resolved t) x

  mapped_behinds : List (Behind TextId ResolvedTree) → List (Behind TextId (Syn resolved))
  mapped_behinds x = (former-Node-Path-2 AsResolved TextId ℕ Callee SeqType AtomKind ℤ CodeRun TextId).map ResolvedTree (Syn resolved) (syn_resolved t) x

  mapped_attributes : List (Attribute TextId TextId ResolvedTree) → List (Attribute TextId TextId (Syn resolved))
  mapped_attributes x = (former-Node-Element-2 AsResolved TextId ℕ Callee SeqType AtomKind ℤ CodeRun TextId).map ResolvedTree (Syn resolved) (syn_resolved t) x

  mapped_parts : List (Part CodeRun ResolvedTree) → List (Part CodeRun (Syn resolved))
  mapped_parts x = (former-Node-Element-3 AsResolved TextId ℕ Callee SeqType AtomKind ℤ CodeRun TextId).map ResolvedTree (Syn resolved) (syn_resolved t) x

  syns_law : (es : List ResolvedTree) → syns_of (map (syn_resolved t) es) ≡ syns t es
  syns_law [] = refl
  syns_law (x ∷ xs) = ap (s.one_more (syn_resolved t x)) (syns_law xs)

  rights_law : (i : ℕ) (a : Syn resolved) (bs : List (Right ResolvedTree)) → e.to_left i a (mapped_rights bs) ≡ rights t i a bs
  unfolding mapped_rights
  rights_law i a [] = refl
  rights_law i a (b ∷ bs) = rights_law i (s.binary i b.operator a (syn_resolved t b.operand)) bs

  quant_law : (bs : List (QuantBind ℕ SeqType ResolvedTree)) → e.quant_binds_of (resolved_leaves t) (mapped_quant bs) ≡ quant_binds t bs
  unfolding mapped_quant
  quant_law [] = refl
  quant_law (b ∷ bs) = ap (λ x. s.for_bind b.var.offset b.var.name (type_of t b.ty) None (syn_resolved t b.source) x) (quant_law bs)

  for_law : (bs : List (ForBind ℕ SeqType ResolvedTree)) (cs : List (Clause ℕ SeqType ResolvedTree)) →
      e.clauses_of (resolved_leaves t) (mapped_clauses (clause_.For bs ∷ cs)) ≡ for_binds t bs (e.clauses_of (resolved_leaves t) (mapped_clauses cs))
  unfolding mapped_clauses
  for_law [] cs = refl
  for_law (b ∷ bs) cs = ap (λ x. s.for_bind b.var.offset b.var.name (type_of t b.ty) (position t b.at) (syn_resolved t b.source) x) (for_law bs cs)

  let_law : (bs : List (LetBind ℕ SeqType ResolvedTree)) (cs : List (Clause ℕ SeqType ResolvedTree)) →
      e.clauses_of (resolved_leaves t) (mapped_clauses (clause_.Let bs ∷ cs)) ≡ let_binds t bs (e.clauses_of (resolved_leaves t) (mapped_clauses cs))
  unfolding mapped_clauses
  let_law [] cs = refl
  let_law (b ∷ bs) cs = ap (λ x. s.let_bind b.var.offset b.var.name (type_of t b.ty) (syn_resolved t b.value) x) (let_law bs cs)

  clauses_law : (cs : List (Clause ℕ SeqType ResolvedTree)) → e.clauses_of (resolved_leaves t) (mapped_clauses cs) ≡ clauses t cs
  unfolding mapped_clauses
  clauses_law [] = refl
  clauses_law (clause_.For bs ∷ cs) = for_law bs cs ∙ ap (for_binds t bs) (clauses_law cs)
  clauses_law (clause_.Let bs ∷ cs) = let_law bs cs ∙ ap (let_binds t bs) (clauses_law cs)

  keys_law : (ks : List (Key ResolvedTree)) → e.keys_of (mapped_keys ks) ≡ keys t ks
  unfolding mapped_keys
  keys_law [] = refl
  keys_law (k ∷ ks) = ap (s.one_key (syn_resolved t k.key) k.descending k.empty_greatest) (keys_law ks)

  step_at : (m : Maybe resolved) (x : Step TextId ResolvedTree) (k : StepKind TextId ResolvedTree) → x.kind ≡ k → e.step_from (resolved_leaves t) m (mapped_step x) ≡ step t m x
  unfolding mapped_step
  step_at m x (step_.Walk a test) q = rw q (ap (λ y. s.step x.offset a (e.test_of (text_in t) test) m y) (syns_law x.predicates))
  step_at m x (step_.Primary a) q = rw q (ap (λ y. e.primary_from x.offset m (e.with_predicates x.offset (syn_resolved t a) y)) (syns_law x.predicates))

  step_law : (m : Maybe resolved) (x : Step TextId ResolvedTree) → e.step_from (resolved_leaves t) m (mapped_step x) ≡ step t m x
  step_law m x = step_at m x x.kind refl

  first_at : (a : Syn resolved) (b : Behind TextId ResolvedTree) (bs : List (Behind TextId ResolvedTree)) (k : StepKind TextId ResolvedTree) → b.step.kind ≡ k →
      e.path_of (resolved_leaves t) a (mapped_behinds (b ∷ bs)) ≡ e.path_of (resolved_leaves t) (step t (s.present (behind_of b.slashes a)) b.step) (mapped_behinds bs)
  unfolding mapped_behinds
  first_at a b bs (step_.Walk x test) q =
      rw q (ap (λ y. e.path_of (resolved_leaves t) (s.step b.step.offset x (e.test_of (text_in t) test) (s.present (behind_of b.slashes a)) y) (mapped_behinds bs)) (syns_law b.step.predicates))
  first_at a b bs (step_.Primary x) q =
      rw q (ap (λ y. e.path_of (resolved_leaves t) (s.through b.step.offset (behind_of b.slashes a) (e.with_predicates b.step.offset (syn_resolved t x) y)) (mapped_behinds bs)) (syns_law b.step.predicates))

  behinds_law : (a : Syn resolved) (bs : List (Behind TextId ResolvedTree)) → e.path_of (resolved_leaves t) a (mapped_behinds bs) ≡ behinds t a bs
  unfolding mapped_behinds
  behinds_law a [] = refl
  behinds_law a (b ∷ bs) = first_at a b bs b.step.kind refl ∙ behinds_law (step t (s.present (behind_of b.slashes a)) b.step) bs

  abbrev first_values : Attributes resolved → Values resolved
  first_values s.no_attributes = s.no_values
  first_values (s.attribute o n vs as') = vs

  values_law : (n : Name TextId) (vs : List (ValuePart TextId ResolvedTree)) → first_values (e.attributes_of (resolved_leaves t) (mapped_attributes (record { name = n; value = vs } ∷ []))) ≡ values t vs
  unfolding mapped_attributes
  values_law n [] = refl
  values_law n (value_.Run at w ∷ vs) = ap (s.value_run (text_in t w)) (values_law n vs)
  values_law n (value_.Brace at x ∷ vs) = ap (s.value_brace (syn_resolved t x)) (values_law n vs)

  attributes_law : (as' : List (Attribute TextId TextId ResolvedTree)) → e.attributes_of (resolved_leaves t) (mapped_attributes as') ≡ attributes t as'
  unfolding mapped_attributes
  attributes_law [] = refl
  attributes_law (a ∷ as') =
      ap (λ vs. s.attribute a.name.offset (text_in t a.name.text) vs (e.attributes_of (resolved_leaves t) (mapped_attributes as'))) (values_law a.name a.value)
      ∙ ap (s.attribute a.name.offset (text_in t a.name.text) (values t a.value)) (attributes_law as')

  parts_law : (ps : List (Part CodeRun ResolvedTree)) → e.parts_of (resolved_leaves t) (mapped_parts ps) ≡ parts t ps
  unfolding mapped_parts
  parts_law [] = refl
  parts_law (part_.Run at r ∷ ps) = ap (s.run (run_of t r)) (parts_law ps)
  parts_law (part_.Brace at x ∷ ps) = ap (s.brace (syn_resolved t x)) (parts_law ps)
  parts_law (part_.Inner x ∷ ps) = ap (s.inner (syn_resolved t x)) (parts_law ps)

  pub syn_comma : (i : ℕ) (a : ResolvedTree) (es : List ResolvedTree) → syn_resolved t (n.Comma i a es) ≡ s.comma i (syn_resolved t a) (syns t es)
  syn_comma i a es = ap (syn_resolved t) (sym (rolls-Comma i a es)) ∙ fold-roll-Node AsResolved TextId ℕ Callee SeqType AtomKind ℤ CodeRun TextId (Syn resolved) (node_of (resolved_leaves t) AsResolved) (o.Comma i a es) ∙ ap (s.comma i (syn_resolved t a)) (syns_law es)

  pub syn_quantified : (i : ℕ) (q : Quantifier) (bs : List (QuantBind ℕ SeqType ResolvedTree)) (e : ResolvedTree) → syn_resolved t (n.Quantified i q bs e) ≡ s.quantified i q (quant_binds t bs) (syn_resolved t e)
  unfolding mapped_quant
  syn_quantified i q bs e = ap (syn_resolved t) (sym (rolls-Quantified i q bs e)) ∙ fold-roll-Node AsResolved TextId ℕ Callee SeqType AtomKind ℤ CodeRun TextId (Syn resolved) (node_of (resolved_leaves t) AsResolved) (o.Quantified i q bs e) ∙ ap (λ x. s.quantified i q x (syn_resolved t e)) (quant_law bs)

  pub syn_if : (i : ℕ) (a : ResolvedTree) (b : ResolvedTree) (d : ResolvedTree) → syn_resolved t (n.If i a b d) ≡ s.conditional i (syn_resolved t a) (syn_resolved t b) (syn_resolved t d)
  syn_if i a b d = ap (syn_resolved t) (sym (rolls-If i a b d)) ∙ fold-roll-Node AsResolved TextId ℕ Callee SeqType AtomKind ℤ CodeRun TextId (Syn resolved) (node_of (resolved_leaves t) AsResolved) (o.If i a b d)

  pub syn_chain : (i : ℕ) (a : ResolvedTree) (bs : List (Right ResolvedTree)) → syn_resolved t (n.Chain i a bs) ≡ rights t i (syn_resolved t a) bs
  unfolding mapped_rights
  syn_chain i a bs = ap (syn_resolved t) (sym (rolls-Chain i a bs)) ∙ fold-roll-Node AsResolved TextId ℕ Callee SeqType AtomKind ℤ CodeRun TextId (Syn resolved) (node_of (resolved_leaves t) AsResolved) (o.Chain i a bs) ∙ rights_law i (syn_resolved t a) bs

  pub syn_signed : (i : ℕ) (xs : List Signed) (a : ResolvedTree) → syn_resolved t (n.Signed i xs a) ≡ with_signs xs (syn_resolved t a)
  syn_signed i xs a = ap (syn_resolved t) (sym (rolls-Signed i xs a)) ∙ fold-roll-Node AsResolved TextId ℕ Callee SeqType AtomKind ℤ CodeRun TextId (Syn resolved) (node_of (resolved_leaves t) AsResolved) (o.Signed i xs a)

  pub syn_instance : (i : ℕ) (a : ResolvedTree) (ty : SeqType) → syn_resolved t (n.Instance i a ty) ≡ s.instance i (syn_resolved t a) (sequence_of t ty)
  syn_instance i a ty = ap (syn_resolved t) (sym (rolls-Instance i a ty)) ∙ fold-roll-Node AsResolved TextId ℕ Callee SeqType AtomKind ℤ CodeRun TextId (Syn resolved) (node_of (resolved_leaves t) AsResolved) (o.Instance i a ty)

  pub syn_treat : (i : ℕ) (a : ResolvedTree) (ty : SeqType) → syn_resolved t (n.Treat i a ty) ≡ s.treat i (syn_resolved t a) (sequence_of t ty)
  syn_treat i a ty = ap (syn_resolved t) (sym (rolls-Treat i a ty)) ∙ fold-roll-Node AsResolved TextId ℕ Callee SeqType AtomKind ℤ CodeRun TextId (Syn resolved) (node_of (resolved_leaves t) AsResolved) (o.Treat i a ty)

  pub syn_castable : (i : ℕ) (a : ResolvedTree) (k : AtomKind) (m : Bool) → syn_resolved t (n.Castable i a k m) ≡ s.castable i (syn_resolved t a) k m
  syn_castable i a k m = ap (syn_resolved t) (sym (rolls-Castable i a k m)) ∙ fold-roll-Node AsResolved TextId ℕ Callee SeqType AtomKind ℤ CodeRun TextId (Syn resolved) (node_of (resolved_leaves t) AsResolved) (o.Castable i a k m)

  pub syn_cast : (i : ℕ) (a : ResolvedTree) (k : AtomKind) (m : Bool) → syn_resolved t (n.Cast i a k m) ≡ s.cast i (syn_resolved t a) k m
  syn_cast i a k m = ap (syn_resolved t) (sym (rolls-Cast i a k m)) ∙ fold-roll-Node AsResolved TextId ℕ Callee SeqType AtomKind ℤ CodeRun TextId (Syn resolved) (node_of (resolved_leaves t) AsResolved) (o.Cast i a k m)

  pub syn_root : (i : ℕ) → syn_resolved t (n.Root i) ≡ s.root i
  syn_root i = ap (syn_resolved t) (sym (rolls-Root i)) ∙ fold-roll-Node AsResolved TextId ℕ Callee SeqType AtomKind ℤ CodeRun TextId (Syn resolved) (node_of (resolved_leaves t) AsResolved) (o.Root i)

  pub syn_path : (from' : Start) (x : Step TextId ResolvedTree) (bs : List (Behind TextId ResolvedTree)) → syn_resolved t (n.Path from' x bs) ≡ behinds t (step t (start_of from') x) bs
  unfolding mapped_step mapped_behinds
  syn_path from' x bs = ap (syn_resolved t) (sym (rolls-Path from' x bs)) ∙ fold-roll-Node AsResolved TextId ℕ Callee SeqType AtomKind ℤ CodeRun TextId (Syn resolved) (node_of (resolved_leaves t) AsResolved) (o.Path from' x bs) ∙ ap (λ a. e.path_of (resolved_leaves t) a (mapped_behinds bs)) (step_law (start_of from') x) ∙ behinds_law (step t (start_of from') x) bs

  pub syn_integer : (i : ℕ) (z : ℤ) → syn_resolved t (n.Integer i z) ≡ s.integer i z
  syn_integer i z = ap (syn_resolved t) (sym (rolls-Integer i z)) ∙ fold-roll-Node AsResolved TextId ℕ Callee SeqType AtomKind ℤ CodeRun TextId (Syn resolved) (node_of (resolved_leaves t) AsResolved) (o.Integer i z)

  pub syn_text : (i : ℕ) (x : TextId) → syn_resolved t (n.Text i x) ≡ s.text i (text_in t x)
  syn_text i x = ap (syn_resolved t) (sym (rolls-Text i x)) ∙ fold-roll-Node AsResolved TextId ℕ Callee SeqType AtomKind ℤ CodeRun TextId (Syn resolved) (node_of (resolved_leaves t) AsResolved) (o.Text i x)

  pub syn_var : (i : ℕ) (v : ℕ) → syn_resolved t (n.Var i v) ≡ s.var i v
  syn_var i v = ap (syn_resolved t) (sym (rolls-Var i v)) ∙ fold-roll-Node AsResolved TextId ℕ Callee SeqType AtomKind ℤ CodeRun TextId (Syn resolved) (node_of (resolved_leaves t) AsResolved) (o.Var i v)

  pub syn_paren : (i : ℕ) (a : Option ResolvedTree) → syn_resolved t (n.Paren i a) ≡ s.paren i (maybe t a)
  syn_paren i None = ap (syn_resolved t) (sym (rolls-Paren i None)) ∙ fold-roll-Node AsResolved TextId ℕ Callee SeqType AtomKind ℤ CodeRun TextId (Syn resolved) (node_of (resolved_leaves t) AsResolved) (o.Paren i None)
  syn_paren i (Some a) = ap (syn_resolved t) (sym (rolls-Paren i (Some a))) ∙ fold-roll-Node AsResolved TextId ℕ Callee SeqType AtomKind ℤ CodeRun TextId (Syn resolved) (node_of (resolved_leaves t) AsResolved) (o.Paren i (Some a))

  pub syn_dot : (i : ℕ) → syn_resolved t (n.Dot i) ≡ s.dot i
  syn_dot i = ap (syn_resolved t) (sym (rolls-Dot i)) ∙ fold-roll-Node AsResolved TextId ℕ Callee SeqType AtomKind ℤ CodeRun TextId (Syn resolved) (node_of (resolved_leaves t) AsResolved) (o.Dot i)

  pub syn_call : (i : ℕ) (f : Callee) (es : List ResolvedTree) → syn_resolved t (n.Call i f es) ≡ s.call i f (syns t es)
  syn_call i f es = ap (syn_resolved t) (sym (rolls-Call i f es)) ∙ fold-roll-Node AsResolved TextId ℕ Callee SeqType AtomKind ℤ CodeRun TextId (Syn resolved) (node_of (resolved_leaves t) AsResolved) (o.Call i f es) ∙ ap (s.call i f) (syns_law es)

  pub syn_element : (i : ℕ) (m : Name TextId) (as' : List (Attribute TextId TextId ResolvedTree)) (ps : List (Part CodeRun ResolvedTree)) → syn_resolved t (n.Element i m as' ps) ≡ s.element i (text_in t m.text) (attributes t as') (parts t ps)
  unfolding mapped_attributes mapped_parts
  syn_element i m as' ps = ap (syn_resolved t) (sym (rolls-Element i m as' ps)) ∙ fold-roll-Node AsResolved TextId ℕ Callee SeqType AtomKind ℤ CodeRun TextId (Syn resolved) (node_of (resolved_leaves t) AsResolved) (o.Element i m as' ps) ∙ ap (λ x. s.element i (text_in t m.text) x (e.parts_of (resolved_leaves t) (mapped_parts ps))) (attributes_law as') ∙ ap (s.element i (text_in t m.text) (attributes t as')) (parts_law ps)

  pub syn_comment : (i : ℕ) (x : TextId) → syn_resolved t (n.Comment i x) ≡ s.comment i (text_in t x)
  syn_comment i x = ap (syn_resolved t) (sym (rolls-Comment i x)) ∙ fold-roll-Node AsResolved TextId ℕ Callee SeqType AtomKind ℤ CodeRun TextId (Syn resolved) (node_of (resolved_leaves t) AsResolved) (o.Comment i x)

  pub syn_instruction : (i : ℕ) (m : Name TextId) (x : TextId) → syn_resolved t (n.Instruction i m x) ≡ s.instruction i (text_in t m.text) (text_in t x)
  syn_instruction i m x = ap (syn_resolved t) (sym (rolls-Instruction i m x)) ∙ fold-roll-Node AsResolved TextId ℕ Callee SeqType AtomKind ℤ CodeRun TextId (Syn resolved) (node_of (resolved_leaves t) AsResolved) (o.Instruction i m x)

  pub syn_flwor : (i : ℕ) (cs : List (Clause ℕ SeqType ResolvedTree)) (w : Option ResolvedTree) (ks : List (Key ResolvedTree)) (a : ResolvedTree) →
      syn_resolved t (n.Flwor i cs w ks a) ≡ s.flwor i (clauses t cs) (maybe t w) (keys t ks) (syn_resolved t a)
  unfolding mapped_clauses mapped_keys
  syn_flwor i cs None ks a =
      ap (syn_resolved t) (sym (rolls-Flwor i cs None ks a)) ∙ fold-roll-Node AsResolved TextId ℕ Callee SeqType AtomKind ℤ CodeRun TextId (Syn resolved) (node_of (resolved_leaves t) AsResolved) (o.Flwor i cs None ks a)
      ∙ ap (λ y. s.flwor i y s.absent (e.keys_of (mapped_keys ks)) (syn_resolved t a)) (clauses_law cs) ∙ ap (λ y. s.flwor i (clauses t cs) s.absent y (syn_resolved t a)) (keys_law ks)
  syn_flwor i cs (Some x) ks a =
      ap (syn_resolved t) (sym (rolls-Flwor i cs (Some x) ks a)) ∙ fold-roll-Node AsResolved TextId ℕ Callee SeqType AtomKind ℤ CodeRun TextId (Syn resolved) (node_of (resolved_leaves t) AsResolved) (o.Flwor i cs (Some x) ks a)
      ∙ ap (λ y. s.flwor i y (s.present (syn_resolved t x)) (e.keys_of (mapped_keys ks)) (syn_resolved t a)) (clauses_law cs) ∙ ap (λ y. s.flwor i (clauses t cs) (s.present (syn_resolved t x)) y (syn_resolved t a)) (keys_law ks)

  pub syn_build : (i : ℕ) (k : BuildKind) (x : CodeName TextId ResolvedTree) (a : Option ResolvedTree) → syn_resolved t (n.Build i k x a) ≡ s.build i k (name t x) (maybe t a)
  syn_build i k name_.Absent None = ap (syn_resolved t) (sym (rolls-Build i k name_.Absent None)) ∙ fold-roll-Node AsResolved TextId ℕ Callee SeqType AtomKind ℤ CodeRun TextId (Syn resolved) (node_of (resolved_leaves t) AsResolved) (o.Build i k name_.Absent None)
  syn_build i k name_.Absent (Some z) = ap (syn_resolved t) (sym (rolls-Build i k name_.Absent (Some z))) ∙ fold-roll-Node AsResolved TextId ℕ Callee SeqType AtomKind ℤ CodeRun TextId (Syn resolved) (node_of (resolved_leaves t) AsResolved) (o.Build i k name_.Absent (Some z))
  syn_build i k (name_.Named y) None = ap (syn_resolved t) (sym (rolls-Build i k (name_.Named y) None)) ∙ fold-roll-Node AsResolved TextId ℕ Callee SeqType AtomKind ℤ CodeRun TextId (Syn resolved) (node_of (resolved_leaves t) AsResolved) (o.Build i k (name_.Named y) None)
  syn_build i k (name_.Named y) (Some z) = ap (syn_resolved t) (sym (rolls-Build i k (name_.Named y) (Some z))) ∙ fold-roll-Node AsResolved TextId ℕ Callee SeqType AtomKind ℤ CodeRun TextId (Syn resolved) (node_of (resolved_leaves t) AsResolved) (o.Build i k (name_.Named y) (Some z))
  syn_build i k (name_.Computed y) None = ap (syn_resolved t) (sym (rolls-Build i k (name_.Computed y) None)) ∙ fold-roll-Node AsResolved TextId ℕ Callee SeqType AtomKind ℤ CodeRun TextId (Syn resolved) (node_of (resolved_leaves t) AsResolved) (o.Build i k (name_.Computed y) None)
  syn_build i k (name_.Computed y) (Some z) = ap (syn_resolved t) (sym (rolls-Build i k (name_.Computed y) (Some z))) ∙ fold-roll-Node AsResolved TextId ℕ Callee SeqType AtomKind ℤ CodeRun TextId (Syn resolved) (node_of (resolved_leaves t) AsResolved) (o.Build i k (name_.Computed y) (Some z))
