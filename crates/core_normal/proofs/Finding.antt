-- What the code finds of the functions that an expression calls is what was found before and then its calls.
use Rattle.std.proofs.Common.{◌≡◌, refl, sym, ap, ◌∙◌, subst, ℕ, ℤ, List, [], ◌∷◌, ◌++◌, map, Some, None, append_assoc}
use Rattle.std.proofs.lemmas.List.{append-nil}
use Rattle.xq_base.specs.declared.axis.Axis.{Axis}
use Rattle.xq_base.specs.declared.fun.AtomKind.{AtomKind}
use Rattle.xq_base.specs.declared.item.TextId.{TextId}
use Rattle.doc_table.specs.Tree.{text_in}
use Rattle.core_meaning.specs.Erasure.{Texts}
use Rattle.xq_ast.specs.declared.leaf.Callee.{Callee}
use Rattle.xq_ast.specs.declared.leaf.Name.{Name}
use Rattle.xq_ast.specs.declared.leaf.SeqType.{SeqType}
use Rattle.xq_ast.specs.declared.leaf.Test.{Test}
use Rattle.xq_ast.specs.declared.leaf.TextRun.{TextRun as CodeRun}
use Rattle.xq_ast.specs.declared.node.AsResolved.{AsResolved}
use Rattle.xq_ast.specs.declared.node.Attribute.{Attribute}
use Rattle.xq_ast.specs.declared.node.Behind.{Behind}
use Rattle.xq_ast.specs.declared.node.BuildName.TheVariants as name_
use Rattle.xq_ast.specs.declared.node.Clause.{Clause}
use Rattle.xq_ast.specs.declared.node.Clause.TheVariants as clause_
use Rattle.xq_ast.specs.declared.node.ForBind.{ForBind}
use Rattle.xq_ast.specs.declared.node.Key.{Key}
use Rattle.xq_ast.specs.declared.node.LetBind.{LetBind}
use Rattle.xq_ast.specs.declared.node.Node.{roll-Node, map-Node}
use Rattle.xq_ast.specs.declared.node.Node.TheOpen.{Node-F}
use Rattle.xq_ast.specs.declared.node.Node.TheOpen as o
use Rattle.xq_ast.specs.declared.node.Node.TheFolds.{fold-roll-Node, ind-Node}
use Rattle.xq_ast.specs.declared.node.Node.TheShapes.{former-Node-Chain-2, former-Node-Flwor-1, former-Node-Flwor-3, former-Node-Quantified-2, former-Node-Path-1, former-Node-Path-2, former-Node-Element-2, former-Node-Element-3}
use Rattle.xq_ast.specs.declared.node.Part.{Part}
use Rattle.xq_ast.specs.declared.node.Part.TheVariants as part_
use Rattle.xq_ast.specs.declared.node.QuantBind.{QuantBind}
use Rattle.xq_ast.specs.declared.node.Right.{Right}
use Rattle.xq_ast.specs.declared.node.Signed.{Signed}
use Rattle.xq_ast.specs.declared.node.Slashes.{Slashes}
use Rattle.xq_ast.specs.declared.node.Slashes.TheVariants as slashes_
use Rattle.xq_ast.specs.declared.node.Start.{Start}
use Rattle.xq_ast.specs.declared.node.Start.TheVariants as start_
use Rattle.xq_ast.specs.declared.node.Step.{Step}
use Rattle.xq_ast.specs.declared.node.StepKind.{StepKind}
use Rattle.xq_ast.specs.declared.node.StepKind.TheVariants as step_
use Rattle.xq_ast.specs.declared.node.ValuePart.{ValuePart}
use Rattle.xq_ast.specs.declared.node.ValuePart.TheVariants as value_
use Rattle.xq_ast.specs.declared.query.Declaration.TheVariants as declaration_
use Rattle.core_scope.specs.Syn.{Syn, Syns, Maybe, Keys, Attributes, Values, Parts, resolved}
use Rattle.core_scope.specs.Syn as s
use Rattle.core_scope.specs.Erasure.{syns_of, to_left, with_signs, start_of, behind_of, primary_from, with_predicates, test_of, node_of, step_from}
use Rattle.core_scope.specs.Erasure as e
use Rattle.core_scope.specs.Leaves.{ResolvedTree, resolved_leaves, syn_resolved}
use Rattle.core_normal.specs.Calls.{calls_in, calls_all, calls_maybe, calls_binds, calls_keys, calls_attributes, calls_values, calls_parts}
use Rattle.core_normal.specs.Ordered.{main_calls}
use Rattle.core_normal.specs.Measuring.{Declarations, declarations}
use Rattle.core_normal.specs.Order.{variable_calls}
use Rattle.core_normal.specs.Finding as f
use Rattle.core_normal.specs.Finding.{Finds, with_calls}

-- nothing more, and one part behind another
none_more : (found : List ℕ) → found ≡ found ++ []
none_more found = sym (append-nil found)

behind : {a b : List ℕ} (found l m : List ℕ) → a ≡ found ++ l → b ≡ a ++ m → b ≡ found ++ (l ++ m)
behind found l m p q = q ∙ ap (λ u. u ++ m) p ∙ append_assoc found l m

abbrev first_values : {A : Type 0} → List (Attribute TextId TextId A) → List (ValuePart TextId A)
first_values [] = []
first_values (x ∷ xs) = x.value

abbrev first_syn : Attributes resolved → Values resolved
first_syn s.no_attributes = s.no_values
first_syn (s.attribute o m vs as') = vs

module _ (t : Texts) where
  -- the code finds the calls of an expression
  abbrev pub Found : ResolvedTree → Type 0
  Found w = (found : List ℕ) → with_calls w found ≡ found ++ calls_in (syn_resolved t w)

  abbrev Such : Type 0
  Such = (w : ResolvedTree) × Found w

  abbrev syn : Such → Syn resolved
  syn w = syn_resolved t w.0

  abbrev finds_all : List Such → List Finds
  finds_all xs = map with_calls (map (λ w. w.0) xs)

  abbrev syns : List Such → Syns resolved
  syns xs = syns_of (map (syn_resolved t) (map (λ w. w.0) xs))

  every_found : (xs : List Such) (found : List ℕ) → f.every (λ x. x) (finds_all xs) found ≡ found ++ calls_all (syns xs)
  unfolding calls_in
  every_found [] found = none_more found
  every_found (x ∷ xs) found = behind found (calls_in (syn x)) (calls_all (syns xs)) (x.1 found) (every_found xs (with_calls x.0 found))

  abbrev finds_rights : List (Right Such) → List (Right Finds)
  finds_rights xs =
      (former-Node-Chain-2 AsResolved TextId ℕ Callee SeqType AtomKind ℤ CodeRun TextId).map ResolvedTree Finds with_calls
      ((former-Node-Chain-2 AsResolved TextId ℕ Callee SeqType AtomKind ℤ CodeRun TextId).map Such ResolvedTree (λ w. w.0) xs)

  abbrev syn_rights : List (Right Such) → List (Right (Syn resolved))
  syn_rights xs =
      (former-Node-Chain-2 AsResolved TextId ℕ Callee SeqType AtomKind ℤ CodeRun TextId).map ResolvedTree (Syn resolved) (syn_resolved t)
      ((former-Node-Chain-2 AsResolved TextId ℕ Callee SeqType AtomKind ℤ CodeRun TextId).map Such ResolvedTree (λ w. w.0) xs)

  operands_found : (i : ℕ) (bs : List (Right Such)) (a : Syn resolved) (before found : List ℕ) → found ≡ before ++ calls_in a →
      f.operands (λ x. x) (finds_rights bs) found ≡ before ++ calls_in (to_left i a (syn_rights bs))
  unfolding calls_in
  operands_found i [] a before found p = p
  operands_found i (b ∷ bs) a before found p =
      operands_found i bs (s.binary i b.operator a (syn b.operand)) before (with_calls b.operand.0 found) (behind before (calls_in a) (calls_in (syn b.operand)) p (b.operand.1 found))

  signs_found : (gs : List Signed) (a : Syn resolved) → calls_in (with_signs gs a) ≡ calls_in a
  unfolding calls_in
  signs_found [] a = refl
  signs_found (g ∷ gs) a = signs_found gs a

  abbrev finds_quant : List (QuantBind ℕ SeqType Such) → List (QuantBind ℕ SeqType Finds)
  finds_quant xs =
      (former-Node-Quantified-2 AsResolved TextId ℕ Callee SeqType AtomKind ℤ CodeRun TextId).map ResolvedTree Finds with_calls
      ((former-Node-Quantified-2 AsResolved TextId ℕ Callee SeqType AtomKind ℤ CodeRun TextId).map Such ResolvedTree (λ w. w.0) xs)

  abbrev syn_quant : List (QuantBind ℕ SeqType Such) → List (QuantBind ℕ SeqType (Syn resolved))
  syn_quant xs =
      (former-Node-Quantified-2 AsResolved TextId ℕ Callee SeqType AtomKind ℤ CodeRun TextId).map ResolvedTree (Syn resolved) (syn_resolved t)
      ((former-Node-Quantified-2 AsResolved TextId ℕ Callee SeqType AtomKind ℤ CodeRun TextId).map Such ResolvedTree (λ w. w.0) xs)

  quant_found : (bs : List (QuantBind ℕ SeqType Such)) (found : List ℕ) → f.quant_binds (λ x. x) (finds_quant bs) found ≡ found ++ calls_binds (e.quant_binds_of (resolved_leaves t) (syn_quant bs))
  unfolding calls_in
  quant_found [] found = none_more found
  quant_found (b ∷ bs) found = behind found (calls_in (syn b.source)) _ (b.source.1 found) (quant_found bs (with_calls b.source.0 found))

  abbrev finds_clauses : List (Clause ℕ SeqType Such) → List (Clause ℕ SeqType Finds)
  finds_clauses xs =
      (former-Node-Flwor-1 AsResolved TextId ℕ Callee SeqType AtomKind ℤ CodeRun TextId).map ResolvedTree Finds with_calls
      ((former-Node-Flwor-1 AsResolved TextId ℕ Callee SeqType AtomKind ℤ CodeRun TextId).map Such ResolvedTree (λ w. w.0) xs)

  abbrev syn_clauses : List (Clause ℕ SeqType Such) → List (Clause ℕ SeqType (Syn resolved))
  syn_clauses xs =
      (former-Node-Flwor-1 AsResolved TextId ℕ Callee SeqType AtomKind ℤ CodeRun TextId).map ResolvedTree (Syn resolved) (syn_resolved t)
      ((former-Node-Flwor-1 AsResolved TextId ℕ Callee SeqType AtomKind ℤ CodeRun TextId).map Such ResolvedTree (λ w. w.0) xs)

  abbrev ClausesFound : List (Clause ℕ SeqType Such) → Type 0
  ClausesFound cs = (found : List ℕ) → f.clauses (λ x. x) (finds_clauses cs) found ≡ found ++ calls_binds (e.clauses_of (resolved_leaves t) (syn_clauses cs))

  for_found : (bs : List (ForBind ℕ SeqType Such)) (cs : List (Clause ℕ SeqType Such)) → ClausesFound cs → ClausesFound (clause_.For bs ∷ cs)
  unfolding calls_in
  for_found [] cs k found = k found
  for_found (b ∷ bs) cs k found = behind found (calls_in (syn b.source)) _ (b.source.1 found) (for_found bs cs k (with_calls b.source.0 found))

  let_found : (bs : List (LetBind ℕ SeqType Such)) (cs : List (Clause ℕ SeqType Such)) → ClausesFound cs → ClausesFound (clause_.Let bs ∷ cs)
  unfolding calls_in
  let_found [] cs k found = k found
  let_found (b ∷ bs) cs k found = behind found (calls_in (syn b.value)) _ (b.value.1 found) (let_found bs cs k (with_calls b.value.0 found))

  clauses_found : (cs : List (Clause ℕ SeqType Such)) → ClausesFound cs
  unfolding calls_in
  clauses_found [] found = none_more found
  clauses_found (clause_.For bs ∷ cs) found = for_found bs cs (clauses_found cs) found
  clauses_found (clause_.Let bs ∷ cs) found = let_found bs cs (clauses_found cs) found

  abbrev finds_keys : List (Key Such) → List (Key Finds)
  finds_keys xs =
      (former-Node-Flwor-3 AsResolved TextId ℕ Callee SeqType AtomKind ℤ CodeRun TextId).map ResolvedTree Finds with_calls
      ((former-Node-Flwor-3 AsResolved TextId ℕ Callee SeqType AtomKind ℤ CodeRun TextId).map Such ResolvedTree (λ w. w.0) xs)

  abbrev syn_keys : List (Key Such) → Keys resolved
  syn_keys xs =
      e.keys_of
      ((former-Node-Flwor-3 AsResolved TextId ℕ Callee SeqType AtomKind ℤ CodeRun TextId).map ResolvedTree (Syn resolved) (syn_resolved t)
      ((former-Node-Flwor-3 AsResolved TextId ℕ Callee SeqType AtomKind ℤ CodeRun TextId).map Such ResolvedTree (λ w. w.0) xs))

  keys_found : (ks : List (Key Such)) (found : List ℕ) → f.keys (λ x. x) (finds_keys ks) found ≡ found ++ calls_keys (syn_keys ks)
  unfolding calls_in
  keys_found [] found = none_more found
  keys_found (k ∷ ks) found = behind found (calls_in (syn k.key)) _ (k.key.1 found) (keys_found ks (with_calls k.key.0 found))

  -- paths: what stands before a step, and the step
  start_found : (x : Start) (found : List ℕ) → found ≡ found ++ calls_maybe (start_of x)
  unfolding calls_in
  start_found start_.Here found = none_more found
  start_found (start_.Root i) found = none_more found
  start_found (start_.Deep i) found = none_more found

  slashes_found : (x : Slashes) (a : Syn resolved) → calls_in a ≡ calls_in (behind_of x a)
  unfolding calls_in
  slashes_found slashes_.One a = refl
  slashes_found (slashes_.Two i) a = none_more (calls_in a)

  abbrev finds_step : Step TextId Such → Step TextId Finds
  finds_step x =
      (former-Node-Path-1 AsResolved TextId ℕ Callee SeqType AtomKind ℤ CodeRun TextId).map ResolvedTree Finds with_calls
      ((former-Node-Path-1 AsResolved TextId ℕ Callee SeqType AtomKind ℤ CodeRun TextId).map Such ResolvedTree (λ w. w.0) x)

  abbrev syn_step : Step TextId Such → Step TextId (Syn resolved)
  syn_step x =
      (former-Node-Path-1 AsResolved TextId ℕ Callee SeqType AtomKind ℤ CodeRun TextId).map ResolvedTree (Syn resolved) (syn_resolved t)
      ((former-Node-Path-1 AsResolved TextId ℕ Callee SeqType AtomKind ℤ CodeRun TextId).map Such ResolvedTree (λ w. w.0) x)

  walk_found : (i : ℕ) (axis : Axis) (test : Test TextId) (qs : List Such) (m : Maybe resolved) (before found : List ℕ) → found ≡ before ++ calls_maybe m →
      f.every (λ x. x) (finds_all qs) found ≡ before ++ calls_in (s.step i axis (test_of (text_in t) test) m (syns qs))
  unfolding calls_in
  walk_found i axis test qs m before found p = behind before (calls_maybe m) (calls_all (syns qs)) p (every_found qs found)

  filtered_found : (i : ℕ) (x : Such) (qs : List Such) (found : List ℕ) →
      f.every (λ y. y) (finds_all qs) (with_calls x.0 found) ≡ found ++ calls_in (with_predicates i (syn x) (syns qs))
  unfolding calls_in
  filtered_found i x [] found = x.1 found
  filtered_found i x (q ∷ qs) found = behind found (calls_in (syn x)) (calls_all (syns (q ∷ qs))) (x.1 found) (every_found (q ∷ qs) (with_calls x.0 found))

  primary_found : (i : ℕ) (x : Such) (qs : List Such) (m : Maybe resolved) (before found : List ℕ) → found ≡ before ++ calls_maybe m →
      f.every (λ y. y) (finds_all qs) (with_calls x.0 found) ≡ before ++ calls_in (primary_from i m (with_predicates i (syn x) (syns qs)))
  unfolding calls_in
  primary_found i x qs s.absent before found p =
      filtered_found i x qs found ∙ ap (λ u. u ++ calls_in (with_predicates i (syn x) (syns qs))) (p ∙ append-nil before)
  primary_found i x qs (s.present a) before found p = behind before (calls_in a) (calls_in (with_predicates i (syn x) (syns qs))) p (filtered_found i x qs found)

  kind_found : (x : Step TextId Such) (k : StepKind TextId Such) → x.kind ≡ k → (m : Maybe resolved) (before found : List ℕ) → found ≡ before ++ calls_maybe m →
      f.step (λ y. y) (finds_step x) found ≡ before ++ calls_in (step_from (resolved_leaves t) m (syn_step x))
  kind_found x (step_.Walk axis test) is m before found p = rw is (walk_found x.offset axis test x.predicates m before found p)
  kind_found x (step_.Primary y) is m before found p = rw is (primary_found x.offset y x.predicates m before found p)

  step_found : (x : Step TextId Such) (m : Maybe resolved) (before found : List ℕ) → found ≡ before ++ calls_maybe m →
      f.step (λ y. y) (finds_step x) found ≡ before ++ calls_in (step_from (resolved_leaves t) m (syn_step x))
  step_found x m before found p = kind_found x x.kind refl m before found p

  abbrev finds_behinds : List (Behind TextId Such) → List (Behind TextId Finds)
  finds_behinds xs =
      (former-Node-Path-2 AsResolved TextId ℕ Callee SeqType AtomKind ℤ CodeRun TextId).map ResolvedTree Finds with_calls
      ((former-Node-Path-2 AsResolved TextId ℕ Callee SeqType AtomKind ℤ CodeRun TextId).map Such ResolvedTree (λ w. w.0) xs)

  abbrev syn_behinds : List (Behind TextId Such) → List (Behind TextId (Syn resolved))
  syn_behinds xs =
      (former-Node-Path-2 AsResolved TextId ℕ Callee SeqType AtomKind ℤ CodeRun TextId).map ResolvedTree (Syn resolved) (syn_resolved t)
      ((former-Node-Path-2 AsResolved TextId ℕ Callee SeqType AtomKind ℤ CodeRun TextId).map Such ResolvedTree (λ w. w.0) xs)

  -- a step behind others, and then the rest
  abbrev RestFound : List (Behind TextId Such) → List ℕ → Type 0
  RestFound bs before =
      (a : Syn resolved) (found : List ℕ) → found ≡ before ++ calls_in a → f.steps (λ y. y) (finds_behinds bs) found ≡ before ++ calls_in (e.path_of (resolved_leaves t) a (syn_behinds bs))

  next_found : (b : Behind TextId Such) (bs : List (Behind TextId Such)) (before : List ℕ) (k : StepKind TextId Such) → b.step.kind ≡ k → RestFound bs before → RestFound (b ∷ bs) before
  unfolding calls_in
  next_found b bs before (step_.Walk axis test) is rest a found p =
      rw is (rest _ _ (walk_found b.step.offset axis test b.step.predicates (s.present (behind_of b.slashes a)) before found (p ∙ ap (λ u. before ++ u) (slashes_found b.slashes a))))
  next_found b bs before (step_.Primary y) is rest a found p =
      rw is (rest _ _ (primary_found b.step.offset y b.step.predicates (s.present (behind_of b.slashes a)) before found (p ∙ ap (λ u. before ++ u) (slashes_found b.slashes a))))

  steps_found : (bs : List (Behind TextId Such)) (before : List ℕ) → RestFound bs before
  steps_found [] before a found p = p
  steps_found (b ∷ bs) before a found p = next_found b bs before b.step.kind refl (steps_found bs before) a found p

  -- attributes and content
  abbrev finds_attributes : List (Attribute TextId TextId Such) → List (Attribute TextId TextId Finds)
  finds_attributes xs =
      (former-Node-Element-2 AsResolved TextId ℕ Callee SeqType AtomKind ℤ CodeRun TextId).map ResolvedTree Finds with_calls
      ((former-Node-Element-2 AsResolved TextId ℕ Callee SeqType AtomKind ℤ CodeRun TextId).map Such ResolvedTree (λ w. w.0) xs)

  abbrev syn_attributes : List (Attribute TextId TextId Such) → Attributes resolved
  syn_attributes xs =
      e.attributes_of (resolved_leaves t)
      ((former-Node-Element-2 AsResolved TextId ℕ Callee SeqType AtomKind ℤ CodeRun TextId).map ResolvedTree (Syn resolved) (syn_resolved t)
      ((former-Node-Element-2 AsResolved TextId ℕ Callee SeqType AtomKind ℤ CodeRun TextId).map Such ResolvedTree (λ w. w.0) xs))

  abbrev finds_values : Name TextId → List (ValuePart TextId Such) → List (ValuePart TextId Finds)
  finds_values n vs = first_values (finds_attributes (record { name = n; value = vs } ∷ []))

  abbrev syn_values : Name TextId → List (ValuePart TextId Such) → Values resolved
  syn_values n vs = first_syn (syn_attributes (record { name = n; value = vs } ∷ []))

  values_found : (n : Name TextId) (vs : List (ValuePart TextId Such)) (found : List ℕ) → f.values (λ x. x) (finds_values n vs) found ≡ found ++ calls_values (syn_values n vs)
  unfolding calls_in
  values_found n [] found = none_more found
  values_found n (value_.Run at w ∷ vs) found = values_found n vs found
  values_found n (value_.Brace at x ∷ vs) found = behind found (calls_in (syn x)) _ (x.1 found) (values_found n vs (with_calls x.0 found))

  attributes_found : (as' : List (Attribute TextId TextId Such)) (found : List ℕ) → f.attributes (λ x. x) (finds_attributes as') found ≡ found ++ calls_attributes (syn_attributes as')
  unfolding calls_in
  attributes_found [] found = none_more found
  attributes_found (a ∷ as') found =
      behind found (calls_values (syn_values a.name a.value)) _ (values_found a.name a.value found) (attributes_found as' (f.values (λ x. x) (finds_values a.name a.value) found))

  abbrev finds_parts : List (Part CodeRun Such) → List (Part CodeRun Finds)
  finds_parts xs =
      (former-Node-Element-3 AsResolved TextId ℕ Callee SeqType AtomKind ℤ CodeRun TextId).map ResolvedTree Finds with_calls
      ((former-Node-Element-3 AsResolved TextId ℕ Callee SeqType AtomKind ℤ CodeRun TextId).map Such ResolvedTree (λ w. w.0) xs)

  abbrev syn_parts : List (Part CodeRun Such) → Parts resolved
  syn_parts xs =
      e.parts_of (resolved_leaves t)
      ((former-Node-Element-3 AsResolved TextId ℕ Callee SeqType AtomKind ℤ CodeRun TextId).map ResolvedTree (Syn resolved) (syn_resolved t)
      ((former-Node-Element-3 AsResolved TextId ℕ Callee SeqType AtomKind ℤ CodeRun TextId).map Such ResolvedTree (λ w. w.0) xs))

  parts_found : (ps : List (Part CodeRun Such)) (found : List ℕ) → f.parts (λ x. x) (finds_parts ps) found ≡ found ++ calls_parts (syn_parts ps)
  unfolding calls_in
  parts_found [] found = none_more found
  parts_found (part_.Run at r ∷ ps) found = parts_found ps found
  parts_found (part_.Brace at x ∷ ps) found = behind found (calls_in (syn x)) _ (x.1 found) (parts_found ps (with_calls x.0 found))
  parts_found (part_.Inner x ∷ ps) found = behind found (calls_in (syn x)) _ (x.1 found) (parts_found ps (with_calls x.0 found))

  -- an expression over those in it
  abbrev firsts : Node-F AsResolved TextId ℕ Callee SeqType AtomKind ℤ CodeRun TextId Such → Node-F AsResolved TextId ℕ Callee SeqType AtomKind ℤ CodeRun TextId ResolvedTree
  firsts y = map-Node AsResolved TextId ℕ Callee SeqType AtomKind ℤ CodeRun TextId Such ResolvedTree (λ w. w.0) y

  abbrev finds_layer : Node-F AsResolved TextId ℕ Callee SeqType AtomKind ℤ CodeRun TextId ResolvedTree → Finds
  finds_layer y = f.layer (map-Node AsResolved TextId ℕ Callee SeqType AtomKind ℤ CodeRun TextId ResolvedTree Finds with_calls y)

  abbrev syn_layer : Node-F AsResolved TextId ℕ Callee SeqType AtomKind ℤ CodeRun TextId ResolvedTree → Syn resolved
  syn_layer y = node_of (resolved_leaves t) AsResolved (map-Node AsResolved TextId ℕ Callee SeqType AtomKind ℤ CodeRun TextId ResolvedTree (Syn resolved) (syn_resolved t) y)

  layer_found : (y : Node-F AsResolved TextId ℕ Callee SeqType AtomKind ℤ CodeRun TextId Such) (found : List ℕ) → finds_layer (firsts y) found ≡ found ++ calls_in (syn_layer (firsts y))
  unfolding calls_in
  layer_found (o.Comma at a es) found = behind found (calls_in (syn a)) (calls_all (syns es)) (a.1 found) (every_found es (with_calls a.0 found))
  layer_found (o.Flwor at cs None ks a) found =
      behind found _ (calls_in (syn a)) (behind found _ (calls_keys (syn_keys ks)) (behind found _ [] (clauses_found cs found) (none_more _)) (keys_found ks _)) (a.1 _)
  layer_found (o.Flwor at cs (Some w) ks a) found =
      behind found _ (calls_in (syn a)) (behind found _ (calls_keys (syn_keys ks)) (behind found _ (calls_in (syn w)) (clauses_found cs found) (w.1 _)) (keys_found ks _)) (a.1 _)
  layer_found (o.Quantified at q bs a) found = behind found _ (calls_in (syn a)) (quant_found bs found) (a.1 _)
  layer_found (o.If at a b d) found = behind found _ (calls_in (syn d)) (behind found _ (calls_in (syn b)) (a.1 found) (b.1 _)) (d.1 _)
  layer_found (o.Chain at a bs) found = operands_found at bs (syn a) found (with_calls a.0 found) (a.1 found)
  layer_found (o.Signed at gs a) found = a.1 found ∙ ap (λ u. found ++ u) (sym (signs_found gs (syn a)))
  layer_found (o.Instance at a ty) found = a.1 found
  layer_found (o.Treat at a ty) found = a.1 found
  layer_found (o.Castable at a k m) found = a.1 found
  layer_found (o.Cast at a k m) found = a.1 found
  layer_found (o.Root at) found = none_more found
  layer_found (o.Path from' x bs) found = steps_found bs found _ _ (step_found x (start_of from') found found (start_found from' found))
  layer_found (o.Integer at n) found = none_more found
  layer_found (o.Text at x) found = none_more found
  layer_found (o.Var at v) found = none_more found
  layer_found (o.Paren at None) found = none_more found
  layer_found (o.Paren at (Some a)) found = a.1 found
  layer_found (o.Dot at) found = none_more found
  layer_found (o.Call at g es) found = behind found _ (calls_all (syns es)) refl (every_found es _)
  layer_found (o.Build at k name_.Absent None) found = none_more found
  layer_found (o.Build at k name_.Absent (Some a)) found = a.1 found
  layer_found (o.Build at k (name_.Named n) None) found = none_more found
  layer_found (o.Build at k (name_.Named n) (Some a)) found = a.1 found
  layer_found (o.Build at k (name_.Computed x) None) found = behind found (calls_in (syn x)) [] (x.1 found) (none_more _)
  layer_found (o.Build at k (name_.Computed x) (Some a)) found = behind found (calls_in (syn x)) (calls_in (syn a)) (x.1 found) (a.1 _)
  layer_found (o.Element at n as' ps) found = behind found _ (calls_parts (syn_parts ps)) (attributes_found as' found) (parts_found ps _)
  layer_found (o.Comment at x) found = none_more found
  layer_found (o.Instruction at n x) found = none_more found

  rolled : (x : Node-F AsResolved TextId ℕ Callee SeqType AtomKind ℤ CodeRun TextId ResolvedTree) → ((found : List ℕ) → finds_layer x found ≡ found ++ calls_in (syn_layer x)) →
      Found (roll-Node AsResolved TextId ℕ Callee SeqType AtomKind ℤ CodeRun TextId x)
  rolled x p found =
      ap (λ g. g found) (fold-roll-Node AsResolved TextId ℕ Callee SeqType AtomKind ℤ CodeRun TextId Finds f.layer x) ∙ p found
      ∙ ap (λ u. found ++ calls_in u) (sym (fold-roll-Node AsResolved TextId ℕ Callee SeqType AtomKind ℤ CodeRun TextId (Syn resolved) (node_of (resolved_leaves t) AsResolved) x))

  pub calls_found : (w : ResolvedTree) → Found w
  calls_found = ind-Node AsResolved TextId ℕ Callee SeqType AtomKind ℤ CodeRun TextId Found
      (λ w y is. subst (λ x. Found (roll-Node AsResolved TextId ℕ Callee SeqType AtomKind ℤ CodeRun TextId x)) is (rolled (firsts y) (layer_found y)))

  -- of the prolog's variables, and then of the main expression
  variables_found : (ds : Declarations) (found rest : List ℕ) → variable_calls ds found ++ rest ≡ found ++ main_calls (declarations t ds) rest
  variables_found [] found rest = refl
  variables_found (declaration_.Var at x ty w ∷ ds) found rest =
      variables_found ds (with_calls w found) rest ∙ ap (λ u. u ++ main_calls (declarations t ds) rest) (calls_found w found)
      ∙ append_assoc found (calls_in (syn_resolved t w)) (main_calls (declarations t ds) rest)
  variables_found (declaration_.Fun at x ps ty w ∷ ds) found rest = variables_found ds found rest

  pub main_found : (ds : Declarations) (w : ResolvedTree) → with_calls w (variable_calls ds []) ≡ main_calls (declarations t ds) (calls_in (syn_resolved t w))
  main_found ds w = calls_found w (variable_calls ds []) ∙ variables_found ds [] (calls_in (syn_resolved t w))
