-- The size of each form as the code finds it, by those of its parts.
use Rattle.std.proofs.Common.{◌≡◌, refl, sym, ap, ◌∙◌, arith, ℕ, ℤ, Bool, List, [], ◌∷◌, length, map, zero, suc, min, ◌≤◌, drop, ◌&&◌, false, true, Option, Some, None, is_some, slice_get}
use Rattle.xq_base.specs.declared.fun.AtomKind.{AtomKind}
use Rattle.xq_base.specs.declared.item.TextId.{TextId}
use Rattle.xq_base.specs.declared.fun.Fun.{Fun}
use Rattle.xq_base.specs.declared.axis.Axis.{Axis}
use Rattle.xq_ast.specs.declared.leaf.Callee.{Callee}
use Rattle.xq_ast.specs.declared.leaf.Callee.TheVariants as callee
use Rattle.xq_ast.specs.declared.leaf.Test.{Test}
use Rattle.xq_ast.specs.declared.leaf.Name.{Name}
use Rattle.xq_ast.specs.declared.leaf.Quantifier.{Quantifier}
use Rattle.xq_ast.specs.declared.leaf.SeqType.{SeqType}
use Rattle.xq_ast.specs.declared.leaf.TextRun.{TextRun as CodeRun}
use Rattle.xq_ast.specs.declared.node.AsResolved.{AsResolved}
use Rattle.xq_ast.specs.declared.node.Attribute.{Attribute}
use Rattle.xq_ast.specs.declared.node.Behind.{Behind}
use Rattle.xq_ast.specs.declared.node.Clause.{Clause}
use Rattle.xq_ast.specs.declared.node.Clause.TheVariants as clause_
use Rattle.xq_ast.specs.declared.node.ForBind.{ForBind}
use Rattle.xq_ast.specs.declared.node.Key.{Key}
use Rattle.xq_ast.specs.declared.node.LetBind.{LetBind}
use Rattle.xq_ast.specs.declared.node.Node.TheVariants as n
use Rattle.xq_ast.specs.declared.node.Node.TheOpen as o
use Rattle.xq_ast.specs.declared.node.Node.TheFolds.{fold-roll-Node}
use Rattle.xq_ast.specs.declared.node.Node.TheViews.{rolls-Flwor, rolls-Quantified, rolls-Chain, rolls-Path, rolls-Call, rolls-Element}
use Rattle.xq_ast.specs.declared.node.Node.TheShapes.{former-Node-Chain-2, former-Node-Flwor-1, former-Node-Flwor-3, former-Node-Quantified-2, former-Node-Path-1, former-Node-Path-2, former-Node-Element-2, former-Node-Element-3}
use Rattle.xq_ast.specs.declared.node.Part.{Part}
use Rattle.xq_ast.specs.declared.node.Part.TheVariants as part_
use Rattle.xq_ast.specs.declared.node.QuantBind.{QuantBind}
use Rattle.xq_ast.specs.declared.node.Right.{Right}
use Rattle.xq_ast.specs.declared.node.Start.{Start}
use Rattle.xq_ast.specs.declared.node.Step.{Step}
use Rattle.xq_ast.specs.declared.node.StepKind.{StepKind}
use Rattle.xq_ast.specs.declared.node.StepKind.TheVariants as step_
use Rattle.xq_ast.specs.declared.node.ValuePart.{ValuePart}
use Rattle.xq_ast.specs.declared.node.ValuePart.TheVariants as value_
use Rattle.core_scope.specs.Leaves.{ResolvedTree}
use Rattle.core_normal.specs.declared.sizes.Size.{Size}
use Rattle.core_normal.specs.declared.sizes.Round.{Round}
use Rattle.core_normal.specs.declared.sized.FunSize.{FunSize}
use Rattle.core_normal.specs.Counting as z
use Rattle.core_normal.specs.Counting.{size_of, node_size}

module _ (funs : List FunSize) where
  abbrev mapped_rights : List (Right ResolvedTree) → List (Right Size)
  mapped_rights x = (former-Node-Chain-2 AsResolved TextId ℕ Callee SeqType AtomKind ℤ CodeRun TextId).map ResolvedTree Size (size_of funs) x

  abbrev mapped_clauses : List (Clause ℕ SeqType ResolvedTree) → List (Clause ℕ SeqType Size)
  mapped_clauses x = (former-Node-Flwor-1 AsResolved TextId ℕ Callee SeqType AtomKind ℤ CodeRun TextId).map ResolvedTree Size (size_of funs) x

  abbrev mapped_keys : List (Key ResolvedTree) → List (Key Size)
  mapped_keys x = (former-Node-Flwor-3 AsResolved TextId ℕ Callee SeqType AtomKind ℤ CodeRun TextId).map ResolvedTree Size (size_of funs) x

  abbrev mapped_quant : List (QuantBind ℕ SeqType ResolvedTree) → List (QuantBind ℕ SeqType Size)
  mapped_quant x = (former-Node-Quantified-2 AsResolved TextId ℕ Callee SeqType AtomKind ℤ CodeRun TextId).map ResolvedTree Size (size_of funs) x

  abbrev mapped_step : Step TextId ResolvedTree → Step TextId Size
  mapped_step x = (former-Node-Path-1 AsResolved TextId ℕ Callee SeqType AtomKind ℤ CodeRun TextId).map ResolvedTree Size (size_of funs) x

  abbrev mapped_behinds : List (Behind TextId ResolvedTree) → List (Behind TextId Size)
  mapped_behinds x = (former-Node-Path-2 AsResolved TextId ℕ Callee SeqType AtomKind ℤ CodeRun TextId).map ResolvedTree Size (size_of funs) x

  abbrev mapped_attributes : List (Attribute TextId TextId ResolvedTree) → List (Attribute TextId TextId Size)
  mapped_attributes x = (former-Node-Element-2 AsResolved TextId ℕ Callee SeqType AtomKind ℤ CodeRun TextId).map ResolvedTree Size (size_of funs) x

  abbrev mapped_parts : List (Part CodeRun ResolvedTree) → List (Part CodeRun Size)
  mapped_parts x = (former-Node-Element-3 AsResolved TextId ℕ Callee SeqType AtomKind ℤ CodeRun TextId).map ResolvedTree Size (size_of funs) x

  all_law : (es : List ResolvedTree) → map (λ x. x) (map (size_of funs) es) ≡ map (size_of funs) es
  all_law [] = refl
  all_law (e ∷ es) = ap (λ xs. size_of funs e ∷ xs) (all_law es)

  rights_law : (a : Size) (bs : List (Right ResolvedTree)) → z.operators (λ x. x) a (mapped_rights bs) ≡ z.operators (size_of funs) a bs
  rights_law a [] = refl
  rights_law a (b ∷ bs) = rights_law (z.binary b.operator a (size_of funs b.operand)) bs

  quant_law : (r : Round) (bs : List (QuantBind ℕ SeqType ResolvedTree)) → z.quant_binds (λ x. x) r (mapped_quant bs) ≡ z.quant_binds (size_of funs) r bs
  quant_law r [] = refl
  quant_law r (b ∷ bs) = quant_law (z.bind false (is_some b.ty) r (size_of funs b.source)) bs

  for_law : (is_sorted : Bool) (r : Round) (bs : List (ForBind ℕ SeqType ResolvedTree)) (cs : List (Clause ℕ SeqType ResolvedTree)) →
      z.clauses (λ x. x) is_sorted r (mapped_clauses (clause_.For bs ∷ cs)) ≡ z.clauses (λ x. x) is_sorted (z.for_binds (size_of funs) is_sorted r bs) (mapped_clauses cs)
  for_law is_sorted r [] cs = refl
  for_law is_sorted r (b ∷ bs) cs = for_law is_sorted (z.bind is_sorted (is_some b.ty) r (size_of funs b.source)) bs cs

  let_law : (is_sorted : Bool) (r : Round) (bs : List (LetBind ℕ SeqType ResolvedTree)) (cs : List (Clause ℕ SeqType ResolvedTree)) →
      z.clauses (λ x. x) is_sorted r (mapped_clauses (clause_.Let bs ∷ cs)) ≡ z.clauses (λ x. x) is_sorted (z.let_binds (size_of funs) is_sorted r bs) (mapped_clauses cs)
  let_law is_sorted r [] cs = refl
  let_law is_sorted r (b ∷ bs) cs = let_law is_sorted (z.bind is_sorted (is_some b.ty) r (size_of funs b.value)) bs cs

  clauses_law : (is_sorted : Bool) (r : Round) (cs : List (Clause ℕ SeqType ResolvedTree)) → z.clauses (λ x. x) is_sorted r (mapped_clauses cs) ≡ z.clauses (size_of funs) is_sorted r cs
  clauses_law is_sorted r [] = refl
  clauses_law is_sorted r (clause_.For bs ∷ cs) = for_law is_sorted r bs cs ∙ clauses_law is_sorted (z.for_binds (size_of funs) is_sorted r bs) cs
  clauses_law is_sorted r (clause_.Let bs ∷ cs) = let_law is_sorted r bs cs ∙ clauses_law is_sorted (z.let_binds (size_of funs) is_sorted r bs) cs

  keys_law : (a : Size) (ks : List (Key ResolvedTree)) → z.keys (λ x. x) a (mapped_keys ks) ≡ z.keys (size_of funs) a ks
  keys_law a [] = refl
  keys_law a (k ∷ ks) = keys_law (z.beside a (size_of funs k.key)) ks

  no_arguments : (bs : List Bool) (r : Round) → z.params bs [] r ≡ r
  no_arguments [] r = refl
  no_arguments (b ∷ bs) r = refl

  -- behind the last parameter or argument
  pub params_end : (bs : List Bool) (es : List ResolvedTree) (i : ℕ) (r : Round) → min (length es) (length bs) ≤ i → z.params (drop i bs) (map (size_of funs) (drop i es)) r ≡ r
  params_end [] es zero r h = refl
  params_end [] es (suc i) r h = refl
  params_end (b ∷ bs) [] zero r h = refl
  params_end (b ∷ bs) [] (suc i) r h = no_arguments (drop i bs) r
  params_end (b ∷ bs) (e ∷ es) zero r h = absurd (omega (arith, h))
  params_end (b ∷ bs) (e ∷ es) (suc i) r h = params_end bs es i r (omega (arith, h))

  all_count : (es : List ResolvedTree) → length (map (size_of funs) es) ≡ length es
  all_count [] = refl
  all_count (e ∷ es) = ap suc (all_count es)

  walk_law : (axis : Axis) (test : Test TextId) (before : Option Size) (qs : List ResolvedTree) →
      z.walked (length (map (size_of funs) qs)) before (z.predicates (z.counted axis z.pair) (map (λ y. y) (map (size_of funs) qs))) ≡ z.walked (length qs) before (z.predicates (z.counted axis z.pair) (map (size_of funs) qs))
  walk_law axis test before qs =
      ap (λ k. z.walked k before (z.predicates (z.counted axis z.pair) (map (λ y. y) (map (size_of funs) qs)))) (all_count qs)
      ∙ ap (λ xs. z.walked (length qs) before (z.predicates (z.counted axis z.pair) xs)) (all_law qs)

  step_at : (x : Step TextId ResolvedTree) (before : Option Size) (k : StepKind TextId ResolvedTree) → x.kind ≡ k → z.step (λ y. y) (mapped_step x) before ≡ z.step (size_of funs) x before
  step_at x before (step_.Walk a test) p = rw p (walk_law a test before x.predicates)
  step_at x before (step_.Primary m) p = rw p (ap (λ xs. z.primary before (z.predicates (size_of funs m) xs)) (all_law x.predicates))

  step_law : (x : Step TextId ResolvedTree) (before : Option Size) → z.step (λ y. y) (mapped_step x) before ≡ z.step (size_of funs) x before
  step_law x before = step_at x before x.kind refl

  first_at : (a : Size) (b : Behind TextId ResolvedTree) (bs : List (Behind TextId ResolvedTree)) (k : StepKind TextId ResolvedTree) → b.step.kind ≡ k →
      z.steps (λ y. y) a (mapped_behinds (b ∷ bs)) ≡ z.steps (λ y. y) (z.step (size_of funs) b.step (Some (z.slashes b.slashes a))) (mapped_behinds bs)
  first_at a b bs (step_.Walk x test) p = rw p (ap (λ u. z.steps (λ y. y) u (mapped_behinds bs)) (walk_law x test (Some (z.slashes b.slashes a)) b.step.predicates))
  first_at a b bs (step_.Primary m) p =
      rw p (ap (λ xs. z.steps (λ y. y) (z.primary (Some (z.slashes b.slashes a)) (z.predicates (size_of funs m) xs)) (mapped_behinds bs)) (all_law b.step.predicates))

  steps_law : (a : Size) (bs : List (Behind TextId ResolvedTree)) → z.steps (λ y. y) a (mapped_behinds bs) ≡ z.steps (size_of funs) a bs
  steps_law a [] = refl
  steps_law a (b ∷ bs) = first_at a b bs b.step.kind refl ∙ steps_law (z.step (size_of funs) b.step (Some (z.slashes b.slashes a))) bs

  parts_law : (behind : Bool) (before : Option Size) (ps : List (Part CodeRun ResolvedTree)) → z.parts (λ x. x) behind before (mapped_parts ps) ≡ z.parts (size_of funs) behind before ps
  parts_law behind before [] = refl
  parts_law behind before (part_.Run at r ∷ ps) = parts_law (r.is_boundary && behind) (z.part (size_of funs) (part_.Run at r) behind before) ps
  parts_law behind before (part_.Brace at x ∷ ps) = parts_law true (z.part (size_of funs) (part_.Brace at x) behind before) ps
  parts_law behind before (part_.Inner x ∷ ps) = parts_law false (z.part (size_of funs) (part_.Inner x) behind before) ps

  chain_of : (i : ℕ) (a : ResolvedTree) (bs : List (Right ResolvedTree)) → size_of funs (n.Chain i a bs) ≡ z.operators (size_of funs) (size_of funs a) bs
  chain_of i a bs = ap (size_of funs) (sym (rolls-Chain i a bs)) ∙ fold-roll-Node AsResolved TextId ℕ Callee SeqType AtomKind ℤ CodeRun TextId Size (node_size funs) (o.Chain i a bs) ∙ rights_law (size_of funs a) bs

  pub chain_is : (w : ResolvedTree) (i : ℕ) (a b : ResolvedTree) (xs ys : List (Right ResolvedTree)) (x y : Size) → w ≡ n.Chain i a xs → b ≡ a → x ≡ size_of funs b → ys ≡ xs → y ≡ z.operators (size_of funs) x ys → y ≡ size_of funs w
  chain_is w i a b xs ys x y p q r d e = rw (e, d, r, q, p) (sym (chain_of i a xs))

  quantified_of : (i : ℕ) (k : Quantifier) (bs : List (QuantBind ℕ SeqType ResolvedTree)) (a : ResolvedTree) →
      size_of funs (n.Quantified i k bs a) ≡ z.over_one (z.filled (z.quant_binds (size_of funs) z.bare bs) (z.conditional (size_of funs a) z.leaf z.leaf))
  quantified_of i k bs a = ap (size_of funs) (sym (rolls-Quantified i k bs a)) ∙ fold-roll-Node AsResolved TextId ℕ Callee SeqType AtomKind ℤ CodeRun TextId Size (node_size funs) (o.Quantified i k bs a) ∙ ap (λ r. z.over_one (z.filled r (z.conditional (size_of funs a) z.leaf z.leaf))) (quant_law z.bare bs)

  pub quantified_is : (w : ResolvedTree) (i : ℕ) (k : Quantifier) (a b : ResolvedTree) (xs ys : List (QuantBind ℕ SeqType ResolvedTree)) (x c u v g y : Size) (r : Round) → w ≡ n.Quantified i k xs a → b ≡ a → x ≡ size_of funs b →
      ys ≡ xs → r ≡ z.quant_binds (size_of funs) z.bare ys → u ≡ z.leaf → v ≡ z.leaf → c ≡ z.conditional x u v → g ≡ z.filled r c → y ≡ z.over_one g → y ≡ size_of funs w
  quantified_is w i k a b xs ys x c u v g y r c1 c2 c3 c4 c5 c6 c7 c8 c9 c10 = rw (c10, c9, c8, c6, c7, c5, c4, c3, c2, c1) (sym (quantified_of i k xs a))

  path_of : (m : Start) (x : Step TextId ResolvedTree) (bs : List (Behind TextId ResolvedTree)) → size_of funs (n.Path m x bs) ≡ z.steps (size_of funs) (z.step (size_of funs) x (z.start m)) bs
  path_of m x bs =
      ap (size_of funs) (sym (rolls-Path m x bs)) ∙ fold-roll-Node AsResolved TextId ℕ Callee SeqType AtomKind ℤ CodeRun TextId Size (node_size funs) (o.Path m x bs)
      ∙ ap (λ v. z.steps (λ k. k) v (mapped_behinds bs)) (step_law x (z.start m)) ∙ steps_law (z.step (size_of funs) x (z.start m)) bs

  pub path_is : (w : ResolvedTree) (m : Start) (f : Step TextId ResolvedTree) (xs ys : List (Behind TextId ResolvedTree)) (g : Option Size) (x y : Size) → w ≡ n.Path m f xs → g ≡ z.start m → x ≡ z.step (size_of funs) f g →
      ys ≡ xs → y ≡ z.steps (size_of funs) x ys → y ≡ size_of funs w
  path_is w m f xs ys g x y p q d r e = rw (e, r, d, q, p) (sym (path_of m f xs))

  known_of : (i : ℕ) (f : Fun) (es : List ResolvedTree) → size_of funs (n.Call i (callee.Known f) es) ≡ z.built_in f (length es) (z.all_from z.nothing (map (size_of funs) es))
  known_of i f es = ap (size_of funs) (sym (rolls-Call i (callee.Known f) es)) ∙ fold-roll-Node AsResolved TextId ℕ Callee SeqType AtomKind ℤ CodeRun TextId Size (node_size funs) (o.Call i (callee.Known f) es) ∙ ap (λ k. z.built_in f k (z.all_from z.nothing (map (size_of funs) es))) (all_count es)

  pub known_is : (w : ResolvedTree) (i : ℕ) (k : Callee) (f : Fun) (xs ys : List ResolvedTree) (m : ℕ) (x y : Size) → w ≡ n.Call i k xs → k ≡ callee.Known f → ys ≡ xs → x ≡ z.all_from z.nothing (map (size_of funs) ys) → m ≡ length xs →
      y ≡ z.built_in f m x → y ≡ size_of funs w
  known_is w i k f xs ys m x y p q r d e h = rw (h, e, d, r, p, q) (sym (known_of i f xs))

  declared_of : (i k : ℕ) (es : List ResolvedTree) → size_of funs (n.Call i (callee.Declared k) es) ≡ z.filled (z.params (z.typed_in (slice_get funs k)) (map (size_of funs) es) z.bare) (z.body_in (slice_get funs k))
  declared_of i k es = ap (size_of funs) (sym (rolls-Call i (callee.Declared k) es)) ∙ fold-roll-Node AsResolved TextId ℕ Callee SeqType AtomKind ℤ CodeRun TextId Size (node_size funs) (o.Call i (callee.Declared k) es)

  pub declared_is : (w : ResolvedTree) (i : ℕ) (f : Callee) (k : ℕ) (xs ys : List ResolvedTree) (bs : List Bool) (r : Round) (x y : Size) → w ≡ n.Call i f xs → f ≡ callee.Declared k → ys ≡ xs → bs ≡ z.typed_in (slice_get funs k) →
      r ≡ z.params bs (map (size_of funs) ys) z.bare → x ≡ z.body_in (slice_get funs k) → y ≡ z.filled r x → y ≡ size_of funs w
  declared_is w i f k xs ys bs r x y p q d e h l m = rw (m, l, h, e, d, p, q) (sym (declared_of i k xs))

  abbrev values_in : List (Attribute TextId TextId Size) → List (ValuePart TextId Size)
  values_in [] = []
  values_in (x ∷ xs) = x.value

  values_law : (m : Name TextId) (vs : List (ValuePart TextId ResolvedTree)) (a : Size) →
      z.values (λ x. x) a (values_in (mapped_attributes (record { name = m; value = vs } ∷ []))) ≡ z.values (size_of funs) a vs
  values_law m [] a = refl
  values_law m (value_.Run at w ∷ vs) a = values_law m vs (z.beside a z.leaf)
  values_law m (value_.Brace at x ∷ vs) a = values_law m vs (z.beside a (z.over_one (size_of funs x)))

  count_law : (m : Name TextId) (vs : List (ValuePart TextId ResolvedTree)) → length (values_in (mapped_attributes (record { name = m; value = vs } ∷ []))) ≡ length vs
  count_law m [] = refl
  count_law m (value_.Run at w ∷ vs) = ap suc (count_law m vs)
  count_law m (value_.Brace at x ∷ vs) = ap suc (count_law m vs)

  attributes_law : (before : Option Size) (as' : List (Attribute TextId TextId ResolvedTree)) → z.attributes (λ x. x) before (mapped_attributes as') ≡ z.attributes (size_of funs) before as'
  attributes_law before [] = refl
  attributes_law before (a ∷ as') =
      ap (λ k. z.attributes (λ x. x) (Some (z.appended before (z.attribute (z.value k (z.values (λ x. x) z.nothing (values_in (mapped_attributes (a ∷ [])))))))) (mapped_attributes as')) (count_law a.name a.value)
      ∙ ap (λ v. z.attributes (λ x. x) (Some (z.appended before (z.attribute (z.value (length a.value) v)))) (mapped_attributes as')) (values_law a.name a.value z.nothing)
      ∙ attributes_law (Some (z.appended before (z.attribute (z.value (length a.value) (z.values (size_of funs) z.nothing a.value))))) as'

  element_of : (i : ℕ) (m : Name TextId) (as' : List (Attribute TextId TextId ResolvedTree)) (ps : List (Part CodeRun ResolvedTree)) →
      size_of funs (n.Element i m as' ps) ≡ z.element (z.parts (size_of funs) false (z.attributes (size_of funs) None as') ps)
  element_of i m as' ps =
      ap (size_of funs) (sym (rolls-Element i m as' ps)) ∙ fold-roll-Node AsResolved TextId ℕ Callee SeqType AtomKind ℤ CodeRun TextId Size (node_size funs) (o.Element i m as' ps)
      ∙ ap (λ v. z.element (z.parts (λ k. k) false v (mapped_parts ps))) (attributes_law None as') ∙ ap z.element (parts_law false (z.attributes (size_of funs) None as') ps)

  pub element_is : (w : ResolvedTree) (i : ℕ) (m : Name TextId) (as' bs : List (Attribute TextId TextId ResolvedTree)) (ps qs : List (Part CodeRun ResolvedTree)) (x u : Option Size) (y : Size) →
      w ≡ n.Element i m as' ps → bs ≡ as' → x ≡ z.attributes (size_of funs) None bs → qs ≡ ps → u ≡ z.parts (size_of funs) false x qs → y ≡ z.element u → y ≡ size_of funs w
  element_is w i m as' bs ps qs x u y p q d r e h = rw (h, e, r, d, q, p) (sym (element_of i m as' ps))

  flwor_of : (i : ℕ) (cs : List (Clause ℕ SeqType ResolvedTree)) (w : Option ResolvedTree) (ks : List (Key ResolvedTree)) (a : ResolvedTree) → size_of funs (n.Flwor i cs w ks a) ≡ z.flwor (size_of funs) cs w ks a
  flwor_of i cs None [] a =
      ap (size_of funs) (sym (rolls-Flwor i cs None [] a)) ∙ fold-roll-Node AsResolved TextId ℕ Callee SeqType AtomKind ℤ CodeRun TextId Size (node_size funs) (o.Flwor i cs None [] a)
      ∙ ap (λ r. z.filled r (size_of funs a)) (clauses_law false z.bare cs)
  flwor_of i cs (Some w) [] a =
      ap (size_of funs) (sym (rolls-Flwor i cs (Some w) [] a)) ∙ fold-roll-Node AsResolved TextId ℕ Callee SeqType AtomKind ℤ CodeRun TextId Size (node_size funs) (o.Flwor i cs (Some w) [] a)
      ∙ ap (λ r. z.filled r (z.inside (Some (size_of funs w)) (size_of funs a))) (clauses_law false z.bare cs)
  flwor_of i cs None (k ∷ ks) a =
      ap (size_of funs) (sym (rolls-Flwor i cs None (k ∷ ks) a)) ∙ fold-roll-Node AsResolved TextId ℕ Callee SeqType AtomKind ℤ CodeRun TextId Size (node_size funs) (o.Flwor i cs None (k ∷ ks) a)
      ∙ ap (λ r. z.ordered (z.filled r z.nothing) (z.keys (λ x. x) z.nothing (mapped_keys (k ∷ ks))) (size_of funs a)) (clauses_law true z.bare cs)
      ∙ ap (λ x. z.ordered (z.filled (z.clauses (size_of funs) true z.bare cs) z.nothing) x (size_of funs a)) (keys_law z.nothing (k ∷ ks))
  flwor_of i cs (Some w) (k ∷ ks) a =
      ap (size_of funs) (sym (rolls-Flwor i cs (Some w) (k ∷ ks) a)) ∙ fold-roll-Node AsResolved TextId ℕ Callee SeqType AtomKind ℤ CodeRun TextId Size (node_size funs) (o.Flwor i cs (Some w) (k ∷ ks) a)
      ∙ ap (λ r. z.ordered (z.filled r (z.where_part (Some (size_of funs w)))) (z.keys (λ x. x) z.nothing (mapped_keys (k ∷ ks))) (size_of funs a)) (clauses_law true z.bare cs)
      ∙ ap (λ x. z.ordered (z.filled (z.clauses (size_of funs) true z.bare cs) (z.where_part (Some (size_of funs w)))) x (size_of funs a)) (keys_law z.nothing (k ∷ ks))

  pub flwor_is : (v : ResolvedTree) (i : ℕ) (xs ys : List (Clause ℕ SeqType ResolvedTree)) (w : Option ResolvedTree) (ks ls : List (Key ResolvedTree)) (a b : ResolvedTree) (s : Bool) (m k : ℕ) (r : Round) (u : Option Size) (g x y : Size) →
      v ≡ n.Flwor i xs w ks a → m ≡ length ks → s ≡ z.is_sorted m → ys ≡ xs → r ≡ z.clauses (size_of funs) s z.bare ys → u ≡ z.maybe (size_of funs) w → ls ≡ ks → g ≡ z.keys (size_of funs) z.nothing ls →
      b ≡ a → x ≡ size_of funs b → k ≡ length ks → y ≡ z.loop_size k r u g x → y ≡ size_of funs v
  flwor_is v i xs ys w ks ls a b s m k r u g x y p c1 c2 c3 c4 c5 c6 c7 c8 c9 c10 c11 = rw (c11, c10, c9, c8, c7, c6, c5, c4, c3, c2, c1, p) (sym (flwor_of i xs w ks a))
