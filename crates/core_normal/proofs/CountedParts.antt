-- What the code finds of paths, calls and constructors is their size, ended, where it is that of each part.
use Rattle.std.proofs.Common.{◌≡◌, refl, sym, ap, subst, ℕ, ℤ, ◌&&◌, Bool, true, false, cond, map, length, suc, List, [], ◌∷◌, Option, Some, None}
use Rattle.xq_base.specs.declared.axis.Axis.{Axis}
use Rattle.xq_base.specs.declared.fun.AtomKind.{AtomKind}
use Rattle.xq_base.specs.declared.fun.Fun.{Fun}
use Rattle.xq_base.specs.declared.fun.Fun.TheVariants as fun
use Rattle.xq_base.specs.declared.item.TextId.{TextId}
use Rattle.xq_ast.specs.declared.leaf.Callee.{Callee}
use Rattle.xq_ast.specs.declared.leaf.Name.{Name}
use Rattle.xq_ast.specs.declared.leaf.SeqType.{SeqType}
use Rattle.xq_ast.specs.declared.leaf.Test.{Test}
use Rattle.xq_ast.specs.declared.leaf.TextRun.{TextRun as CodeRun}
use Rattle.xq_ast.specs.declared.node.AsResolved.{AsResolved}
use Rattle.xq_ast.specs.declared.node.Attribute.{Attribute}
use Rattle.xq_ast.specs.declared.node.Behind.{Behind}
use Rattle.xq_ast.specs.declared.node.Node.TheShapes.{former-Node-Path-1, former-Node-Path-2, former-Node-Element-2, former-Node-Element-3}
use Rattle.xq_ast.specs.declared.node.Part.{Part}
use Rattle.xq_ast.specs.declared.node.Part.TheVariants as part_
use Rattle.xq_ast.specs.declared.node.Slashes.{Slashes}
use Rattle.xq_ast.specs.declared.node.Slashes.TheVariants as slashes_
use Rattle.xq_ast.specs.declared.node.Start.{Start}
use Rattle.xq_ast.specs.declared.node.Start.TheVariants as start_
use Rattle.xq_ast.specs.declared.node.Step.{Step}
use Rattle.xq_ast.specs.declared.node.StepKind.{StepKind}
use Rattle.xq_ast.specs.declared.node.StepKind.TheVariants as step_
use Rattle.xq_ast.specs.declared.node.ValuePart.{ValuePart}
use Rattle.xq_ast.specs.declared.node.ValuePart.TheVariants as value_
use Rattle.doc_table.specs.Tree.{text_in}
use Rattle.core_meaning.specs.Erasure.{Texts}
use Rattle.core_scope.specs.Syn.{Syn, Maybe, Attributes, Values, Parts, resolved}
use Rattle.core_scope.specs.Syn as s
use Rattle.core_scope.specs.Erasure.{start_of, behind_of, primary_from, with_predicates, test_of}
use Rattle.core_scope.specs.Erasure as e
use Rattle.core_scope.specs.Leaves.{ResolvedTree, resolved_leaves, syn_resolved}
use Rattle.core_normal.specs.declared.sizes.Size.{Size as Held}
use Rattle.core_normal.specs.declared.sized.FunSize.{FunSize as HeldFun}
use Rattle.core_normal.specs.Sizes.{Size, FunSize, leaf, over, beside, one, all, chain, sequence, value_of, built_in_call, cast_to, of_dot, text_node}
use Rattle.core_normal.specs.Sized as d
use Rattle.core_normal.specs.Sized.{sized}
use Rattle.core_normal.specs.Counting as z
use Rattle.core_normal.specs.Counting.{size_of}
use Rattle.core_normal.specs.Ends.{Ends}
use Rattle.core_normal.proofs.CountedPieces.{alone, alone_behind, beside_later, nothing_ends, leaf_ends, pair_ends, text_node_ends, root_ends, beside_ends, over_ends, over_one_ends, node_ends, selected_ends, each_ends, counted_ends}
use Rattle.core_normal.proofs.CountedLists.{Such, held, syn, held_all, syns, predicates_ends}

-- a part that may be wanting
abbrev pub MaybeEnds : Bool → Option Held → Option Size → Type 0
MaybeEnds must None None = Unit {0}
MaybeEnds must None (Some a) = ⊥
MaybeEnds must (Some h) None = ⊥
MaybeEnds must (Some h) (Some a) = Ends must h a

-- a sequence with these parts so far, then others
abbrev pub follow : Option Size → List Size → Size
follow None rest = sequence rest
follow (Some a) rest = chain a rest

pub record Follows (must : Bool) (before : Option Held) (whole : List Size → Size) : Type 0 where
  pub part : Option Size
  pub ends : MaybeEnds must before part
  pub is : (rest : List Size) → whole rest ≡ follow part rest

module _ {must : Bool} where
  -- calls of built-in functions
  cast_ends : {h : Held} (as' : List Size) → Ends must h (all as') → Ends must (z.over h) (cast_to as')
  cast_ends [] p = over_ends p
  cast_ends {h} (a ∷ []) p = over_ends (subst (λ u. Ends must h u) (alone a) p)
  cast_ends (a ∷ b ∷ as') p = over_ends p

  dot_ends : {h dot : Held} {a : Size} (as' : List Size) → Ends must h (all as') → Ends must dot a → Ends must (z.of_dot (length as') h dot) (of_dot as' a)
  dot_ends [] p q = over_one_ends q
  dot_ends (b ∷ as') p q = over_ends p

  pub built_in_ends : (f : Fun) {h : Held} (as' : List Size) → Ends must h (all as') → Ends must (z.built_in f (length as') h) (built_in_call f as')
  built_in_ends fun.Position as' p = leaf_ends
  built_in_ends fun.Last as' p = leaf_ends
  built_in_ends fun.Error as' p = leaf_ends
  built_in_ends fun.XsInteger as' p = cast_ends as' p
  built_in_ends fun.XsString as' p = cast_ends as' p
  built_in_ends fun.XsBoolean as' p = cast_ends as' p
  built_in_ends fun.XsUntypedAtomic as' p = cast_ends as' p
  built_in_ends fun.Root as' p = dot_ends as' p leaf_ends
  built_in_ends fun.StringOf as' p = dot_ends as' p leaf_ends
  built_in_ends fun.Name as' p = dot_ends as' p leaf_ends
  built_in_ends fun.LocalName as' p = dot_ends as' p leaf_ends
  built_in_ends fun.StringLength as' p = dot_ends as' p (over_one_ends leaf_ends)
  built_in_ends fun.NormalizeSpace as' p = dot_ends as' p (over_one_ends leaf_ends)
  built_in_ends g as' p = over_ends p

  -- the value of an attribute
  pub value_ends : {h : Held} (n : ℕ) (as' : List Size) → n ≡ length as' → Ends must h (all as') → Ends must (z.value n h) (value_of as')
  value_ends {h} n [] e p = subst (λ k. Ends must (z.value k h) leaf) (sym e) leaf_ends
  value_ends {h} n (a ∷ []) e p = subst (λ k. Ends must (z.value k h) a) (sym e) (subst (λ u. Ends must h u) (alone a) p)
  value_ends {h} n (a ∷ b ∷ as') e p = subst (λ k. Ends must (z.value k h) (value_of (a ∷ b ∷ as'))) (sym e) (over_ends p)

  more_at : (before : Option Held) (part : Option Size) (whole : List Size → Size) {h : Held} {a : Size} → MaybeEnds must before part → ((rest : List Size) → whole rest ≡ follow part rest) → Ends must h a →
      Follows must (Some (z.appended before h)) (λ rest. whole (a ∷ rest))
  more_at None None whole {h} {a} p is q = record { part = Some a; ends = q; is = λ rest. is (a ∷ rest) }
  more_at None (Some b) whole p is q = absurd p
  more_at (Some g) None whole p is q = absurd p
  more_at (Some g) (Some b) whole {h} {a} p is q = record { part = Some (over (beside b a)); ends = node_ends p q; is = λ rest. is (a ∷ rest) }

  pub more_follows : {before : Option Held} {whole : List Size → Size} {h : Held} {a : Size} → Follows must before whole → Ends must h a → Follows must (Some (z.appended before h)) (λ rest. whole (a ∷ rest))
  more_follows {before} {whole} p q = more_at before p.part whole p.ends p.is q

  element_at : (before : Option Held) (part : Option Size) (x : Size) → MaybeEnds must before part → x ≡ follow part [] → Ends must (z.element before) (over (beside (one leaf) x))
  element_at None None x p is = subst (λ u. Ends must (z.element None) (over (beside (one leaf) u))) (sym is) (node_ends (beside_ends leaf_ends nothing_ends) leaf_ends)
  element_at None (Some a) x p is = absurd p
  element_at (Some h) None x p is = absurd p
  element_at (Some h) (Some a) x p is = subst (λ u. Ends must (z.element (Some h)) (over (beside (one leaf) u))) (sym is) (node_ends (beside_ends leaf_ends nothing_ends) p)

  pub element_ends : {before : Option Held} {whole : List Size → Size} → Follows must before whole → Ends must (z.element before) (over (beside (one leaf) (whole [])))
  element_ends {before} {whole} p = element_at before p.part (whole []) p.ends (p.is [])

module _ (funs : ℕ → FunSize) where
  abbrev pub maybe_size : Maybe resolved → Option Size
  maybe_size s.absent = None
  maybe_size (s.present a) = Some (sized funs a)

-- the value of the first attribute
abbrev first_held : List (Attribute TextId TextId Held) → List (ValuePart TextId Held)
first_held [] = []
first_held (x ∷ xs) = x.value

abbrev first_syn : Attributes resolved → Values resolved
first_syn s.no_attributes = s.no_values
first_syn (s.attribute o m vs as') = vs

module _ (must : Bool) (table : List HeldFun) (funs : ℕ → FunSize) (t : Texts) where
  pub start_ends : (x : Start) → MaybeEnds must (z.start x) (maybe_size funs (start_of x))
  unfolding sized
  start_ends start_.Here = tt
  start_ends (start_.Root o) = root_ends
  start_ends (start_.Deep o) = over_ends root_ends

  slashes_ends : (x : Slashes) {h : Held} (a : Syn resolved) → Ends must h (sized funs a) → Ends must (z.slashes x h) (sized funs (behind_of x a))
  unfolding sized
  slashes_ends slashes_.One a p = p
  slashes_ends (slashes_.Two o) a p = over_ends p

  abbrev pub held_step : Step TextId (Such must table funs t) → Step TextId Held
  held_step x =
      (former-Node-Path-1 AsResolved TextId ℕ Callee SeqType AtomKind ℤ CodeRun TextId).map ResolvedTree Held (size_of table)
      ((former-Node-Path-1 AsResolved TextId ℕ Callee SeqType AtomKind ℤ CodeRun TextId).map (Such must table funs t) ResolvedTree (λ w. w.0) x)

  abbrev pub syn_step : Step TextId (Such must table funs t) → Step TextId (Syn resolved)
  syn_step x =
      (former-Node-Path-1 AsResolved TextId ℕ Callee SeqType AtomKind ℤ CodeRun TextId).map ResolvedTree (Syn resolved) (syn_resolved t)
      ((former-Node-Path-1 AsResolved TextId ℕ Callee SeqType AtomKind ℤ CodeRun TextId).map (Such must table funs t) ResolvedTree (λ w. w.0) x)

  walk_ends : (o : ℕ) (axis : Axis) (test : Test TextId) (qs : List (Such must table funs t)) (before : Option Held) (m : Maybe resolved) → MaybeEnds must before (maybe_size funs m) →
      Ends must (z.walked (length (held_all must table funs t qs)) before (z.predicates (z.counted axis z.pair) (map (λ y. y) (held_all must table funs t qs)))) (sized funs (s.step o axis (test_of (text_in t) test) m (syns must table funs t qs)))
  unfolding sized
  walk_ends o axis test [] None s.absent p = pair_ends
  walk_ends o axis test qs None (s.present a) p = absurd p
  walk_ends o axis test qs (Some h) s.absent p = absurd p
  walk_ends o axis test [] (Some h) (s.present a) p = over_ends p
  walk_ends o axis test (q ∷ qs) None s.absent p = over_one_ends (predicates_ends must table funs t qs (selected_ends (counted_ends axis pair_ends) q.1))
  walk_ends o axis test (q ∷ qs) (Some h) (s.present a) p = over_one_ends (node_ends p (predicates_ends must table funs t qs (selected_ends (counted_ends axis pair_ends) q.1)))

  primary_ends : (o : ℕ) (x : Such must table funs t) (qs : List (Such must table funs t)) (before : Option Held) (m : Maybe resolved) → MaybeEnds must before (maybe_size funs m) →
      Ends must (z.primary before (z.predicates (held must table funs t x) (map (λ y. y) (held_all must table funs t qs)))) (sized funs (primary_from o m (with_predicates o (syn must table funs t x) (syns must table funs t qs))))
  unfolding sized
  primary_ends o x [] None s.absent p = x.1
  primary_ends o x qs None (s.present a) p = absurd p
  primary_ends o x qs (Some h) s.absent p = absurd p
  primary_ends o x [] (Some h) (s.present a) p = each_ends p x.1
  primary_ends o x (q ∷ qs) None s.absent p = predicates_ends must table funs t qs (selected_ends x.1 q.1)
  primary_ends o x (q ∷ qs) (Some h) (s.present a) p = each_ends p (predicates_ends must table funs t qs (selected_ends x.1 q.1))

  kind_ends : (x : Step TextId (Such must table funs t)) (k : StepKind TextId (Such must table funs t)) → x.kind ≡ k → (before : Option Held) (m : Maybe resolved) → MaybeEnds must before (maybe_size funs m) →
      Ends must (z.step (λ y. y) (held_step x) before) (sized funs (e.step_from (resolved_leaves t) m (syn_step x)))
  kind_ends x (step_.Walk axis test) is before m p = rw is (walk_ends x.offset axis test x.predicates before m p)
  kind_ends x (step_.Primary y) is before m p = rw is (primary_ends x.offset y x.predicates before m p)

  pub step_ends : (x : Step TextId (Such must table funs t)) (before : Option Held) (m : Maybe resolved) → MaybeEnds must before (maybe_size funs m) →
      Ends must (z.step (λ y. y) (held_step x) before) (sized funs (e.step_from (resolved_leaves t) m (syn_step x)))
  step_ends x before m p = kind_ends x x.kind refl before m p

  abbrev pub held_behinds : List (Behind TextId (Such must table funs t)) → List (Behind TextId Held)
  held_behinds xs =
      (former-Node-Path-2 AsResolved TextId ℕ Callee SeqType AtomKind ℤ CodeRun TextId).map ResolvedTree Held (size_of table)
      ((former-Node-Path-2 AsResolved TextId ℕ Callee SeqType AtomKind ℤ CodeRun TextId).map (Such must table funs t) ResolvedTree (λ w. w.0) xs)

  abbrev pub syn_behinds : List (Behind TextId (Such must table funs t)) → List (Behind TextId (Syn resolved))
  syn_behinds xs =
      (former-Node-Path-2 AsResolved TextId ℕ Callee SeqType AtomKind ℤ CodeRun TextId).map ResolvedTree (Syn resolved) (syn_resolved t)
      ((former-Node-Path-2 AsResolved TextId ℕ Callee SeqType AtomKind ℤ CodeRun TextId).map (Such must table funs t) ResolvedTree (λ w. w.0) xs)

  -- a step behind others, and then the rest
  first_ends : {h : Held} (a : Syn resolved) (b : Behind TextId (Such must table funs t)) (bs : List (Behind TextId (Such must table funs t))) (k : StepKind TextId (Such must table funs t)) → b.step.kind ≡ k → Ends must h (sized funs a) →
      ((g : Held) (u : Syn resolved) → Ends must g (sized funs u) → Ends must (z.steps (λ y. y) g (held_behinds bs)) (sized funs (e.path_of (resolved_leaves t) u (syn_behinds bs)))) →
      Ends must (z.steps (λ y. y) h (held_behinds (b ∷ bs))) (sized funs (e.path_of (resolved_leaves t) a (syn_behinds (b ∷ bs))))
  first_ends {h} a b bs (step_.Walk axis test) is p rest =
      rw is (rest _ _ (walk_ends b.step.offset axis test b.step.predicates (Some (z.slashes b.slashes h)) (s.present (behind_of b.slashes a)) (slashes_ends b.slashes a p)))
  first_ends {h} a b bs (step_.Primary y) is p rest =
      rw is (rest _ _ (primary_ends b.step.offset y b.step.predicates (Some (z.slashes b.slashes h)) (s.present (behind_of b.slashes a)) (slashes_ends b.slashes a p)))

  pub steps_end : (bs : List (Behind TextId (Such must table funs t))) {h : Held} (a : Syn resolved) → Ends must h (sized funs a) →
      Ends must (z.steps (λ y. y) h (held_behinds bs)) (sized funs (e.path_of (resolved_leaves t) a (syn_behinds bs)))
  steps_end [] a p = p
  steps_end (b ∷ bs) a p = first_ends a b bs b.step.kind refl p (λ g u q. steps_end bs {h = g} u q)

  -- attributes and content
  abbrev pub held_attributes : List (Attribute TextId TextId (Such must table funs t)) → List (Attribute TextId TextId Held)
  held_attributes xs =
      (former-Node-Element-2 AsResolved TextId ℕ Callee SeqType AtomKind ℤ CodeRun TextId).map ResolvedTree Held (size_of table)
      ((former-Node-Element-2 AsResolved TextId ℕ Callee SeqType AtomKind ℤ CodeRun TextId).map (Such must table funs t) ResolvedTree (λ w. w.0) xs)

  abbrev pub syn_attributes : List (Attribute TextId TextId (Such must table funs t)) → Attributes resolved
  syn_attributes xs =
      e.attributes_of (resolved_leaves t)
      ((former-Node-Element-2 AsResolved TextId ℕ Callee SeqType AtomKind ℤ CodeRun TextId).map ResolvedTree (Syn resolved) (syn_resolved t)
      ((former-Node-Element-2 AsResolved TextId ℕ Callee SeqType AtomKind ℤ CodeRun TextId).map (Such must table funs t) ResolvedTree (λ w. w.0) xs))

  abbrev held_values : Name TextId → List (ValuePart TextId (Such must table funs t)) → List (ValuePart TextId Held)
  held_values n vs = first_held (held_attributes (record { name = n; value = vs } ∷ []))

  abbrev syn_values : Name TextId → List (ValuePart TextId (Such must table funs t)) → Values resolved
  syn_values n vs = first_syn (syn_attributes (record { name = n; value = vs } ∷ []))

  values_end : (n : Name TextId) (vs : List (ValuePart TextId (Such must table funs t))) {h : Held} {a : Size} → Ends must h a →
      Ends must (z.values (λ x. x) h (held_values n vs)) (beside a (all (d.sized_values funs (syn_values n vs))))
  unfolding sized
  values_end n [] {h} {a} p = subst (λ u. Ends must h u) (sym (alone a)) p
  values_end n (value_.Run at w ∷ vs) {h} {a} p =
      subst (λ u. Ends must (z.values (λ x. x) (z.beside h z.leaf) (held_values n vs)) u) (beside_later a leaf (all (d.sized_values funs (syn_values n vs)))) (values_end n vs (beside_ends p leaf_ends))
  values_end n (value_.Brace at x ∷ vs) {h} {a} p =
      subst (λ u. Ends must (z.values (λ y. y) (z.beside h (z.over_one (held must table funs t x))) (held_values n vs)) u)
      (beside_later a (over (one (sized funs (syn must table funs t x)))) (all (d.sized_values funs (syn_values n vs))))
      (values_end n vs (beside_ends p (over_one_ends x.1)))

  values_count : (n : Name TextId) (vs : List (ValuePart TextId (Such must table funs t))) → length (held_values n vs) ≡ length (d.sized_values funs (syn_values n vs))
  unfolding sized
  values_count n [] = refl
  values_count n (value_.Run at w ∷ vs) = ap suc (values_count n vs)
  values_count n (value_.Brace at x ∷ vs) = ap suc (values_count n vs)

  attribute_ends : (n : Name TextId) (vs : List (ValuePart TextId (Such must table funs t))) →
      Ends must (z.attribute (z.value (length (held_values n vs)) (z.values (λ x. x) z.nothing (held_values n vs)))) (over (beside (one leaf) (value_of (d.sized_values funs (syn_values n vs)))))
  attribute_ends n vs =
      node_ends (beside_ends leaf_ends nothing_ends)
      (value_ends (length (held_values n vs)) (d.sized_values funs (syn_values n vs)) (values_count n vs)
      (subst (λ u. Ends must (z.values (λ x. x) z.nothing (held_values n vs)) u) (alone_behind (all (d.sized_values funs (syn_values n vs)))) (values_end n vs nothing_ends)))

  pub attributes_follow : (as' : List (Attribute TextId TextId (Such must table funs t))) {before : Option Held} {whole : List Size → Size} → Follows must before whole →
      Follows must (z.attributes (λ x. x) before (held_attributes as')) (λ rest. whole (d.sized_attributes funs (syn_attributes as') rest))
  unfolding sized
  attributes_follow [] p = p
  attributes_follow (a ∷ as') p = attributes_follow as' (more_follows p (attribute_ends a.name a.value))

  abbrev pub held_parts : List (Part CodeRun (Such must table funs t)) → List (Part CodeRun Held)
  held_parts xs =
      (former-Node-Element-3 AsResolved TextId ℕ Callee SeqType AtomKind ℤ CodeRun TextId).map ResolvedTree Held (size_of table)
      ((former-Node-Element-3 AsResolved TextId ℕ Callee SeqType AtomKind ℤ CodeRun TextId).map (Such must table funs t) ResolvedTree (λ w. w.0) xs)

  abbrev pub syn_parts : List (Part CodeRun (Such must table funs t)) → Parts resolved
  syn_parts xs =
      e.parts_of (resolved_leaves t)
      ((former-Node-Element-3 AsResolved TextId ℕ Callee SeqType AtomKind ℤ CodeRun TextId).map ResolvedTree (Syn resolved) (syn_resolved t)
      ((former-Node-Element-3 AsResolved TextId ℕ Callee SeqType AtomKind ℤ CodeRun TextId).map (Such must table funs t) ResolvedTree (λ w. w.0) xs))

  -- an element whose content ends with these parts, behind what it has so far
  abbrev EndsWith : Bool → List (Part CodeRun (Such must table funs t)) → Option Held → (List Size → Size) → Type 0
  EndsWith behind ps before whole = Ends must (z.element (z.parts (λ x. x) behind before (held_parts ps))) (over (beside (one leaf) (whole (d.sized_parts funs (syn_parts ps) behind))))

  run_ends : (is_boundary behind : Bool) (ps : List (Part CodeRun (Such must table funs t))) (before : Option Held) (whole : List Size → Size) →
      ((b : Option Held) (w : List Size → Size) → Follows must b w → EndsWith (is_boundary && behind) ps b w) → Follows must before whole →
      Ends must (z.element (z.parts (λ x. x) (is_boundary && behind) (cond is_boundary before (Some (z.appended before z.pair))) (held_parts ps)))
      (over (beside (one leaf) (whole (cond is_boundary (d.sized_parts funs (syn_parts ps) (is_boundary && behind)) (text_node ∷ d.sized_parts funs (syn_parts ps) (is_boundary && behind))))))
  run_ends true behind ps before whole k p = k before whole p
  run_ends false behind ps before whole k p = k _ _ (more_follows p text_node_ends)

  brace_ends : (behind : Bool) (x : Such must table funs t) (ps : List (Part CodeRun (Such must table funs t))) (before : Option Held) (whole : List Size → Size) →
      ((b : Option Held) (w : List Size → Size) → Follows must b w → EndsWith true ps b w) → Follows must before whole →
      Ends must (z.element (z.parts (λ y. y) true (cond behind (Some (z.node (z.appended before z.pair) (held must table funs t x))) (Some (z.appended before (held must table funs t x)))) (held_parts ps)))
      (over (beside (one leaf) (whole (cond behind (text_node ∷ sized funs (syn must table funs t x) ∷ d.sized_parts funs (syn_parts ps) true) (sized funs (syn must table funs t x) ∷ d.sized_parts funs (syn_parts ps) true)))))
  brace_ends true x ps before whole k p = k _ _ (more_follows (more_follows p text_node_ends) x.1)
  brace_ends false x ps before whole k p = k _ _ (more_follows p x.1)

  pub parts_end : (ps : List (Part CodeRun (Such must table funs t))) (behind : Bool) (before : Option Held) (whole : List Size → Size) → Follows must before whole → EndsWith behind ps before whole
  unfolding sized
  parts_end [] behind before whole p = element_ends p
  parts_end (part_.Run at r ∷ ps) behind before whole p = run_ends r.is_boundary behind ps before whole (parts_end ps (r.is_boundary && behind)) p
  parts_end (part_.Brace at x ∷ ps) behind before whole p = brace_ends behind x ps before whole (parts_end ps true) p
  parts_end (part_.Inner x ∷ ps) behind before whole p = parts_end ps false _ _ (more_follows p x.1)
