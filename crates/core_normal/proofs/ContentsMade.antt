-- Constructors.
use Rattle.std.proofs.Common.{◌≡◌, refl, sym, ap, ◌∙◌, ℕ, ◌+◌, ◌<◌, ◌≤◌, Bool, true, false, cond, ◌&&◌, List, [], ◌∷◌, ◌++◌, length, drop, get_or, arith, Option, Some, None}
use Rattle.xq_base.specs.declared.fun.Fun.TheVariants as fun
use Rattle.xq_base.specs.declared.item.TextId.{TextId}
use Rattle.doc_table.specs.Tree.{AttributeNode, ElementNode, text_in}
use Rattle.core_meaning.specs.declared.node.Core.{Core}
use Rattle.core_meaning.specs.Erasure.{Texts, core_of}
use Rattle.core_meaning.specs.PlainCore.{PlainCore, PlainCores}
use Rattle.core_meaning.specs.PlainCore as c
use Rattle.xq_ast.specs.declared.leaf.BuildKind.{BuildKind}
use Rattle.xq_ast.specs.declared.leaf.TextRun.{TextRun as CodeRun}
use Rattle.xq_ast.specs.declared.node.Attribute.{Attribute}
use Rattle.xq_ast.specs.declared.node.BuildName.{BuildName as CodeName}
use Rattle.xq_ast.specs.declared.node.BuildName.TheVariants as name_
use Rattle.xq_ast.specs.declared.node.Part.{Part}
use Rattle.xq_ast.specs.declared.node.Part.TheVariants as part_
use Rattle.xq_ast.specs.declared.node.ValuePart.{ValuePart}
use Rattle.xq_ast.specs.declared.node.ValuePart.TheVariants as value_
use Rattle.core_scope.specs.Syn.{Attributes, BuildName, Maybe, Parts, resolved}
use Rattle.core_scope.specs.Syn as s
use Rattle.core_scope.specs.Leaves.{ResolvedTree, syn_resolved}
use Rattle.core_normal.specs.declared.pieces.Context.{Context}
use Rattle.core_normal.specs.declared.bodies.Bodies.{Bodies}
use Rattle.core_normal.specs.declared.bodies.State.{State}
use Rattle.core_normal.specs.Fresh.{Made, Makes, give, ◌▷=◌}
use Rattle.core_normal.specs.Around.{Around}
use Rattle.core_normal.specs.Contents.{behind_part, core_at, joined, joined_all, kept_apart, name_in, named_by, normed_attributes, normed_content, normed_name, normed_parts, normed_values, or_empty, some_in, value_in}
use Rattle.core_normal.specs.Pieces.{chain, node_kind, one, sequence, text_lit, text_node, value_of}
use Rattle.core_normal.specs.Normal.{norm, norm_attributes, norm_content, norm_parts, norm_values}
use Rattle.core_normal.specs.Making.{HasEmpty, Making, MadeBy, SoFar, all_in, before_cores, bodies_in, cores_in, normed}
use Rattle.core_normal.specs.Trees as trees
use Rattle.core_normal.proofs.Folding.{turn, finish, all_left, made_as}
use Rattle.core_normal.proofs.Made.{then_made, given}
use Rattle.core_normal.proofs.NormForms.{made_with}
use Rattle.core_normal.proofs.ListsMade.{before_none, map_more}

-- the value of an attribute with several parts
pub value_many : (t : Texts) (o : ℕ) (parts : List Core) (core : Core) → 1 < length parts → core_of t core ≡ c.Call o fun.Concat (cores_in t parts) → core_of t core ≡ value_of o (cores_in t parts)
value_many t o [] core h q = let none : ⊥ = omega (arith, h) in absurd none
value_many t o (x ∷ []) core h q = let none : ⊥ = omega (arith, h) in absurd none
value_many t o (x ∷ y ∷ ys) core h q = q

-- the first of these before others
abbrev before_first : PlainCores → PlainCores → PlainCores
before_first c.no_cores more = more
before_first (c.one_core a as') more = c.one_core a more

-- what was gathered, part by part
gather_first : (o : ℕ) (e : PlainCore) (es : PlainCores) → chain o e es ≡ or_empty o (joined_all o (Some e) es)
gather_first o e c.no_cores = refl
gather_first o e (c.one_core a as') = gather_first o (c.Seq o e a) as'

gather : (o : ℕ) (es : PlainCores) → sequence o es ≡ or_empty o (joined_all o None es)
gather o c.no_cores = refl
gather o (c.one_core a as') = gather_first o a as'

module _ (p : Bodies) where
  -- the name and the content of a constructor with a word
  pub no_name_made : {s0 : State} {f : Option Context} (n : CodeName TextId ResolvedTree) (o : ℕ) → n ≡ name_.Absent → MadeBy name_in p s0 f (normed_name p (λ t. trees.name t n) o) None s0
  unfolding norm normed_name
  no_name_made n o e = rw e (given _ (λ t z. refl))

  pub written_name_made : {s0 : State} {f : Option Context} (n : CodeName TextId ResolvedTree) (w : _) (o : ℕ) (core : Core) → n ≡ name_.Named w → ((t : Texts) → core_of t core ≡ text_lit o (text_in t w.text)) →
      MadeBy name_in p s0 f (normed_name p (λ t. trees.name t n) o) (Some core) s0
  unfolding norm normed_name
  written_name_made n w o core e q = rw e (given (λ t. one (text_lit o (text_in t w.text))) (λ t z. ap one (q t)))

  pub computed_name_made : {s0 : State} {s1 : State} {f : Option Context} (n : CodeName TextId ResolvedTree) (a v : ResolvedTree) (o : ℕ) (core : Core) → n ≡ name_.Computed a → v ≡ a → MadeBy core_of p s0 f (normed p (λ t. syn_resolved t v)) core s1 →
      MadeBy name_in p s0 f (normed_name p (λ t. trees.name t n) o) (Some core) s1
  unfolding norm normed normed_name
  computed_name_made n a v o core e h i = rw (e, sym h) (then_made (normed p (λ t. syn_resolved t v)) (λ t x r. give (one x)) i (given (λ t. one (core_of t core)) (λ t z. refl)))

  pub no_content_made : {s0 : State} {f : Option Context} (e : Option ResolvedTree) (o : ℕ) (core : Core) → e ≡ None → ((t : Texts) → core_of t core ≡ c.Empty o) → MadeBy core_of p s0 f (normed_content p (λ t. trees.maybe t e) o) core s0
  unfolding norm normed_content
  no_content_made e o core h q = rw h (given (λ t. c.Empty o) (λ t z. q t))

  pub content_made : {s0 : State} {s1 : State} {f : Option Context} (e : Option ResolvedTree) (a v : ResolvedTree) (o : ℕ) (core : Core) → e ≡ Some a → v ≡ a → MadeBy core_of p s0 f (normed p (λ t. syn_resolved t v)) core s1 →
      MadeBy core_of p s0 f (normed_content p (λ t. trees.maybe t e) o) core s1
  unfolding norm normed normed_content
  content_made e a v o core h k i = rw (h, sym k) i

  pub build_made : {s0 : State} {s1 : State} {f : Option Context} {s2 : State} (o : ℕ) (k : BuildKind) (n : Texts → BuildName resolved) (m : Texts → Maybe resolved) (name : Option Core) (content core : Core) →
      MadeBy name_in p s0 f (normed_name p n o) name s1 → MadeBy core_of p s1 f (normed_content p m o) content s2 →
      ((t : Texts) → core_of t core ≡ c.Build o (node_kind k) (named_by (core_at t name)) (core_of t content)) → MadeBy core_of p s0 f (normed p (λ t. s.build o k (n t) (m t))) core s2
  unfolding norm normed normed_name normed_content
  build_made o k n m name content core h i q =
      then_made (normed_name p n o) (λ t x r. norm_content p.base (bodies_in t p) (m t) o r ▷= λ a. give (c.Build o (node_kind k) x a)) h
      (then_made (normed_content p m o) (λ t a r. give (c.Build o (node_kind k) (name_in t name) a)) i
      (given _ (λ t z. q t)))

  -- the parts of an attribute's value
  pub run_value_made : {s0 : State} {f : Option Context} (v : ValuePart TextId ResolvedTree) (at : ℕ) (w : TextId) (o : ℕ) (core : Core) → v ≡ value_.Run at w → ((t : Texts) → core_of t core ≡ text_lit o (text_in t w)) →
      MadeBy value_in p s0 f (normed_values p (λ t. trees.values t (v ∷ [])) o) core s0
  unfolding norm normed_values
  run_value_made v at w o core e q = rw e (given (λ t. one (text_lit o (text_in t w))) (λ t z. ap one (q t)))

  pub brace_value_made : {s0 : State} {s1 : State} {f : Option Context} (v : ValuePart TextId ResolvedTree) (at : ℕ) (a b : ResolvedTree) (o : ℕ) (value core : Core) → v ≡ value_.Brace at a → b ≡ a →
      MadeBy core_of p s0 f (normed p (λ t. syn_resolved t b)) value s1 → ((t : Texts) → core_of t core ≡ c.Call o fun.ContentText (one (core_of t value))) →
      MadeBy value_in p s0 f (normed_values p (λ t. trees.values t (v ∷ [])) o) core s1
  unfolding norm normed normed_values
  brace_value_made v at a b o value core e h i q =
      rw (e, sym h) (then_made (normed p (λ t. syn_resolved t b)) (λ t x r. give (one (c.Call o fun.ContentText (one x)))) i (given _ (λ t z. ap one (q t))))

  pub values_rest : ℕ → List Core → List (ValuePart TextId ResolvedTree) → Making PlainCores
  values_rest o made vs t r = norm_values p.base (bodies_in t p) (trees.values t vs) o r ▷= λ more. give (before_cores (all_in t made) more)

  -- one value stands before the others
  value_front : (o : ℕ) (v : ValuePart TextId ResolvedTree) (vs : List (ValuePart TextId ResolvedTree)) (t : Texts) (r : Around) (n m : ℕ) (x : PlainCore) →
      normed_values p (λ t. trees.values t (v ∷ [])) o t r n ≡ made_with (one x) m →
      norm_values p.base (bodies_in t p) (trees.values t (v ∷ vs)) o r n ≡ (norm_values p.base (bodies_in t p) (trees.values t vs) o r ▷= λ more. give (c.one_core x more)) m
  unfolding norm normed_values
  value_front o (value_.Run at w) vs t r n m x e = ap (λ (u : Made PlainCores). (norm_values p.base (bodies_in t p) (trees.values t vs) o r ▷= λ more. give (before_first u.made more)) u.next) e
  value_front o (value_.Brace at a) vs t r n m x e = ap (λ (u : Made PlainCores). (norm_values p.base (bodies_in t p) (trees.values t vs) o r ▷= λ more. give (before_first u.made more)) u.next) e

  pub values_start : {s0 : State} {f : Option Context} (o : ℕ) (vs : List (ValuePart TextId ResolvedTree)) (made : List Core) → made ≡ [] → SoFar p s0 f (normed_values p (λ t. trees.values t vs) o) (values_rest o made (drop 0 vs)) s0
  unfolding normed_values values_rest
  values_start o vs made e = all_left _ _ (λ t r n z. rw e refl)

  pub values_turn : {s0 : State} {s1 : State} {f : Option Context} {s2 : State} (o : ℕ) (w : Making PlainCores) (vs : List (ValuePart TextId ResolvedTree)) (i : ℕ) (v : ValuePart TextId ResolvedTree) (made more : List Core) (core : Core) →
      i < length vs → v ≡ get_or vs i v → more ≡ made ++ core ∷ [] →
      SoFar p s0 f w (values_rest o made (drop i vs)) s1 → MadeBy value_in p s1 f (normed_values p (λ t. trees.values t (v ∷ [])) o) core s2 → SoFar p s0 f w (values_rest o more (drop (i + 1) vs)) s2
  unfolding values_rest
  values_turn o w vs i v made more core h is m so one =
      turn w (values_rest o) (normed_values p (λ t. trees.values t (v ∷ [])) o) vs i v made more h is
      (λ ys t r n k z e.
      ap (λ (u : Made PlainCores). made_with (before_cores (all_in t made) u.made) u.next) (value_front o v ys t r n k (core_of t core) e)
      ∙ map_more t made more core m (norm_values p.base (bodies_in t p) (trees.values t ys) o r k)) so one

  pub values_end : {s0 : State} {s1 : State} {f : Option Context} (o : ℕ) (w : Making PlainCores) (vs : List (ValuePart TextId ResolvedTree)) (i : ℕ) (made : List Core) → length vs ≤ i → SoFar p s0 f w (values_rest o made (drop i vs)) s1 → MadeBy cores_in p s0 f w made s1
  unfolding norm values_rest
  values_end o w vs i made h so = finish w (values_rest o) vs i made made h (λ t r n z. ap (λ b. made_with b n) (before_none (all_in t made))) so

  -- attributes, one after the other
  attributes_front : (o : ℕ) (e x : Texts → Option PlainCore) (a : Attribute TextId TextId ResolvedTree) (as' : List (Attribute TextId TextId ResolvedTree)) (t : Texts) (r : Around) (n m : ℕ) →
      normed_attributes p o (a ∷ []) e t r n ≡ made_with (x t) m → normed_attributes p o (a ∷ as') e t r n ≡ normed_attributes p o as' x t r m
  unfolding norm normed_attributes
  attributes_front o e x a as' t r n m h =
      ap (λ (u : Made (Option PlainCore)). (norm_attributes p.base (bodies_in t p) (trees.attributes t as') r (λ q. give c.no_cores) ▷= λ es. give (joined_all o u.made es)) u.next) h

  -- parts of content, one after the other
  run_front : (o : ℕ) (e x : Option PlainCore) (node : PlainCore) (b behind : Bool) (ps : Parts resolved) (t : Texts) (r : Around) (n m : ℕ) →
      made_with (joined_all o e (cond b c.no_cores (c.one_core node c.no_cores))) n ≡ made_with x m →
      (norm_parts p.base (bodies_in t p) ps (b && behind) o r ▷= λ more. give (joined_all o e (cond b more (c.one_core node more)))) n
      ≡ (norm_parts p.base (bodies_in t p) ps (b && behind) o r ▷= λ more. give (joined_all o x more)) m
  run_front o e x node true behind ps t r n m h =
      ap (λ (u : Made (Option PlainCore)). (norm_parts p.base (bodies_in t p) ps behind o r ▷= λ more. give (joined_all o u.made more)) u.next) h
  run_front o e x node false behind ps t r n m h =
      ap (λ (u : Made (Option PlainCore)). (norm_parts p.base (bodies_in t p) ps false o r ▷= λ more. give (joined_all o u.made more)) u.next) h

  brace_front : (o : ℕ) (e x : Option PlainCore) (a : Made PlainCore) (behind : Bool) (ps : Parts resolved) (t : Texts) (r : Around) (m : ℕ) →
      made_with (joined_all o e (cond behind (c.one_core (text_node o []) (c.one_core a.made c.no_cores)) (c.one_core a.made c.no_cores))) a.next ≡ made_with x m →
      (norm_parts p.base (bodies_in t p) ps true o r ▷= λ more. give (joined_all o e (cond behind (c.one_core (text_node o []) (c.one_core a.made more)) (c.one_core a.made more)))) a.next
      ≡ (norm_parts p.base (bodies_in t p) ps true o r ▷= λ more. give (joined_all o x more)) m
  brace_front o e x a true ps t r m h =
      ap (λ (u : Made (Option PlainCore)). (norm_parts p.base (bodies_in t p) ps true o r ▷= λ more. give (joined_all o u.made more)) u.next) h
  brace_front o e x a false ps t r m h =
      ap (λ (u : Made (Option PlainCore)). (norm_parts p.base (bodies_in t p) ps true o r ▷= λ more. give (joined_all o u.made more)) u.next) h

  parts_front : (o : ℕ) (e x : Texts → Option PlainCore) (y : Part CodeRun ResolvedTree) (behind : Bool) (ps : List (Part CodeRun ResolvedTree)) (t : Texts) (r : Around) (n m : ℕ) →
      normed_parts p o (y ∷ []) behind e t r n ≡ made_with (x t) m → normed_parts p o (y ∷ ps) behind e t r n ≡ normed_parts p o ps (behind_part y behind) x t r m
  unfolding norm normed_parts
  parts_front o e x (part_.Run at w) behind ps t r n m h = run_front o (e t) (x t) (text_node o (text_in t w.text)) w.is_boundary behind (trees.parts t ps) t r n m h
  parts_front o e x (part_.Brace at a) behind ps t r n m h = brace_front o (e t) (x t) (norm p.base (bodies_in t p) (syn_resolved t a) r n) behind (trees.parts t ps) t r m h
  parts_front o e x (part_.Inner a) behind ps t r n m h =
      ap (λ (u : Made (Option PlainCore)). (norm_parts p.base (bodies_in t p) (trees.parts t ps) false o r ▷= λ more. give (joined_all o u.made more)) u.next) h

  pub attributes_rest : ℕ → Option Core → List (Attribute TextId TextId ResolvedTree) → Making (Option PlainCore)
  attributes_rest o e as' = normed_attributes p o as' (λ t. core_at t e)

  pub parts_rest : ℕ → Option Core × Bool → List (Part CodeRun ResolvedTree) → Making (Option PlainCore)
  parts_rest o e ps = normed_parts p o ps e.1 (λ t. core_at t e.0)

  pub attribute_made : {s0 : State} {s1 : State} {f : Option Context} (o : ℕ) (a : Attribute TextId TextId ResolvedTree) (vs : List (ValuePart TextId ResolvedTree)) (before : Option Core) (values : List Core) (value one' core : Core) → vs ≡ a.value →
      MadeBy cores_in p s0 f (normed_values p (λ t. trees.values t vs) a.name.offset) values s1 →
      ((t : Texts) → HasEmpty t → core_of t value ≡ value_of a.name.offset (cores_in t values)) →
      ((t : Texts) → core_of t one' ≡ c.Build a.name.offset AttributeNode (one (text_lit a.name.offset (text_in t a.name.text))) (core_of t value)) →
      ((t : Texts) → core_of t core ≡ joined o (core_at t before) (core_of t one')) →
      MadeBy some_in p s0 f (normed_attributes p o (a ∷ []) (λ t. core_at t before)) core s1
  unfolding norm normed_values normed_attributes
  attribute_made o a vs before values value one' core e h v b j =
      made_as _ (λ t r. normed_values p (λ t. trees.values t vs) a.name.offset t r ▷= λ parts. give (Some (joined o (core_at t before) (c.Build a.name.offset AttributeNode (one (text_lit a.name.offset (text_in t a.name.text))) (value_of a.name.offset parts)))))
      (λ t r n z. rw e refl)
      (then_made (normed_values p (λ t. trees.values t vs) a.name.offset)
      (λ t parts r. give (Some (joined o (core_at t before) (c.Build a.name.offset AttributeNode (one (text_lit a.name.offset (text_in t a.name.text))) (value_of a.name.offset parts))))) h
      (given _ (λ t z. ap Some (j t ∙ ap (joined o (core_at t before)) (b t ∙ ap (c.Build a.name.offset AttributeNode (one (text_lit a.name.offset (text_in t a.name.text)))) (v t z))))))

  pub attributes_start : {s0 : State} {f : Option Context} (o : ℕ) (as' : List (Attribute TextId TextId ResolvedTree)) → SoFar p s0 f (normed_attributes p o as' (λ t. None)) (attributes_rest o None (drop 0 as')) s0
  unfolding attributes_rest
  attributes_start o as' = all_left _ _ (λ t r n z. refl)

  pub attributes_turn : {s0 : State} {s1 : State} {f : Option Context} {s2 : State} (o : ℕ) (w : Making (Option PlainCore)) (as' : List (Attribute TextId TextId ResolvedTree)) (i : ℕ) (a : Attribute TextId TextId ResolvedTree) (before : Option Core) (core : Core) →
      i < length as' → a ≡ get_or as' i a →
      SoFar p s0 f w (attributes_rest o before (drop i as')) s1 → MadeBy some_in p s1 f (normed_attributes p o (a ∷ []) (λ t. core_at t before)) core s2 →
      SoFar p s0 f w (attributes_rest o (Some core) (drop (i + 1) as')) s2
  unfolding attributes_rest
  attributes_turn o w as' i a before core h is so one' =
      turn w (attributes_rest o) (normed_attributes p o (a ∷ []) (λ t. core_at t before)) as' i a before (Some core) h is
      (λ ys t r n k z e. attributes_front o (λ t. core_at t before) (λ t. Some (core_of t core)) a ys t r n k e) so one'

  pub attributes_end : {s0 : State} {s1 : State} {f : Option Context} (o : ℕ) (w : Making (Option PlainCore)) (as' : List (Attribute TextId TextId ResolvedTree)) (i : ℕ) (before : Option Core) → length as' ≤ i →
      SoFar p s0 f w (attributes_rest o before (drop i as')) s1 → MadeBy core_at p s0 f w before s1
  unfolding norm normed_attributes attributes_rest
  attributes_end o w as' i before h so = finish w (attributes_rest o) as' i before before h (λ t r n z. refl) so

  -- parts of content
  pub space_made : {s0 : State} {f : Option Context} (o : ℕ) (x : Part CodeRun ResolvedTree) (at : ℕ) (w : CodeRun) (behind : Bool) (before : Option Core) → x ≡ part_.Run at w → w.is_boundary ≡ true →
      MadeBy core_at p s0 f (normed_parts p o (x ∷ []) behind (λ t. core_at t before)) before s0
  unfolding norm normed_parts
  space_made o x at w behind before e b = rw (e, b) (given (λ t. core_at t before) (λ t z. refl))

  pub run_made : {s0 : State} {f : Option Context} (o : ℕ) (x : Part CodeRun ResolvedTree) (at : ℕ) (w : CodeRun) (behind : Bool) (before : Option Core) (node core : Core) → x ≡ part_.Run at w → w.is_boundary ≡ false →
      ((t : Texts) → core_of t node ≡ text_node o (text_in t w.text)) → ((t : Texts) → core_of t core ≡ joined o (core_at t before) (core_of t node)) →
      MadeBy core_at p s0 f (normed_parts p o (x ∷ []) behind (λ t. core_at t before)) (Some core) s0
  unfolding norm normed_parts
  run_made o x at w behind before node core e b q j =
      rw (e, b) (given (λ t. Some (joined o (core_at t before) (text_node o (text_in t w.text)))) (λ t z. ap Some (j t ∙ ap (joined o (core_at t before)) (q t))))

  pub inner_made : {s0 : State} {s1 : State} {f : Option Context} (o : ℕ) (x : Part CodeRun ResolvedTree) (a b : ResolvedTree) (behind : Bool) (before : Option Core) (value core : Core) → x ≡ part_.Inner a → b ≡ a →
      MadeBy core_of p s0 f (normed p (λ t. syn_resolved t b)) value s1 → ((t : Texts) → core_of t core ≡ joined o (core_at t before) (core_of t value)) →
      MadeBy core_at p s0 f (normed_parts p o (x ∷ []) behind (λ t. core_at t before)) (Some core) s1
  unfolding norm normed normed_parts
  inner_made o x a b behind before value core e h i j =
      rw (e, sym h) (then_made (normed p (λ t. syn_resolved t b)) (λ t v r. give (Some (joined o (core_at t before) v))) i (given _ (λ t z. ap Some (j t))))

  brace_at : (o : ℕ) (behind : Bool) (e : Option PlainCore) (a : PlainCore) →
      joined_all o e (cond behind (c.one_core (text_node o []) (c.one_core a c.no_cores)) (c.one_core a c.no_cores)) ≡ Some (joined o (kept_apart o behind e) a)
  brace_at o true e a = refl
  brace_at o false e a = refl

  pub brace_made : {s0 : State} {s1 : State} {f : Option Context} (o : ℕ) (x : Part CodeRun ResolvedTree) (at : ℕ) (a b : ResolvedTree) (behind : Bool) (before all : Option Core) (value core : Core) → x ≡ part_.Brace at a → b ≡ a →
      MadeBy core_of p s0 f (normed p (λ t. syn_resolved t b)) value s1 → ((t : Texts) → HasEmpty t → core_at t all ≡ kept_apart o behind (core_at t before)) →
      ((t : Texts) → core_of t core ≡ joined o (core_at t all) (core_of t value)) →
      MadeBy core_at p s0 f (normed_parts p o (x ∷ []) behind (λ t. core_at t before)) (Some core) s1
  unfolding norm normed normed_parts
  brace_made o x at a b behind before all value core e h i k j =
      rw (e, sym h) (then_made (normed p (λ t. syn_resolved t b))
      (λ t v r. give (joined_all o (core_at t before) (cond behind (c.one_core (text_node o []) (c.one_core v c.no_cores)) (c.one_core v c.no_cores)))) i
      (given _ (λ t z. ap Some (j t ∙ ap (λ u. joined o u (core_of t value)) (k t z)) ∙ sym (brace_at o behind (core_at t before) (core_of t value)))))

  pub parts_start : {s0 : State} {f : Option Context} (o : ℕ) (ps : List (Part CodeRun ResolvedTree)) (before : Option Core) → SoFar p s0 f (normed_parts p o ps false (λ t. core_at t before)) (parts_rest o (before, false) (drop 0 ps)) s0
  unfolding parts_rest
  parts_start o ps before = all_left _ _ (λ t r n z. refl)

  pub parts_turn : {s0 : State} {s1 : State} {f : Option Context} {s2 : State} (o : ℕ) (w : Making (Option PlainCore)) (ps : List (Part CodeRun ResolvedTree)) (i : ℕ) (x : Part CodeRun ResolvedTree) (behind next : Bool) (before more : Option Core) →
      i < length ps → x ≡ get_or ps i x → next ≡ behind_part x behind →
      SoFar p s0 f w (parts_rest o (before, behind) (drop i ps)) s1 → MadeBy core_at p s1 f (normed_parts p o (x ∷ []) behind (λ t. core_at t before)) more s2 →
      SoFar p s0 f w (parts_rest o (more, next) (drop (i + 1) ps)) s2
  unfolding parts_rest
  parts_turn o w ps i x behind next before more h is b so one' =
      turn w (parts_rest o) (normed_parts p o (x ∷ []) behind (λ t. core_at t before)) ps i x (before, behind) (more, next) h is
      (λ ys t r n k z e. parts_front o (λ t. core_at t before) (λ t. core_at t more) x behind ys t r n k e ∙ ap (λ v. normed_parts p o ys v (λ t. core_at t more) t r k) (sym b)) so one'

  pub parts_end : {s0 : State} {s1 : State} {f : Option Context} (o : ℕ) (w : Making (Option PlainCore)) (ps : List (Part CodeRun ResolvedTree)) (i : ℕ) (behind : Bool) (before : Option Core) → length ps ≤ i →
      SoFar p s0 f w (parts_rest o (before, behind) (drop i ps)) s1 → MadeBy core_at p s0 f w before s1
  unfolding norm normed_parts parts_rest
  parts_end o w ps i behind before h so = finish w (parts_rest o) ps i (before, behind) before h (λ t r n z. refl) so

  -- attributes, and then what follows them
  attributes_then : (o : ℕ) (e : Option PlainCore) (as' : Attributes resolved) (rest : Around → Makes PlainCores) (t : Texts) (r : Around) (n : ℕ) →
      (norm_attributes p.base (bodies_in t p) as' r rest ▷= λ es. give (joined_all o e es)) n
      ≡ (norm_attributes p.base (bodies_in t p) as' r (λ q. give c.no_cores) ▷= λ es. rest r ▷= λ more. give (joined_all o (joined_all o e es) more)) n
  unfolding norm
  attributes_then o e s.no_attributes rest t r n = refl
  attributes_then o e (s.attribute at m vs as') rest t r n =
      attributes_then o (Some (joined o e (c.Build at AttributeNode (one (text_lit at m)) (value_of at ((norm_values p.base (bodies_in t p) vs at r n).made))))) as' rest t r ((norm_values p.base (bodies_in t p) vs at r n).next)

  pub element_made : {f : Option Context} {s0 s1 s2 : State} (o : ℕ) (name : TextId) (as' : List (Attribute TextId TextId ResolvedTree)) (ps : List (Part CodeRun ResolvedTree)) (first all : Option Core) (content core : Core) →
      MadeBy core_at p s0 f (normed_attributes p o as' (λ t. None)) first s1 → MadeBy core_at p s1 f (normed_parts p o ps false (λ t. core_at t first)) all s2 →
      ((t : Texts) → core_of t content ≡ or_empty o (core_at t all)) → ((t : Texts) → core_of t core ≡ c.Build o ElementNode (one (text_lit o (text_in t name))) (core_of t content)) →
      MadeBy core_of p s0 f (normed p (λ t. s.element o (text_in t name) (trees.attributes t as') (trees.parts t ps))) core s2
  unfolding norm normed normed_attributes normed_parts
  element_made o name as' ps first all content core h i g q =
      made_as _
      (λ t r. normed_attributes p o as' (λ t. None) t r ▷= λ e. norm_parts p.base (bodies_in t p) (trees.parts t ps) false o r ▷= λ es. give (c.Build o ElementNode (one (text_lit o (text_in t name))) (or_empty o (joined_all o e es))))
      (λ t r n z.
      ap (λ u. made_with (c.Build o ElementNode (one (text_lit o (text_in t name))) u) ((norm_attributes p.base (bodies_in t p) (trees.attributes t as') r (λ q. norm_parts p.base (bodies_in t p) (trees.parts t ps) false o q) n).next))
      (gather o ((norm_attributes p.base (bodies_in t p) (trees.attributes t as') r (λ q. norm_parts p.base (bodies_in t p) (trees.parts t ps) false o q) n).made))
      ∙ ap (λ (u : Made (Option PlainCore)). made_with (c.Build o ElementNode (one (text_lit o (text_in t name))) (or_empty o u.made)) u.next)
      (attributes_then o None (trees.attributes t as') (λ q. norm_parts p.base (bodies_in t p) (trees.parts t ps) false o q) t r n))
      (then_made (normed_attributes p o as' (λ t. None))
      (λ t e r. norm_parts p.base (bodies_in t p) (trees.parts t ps) false o r ▷= λ es. give (c.Build o ElementNode (one (text_lit o (text_in t name))) (or_empty o (joined_all o e es)))) h
      (then_made (normed_parts p o ps false (λ t. core_at t first)) (λ t e r. give (c.Build o ElementNode (one (text_lit o (text_in t name))) (or_empty o e))) i
      (given _ (λ t z. q t ∙ ap (c.Build o ElementNode (one (text_lit o (text_in t name)))) (g t)))))
