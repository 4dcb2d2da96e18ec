-- The Core of an expression by its form, as the code finds it.
use Rattle.std.proofs.Common.{◌≡◌, refl, sym, ap, ◌∙◌, ℕ, ℤ, Bool, List, Option, Some, None}
use Rattle.xq_base.specs.declared.fun.AtomKind.{AtomKind}
use Rattle.xq_base.specs.declared.item.TextId.{TextId}
use Rattle.xq_base.specs.Atoms.{IntAtom}
use Rattle.doc_table.specs.Tree.{CommentNode, InstructionNode, text_in}
use Rattle.core_meaning.specs.declared.node.Core.{Core}
use Rattle.core_meaning.specs.Erasure.{Texts, core_of}
use Rattle.core_meaning.specs.PlainCore as c
use Rattle.xq_ast.specs.declared.leaf.BuildKind.{BuildKind}
use Rattle.xq_ast.specs.declared.leaf.Callee.{Callee}
use Rattle.xq_ast.specs.declared.leaf.Name.{Name}
use Rattle.xq_ast.specs.declared.leaf.Quantifier.{Quantifier}
use Rattle.xq_ast.specs.declared.leaf.SeqType.{SeqType}
use Rattle.xq_ast.specs.declared.leaf.TextRun.{TextRun as CodeRun}
use Rattle.xq_ast.specs.declared.node.Attribute.{Attribute}
use Rattle.xq_ast.specs.declared.node.Behind.{Behind}
use Rattle.xq_ast.specs.declared.node.BuildName.{BuildName as CodeName}
use Rattle.xq_ast.specs.declared.node.Clause.{Clause}
use Rattle.xq_ast.specs.declared.node.Key.{Key}
use Rattle.xq_ast.specs.declared.node.Node.TheVariants as n
use Rattle.xq_ast.specs.declared.node.Part.{Part}
use Rattle.xq_ast.specs.declared.node.QuantBind.{QuantBind}
use Rattle.xq_ast.specs.declared.node.Right.{Right}
use Rattle.xq_ast.specs.declared.node.Signed.{Signed}
use Rattle.xq_ast.specs.declared.node.Start.{Start}
use Rattle.xq_ast.specs.declared.node.Step.{Step}
use Rattle.core_scope.specs.Syn.{Syn, resolved}
use Rattle.core_scope.specs.Syn as s
use Rattle.core_scope.specs.Erasure.{start_of, with_signs}
use Rattle.core_scope.specs.Leaves.{ResolvedTree, sequence_of, syn_resolved}
use Rattle.core_normal.specs.declared.pieces.Context.{Context}
use Rattle.core_normal.specs.declared.bodies.Bodies.{Bodies}
use Rattle.core_normal.specs.declared.bodies.State.{State}
use Rattle.core_normal.specs.Held.{focus_of}
use Rattle.core_normal.specs.Making.{MadeBy, bodies_in, normed}
use Rattle.core_normal.specs.Normal.{norm}
use Rattle.core_normal.specs.Pieces.{dot_at, one, root_at, text_lit}
use Rattle.core_normal.specs.Standing.{vars_in}
use Rattle.core_normal.specs.Trees.{attributes, behinds, clauses, keys, maybe, name, parts, quant_binds, rights, step, syns}
use Rattle.core_normal.proofs.Folding.{made_as}
use Rattle.core_normal.proofs.Forms.{syn_build, syn_call, syn_cast, syn_castable, syn_chain, syn_comma, syn_comment, syn_dot, syn_element, syn_flwor, syn_if, syn_instance, syn_instruction, syn_integer, syn_paren, syn_path, syn_quantified, syn_root, syn_signed, syn_text, syn_treat, syn_var}
use Rattle.core_normal.proofs.PlainMade.{comment_made, dot_made, empty_made, instruction_made, integer_made, root_made, text_made, variable_made}

module _ {p : Bodies} {s0 : State} {f : Option Context} {s1 : State} where
  -- another expression of which the same is made
  pub said_as : (e w : Texts → Syn resolved) (core : Core) → ((t : Texts) → e t ≡ w t) → MadeBy core_of p s0 f (normed p w) core s1 → MadeBy core_of p s0 f (normed p e) core s1
  unfolding normed
  said_as e w core law m = made_as (normed p e) (normed p w) (λ t r k z. ap (λ a. norm p.base (bodies_in t p) a r k) (law t)) m

  pub comma_form : (e : ResolvedTree) (o : ℕ) (a x : ResolvedTree) (es xs : List ResolvedTree) (core : Core) → e ≡ n.Comma o a es → x ≡ a → xs ≡ es →
      MadeBy core_of p s0 f (normed p (λ t. s.comma o (syn_resolved t x) (syns t xs))) core s1 → MadeBy core_of p s0 f (normed p (λ t. syn_resolved t e)) core s1
  comma_form e o a x es xs core q qx qs m =
      said_as (λ t. syn_resolved t e) _ core
      (λ t. ap (syn_resolved t) q ∙ syn_comma t o a es ∙ ap (λ y. s.comma o (syn_resolved t y) (syns t es)) (sym qx) ∙ ap (λ ys. s.comma o (syn_resolved t x) (syns t ys)) (sym qs)) m

  pub flwor_form : (e : ResolvedTree) (o : ℕ) (cs xs : List (Clause ℕ SeqType ResolvedTree)) (w : Option ResolvedTree) (ks ys : List (Key ResolvedTree)) (b x : ResolvedTree) (core : Core) →
      e ≡ n.Flwor o cs w ks b → xs ≡ cs → ys ≡ ks → x ≡ b →
      MadeBy core_of p s0 f (normed p (λ t. s.flwor o (clauses t xs) (maybe t w) (keys t ys) (syn_resolved t x))) core s1 → MadeBy core_of p s0 f (normed p (λ t. syn_resolved t e)) core s1
  flwor_form e o cs xs w ks ys b x core q qc qk qb m =
      said_as (λ t. syn_resolved t e) _ core
      (λ t. ap (syn_resolved t) q ∙ syn_flwor t o cs w ks b ∙ ap (λ v. s.flwor o (clauses t v) (maybe t w) (keys t ks) (syn_resolved t b)) (sym qc)
      ∙ ap (λ v. s.flwor o (clauses t xs) (maybe t w) (keys t v) (syn_resolved t b)) (sym qk) ∙ ap (λ v. s.flwor o (clauses t xs) (maybe t w) (keys t ys) (syn_resolved t v)) (sym qb)) m

  pub quantified_form : (e : ResolvedTree) (o : ℕ) (w : Quantifier) (bs xs : List (QuantBind ℕ SeqType ResolvedTree)) (b x : ResolvedTree) (core : Core) →
      e ≡ n.Quantified o w bs b → xs ≡ bs → x ≡ b →
      MadeBy core_of p s0 f (normed p (λ t. s.quantified o w (quant_binds t xs) (syn_resolved t x))) core s1 → MadeBy core_of p s0 f (normed p (λ t. syn_resolved t e)) core s1
  quantified_form e o w bs xs b x core q qs qb m =
      said_as (λ t. syn_resolved t e) _ core
      (λ t. ap (syn_resolved t) q ∙ syn_quantified t o w bs b ∙ ap (λ v. s.quantified o w (quant_binds t v) (syn_resolved t b)) (sym qs) ∙ ap (λ v. s.quantified o w (quant_binds t xs) (syn_resolved t v)) (sym qb)) m

  pub if_form : (e : ResolvedTree) (o : ℕ) (a x b y d z : ResolvedTree) (core : Core) → e ≡ n.If o a b d → x ≡ a → y ≡ b → z ≡ d →
      MadeBy core_of p s0 f (normed p (λ t. s.conditional o (syn_resolved t x) (syn_resolved t y) (syn_resolved t z))) core s1 → MadeBy core_of p s0 f (normed p (λ t. syn_resolved t e)) core s1
  if_form e o a x b y d z core q qa qb qd m =
      said_as (λ t. syn_resolved t e) _ core
      (λ t. ap (syn_resolved t) q ∙ syn_if t o a b d ∙ ap (λ v. s.conditional o (syn_resolved t v) (syn_resolved t b) (syn_resolved t d)) (sym qa)
      ∙ ap (λ v. s.conditional o (syn_resolved t x) (syn_resolved t v) (syn_resolved t d)) (sym qb) ∙ ap (λ v. s.conditional o (syn_resolved t x) (syn_resolved t y) (syn_resolved t v)) (sym qd)) m

  pub chain_form : (e : ResolvedTree) (o : ℕ) (a x : ResolvedTree) (bs xs : List (Right ResolvedTree)) (core : Core) → e ≡ n.Chain o a bs → x ≡ a → xs ≡ bs →
      MadeBy core_of p s0 f (normed p (λ t. rights t o (syn_resolved t x) xs)) core s1 → MadeBy core_of p s0 f (normed p (λ t. syn_resolved t e)) core s1
  chain_form e o a x bs xs core q qa qs m =
      said_as (λ t. syn_resolved t e) _ core
      (λ t. ap (syn_resolved t) q ∙ syn_chain t o a bs ∙ ap (λ v. rights t o (syn_resolved t v) bs) (sym qa) ∙ ap (λ v. rights t o (syn_resolved t x) v) (sym qs)) m

  pub signed_form : (e : ResolvedTree) (o : ℕ) (gs xs : List Signed) (a x : ResolvedTree) (core : Core) → e ≡ n.Signed o gs a → xs ≡ gs → x ≡ a →
      MadeBy core_of p s0 f (normed p (λ t. with_signs xs (syn_resolved t x))) core s1 → MadeBy core_of p s0 f (normed p (λ t. syn_resolved t e)) core s1
  signed_form e o gs xs a x core q qs qa m =
      said_as (λ t. syn_resolved t e) _ core
      (λ t. ap (syn_resolved t) q ∙ syn_signed t o gs a ∙ ap (λ v. with_signs v (syn_resolved t a)) (sym qs) ∙ ap (λ v. with_signs xs (syn_resolved t v)) (sym qa)) m

  pub path_form : (e : ResolvedTree) (from' : Start) (x : Step TextId ResolvedTree) (bs xs : List (Behind TextId ResolvedTree)) (core : Core) → e ≡ n.Path from' x bs → xs ≡ bs →
      MadeBy core_of p s0 f (normed p (λ t. behinds t (step t (start_of from') x) xs)) core s1 → MadeBy core_of p s0 f (normed p (λ t. syn_resolved t e)) core s1
  path_form e from' x bs xs core q qs m =
      said_as (λ t. syn_resolved t e) _ core (λ t. ap (syn_resolved t) q ∙ syn_path t from' x bs ∙ ap (behinds t (step t (start_of from') x)) (sym qs)) m

  pub paren_form : (e : ResolvedTree) (o : ℕ) (inside : Option ResolvedTree) (core : Core) → e ≡ n.Paren o inside →
      MadeBy core_of p s0 f (normed p (λ t. s.paren o (maybe t inside))) core s1 → MadeBy core_of p s0 f (normed p (λ t. syn_resolved t e)) core s1
  paren_form e o inside core q m = said_as (λ t. syn_resolved t e) _ core (λ t. ap (syn_resolved t) q ∙ syn_paren t o inside) m

  pub paren_some : (o : ℕ) (inside : Option ResolvedTree) (a x : ResolvedTree) (core : Core) → inside ≡ Some a → x ≡ a →
      MadeBy core_of p s0 f (normed p (λ t. syn_resolved t x)) core s1 → MadeBy core_of p s0 f (normed p (λ t. s.paren o (maybe t inside))) core s1
  unfolding normed norm
  paren_some o inside a x core q qa m =
      said_as (λ t. s.paren o (maybe t inside)) (λ t. s.paren o (s.present (syn_resolved t x))) core
      (λ t. ap (λ v. s.paren o (maybe t v)) q ∙ ap (λ v. s.paren o (s.present (syn_resolved t v))) (sym qa))
      (made_as (normed p (λ t. s.paren o (s.present (syn_resolved t x)))) (normed p (λ t. syn_resolved t x)) (λ t r k z. refl) m)

  pub call_form : (e : ResolvedTree) (o : ℕ) (g : Callee) (es xs : List ResolvedTree) (core : Core) → e ≡ n.Call o g es → xs ≡ es →
      MadeBy core_of p s0 f (normed p (λ t. s.call o g (syns t xs))) core s1 → MadeBy core_of p s0 f (normed p (λ t. syn_resolved t e)) core s1
  call_form e o g es xs core q qs m =
      said_as (λ t. syn_resolved t e) _ core (λ t. ap (syn_resolved t) q ∙ syn_call t o g es ∙ ap (λ v. s.call o g (syns t v)) (sym qs)) m

  pub instance_form : (e : ResolvedTree) (o : ℕ) (a x : ResolvedTree) (ty : SeqType) (core : Core) → e ≡ n.Instance o a ty → x ≡ a →
      MadeBy core_of p s0 f (normed p (λ t. s.instance o (syn_resolved t x) (sequence_of t ty))) core s1 → MadeBy core_of p s0 f (normed p (λ t. syn_resolved t e)) core s1
  instance_form e o a x ty core q qa m =
      said_as (λ t. syn_resolved t e) _ core (λ t. ap (syn_resolved t) q ∙ syn_instance t o a ty ∙ ap (λ v. s.instance o (syn_resolved t v) (sequence_of t ty)) (sym qa)) m

  pub treat_form : (e : ResolvedTree) (o : ℕ) (a x : ResolvedTree) (ty : SeqType) (core : Core) → e ≡ n.Treat o a ty → x ≡ a →
      MadeBy core_of p s0 f (normed p (λ t. s.treat o (syn_resolved t x) (sequence_of t ty))) core s1 → MadeBy core_of p s0 f (normed p (λ t. syn_resolved t e)) core s1
  treat_form e o a x ty core q qa m =
      said_as (λ t. syn_resolved t e) _ core (λ t. ap (syn_resolved t) q ∙ syn_treat t o a ty ∙ ap (λ v. s.treat o (syn_resolved t v) (sequence_of t ty)) (sym qa)) m

  pub castable_form : (e : ResolvedTree) (o : ℕ) (a x : ResolvedTree) (k : AtomKind) (optional : Bool) (core : Core) → e ≡ n.Castable o a k optional → x ≡ a →
      MadeBy core_of p s0 f (normed p (λ t. s.castable o (syn_resolved t x) k optional)) core s1 → MadeBy core_of p s0 f (normed p (λ t. syn_resolved t e)) core s1
  castable_form e o a x k optional core q qa m =
      said_as (λ t. syn_resolved t e) _ core (λ t. ap (syn_resolved t) q ∙ syn_castable t o a k optional ∙ ap (λ v. s.castable o (syn_resolved t v) k optional) (sym qa)) m

  pub cast_form : (e : ResolvedTree) (o : ℕ) (a x : ResolvedTree) (k : AtomKind) (optional : Bool) (core : Core) → e ≡ n.Cast o a k optional → x ≡ a →
      MadeBy core_of p s0 f (normed p (λ t. s.cast o (syn_resolved t x) k optional)) core s1 → MadeBy core_of p s0 f (normed p (λ t. syn_resolved t e)) core s1
  cast_form e o a x k optional core q qa m =
      said_as (λ t. syn_resolved t e) _ core (λ t. ap (syn_resolved t) q ∙ syn_cast t o a k optional ∙ ap (λ v. s.cast o (syn_resolved t v) k optional) (sym qa)) m

  pub build_form : (e : ResolvedTree) (o : ℕ) (k : BuildKind) (m : CodeName TextId ResolvedTree) (a : Option ResolvedTree) (core : Core) → e ≡ n.Build o k m a →
      MadeBy core_of p s0 f (normed p (λ t. s.build o k (name t m) (maybe t a))) core s1 → MadeBy core_of p s0 f (normed p (λ t. syn_resolved t e)) core s1
  build_form e o k m a core q i = said_as (λ t. syn_resolved t e) _ core (λ t. ap (syn_resolved t) q ∙ syn_build t o k m a) i

  pub element_form : (e : ResolvedTree) (o : ℕ) (m : Name TextId) (as' xs : List (Attribute TextId TextId ResolvedTree)) (ps ys : List (Part CodeRun ResolvedTree)) (core : Core) →
      e ≡ n.Element o m as' ps → xs ≡ as' → ys ≡ ps →
      MadeBy core_of p s0 f (normed p (λ t. s.element o (text_in t m.text) (attributes t xs) (parts t ys))) core s1 → MadeBy core_of p s0 f (normed p (λ t. syn_resolved t e)) core s1
  element_form e o m as' xs ps ys core q qa qp i =
      said_as (λ t. syn_resolved t e) _ core
      (λ t. ap (syn_resolved t) q ∙ syn_element t o m as' ps ∙ ap (λ v. s.element o (text_in t m.text) (attributes t v) (parts t ps)) (sym qa)
      ∙ ap (λ v. s.element o (text_in t m.text) (attributes t xs) (parts t v)) (sym qp)) i

module _ {p : Bodies} {s0 : State} {f : Option Context} where
  pub integer_form : (e : ResolvedTree) (o : ℕ) (z : ℤ) (core : Core) → e ≡ n.Integer o z → ((t : Texts) → core_of t core ≡ c.Lit o (IntAtom z)) → MadeBy core_of p s0 f (normed p (λ t. syn_resolved t e)) core s0
  integer_form e o z core q m = said_as (λ t. syn_resolved t e) _ core (λ t. ap (syn_resolved t) q ∙ syn_integer t o z) (integer_made p o z core m)

  pub text_form : (e : ResolvedTree) (o : ℕ) (x : TextId) (core : Core) → e ≡ n.Text o x → ((t : Texts) → core_of t core ≡ text_lit o (text_in t x)) → MadeBy core_of p s0 f (normed p (λ t. syn_resolved t e)) core s0
  text_form e o x core q m = said_as (λ t. syn_resolved t e) _ core (λ t. ap (syn_resolved t) q ∙ syn_text t o x) (text_made p o x core m)

  pub var_form : (e : ResolvedTree) (o v : ℕ) (core : Core) → e ≡ n.Var o v → ((t : Texts) → core_of t core ≡ c.Var o (vars_in s0.vars v)) → MadeBy core_of p s0 f (normed p (λ t. syn_resolved t e)) core s0
  var_form e o v core q m = said_as (λ t. syn_resolved t e) _ core (λ t. ap (syn_resolved t) q ∙ syn_var t o v) (variable_made p o v core m)

  pub dot_form : (e : ResolvedTree) (o : ℕ) (core : Core) → e ≡ n.Dot o → ((t : Texts) → core_of t core ≡ dot_at o (focus_of f)) → MadeBy core_of p s0 f (normed p (λ t. syn_resolved t e)) core s0
  dot_form e o core q m = said_as (λ t. syn_resolved t e) _ core (λ t. ap (syn_resolved t) q ∙ syn_dot t o) (dot_made p o core m)

  pub root_form : (e : ResolvedTree) (o : ℕ) (core : Core) → e ≡ n.Root o → ((t : Texts) → core_of t core ≡ root_at o (focus_of f)) → MadeBy core_of p s0 f (normed p (λ t. syn_resolved t e)) core s0
  root_form e o core q m = said_as (λ t. syn_resolved t e) _ core (λ t. ap (syn_resolved t) q ∙ syn_root t o) (root_made p o core m)

  pub paren_none : (o : ℕ) (inside : Option ResolvedTree) (core : Core) → inside ≡ None → ((t : Texts) → core_of t core ≡ c.Empty o) → MadeBy core_of p s0 f (normed p (λ t. s.paren o (maybe t inside))) core s0
  paren_none o inside core q m = said_as (λ t. s.paren o (maybe t inside)) _ core (λ t. ap (λ v. s.paren o (maybe t v)) q) (empty_made p o core m)

  pub comment_form : (e : ResolvedTree) (o : ℕ) (x : TextId) (core : Core) → e ≡ n.Comment o x →
      ((t : Texts) → core_of t core ≡ c.Build o CommentNode c.no_cores (text_lit o (text_in t x))) → MadeBy core_of p s0 f (normed p (λ t. syn_resolved t e)) core s0
  comment_form e o x core q m = said_as (λ t. syn_resolved t e) _ core (λ t. ap (syn_resolved t) q ∙ syn_comment t o x) (comment_made p o x core m)

  pub instruction_form : (e : ResolvedTree) (o : ℕ) (m : Name TextId) (x : TextId) (core : Core) → e ≡ n.Instruction o m x →
      ((t : Texts) → core_of t core ≡ c.Build o InstructionNode (one (text_lit o (text_in t m.text))) (text_lit o (text_in t x))) → MadeBy core_of p s0 f (normed p (λ t. syn_resolved t e)) core s0
  instruction_form e o m x core q i = said_as (λ t. syn_resolved t e) _ core (λ t. ap (syn_resolved t) q ∙ syn_instruction t o m x) (instruction_made p o m.text x core i)
