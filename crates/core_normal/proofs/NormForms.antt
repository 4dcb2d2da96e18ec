-- The Core of each form, by those of its parts in the order in which they are made.
use Rattle.std.proofs.Common.{◌≡◌, refl, sym, ap, ◌∙◌, ℕ, ℤ, List, [], ◌∷◌}
use Rattle.xq_base.specs.declared.item.TextId.{TextId}
use Rattle.xq_base.specs.Atoms.{IntAtom}
use Rattle.xq_base.specs.Texts.{Text}
use Rattle.core_meaning.specs.PlainCore.{PlainCore}
use Rattle.core_meaning.specs.PlainCore as c
use Rattle.xq_ast.specs.declared.node.Behind.{Behind}
use Rattle.xq_ast.specs.declared.node.Node.TheVariants as n
use Rattle.xq_ast.specs.declared.node.Right.{Right}
use Rattle.xq_ast.specs.declared.node.Slashes.{Slashes}
use Rattle.xq_ast.specs.declared.node.Slashes.TheVariants as slashes_
use Rattle.xq_ast.specs.declared.node.Step.{Step}
use Rattle.xq_ast.specs.declared.node.StepKind.{StepKind}
use Rattle.xq_ast.specs.declared.node.StepKind.TheVariants as step_
use Rattle.core_scope.specs.Syn.{Syn, Syns, resolved, place_of}
use Rattle.core_scope.specs.Syn as s
use Rattle.core_scope.specs.Erasure.{behind_of, with_predicates}
use Rattle.core_scope.specs.Leaves.{ResolvedTree, syn_resolved}
use Rattle.core_normal.specs.Fresh.{Made, Makes, give, ◌▷=◌}
use Rattle.core_normal.specs.Around.{Around}
use Rattle.core_normal.specs.Pieces.{Inlined, boolean}
use Rattle.core_normal.specs.Normal.{norm, predicates}
use Rattle.core_normal.specs.Trees.{behinds, rights, step, syns}
use Rattle.core_normal.specs.Stepping.{behind_slashes, first_step, next_operands, next_step, next_steps}
use Rattle.core_normal.proofs.Forms.{syn_if, syn_integer}

abbrev pub made_with : {A : Type 0} → A → ℕ → Made A
made_with x k = record { made = x; next = k }

-- one making behind another that made this
pub then_law : {A D : Type 0} (m : Made A) (f : A → Makes D) (x : A) (k : ℕ) (out : Made D) → m ≡ record { made = x; next = k } → f x k ≡ out → f m.made m.next ≡ out
then_law m f x k out p q = ap (λ u. f u.made u.next) p ∙ q

module _ (base : ℕ) (bodies : ℕ → Makes Inlined) (t : List Text) where
  -- an expression by its form
  pub by_form : (e : ResolvedTree) (a : Syn resolved) (r : Around) (k : ℕ) (out : Made PlainCore) → syn_resolved t e ≡ a → norm base bodies a r k ≡ out → norm base bodies (syn_resolved t e) r k ≡ out
  by_form e a r k out p q = ap (λ x. norm base bodies x r k) p ∙ q

  pub norm_integer : (e : ResolvedTree) (o : ℕ) (z : ℤ) (r : Around) (k : ℕ) (core : PlainCore) → e ≡ n.Integer o z → core ≡ c.Lit o (IntAtom z) →
      norm base bodies (syn_resolved t e) r k ≡ record { made = core; next = k }
  unfolding norm
  norm_integer e o z r k core p q = by_form e (s.integer o z) r k _ (ap (syn_resolved t) p ∙ syn_integer t o z) (ap (λ x. made_with x k) (sym q))

  pub norm_if : (e : ResolvedTree) (o : ℕ) (a b d : ResolvedTree) (r : Around) (k k1 k2 k3 : ℕ) (x y z core : PlainCore) → e ≡ n.If o a b d →
      norm base bodies (syn_resolved t a) r k ≡ record { made = x; next = k1 } →
      norm base bodies (syn_resolved t b) r k1 ≡ record { made = y; next = k2 } →
      norm base bodies (syn_resolved t d) r k2 ≡ record { made = z; next = k3 } →
      core ≡ c.If o (boolean (place_of (syn_resolved t a)) x) y z →
      norm base bodies (syn_resolved t e) r k ≡ record { made = core; next = k3 }
  unfolding norm
  norm_if e o a b d r k k1 k2 k3 x y z core p pa pb pd q =
      by_form e (s.conditional o (syn_resolved t a) (syn_resolved t b) (syn_resolved t d)) r k _ (ap (syn_resolved t) p ∙ syn_if t o a b d)
      (then_law (norm base bodies (syn_resolved t a) r k)
      (λ u. norm base bodies (syn_resolved t b) r ▷= λ v. norm base bodies (syn_resolved t d) r ▷= λ w. give (c.If o (boolean (place_of (syn_resolved t a)) u) v w)) x k1 _ pa
      (then_law (norm base bodies (syn_resolved t b) r k1)
      (λ v. norm base bodies (syn_resolved t d) r ▷= λ w. give (c.If o (boolean (place_of (syn_resolved t a)) x) v w)) y k2 _ pb
      (then_law (norm base bodies (syn_resolved t d) r k2) (λ w. give (c.If o (boolean (place_of (syn_resolved t a)) x) y w)) z k3 _ pd
      (ap (λ u. made_with u k3) (sym q)))))

  -- an expression with its predicates
  predicates_law : (o : ℕ) (e : Syn resolved) (qs : Syns resolved) (r : Around) (k : ℕ) →
      norm base bodies (with_predicates o e qs) r k ≡ (norm base bodies e r ▷= λ a. predicates base bodies qs o a r) k
  unfolding norm
  predicates_law o e s.no_more r k = refl
  predicates_law o e (s.one_more q qs) r k = refl

  first_at : (x : Step TextId ResolvedTree) (kind : StepKind TextId ResolvedTree) (qs : Syns resolved) (r : Around) (k : ℕ) → x.kind ≡ kind → syns t x.predicates ≡ qs →
      norm base bodies (step t s.absent x) r k ≡ first_step base bodies t x r k
  unfolding norm
  first_at x (step_.Walk a test) s.no_more r k p q = rw (p, q) refl
  first_at x (step_.Walk a test) (s.one_more u us) r k p q = rw (p, q) refl
  first_at x (step_.Primary m) qs r k p q = rw p (predicates_law x.offset (syn_resolved t m) (syns t x.predicates) r k)

  -- the first step of a path that nothing stands before
  pub first_law : (x : Step TextId ResolvedTree) (r : Around) (k : ℕ) → norm base bodies (step t s.absent x) r k ≡ first_step base bodies t x r k
  first_law x r k = first_at x x.kind (syns t x.predicates) r k refl refl

  -- a step, over the Core of what stands before it
  next_at : (a : Syn resolved) (x : Step TextId ResolvedTree) (kind : StepKind TextId ResolvedTree) (qs : Syns resolved) (r : Around) (k : ℕ) → x.kind ≡ kind → syns t x.predicates ≡ qs →
      norm base bodies (step t (s.present a) x) r k ≡ (norm base bodies a r ▷= λ e. next_step base bodies t x e r) k
  unfolding norm
  next_at a x (step_.Walk y test) s.no_more r k p q = rw (p, q) refl
  next_at a x (step_.Walk y test) (s.one_more u us) r k p q = rw (p, q) refl
  next_at a x (step_.Primary m) s.no_more r k p q = rw (p, q) refl
  next_at a x (step_.Primary m) (s.one_more u us) r k p q = rw (p, q) refl

  next_law : (a : Syn resolved) (x : Step TextId ResolvedTree) (r : Around) (k : ℕ) →
      norm base bodies (step t (s.present a) x) r k ≡ (norm base bodies a r ▷= λ e. next_step base bodies t x e r) k
  next_law a x r k = next_at a x x.kind (syns t x.predicates) r k refl refl

  slashes_law : (x : Slashes) (a : Syn resolved) (r : Around) (k : ℕ) → norm base bodies (behind_of x a) r k ≡ (norm base bodies a r ▷= λ e. give (behind_slashes x e)) k
  unfolding norm
  slashes_law slashes_.One a r k = refl
  slashes_law (slashes_.Two o) a r k = refl

  -- the further steps of a path
  pub next_steps_law : (a : Syn resolved) (bs : List (Behind TextId ResolvedTree)) (r : Around) (k : ℕ) →
      norm base bodies (behinds t a bs) r k ≡ (norm base bodies a r ▷= λ e. next_steps base bodies t bs e r) k
  next_steps_law a [] r k = refl
  next_steps_law a (b ∷ bs) r k =
      next_steps_law (step t (s.present (behind_of b.slashes a)) b.step) bs r k
      ∙ ap (λ (m : Made PlainCore). next_steps base bodies t bs m.made r m.next)
      (next_law (behind_of b.slashes a) b.step r k ∙ ap (λ (m : Made PlainCore). next_step base bodies t b.step m.made r m.next) (slashes_law b.slashes a r k))

  -- operators of a level
  pub next_operands_law : (o : ℕ) (a : Syn resolved) (bs : List (Right ResolvedTree)) (r : Around) (k : ℕ) →
      norm base bodies (rights t o a bs) r k ≡ (norm base bodies a r ▷= λ e. next_operands base bodies t o bs (place_of a) e r) k
  unfolding norm
  next_operands_law o a [] r k = refl
  next_operands_law o a (b ∷ bs) r k = next_operands_law o (s.binary o b.operator a (syn_resolved t b.operand)) bs r k
