-- One making behind another, and the forms whose parts are single expressions.
use Rattle.std.proofs.Common.{◌≡◌, refl, sym, ap, ◌∙◌, ℕ, Bool, List, [], ◌∷◌, Option}
use Rattle.xq_base.specs.declared.fun.AtomKind.{AtomKind}
use Rattle.core_meaning.specs.declared.node.Core.{Core}
use Rattle.core_meaning.specs.Erasure.{Texts, core_of}
use Rattle.core_meaning.specs.PlainCore.{PlainCore}
use Rattle.core_meaning.specs.PlainCore as c
use Rattle.core_meaning.specs.Types.{SequenceTest}
use Rattle.xq_ast.specs.declared.node.Signed.{Signed}
use Rattle.core_scope.specs.Syn.{Syn, resolved, place_of}
use Rattle.core_scope.specs.Syn as s
use Rattle.core_scope.specs.Erasure.{with_signs}
use Rattle.core_normal.specs.declared.pieces.Context.{Context}
use Rattle.core_normal.specs.declared.bodies.Bodies.{Bodies}
use Rattle.core_normal.specs.declared.bodies.State.{State}
use Rattle.core_normal.specs.Fresh.{Made, Makes, give, ◌▷=◌}
use Rattle.core_normal.specs.Around.{Around, Env}
use Rattle.core_normal.specs.Pieces.{Inlined, boolean, signed_core}
use Rattle.core_normal.specs.Normal.{norm}
use Rattle.core_normal.specs.Forming.{signed_all}
use Rattle.core_normal.specs.Making.{HasEmpty, Making, MadeBy, around_of, bodies_in, normed}
use Rattle.core_normal.specs.Standing.{Values, Stands}
use Rattle.core_normal.proofs.NormForms.{made_with}

-- the same bindings stand for what is visible later
pub still : (a b : Values) (env : Env) → b ≡ a → Stands a env → Stands b env
still a b env e s = λ v. s v ∙ ap (λ (w : Values). w v) (sym e)

-- what is made of something that was made
pub then_made : {A B C D : Type 0} {read : Texts → A → B} {out : Texts → C → D} {p : Bodies} {s0 s1 s2 : State} {f : Option Context} {x : A} {y : C}
    (m : Making B) (k : Texts → B → Around → Makes D) →
    MadeBy read p s0 f m x s1 → MadeBy out p s1 f (λ t r. k t (read t x) r) y s2 → MadeBy out p s0 f (λ t r. m t r ▷= λ b. k t b r) y s2
then_made {s0 = s0} {f = f} m k h i = record {
  made = λ t env z vs. ap (λ (u : Made _). k t u.made (around_of env f) u.next) (h.made t env z vs) ∙ i.made t env z (still _ _ env h.same vs);
  same = i.same ∙ h.same;
}

-- what takes no making
pub given : {A B : Type 0} {read : Texts → A → B} {p : Bodies} {s0 : State} {f : Option Context} {x : A} (b : Texts → B) →
    ((t : Texts) → HasEmpty t → read t x ≡ b t) → MadeBy read p s0 f (λ t r. give (b t)) x s0
given {s0 = s0} b h = record {
  made = λ t env z vs. ap (λ u. made_with u s0.next) (sym (h t z));
  same = refl;
}

pub conditional_made : {p : Bodies} {s0 : State} {s1 : State} {f : Option Context} {s2 s3 : State} (o : ℕ) (ea eb ed : Texts → Syn resolved) {x y z core : Core} →
    MadeBy core_of p s0 f (normed p ea) x s1 → MadeBy core_of p s1 f (normed p eb) y s2 → MadeBy core_of p s2 f (normed p ed) z s3 →
    ((t : Texts) → core_of t core ≡ c.If o (boolean (place_of (ea t)) (core_of t x)) (core_of t y) (core_of t z)) →
    MadeBy core_of p s0 f (normed p (λ t. s.conditional o (ea t) (eb t) (ed t))) core s3
unfolding normed norm
conditional_made {p = p} o ea eb ed {x = x} {y = y} h i j q =
    then_made (normed p ea) (λ t a r. norm p.base (bodies_in t p) (eb t) r ▷= λ b. norm p.base (bodies_in t p) (ed t) r ▷= λ e. give (c.If o (boolean (place_of (ea t)) a) b e)) h
    (then_made (normed p eb) (λ t b r. norm p.base (bodies_in t p) (ed t) r ▷= λ e. give (c.If o (boolean (place_of (ea t)) (core_of t x)) b e)) i
    (then_made (normed p ed) (λ t e r. give (c.If o (boolean (place_of (ea t)) (core_of t x)) (core_of t y) e)) j
    (given _ (λ t z. q t))))

-- a form over one part
part_made : {p : Bodies} {s0 : State} {s1 : State} {f : Option Context} (ea : Texts → Syn resolved) {x core : Core} (w : Making PlainCore) (k : Texts → PlainCore → PlainCore) →
    ((t : Texts) (r : Around) (n : ℕ) → w t r n ≡ (normed p ea t r ▷= λ a. give (k t a)) n) →
    MadeBy core_of p s0 f (normed p ea) x s1 → ((t : Texts) → core_of t core ≡ k t (core_of t x)) → MadeBy core_of p s0 f w core s1
part_made {s0 = s0} {s1 = s1} {f = f} ea w k law h q = record {
  made = λ t env z vs.
      law t (around_of env f) s0.next ∙ ap (λ (u : Made PlainCore). made_with (k t u.made) u.next) (h.made t env z vs) ∙ ap (λ u. made_with u s1.next) (sym (q t));
  same = h.same;
}

module _ (p : Bodies) (o : ℕ) (e : Texts → Syn resolved) where
  instance_law : (ty : Texts → SequenceTest) (t : Texts) (r : Around) (n : ℕ) → normed p (λ t. s.instance o (e t) (ty t)) t r n ≡ (normed p e t r ▷= λ a. give (c.Instance o a (ty t))) n
  unfolding normed norm
  instance_law ty t r n = refl

  treat_law : (ty : Texts → SequenceTest) (t : Texts) (r : Around) (n : ℕ) → normed p (λ t. s.treat o (e t) (ty t)) t r n ≡ (normed p e t r ▷= λ a. give (c.Treat o a (ty t))) n
  unfolding normed norm
  treat_law ty t r n = refl

  castable_law : (k : AtomKind) (m : Bool) (t : Texts) (r : Around) (n : ℕ) → normed p (λ t. s.castable o (e t) k m) t r n ≡ (normed p e t r ▷= λ a. give (c.Castable o a k m)) n
  unfolding normed norm
  castable_law k m t r n = refl

  cast_law : (k : AtomKind) (m : Bool) (t : Texts) (r : Around) (n : ℕ) → normed p (λ t. s.cast o (e t) k m) t r n ≡ (normed p e t r ▷= λ a. give (c.Cast o a k m)) n
  unfolding normed norm
  cast_law k m t r n = refl

pub instance_made : {p : Bodies} {s0 : State} {s1 : State} {f : Option Context} (o : ℕ) (ea : Texts → Syn resolved) (ty : Texts → SequenceTest) {x core : Core} →
    MadeBy core_of p s0 f (normed p ea) x s1 → ((t : Texts) → core_of t core ≡ c.Instance o (core_of t x) (ty t)) →
    MadeBy core_of p s0 f (normed p (λ t. s.instance o (ea t) (ty t))) core s1
instance_made {p = p} o ea ty h q = part_made ea (normed p (λ t. s.instance o (ea t) (ty t))) (λ t a. c.Instance o a (ty t)) (λ t r n. instance_law p o ea ty t r n) h q

pub treat_made : {p : Bodies} {s0 : State} {s1 : State} {f : Option Context} (o : ℕ) (ea : Texts → Syn resolved) (ty : Texts → SequenceTest) {x core : Core} →
    MadeBy core_of p s0 f (normed p ea) x s1 → ((t : Texts) → core_of t core ≡ c.Treat o (core_of t x) (ty t)) →
    MadeBy core_of p s0 f (normed p (λ t. s.treat o (ea t) (ty t))) core s1
treat_made {p = p} o ea ty h q = part_made ea (normed p (λ t. s.treat o (ea t) (ty t))) (λ t a. c.Treat o a (ty t)) (λ t r n. treat_law p o ea ty t r n) h q

pub castable_made : {p : Bodies} {s0 : State} {s1 : State} {f : Option Context} (o : ℕ) (ea : Texts → Syn resolved) (k : AtomKind) (m : Bool) {x core : Core} →
    MadeBy core_of p s0 f (normed p ea) x s1 → ((t : Texts) → core_of t core ≡ c.Castable o (core_of t x) k m) →
    MadeBy core_of p s0 f (normed p (λ t. s.castable o (ea t) k m)) core s1
castable_made {p = p} o ea k m h q = part_made ea (normed p (λ t. s.castable o (ea t) k m)) (λ t a. c.Castable o a k m) (λ t r n. castable_law p o ea k m t r n) h q

pub cast_made : {p : Bodies} {s0 : State} {s1 : State} {f : Option Context} (o : ℕ) (ea : Texts → Syn resolved) (k : AtomKind) (m : Bool) {x core : Core} →
    MadeBy core_of p s0 f (normed p ea) x s1 → ((t : Texts) → core_of t core ≡ c.Cast o (core_of t x) k m) →
    MadeBy core_of p s0 f (normed p (λ t. s.cast o (ea t) k m)) core s1
cast_made {p = p} o ea k m h q = part_made ea (normed p (λ t. s.cast o (ea t) k m)) (λ t a. c.Cast o a k m) (λ t r n. cast_law p o ea k m t r n) h q

-- signs over what they stand before
signs_law : (base : ℕ) (bodies : ℕ → Makes Inlined) (xs : List Signed) (e : Syn resolved) (r : Around) (n : ℕ) →
    norm base bodies (with_signs xs e) r n ≡ (norm base bodies e r ▷= λ a. give (signed_all xs a)) n
unfolding norm
signs_law base bodies [] e r n = refl
signs_law base bodies (x ∷ xs) e r n = ap (λ (u : Made PlainCore). made_with (signed_core x.offset x.sign u.made) u.next) (signs_law base bodies xs e r n)

signs_normed : (p : Bodies) (xs : List Signed) (e : Texts → Syn resolved) (t : Texts) (r : Around) (n : ℕ) → normed p (λ t. with_signs xs (e t)) t r n ≡ (normed p e t r ▷= λ a. give (signed_all xs a)) n
unfolding normed
signs_normed p xs e t r n = signs_law p.base (bodies_in t p) xs (e t) r n

pub signs_made : {p : Bodies} {f : Option Context} {s0 s1 : State} (xs : List Signed) (ea : Texts → Syn resolved) {x core : Core} →
    MadeBy core_of p s0 f (normed p ea) x s1 → ((t : Texts) → core_of t core ≡ signed_all xs (core_of t x)) →
    MadeBy core_of p s0 f (normed p (λ t. with_signs xs (ea t))) core s1
signs_made {p = p} xs ea h q = part_made ea (normed p (λ t. with_signs xs (ea t))) (λ t a. signed_all xs a) (λ t r n. signs_normed p xs ea t r n) h q
