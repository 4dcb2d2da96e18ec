-- Binds one after the other, and what stands inside them.
use Rattle.std.proofs.Common.{◌≡◌, refl, sym, ap, ◌∙◌, arith, ℕ, Bool, true, false, cond, List, [], ◌∷◌, length, Option, Some, None}
use Rattle.core_meaning.specs.declared.node.Core.{Core}
use Rattle.core_meaning.specs.Erasure.{Texts, core_of}
use Rattle.core_meaning.specs.PlainCore.{PlainCore}
use Rattle.core_meaning.specs.PlainCore as c
use Rattle.core_meaning.specs.Types.{SequenceTest}
use Rattle.xq_ast.specs.declared.leaf.Quantifier.{Quantifier}
use Rattle.core_scope.specs.Syn.{Syn, Binds, resolved, place_of}
use Rattle.core_scope.specs.Syn as s
use Rattle.core_scope.specs.Leaves.{ResolvedTree, syn_resolved}
use Rattle.core_normal.specs.declared.bind_refs.BindRef.{BindRef}
use Rattle.core_normal.specs.declared.bind_refs.Last.{Last}
use Rattle.core_normal.specs.declared.bind_refs.Last.TheVariants as last_
use Rattle.core_normal.specs.declared.binds.Turned.{Turned}
use Rattle.core_normal.specs.declared.bodies.Bodies.{Bodies}
use Rattle.core_normal.specs.declared.bodies.State.{State}
use Rattle.core_normal.specs.declared.pieces.Context.{Context}
use Rattle.core_normal.specs.Fresh.{Made, Makes, fresh, give, ◌▷=◌}
use Rattle.core_normal.specs.Around.{Around, Env, known, with_var}
use Rattle.core_normal.specs.Binding.{at_value, at_var, bind_in, binds_in, env_inside, last_in, normed_guarded, normed_last, normed_nested, normed_turn, values_outside}
use Rattle.core_normal.specs.Making.{MadeBy, around_of, bodies_in, normed}
use Rattle.core_normal.specs.Normal.{bound, nested, norm, norm_where, with_place}
use Rattle.core_normal.specs.Pieces.{boolean, quantified, witness}
use Rattle.core_normal.specs.Rows.{Turn, at_place, behind_for, behind_let, for_turn, let_turn, made_for, made_let, turn, wrapped}
use Rattle.core_normal.specs.Standing.{Values, Stands, vars_in, with_value}
use Rattle.core_normal.specs.Turned.{turn_of}
use Rattle.core_normal.specs.Trees as trees
use Rattle.core_normal.proofs.Folding.{made_as}
use Rattle.core_normal.proofs.Made.{then_made, given, still}
use Rattle.core_normal.proofs.NormForms.{made_with}
use Rattle.core_normal.proofs.RowLaws.{for_nested, let_nested}
use Rattle.core_normal.proofs.Valued.{stands_behind}

-- the variables inside a loop and inside a `let`
pub inside_at : (v x : ℕ) (at : Option (ℕ × ℕ)) (pos : Option ℕ) (r : Around) → known v x (at_place at pos r) ≡ record { env = with_var v x (at_var at pos r.env); focus = r.focus }
unfolding known with_place
inside_at v x None None r = refl
inside_at v x None (Some y) r = refl
inside_at v x (Some w) None r = refl
inside_at v x (Some w) (Some y) r = refl

no_place : (at : Option (ℕ × ℕ)) (env : Env) → at_var at None env ≡ env
no_place None env = refl
no_place (Some w) env = refl

pub inside_let : (v x : ℕ) (at : Option (ℕ × ℕ)) (pos : Option ℕ) (r : Around) → None ≡ pos → known v x r ≡ record { env = with_var v x (at_var at pos r.env); focus = r.focus }
unfolding known
inside_let v x at pos r e = ap (λ u. record { env = with_var v x u; focus = r.focus }) (sym (no_place at r.env) ∙ ap (λ q. at_var at q r.env) e)

-- what stands for the variable of a position inside a loop, and what stood for it
pub place_inside : (at : Option (ℕ × ℕ)) (pos : Option ℕ) (v : ℕ × ℕ) (x : ℕ) (vs ws : Values) → at ≡ Some v → pos ≡ Some x → ws ≡ with_value v.1 x vs → (env : Env) → Stands vs env → Stands ws (at_var at pos env)
place_inside at pos v x vs ws h k q env s = rw (h, k) (stands_behind vs ws env v.1 x s q)

pub place_outside : (at : Option (ℕ × ℕ)) (pos : Option ℕ) (v : ℕ × ℕ) (x y : ℕ) (vs ws : Values) → at ≡ Some v → pos ≡ Some x → with_value v.1 y ws ≡ vs → at_value at pos y ws ≡ vs
place_outside at pos v x y vs ws h k q = rw (h, k) q

pub place_left : (at : Option (ℕ × ℕ)) (pos : Option ℕ) (v : ℕ × ℕ) (x y : ℕ) (vs ws : Values) → at ≡ Some v → pos ≡ Some x → ws ≡ with_value v.1 y vs → ws ≡ at_value at pos y vs
place_left at pos v x y vs ws h k q = rw (h, k) q

-- what stood outside stands again
pub outside_again : (b : BindRef) (pos : Option ℕ) (before : ℕ × ℕ) (v0 v1 v2 v3 v4 : Values) → values_outside b pos before v2 ≡ v1 → v1 ≡ v0 → v3 ≡ v2 → v4 ≡ values_outside b pos before v3 → v4 ≡ v0
outside_again b pos before v0 v1 v2 v3 v4 h k s q = q ∙ ap (values_outside b pos before) s ∙ h ∙ k

module _ (p : Bodies) where
  -- the first bind stands round the others
  front : (b : BindRef) (rest : Binds resolved) (o : ℕ) (last : Around → Makes PlainCore) (t : Texts) (r : Around) (n m : ℕ) (u : Turned) →
      normed_turn p b t r n ≡ made_with (turn_of t u) m →
      nested p.base (bodies_in t p) (bind_in t b rest) o last r n
      ≡ wrapped o (turn_of t u) (nested p.base (bodies_in t p) rest o last (record { env = env_inside b u.x u.pos r.env; focus = r.focus }) m)
  unfolding normed_turn
  front b rest o last t r n m u h = at b.is_loop h
    where
      at : (loop : Bool) →
          cond loop (made_for p.base (bodies_in t p) (trees.type_of t b.ty) (syn_resolved t b.value.now) r) (made_let p.base (bodies_in t p) (trees.type_of t b.ty) (syn_resolved t b.value.now) r) n ≡ made_with (turn_of t u) m →
          nested p.base (bodies_in t p) (cond loop (s.for_bind b.offset b.var (trees.type_of t b.ty) b.at (syn_resolved t b.value.now) rest) (s.let_bind b.offset b.var (trees.type_of t b.ty) (syn_resolved t b.value.now) rest)) o last r n
          ≡ wrapped o (turn_of t u) (nested p.base (bodies_in t p) rest o last (record { env = env_inside b u.x u.pos r.env; focus = r.focus }) m)
      at true q =
          for_nested p.base (bodies_in t p) b.offset b.var (trees.type_of t b.ty) b.at (syn_resolved t b.value.now) rest o last r n
          ∙ ap (λ (v : Made Turn). wrapped o v.made (nested p.base (bodies_in t p) rest o last (behind_for b.var b.at v.made r) v.next)) q
          ∙ ap (λ a. wrapped o (turn_of t u) (nested p.base (bodies_in t p) rest o last a m)) (inside_at b.var u.x b.at u.pos r)
      at false q =
          let_nested p.base (bodies_in t p) b.offset b.var (trees.type_of t b.ty) (syn_resolved t b.value.now) rest o last r n
          ∙ ap (λ (v : Made Turn). wrapped o v.made (nested p.base (bodies_in t p) rest o last (behind_let b.var v.made r) v.next)) q
          ∙ ap (λ a. wrapped o (turn_of t u) (nested p.base (bodies_in t p) rest o last a m)) (inside_let b.var u.x b.at u.pos r (ap (λ (v : Made Turn). v.made.pos) q))

  pub nest_made : {s0 s1 s2 s3 s4 : State} {f : Option Context} (b : BindRef) (bs : List BindRef) (o : ℕ) (e : Last) (u : Turned) (a core : Core) →
      MadeBy turn_of p s0 f (normed_turn p b) u s1 → ((env : Env) → Stands (vars_in s1.vars) env → Stands (vars_in s2.vars) (env_inside b u.x u.pos env)) → s2.next ≡ s1.next →
      MadeBy core_of p s2 f (normed_nested p bs o e) a s3 → vars_in s4.vars ≡ vars_in s0.vars → s4.next ≡ s3.next →
      ((t : Texts) → core_of t core ≡ turn o (turn_of t u) (core_of t a)) →
      MadeBy core_of p s0 f (normed_nested p (b ∷ bs) o e) core s4
  unfolding normed_nested
  nest_made {s0 = s0} {s1 = s1} {s2 = s2} {s3 = s3} {s4 = s4} {f = f} b bs o e u a core h inside n1 i back n2 q = record {
    made = λ t env z vs.
        front b (binds_in t bs s.no_binds) o (λ r. last_in p e o t r) t (around_of env f) s0.next s1.next u (h.made t env z vs)
        ∙ ap (λ k. wrapped o (turn_of t u) (nested p.base (bodies_in t p) (binds_in t bs s.no_binds) o (λ r. last_in p e o t r) (around_of (env_inside b u.x u.pos env) f) k)) (sym n1)
        ∙ ap (λ v. wrapped o (turn_of t u) v) (i.made t (env_inside b u.x u.pos env) z (inside env (still _ _ env h.same vs)))
        ∙ ap (λ k. made_with (turn o (turn_of t u) (core_of t a)) k) (sym n2)
        ∙ ap (λ k. made_with (k) s4.next) (sym (q t));
    same = back;
  }

  -- the same, of all binds
  pub nest_first : {s0 s1 s2 s3 s4 : State} {f : Option Context} (all : List BindRef) (b : BindRef) (bs : List BindRef) (o : ℕ) (e : Last) (u : Turned) (a core : Core) → all ≡ b ∷ bs →
      MadeBy turn_of p s0 f (normed_turn p b) u s1 → ((env : Env) → Stands (vars_in s1.vars) env → Stands (vars_in s2.vars) (env_inside b u.x u.pos env)) → s2.next ≡ s1.next →
      MadeBy core_of p s2 f (normed_nested p bs o e) a s3 → vars_in s4.vars ≡ vars_in s0.vars → s4.next ≡ s3.next →
      ((t : Texts) → core_of t core ≡ turn o (turn_of t u) (core_of t a)) →
      MadeBy core_of p s0 f (normed_nested p all o e) core s4
  nest_first all b bs o e u a core is h inside n1 i back n2 q = rw is (nest_made b bs o e u a core h inside n1 i back n2 q)

  pub nest_last : {s0 s1 : State} {f : Option Context} (bs : List BindRef) (o : ℕ) (e : Last) (core : Core) → length bs ≡ 0 →
      MadeBy core_of p s0 f (normed_last p e o) core s1 → MadeBy core_of p s0 f (normed_nested p bs o e) core s1
  unfolding norm normed_last normed_nested
  nest_last [] o e core h i = made_as _ (normed_last p e o) (λ t r n z. refl) i
  nest_last (b ∷ bs) o e core h i = let none : ⊥ = omega (arith, h) in absurd none

  pub guarded_none : {s0 s1 : State} {f : Option Context} (w : Option ResolvedTree) (o : ℕ) (e : Texts → Syn resolved) (core : Core) → w ≡ None → MadeBy core_of p s0 f (normed p e) core s1 →
      MadeBy core_of p s0 f (normed_guarded p (λ t. trees.maybe t w) o e) core s1
  unfolding norm normed normed_guarded
  guarded_none w o e core h i = rw h i

  pub guarded_some : {s0 s1 s2 : State} {f : Option Context} (w : Option ResolvedTree) (v x : ResolvedTree) (o : ℕ) (e : Texts → Syn resolved) (test whole core : Core) → w ≡ Some v → x ≡ v →
      MadeBy core_of p s0 f (normed p (λ t. syn_resolved t x)) test s1 → MadeBy core_of p s1 f (normed p e) whole s2 →
      ((t : Texts) → core_of t core ≡ c.If o (boolean (place_of (syn_resolved t x)) (core_of t test)) (core_of t whole) (c.Empty o)) →
      MadeBy core_of p s0 f (normed_guarded p (λ t. trees.maybe t w) o e) core s2
  unfolding norm normed normed_guarded
  guarded_some w v x o e test whole core h k i j q =
      rw (h, sym k)
      (then_made (normed p (λ t. syn_resolved t x)) (λ t a r. norm p.base (bodies_in t p) (e t) r ▷= λ b. give (c.If o (boolean (place_of (syn_resolved t x)) a) b (c.Empty o))) i
      (then_made (normed p e) (λ t b r. give (c.If o (boolean (place_of (syn_resolved t x)) (core_of t test)) b (c.Empty o))) j (given _ (λ t z. q t))))

  pub last_result : {s0 s1 : State} {f : Option Context} (l : Last) (w : _) (e : _) (o : ℕ) (core : Core) → l ≡ last_.Result w e →
      MadeBy core_of p s0 f (normed_guarded p (λ t. trees.maybe t w.now) o (λ t. syn_resolved t e.now)) core s1 → MadeBy core_of p s0 f (normed_last p l o) core s1
  unfolding normed_guarded normed_last
  last_result l w e o core h i = rw h i

  pub last_asked : {s0 s1 : State} {f : Option Context} (l : Last) (q : Quantifier) (e : _) (o : ℕ) (asked core : Core) → l ≡ last_.Asked q e →
      MadeBy core_of p s0 f (normed p (λ t. syn_resolved t e.now)) asked s1 →
      ((t : Texts) → core_of t core ≡ witness o q (boolean (place_of (syn_resolved t e.now)) (core_of t asked))) → MadeBy core_of p s0 f (normed_last p l o) core s1
  unfolding normed normed_last
  last_asked l q e o asked core h i k =
      rw h (then_made (normed p (λ t. syn_resolved t e.now)) (λ t a r. give (witness o q (boolean (place_of (syn_resolved t e.now)) a))) i (given _ (λ t z. k t)))

  -- a bind over its value
  pub turn_of_value : {s0 s1 s2 : State} {f : Option Context} (b : BindRef) (e : ResolvedTree) (value : Core) (ty : Texts → Option SequenceTest) (at : ℕ) (u : Turned) (make : Texts → Option SequenceTest → ℕ → PlainCore → Makes Turn) →
      MadeBy core_of p s0 f (normed p (λ t. syn_resolved t e)) value s1 → ((t : Texts) → make t (ty t) at (core_of t value) s1.next ≡ made_with (turn_of t u) s2.next) → vars_in s2.vars ≡ vars_in s1.vars →
      MadeBy turn_of p s0 f (λ t r. norm p.base (bodies_in t p) (syn_resolved t e) r ▷= λ a. make t (ty t) at a) u s2
  unfolding normed
  turn_of_value {s0 = s0} {f = f} b e value ty at u make h q same = record {
    made = λ t env z vs. ap (λ (m : Made PlainCore). make t (ty t) at m.made m.next) (h.made t env z vs) ∙ q t;
    same = same ∙ h.same;
  }

  pub turned_for : {s0 s1 s2 : State} {f : Option Context} (b : BindRef) (value : Core) (at : ℕ) (u : Turned) (ty : Texts → Option SequenceTest) → b.is_loop ≡ true →
      MadeBy core_of p s0 f (normed p (λ t. syn_resolved t b.value.now)) value s1 → ((t : Texts) → at ≡ place_of (syn_resolved t b.value.now)) → ((t : Texts) → ty t ≡ trees.type_of t b.ty) →
      ((t : Texts) → for_turn p.base (ty t) at (core_of t value) s1.next ≡ made_with (turn_of t u) s2.next) → vars_in s2.vars ≡ vars_in s1.vars →
      MadeBy turn_of p s0 f (normed_turn p b) u s2
  unfolding normed_turn
  turned_for b value at u ty l h a y q same =
      made_as _ (λ t r. norm p.base (bodies_in t p) (syn_resolved t b.value.now) r ▷= λ v. for_turn p.base (ty t) at v) (λ t r n z. rw (l, a t, y t) refl)
      (turn_of_value b b.value.now value ty at u (λ t w o v. for_turn p.base w o v) h q same)

  pub turned_let : {s0 s1 s2 : State} {f : Option Context} (b : BindRef) (value : Core) (at : ℕ) (u : Turned) (ty : Texts → Option SequenceTest) → b.is_loop ≡ false →
      MadeBy core_of p s0 f (normed p (λ t. syn_resolved t b.value.now)) value s1 → ((t : Texts) → at ≡ place_of (syn_resolved t b.value.now)) → ((t : Texts) → ty t ≡ trees.type_of t b.ty) →
      ((t : Texts) → let_turn p.base (ty t) at (core_of t value) s1.next ≡ made_with (turn_of t u) s2.next) → vars_in s2.vars ≡ vars_in s1.vars →
      MadeBy turn_of p s0 f (normed_turn p b) u s2
  unfolding normed_turn
  turned_let b value at u ty l h a y q same =
      made_as _ (λ t r. norm p.base (bodies_in t p) (syn_resolved t b.value.now) r ▷= λ v. let_turn p.base (ty t) at v) (λ t r n z. rw (l, a t, y t) refl)
      (turn_of_value b b.value.now value ty at u (λ t w o v. let_turn p.base w o v) h q same)

  -- a FLWOR without keys, and a quantifier
  pub flwor_made : {s0 s1 : State} {f : Option Context} (o : ℕ) (cs : Texts → Binds resolved) (w : _) (e : _) (l : Last) (bs bs' : List BindRef) (core : Core) → l ≡ last_.Result w e → bs' ≡ bs →
      ((t : Texts) → binds_in t bs s.no_binds ≡ cs t) → MadeBy core_of p s0 f (normed_nested p bs' o l) core s1 →
      MadeBy core_of p s0 f (normed p (λ t. s.flwor o (cs t) (trees.maybe t w.now) s.no_keys (syn_resolved t e.now))) core s1
  unfolding norm normed normed_nested
  flwor_made o cs w e l bs bs' core h k q i =
      made_as _ (normed_nested p bs' o l) (λ t r n z. rw (h, k) (ap (λ u. nested p.base (bodies_in t p) u o (λ x. norm_where p.base (bodies_in t p) (trees.maybe t w.now) o (norm p.base (bodies_in t p) (syn_resolved t e.now)) x) r n) (sym (q t)))) i

  pub quantified_made : {s0 s1 : State} {f : Option Context} (o : ℕ) (k : Quantifier) (cs : Texts → Binds resolved) (e : _) (l : Last) (bs bs' : List BindRef) (inner core : Core) → l ≡ last_.Asked k e → bs' ≡ bs →
      ((t : Texts) → binds_in t bs s.no_binds ≡ cs t) → MadeBy core_of p s0 f (normed_nested p bs' o l) inner s1 → ((t : Texts) → core_of t core ≡ quantified o k (core_of t inner)) →
      MadeBy core_of p s0 f (normed p (λ t. s.quantified o k (cs t) (syn_resolved t e.now))) core s1
  unfolding norm normed normed_nested
  quantified_made o k cs e l bs bs' inner core h m q i j =
      made_as _ (λ t r. normed_nested p bs' o l t r ▷= λ a. give (quantified o k a))
      (λ t r n z. rw (h, m) (ap (λ u. (nested p.base (bodies_in t p) u o (λ x. norm p.base (bodies_in t p) (syn_resolved t e.now) x ▷= λ a. give (witness o k (boolean (place_of (syn_resolved t e.now)) a))) r ▷= λ a. give (quantified o k a)) n) (sym (q t))))
      (then_made (normed_nested p bs' o l) (λ t a r. give (quantified o k a)) i (given _ (λ t z. j t)))

-- the new variables of a bind
pub for_turn_made : (base : ℕ) (ty : Option SequenceTest) (place : ℕ) (a : PlainCore) (n y n1 q n2 x n3 : ℕ) → fresh base n ≡ made_with (y) n1 → fresh base n1 ≡ made_with (q) n2 →
    bound base ty y n2 ≡ made_with (x) n3 → for_turn base ty place a n ≡ record { made = record { pos = Some q; y = y; x = x; ty = ty; place = place; seq = a }; next = n3 }
for_turn_made base ty place a n y n1 q n2 x n3 h i j =
    ap (λ (u : Made ℕ). (fresh base ▷= λ q. bound base ty u.made ▷= λ x. give (record { pos = Some q; y = u.made; x = x; ty = ty; place = place; seq = a })) u.next) h
    ∙ ap (λ (u : Made ℕ). (bound base ty y ▷= λ x. give (record { pos = Some u.made; y = y; x = x; ty = ty; place = place; seq = a })) u.next) i
    ∙ ap (λ (u : Made ℕ). record { made = record { pos = Some q; y = y; x = u.made; ty = ty; place = place; seq = a }; next = u.next }) j

pub let_turn_made : (base : ℕ) (ty : Option SequenceTest) (place : ℕ) (a : PlainCore) (n y n1 x n3 : ℕ) → fresh base n ≡ made_with (y) n1 →
    bound base ty y n1 ≡ made_with (x) n3 → let_turn base ty place a n ≡ record { made = record { pos = None; y = y; x = x; ty = ty; place = place; seq = a }; next = n3 }
let_turn_made base ty place a n y n1 x n3 h j =
    ap (λ (u : Made ℕ). (bound base ty u.made ▷= λ x. give (record { pos = None; y = u.made; x = x; ty = ty; place = place; seq = a })) u.next) h
    ∙ ap (λ (u : Made ℕ). record { made = record { pos = None; y = y; x = u.made; ty = ty; place = place; seq = a }; next = u.next }) j
