-- Loops with keys, part by part.
use Rattle.std.proofs.Common.{◌≡◌, refl, sym, ap, ◌∙◌, arith, ℕ, ◌+◌, ◌<◌, ◌≤◌, Bool, true, false, cond, List, [], ◌∷◌, ◌++◌, map, length, drop, get_or, Option, Some, None}
use Rattle.std.proofs.lemmas.List.{map-append}
use Rattle.core_meaning.specs.declared.node.Bind.{Bind}
use Rattle.core_meaning.specs.declared.node.Core.{Core}
use Rattle.core_meaning.specs.declared.node.SortKey.{SortKey}
use Rattle.core_meaning.specs.Erasure.{Texts, binds_of, core_of, keys_of, plain_bind, plain_key}
use Rattle.core_meaning.specs.PlainCore.{PlainBind, PlainCore, PlainKey}
use Rattle.core_meaning.specs.PlainCore as c
use Rattle.core_meaning.specs.Types.{SequenceTest}
use Rattle.xq_ast.specs.declared.node.Key.{Key}
use Rattle.core_scope.specs.Syn.{Binds, resolved, place_of}
use Rattle.core_scope.specs.Syn as s
use Rattle.core_scope.specs.Leaves.{ResolvedTree, syn_resolved}
use Rattle.core_normal.specs.declared.bind_refs.BindRef.{BindRef}
use Rattle.core_normal.specs.declared.binds.Turned.{Turned}
use Rattle.core_normal.specs.declared.bodies.Bodies.{Bodies}
use Rattle.core_normal.specs.declared.bodies.State.{State}
use Rattle.core_normal.specs.declared.pieces.Context.{Context}
use Rattle.core_normal.specs.declared.sorting.Keyed.{Keyed}
use Rattle.core_normal.specs.declared.sorting.Parted.{Parted}
use Rattle.core_normal.specs.Fresh.{Made, Makes, give, ◌▷=◌}
use Rattle.core_normal.specs.Around.{Around, Env}
use Rattle.core_normal.specs.Binding.{bind_in, binds_in, env_inside, normed_turn}
use Rattle.core_normal.specs.Making.{Making, MadeBy, SoFar, around_of, bodies_in, normed}
use Rattle.core_normal.specs.Normal.{norm, norm_keys, sorted}
use Rattle.core_normal.specs.Pieces.{Tail, boolean, led_by, sorted_core, tested_bind, typed}
use Rattle.core_normal.specs.Rows.{Turn, bind_turn, behind_for, behind_let, led, made_for, made_let}
use Rattle.core_normal.specs.Sorting.{before_binds, before_keys, keyed_in, keys_in, leading, normed_by_keys, normed_key, normed_keyed, normed_keys, normed_sorted, normed_where, parts_in}
use Rattle.core_normal.specs.Standing.{Stands, vars_in}
use Rattle.core_normal.specs.Turned.{turn_of}
use Rattle.core_normal.specs.Trees as trees
use Rattle.core_normal.proofs.Folding.{turn, finish, all_left, made_as}
use Rattle.core_normal.proofs.LoopsMade.{inside_at, inside_let}
use Rattle.core_normal.proofs.Made.{then_made, given, still}
use Rattle.core_normal.proofs.NormForms.{made_with}
use Rattle.core_normal.proofs.RowLaws.{for_sorted, let_sorted}

before_more : (bs : List PlainBind) (b : PlainBind) (more : c.Binds) → before_binds (bs ++ b ∷ []) more ≡ before_binds bs (c.one_bind b more)
before_more [] b more = refl
before_more (x ∷ xs) b more = ap (c.one_bind x) (before_more xs b more)

before_none : (bs : List PlainBind) → before_binds bs c.no_binds ≡ binds_of bs
before_none [] = refl
before_none (x ∷ xs) = ap (c.one_bind x) (before_none xs)

keys_more : (ks : List PlainKey) (k : PlainKey) (more : c.Keys) → before_keys (ks ++ k ∷ []) more ≡ before_keys ks (c.one_key k more)
keys_more [] k more = refl
keys_more (x ∷ xs) k more = ap (c.one_key x) (keys_more xs k more)

keys_none : (ks : List PlainKey) → before_keys ks c.no_keys ≡ keys_of ks
keys_none [] = refl
keys_none (x ∷ xs) = ap (c.one_key x) (keys_none xs)

same_binds : (f g : c.Binds → c.Binds) → ((x : c.Binds) → f x ≡ g x) → f ≡ g
same_binds f g h = λ i. λ x. h x i

-- one bind more was made
pub lead_more : (t : Texts) (out all : List Bind) (b : Bind) (plain : PlainBind) → all ≡ out ++ b ∷ [] → plain_bind t b ≡ plain → (more : c.Binds) → leading t all more ≡ leading t out (c.one_bind plain more)
lead_more t out all b plain e q more =
    ap (λ l. leading t l more) e ∙ ap (λ l. before_binds l more) (map-append (plain_bind t) out (b ∷ []))
    ∙ before_more (map (plain_bind t) out) (plain_bind t b) more ∙ ap (λ p. leading t out (c.one_bind p more)) q

-- a bind with the test of its type
pub with_test_none : (t : Texts) (o y x : ℕ) (ty : Option SequenceTest) (out : List Bind) (more : c.Binds) → ty ≡ None → leading t out more ≡ leading t out (tested_bind o ty y x more)
with_test_none t o y x ty out more e = rw e refl

pub with_test_some : (t : Texts) (o y x : ℕ) (ty : Option SequenceTest) (w : SequenceTest) (out all : List Bind) (test : Bind) (value : PlainCore) → ty ≡ Some w → all ≡ out ++ test ∷ [] →
    plain_bind t test ≡ c.let_bind x value → value ≡ typed o y w → (more : c.Binds) → leading t all more ≡ leading t out (tested_bind o ty y x more)
with_test_some t o y x ty w out all test value e m q k more = rw e (lead_more t out all test (c.let_bind x (typed o y w)) m (q ∙ ap (c.let_bind x) k) more)

module _ (p : Bodies) where
  -- the condition
  pub where_none : {s0 : State} {f : Option Context} (w : Option ResolvedTree) (out : List Bind) → w ≡ None → MadeBy leading p s0 f (normed_where p (λ t. trees.maybe t w) (λ t. leading t out)) out s0
  unfolding norm normed_where
  where_none w out h = rw h (given (λ t. leading t out) (λ t z. refl))

  pub where_some : {s0 s1 : State} {f : Option Context} (w : Option ResolvedTree) (v x : ResolvedTree) (out all : List Bind) (test truth : Core) → w ≡ Some v → x ≡ v →
      MadeBy core_of p s0 f (normed p (λ t. syn_resolved t x)) test s1 → ((t : Texts) → core_of t truth ≡ boolean (place_of (syn_resolved t x)) (core_of t test)) →
      ((t : Texts) (more : c.Binds) → leading t all more ≡ leading t out (c.one_bind (c.where_bind (core_of t truth)) more)) →
      MadeBy leading p s0 f (normed_where p (λ t. trees.maybe t w) (λ t. leading t out)) all s1
  unfolding norm normed normed_where
  where_some w v x out all test truth h k i b q =
      rw (h, sym k)
      (then_made (normed p (λ t. syn_resolved t x)) (λ t a r. give (λ ts. leading t out (c.one_bind (c.where_bind (boolean (place_of (syn_resolved t x)) a)) ts))) i
      (given (λ t. λ ts. leading t out (c.one_bind (c.where_bind (boolean (place_of (syn_resolved t x)) (core_of t test))) ts))
      (λ t z. same_binds _ _ (λ ts. q t ts ∙ ap (λ a. leading t out (c.one_bind (c.where_bind a) ts)) (b t)))))

  -- a key, and keys one after the other
  pub key_made : {s0 s1 : State} {f : Option Context} (k : Key ResolvedTree) (x : ResolvedTree) (a : Core) (key : SortKey) → x ≡ k.key →
      MadeBy core_of p s0 f (normed p (λ t. syn_resolved t x)) a s1 → ((t : Texts) → plain_key t key ≡ c.key_by (core_of t a) k.descending k.empty_greatest) →
      MadeBy plain_key p s0 f (normed_key p k) key s1
  unfolding normed normed_key
  key_made k x a key e i q =
      made_as _ (λ t r. normed p (λ t. syn_resolved t x) t r ▷= λ a. give (c.key_by a k.descending k.empty_greatest))
      (λ t r n z. ap (λ u. (norm p.base (bodies_in t p) (syn_resolved t u) r ▷= λ a. give (c.key_by a k.descending k.empty_greatest)) n) (sym e))
      (then_made (normed p (λ t. syn_resolved t x)) (λ t a r. give (c.key_by a k.descending k.empty_greatest)) i (given _ (λ t z. q t)))

  pub keys_rest : List SortKey → List (Key ResolvedTree) → Making c.Keys
  keys_rest made ks t r = norm_keys p.base (bodies_in t p) (trees.keys t ks) r ▷= λ more. give (before_keys (map (plain_key t) made) more)

  pub keys_start : {s0 : State} {f : Option Context} (ks : List (Key ResolvedTree)) (made : List SortKey) → made ≡ [] → SoFar p s0 f (normed_keys p ks) (keys_rest made (drop 0 ks)) s0
  unfolding normed_keys keys_rest
  keys_start ks made e = all_left _ _ (λ t r n z. rw e refl)

  pub keys_turn : {s0 s1 s2 : State} {f : Option Context} (ks : List (Key ResolvedTree)) (i : ℕ) (k : Key ResolvedTree) (made more : List SortKey) (key : SortKey) → i < length ks → k ≡ get_or ks i k → more ≡ made ++ key ∷ [] →
      SoFar p s0 f (normed_keys p ks) (keys_rest made (drop i ks)) s1 → MadeBy plain_key p s1 f (normed_key p k) key s2 → SoFar p s0 f (normed_keys p ks) (keys_rest more (drop (i + 1) ks)) s2
  unfolding normed_key norm keys_rest
  keys_turn ks i k made more key h is m so one =
      turn (normed_keys p ks) keys_rest (normed_key p k) ks i k made more h is
      (λ ys t r n j z q.
      ap (λ (u : Made PlainKey). (norm_keys p.base (bodies_in t p) (trees.keys t ys) r ▷= λ more. give (before_keys (map (plain_key t) made) (c.one_key u.made more))) u.next) q
      ∙ one_more t (norm_keys p.base (bodies_in t p) (trees.keys t ys) r j)) so one
    where
      one_more : (t : Texts) (u : Made c.Keys) → made_with (before_keys (map (plain_key t) made) (c.one_key (plain_key t key) u.made)) u.next ≡ made_with (before_keys (map (plain_key t) more) u.made) u.next
      one_more t u =
          ap (λ l. made_with l u.next)
          (sym (keys_more (map (plain_key t) made) (plain_key t key) u.made) ∙ ap (λ l. before_keys l u.made) (sym (map-append (plain_key t) made (key ∷ []))) ∙ ap (λ l. before_keys (map (plain_key t) l) u.made) (sym m))

  pub keys_end : {s0 s1 : State} {f : Option Context} (ks : List (Key ResolvedTree)) (i : ℕ) (made : List SortKey) → length ks ≤ i → SoFar p s0 f (normed_keys p ks) (keys_rest made (drop i ks)) s1 →
      MadeBy keys_in p s0 f (normed_keys p ks) made s1
  unfolding norm keys_rest
  keys_end ks i made h so = finish _ keys_rest ks i made made h (λ t r n z. ap (λ l. made_with l n) (keys_none (map (plain_key t) made))) so

  -- what stands inside all binds
  pub keyed_made : {s0 s1 s2 s3 : State} {f : Option Context} (a : Keyed) (out all : List Bind) (ks : List SortKey) (body : Core) →
      MadeBy leading p s0 f (normed_where p (λ t. trees.maybe t a.condition.now) (λ t. leading t out)) all s1 → MadeBy keys_in p s1 f (normed_keys p a.keys.now) ks s2 →
      MadeBy core_of p s2 f (normed p (λ t. syn_resolved t a.body.now)) body s3 →
      MadeBy parts_in p s0 f (normed_keyed p a (λ t. leading t out)) (record { binds = all; keys = ks; body = body }) s3
  unfolding normed normed_keyed normed_keys normed_where
  keyed_made a out all ks body h i j =
      made_as _ (λ t r. normed_where p (λ t. trees.maybe t a.condition.now) (λ t. leading t out) t r ▷= λ g. normed_keys p a.keys.now t r ▷= λ k. normed p (λ t. syn_resolved t a.body.now) t r ▷= λ b.
      give (record { binds = g c.no_binds; keys = k; body = b }))
      (λ t r n z. refl)
      (then_made (normed_where p (λ t. trees.maybe t a.condition.now) (λ t. leading t out)) (λ t g r. normed_keys p a.keys.now t r ▷= λ k. normed p (λ t. syn_resolved t a.body.now) t r ▷= λ b. give (record { binds = g c.no_binds; keys = k; body = b })) h
      (then_made (normed_keys p a.keys.now) (λ t k r. normed p (λ t. syn_resolved t a.body.now) t r ▷= λ b. give (record { binds = leading t all c.no_binds; keys = k; body = b })) i
      (then_made (normed p (λ t. syn_resolved t a.body.now)) (λ t b r. give (record { binds = leading t all c.no_binds; keys = keys_in t ks; body = b })) j
      (given (λ t. record { binds = leading t all c.no_binds; keys = keys_in t ks; body = core_of t body }) (λ t z. ap (λ l. record { binds = l; keys = keys_in t ks; body = core_of t body }) (sym (before_none (map (plain_bind t) all))))))))

  -- the first bind stands before the others
  front : (b : BindRef) (rest : Binds resolved) (last : Around → Makes Tail) (t : Texts) (r : Around) (n m : ℕ) (u : Turned) →
      normed_turn p b t r n ≡ made_with (turn_of t u) m →
      sorted p.base (bodies_in t p) (bind_in t b rest) last r n
      ≡ led (turn_of t u) (sorted p.base (bodies_in t p) rest last (record { env = env_inside b u.x u.pos r.env; focus = r.focus }) m)
  unfolding normed_turn
  front b rest last t r n m u h = at b.is_loop h
    where
      at : (loop : Bool) →
          cond loop (made_for p.base (bodies_in t p) (trees.type_of t b.ty) (syn_resolved t b.value.now) r) (made_let p.base (bodies_in t p) (trees.type_of t b.ty) (syn_resolved t b.value.now) r) n ≡ made_with (turn_of t u) m →
          sorted p.base (bodies_in t p) (cond loop (s.for_bind b.offset b.var (trees.type_of t b.ty) b.at (syn_resolved t b.value.now) rest) (s.let_bind b.offset b.var (trees.type_of t b.ty) (syn_resolved t b.value.now) rest)) last r n
          ≡ led (turn_of t u) (sorted p.base (bodies_in t p) rest last (record { env = env_inside b u.x u.pos r.env; focus = r.focus }) m)
      at true q =
          for_sorted p.base (bodies_in t p) b.offset b.var (trees.type_of t b.ty) b.at (syn_resolved t b.value.now) rest last r n
          ∙ ap (λ (v : Made Turn). led v.made (sorted p.base (bodies_in t p) rest last (behind_for b.var b.at v.made r) v.next)) q
          ∙ ap (λ a. led (turn_of t u) (sorted p.base (bodies_in t p) rest last a m)) (inside_at b.var u.x b.at u.pos r)
      at false q =
          let_sorted p.base (bodies_in t p) b.offset b.var (trees.type_of t b.ty) (syn_resolved t b.value.now) rest last r n
          ∙ ap (λ (v : Made Turn). led v.made (sorted p.base (bodies_in t p) rest last (behind_let b.var v.made r) v.next)) q
          ∙ ap (λ a. led (turn_of t u) (sorted p.base (bodies_in t p) rest last a m)) (inside_let b.var u.x b.at u.pos r (ap (λ (v : Made Turn). v.made.pos) q))

  -- its place among the binds that were made
  moved : (t : Texts) (out more : List Bind) (b : Turn) → ((ts : c.Binds) → leading t more ts ≡ leading t out (bind_turn b ts)) → (m : Made Tail) →
      made_with (led_by (leading t out) (led b m).made) m.next ≡ made_with (led_by (leading t more) m.made) m.next
  moved t out more b q m = ap (λ l. made_with (record { binds = l; keys = m.made.keys; body = m.made.body }) m.next) (sym (q m.made.binds))

  sort_made : {s0 s1 s2 s3 s4 : State} {f : Option Context} (b : BindRef) (bs : List BindRef) (a : Keyed) (u : Turned) (out more : List Bind) (x : Parted) →
      MadeBy turn_of p s0 f (normed_turn p b) u s1 → ((env : Env) → Stands (vars_in s1.vars) env → Stands (vars_in s2.vars) (env_inside b u.x u.pos env)) → s2.next ≡ s1.next →
      ((t : Texts) (ts : c.Binds) → leading t more ts ≡ leading t out (bind_turn (turn_of t u) ts)) →
      MadeBy parts_in p s2 f (normed_sorted p bs a (λ t. leading t more)) x s3 → vars_in s4.vars ≡ vars_in s0.vars → s4.next ≡ s3.next →
      MadeBy parts_in p s0 f (normed_sorted p (b ∷ bs) a (λ t. leading t out)) x s4
  unfolding normed_sorted
  sort_made {s0 = s0} {s1 = s1} {s2 = s2} {s3 = s3} {s4 = s4} {f = f} b bs a u out more x h inside n1 q i back n2 = record {
    made = λ t env z vs.
        ap (λ (m : Made Tail). made_with (led_by (leading t out) m.made) m.next) (front b (binds_in t bs s.no_binds) (λ w. keyed_in p a.condition.now a.keys.now a.body.now t w) t (around_of env f) s0.next s1.next u (h.made t env z vs))
        ∙ ap (λ k. made_with (led_by (leading t out) (led (turn_of t u) (sorted p.base (bodies_in t p) (binds_in t bs s.no_binds) (λ w. keyed_in p a.condition.now a.keys.now a.body.now t w) (around_of (env_inside b u.x u.pos env) f) k)).made)
        ((sorted p.base (bodies_in t p) (binds_in t bs s.no_binds) (λ w. keyed_in p a.condition.now a.keys.now a.body.now t w) (around_of (env_inside b u.x u.pos env) f) k).next)) (sym n1)
        ∙ moved t out more (turn_of t u) (q t) (sorted p.base (bodies_in t p) (binds_in t bs s.no_binds) (λ w. keyed_in p a.condition.now a.keys.now a.body.now t w) (around_of (env_inside b u.x u.pos env) f) s2.next)
        ∙ i.made t (env_inside b u.x u.pos env) z (inside env (still _ _ env h.same vs))
        ∙ ap (λ k. made_with (parts_in t x) k) (sym n2);
    same = back;
  }

  pub sort_first : {s0 s1 s2 s3 s4 : State} {f : Option Context} (all : List BindRef) (b : BindRef) (bs : List BindRef) (a : Keyed) (u : Turned) (out more : List Bind) (x : Parted) → all ≡ b ∷ bs →
      MadeBy turn_of p s0 f (normed_turn p b) u s1 → ((env : Env) → Stands (vars_in s1.vars) env → Stands (vars_in s2.vars) (env_inside b u.x u.pos env)) → s2.next ≡ s1.next →
      ((t : Texts) (ts : c.Binds) → leading t more ts ≡ leading t out (bind_turn (turn_of t u) ts)) →
      MadeBy parts_in p s2 f (normed_sorted p bs a (λ t. leading t more)) x s3 → vars_in s4.vars ≡ vars_in s0.vars → s4.next ≡ s3.next →
      MadeBy parts_in p s0 f (normed_sorted p all a (λ t. leading t out)) x s4
  sort_first all b bs a u out more x is h inside n1 q i back n2 = rw is (sort_made b bs a u out more x h inside n1 q i back n2)

  pub sort_last : {s0 s1 : State} {f : Option Context} (bs : List BindRef) (a : Keyed) (out : List Bind) (x : Parted) → length bs ≡ 0 →
      MadeBy parts_in p s0 f (normed_keyed p a (λ t. leading t out)) x s1 → MadeBy parts_in p s0 f (normed_sorted p bs a (λ t. leading t out)) x s1
  unfolding norm normed_keyed normed_sorted
  sort_last [] a out x h i = made_as _ (normed_keyed p a (λ t. leading t out)) (λ t r n z. refl) i
  sort_last (b ∷ bs) a out x h i = let none : ⊥ = omega (arith, h) in absurd none

  -- a loop with keys, and all FLWORs
  pub sorted_made : {s0 s1 : State} {f : Option Context} (o : ℕ) (cs : Texts → Binds resolved) (a : Keyed) (bs bs' : List BindRef) (none : List Bind) (x : Parted) (core : Core) → bs' ≡ bs → none ≡ [] →
      ((t : Texts) → binds_in t bs s.no_binds ≡ cs t) → MadeBy parts_in p s0 f (normed_sorted p bs' a (λ t. leading t none)) x s1 →
      ((t : Texts) → core_of t core ≡ c.Sorted o (binds_of (map (plain_bind t) x.binds)) (keys_in t x.keys) (core_of t x.body)) →
      MadeBy core_of p s0 f (normed_by_keys p o cs a.condition.now a.keys.now a.body.now) core s1
  unfolding normed_by_keys normed_sorted
  sorted_made o cs a bs bs' none x core k e q i j =
      made_as _ (λ t r. normed_sorted p bs' a (λ t. leading t none) t r ▷= λ x. give (sorted_core o x))
      (λ t r n z. rw (k, e) (ap (λ u. (sorted p.base (bodies_in t p) u (λ w. keyed_in p a.condition.now a.keys.now a.body.now t w) r ▷= λ x. give (sorted_core o x)) n) (sym (q t))))
      (then_made (normed_sorted p bs' a (λ t. leading t none)) (λ t x r. give (sorted_core o x)) i (given _ (λ t z. j t)))

  pub flwor_plain : {s0 s1 : State} {f : Option Context} (o : ℕ) (cs : Texts → Binds resolved) (w : Option ResolvedTree) (ks : List (Key ResolvedTree)) (e : ResolvedTree) (core : Core) → length ks ≡ 0 →
      MadeBy core_of p s0 f (normed p (λ t. s.flwor o (cs t) (trees.maybe t w) s.no_keys (syn_resolved t e))) core s1 →
      MadeBy core_of p s0 f (normed p (λ t. s.flwor o (cs t) (trees.maybe t w) (trees.keys t ks) (syn_resolved t e))) core s1
  flwor_plain o cs w [] e core h i = i
  flwor_plain o cs w (k ∷ ks) e core h i = let none : ⊥ = omega (arith, h) in absurd none

  pub flwor_sorted : {s0 s1 : State} {f : Option Context} (o : ℕ) (cs : Texts → Binds resolved) (w : Option ResolvedTree) (ks : List (Key ResolvedTree)) (e : ResolvedTree) (core : Core) → 1 ≤ length ks →
      MadeBy core_of p s0 f (normed_by_keys p o cs w ks e) core s1 →
      MadeBy core_of p s0 f (normed p (λ t. s.flwor o (cs t) (trees.maybe t w) (trees.keys t ks) (syn_resolved t e))) core s1
  unfolding norm normed normed_by_keys
  flwor_sorted o cs w [] e core h i = let none : ⊥ = omega (arith, h) in absurd none
  flwor_sorted o cs w (k ∷ ks) e core h i = made_as _ (normed_by_keys p o cs w (k ∷ ks) e) (λ t r n z. refl) i
