-- Predicates and the steps of paths.
use Rattle.std.proofs.Common.{◌≡◌, refl, sym, ap, ◌∙◌, ℕ, ◌+◌, ◌<◌, ◌≤◌, List, [], ◌∷◌, length, drop, get_or, Option, Some}
use Rattle.xq_base.specs.declared.axis.Axis.{Axis}
use Rattle.xq_base.specs.declared.item.TextId.{TextId}
use Rattle.doc_table.specs.Tree.{text_in}
use Rattle.core_meaning.specs.declared.node.Core.{Core}
use Rattle.core_meaning.specs.declared.node.StepFrom.TheVariants as from_
use Rattle.core_meaning.specs.Erasure.{Texts, core_of}
use Rattle.core_meaning.specs.PlainCore.{PlainCore}
use Rattle.core_meaning.specs.PlainCore as c
use Rattle.xq_ast.specs.declared.leaf.Test.{Test as CodeTest}
use Rattle.xq_ast.specs.declared.node.Behind.{Behind}
use Rattle.xq_ast.specs.declared.node.Slashes.TheVariants as slashes_
use Rattle.xq_ast.specs.declared.node.Start.{Start}
use Rattle.xq_ast.specs.declared.node.Start.TheVariants as start_
use Rattle.xq_ast.specs.declared.node.Step.{Step}
use Rattle.xq_ast.specs.declared.node.StepKind.TheVariants as step_
use Rattle.core_scope.specs.Syn.{Syn, Syns, resolved}
use Rattle.core_scope.specs.Syn as s
use Rattle.core_scope.specs.Erasure.{all_below, start_of, test_of}
use Rattle.core_scope.specs.Leaves.{ResolvedTree, syn_resolved}
use Rattle.core_normal.specs.declared.pieces.Context.{Context}
use Rattle.core_normal.specs.declared.bodies.Bodies.{Bodies}
use Rattle.core_normal.specs.declared.bodies.State.{State}
use Rattle.core_normal.specs.Fresh.{Made, fresh, give, ◌▷=◌}
use Rattle.core_normal.specs.Around.{Around, Env, focused}
use Rattle.core_normal.specs.Held.{focus_of}
use Rattle.core_normal.specs.Pieces.{counted, dot_at, for_each_node, ordered, root_at, selected}
use Rattle.core_normal.specs.Normal.{norm, predicates}
use Rattle.core_normal.specs.Stepping.{behind_slashes, chosen_from_dot, next_step, next_steps, walked}
use Rattle.core_normal.specs.Trees.{behinds, step, syns}
use Rattle.core_normal.specs.Making.{ArePicked, IsFresh, Making, MadeBy, SoFar, around_of, bodies_in, normed, normed_behind, normed_chosen, normed_filtered, normed_first, normed_here, normed_next, normed_on, normed_predicate, normed_predicates, normed_through}
use Rattle.core_normal.proofs.Folding.{turn, finish, all_left, made_as}
use Rattle.core_normal.proofs.Made.{then_made, given}
use Rattle.core_normal.proofs.NormForms.{made_with, first_law, next_steps_law}

-- a variable stands for itself
abbrev pub itself : Texts → ℕ → ℕ
itself t x = x

module _ (p : Bodies) where
  -- a new variable
  pub fresh_made : {f : Option Context} {s0 s1 : State} {x : ℕ} → IsFresh p s0 x s1 → MadeBy itself p s0 f (λ t r. fresh p.base) x s1
  fresh_made h = record {
    made = λ t env z vs. h.gives;
    same = h.same;
  }

  -- with the context of an item
  pub refocused : {f : Option Context} {A B : Type 0} {read : Texts → A → B} {s0 s1 : State} {x : A} (item place last : ℕ) (m : Making B) →
      MadeBy read p s0 (Some (record { item = item; place = place; last = last })) m x s1 → MadeBy read p s0 f (λ t r. m t (focused item place last r)) x s1
  unfolding focused
  refocused item place last m h = record {
    made = λ t env z vs. h.made t env z vs;
    same = h.same;
  }

  pub predicate_made : {f : Option Context} {s0 s4 s5 s6 : State} {y last dot place v : ℕ} (o : ℕ) (e core a : Core) (q : Texts → Syn resolved) →
      ArePicked p s0 y last dot place s4 → IsFresh p s4 v s5 →
      MadeBy core_of p s5 (Some (record { item = dot; place = place; last = last })) (normed p q) a s6 →
      ((t : Texts) → core_of t core ≡ selected o (core_of t e) y last dot place v (core_of t a)) →
      MadeBy core_of p s0 f (normed_predicate p q o (λ t. core_of t e)) core s6
  unfolding normed normed_predicate
  predicate_made {y = y} {last = last} {dot = dot} {place = place} {v = v} o e core a q h hv m z =
      then_made {read = itself} (λ t r. fresh p.base)
      (λ t y r. fresh p.base ▷= λ last. fresh p.base ▷= λ dot. fresh p.base ▷= λ place. fresh p.base ▷= λ v. norm p.base (bodies_in t p) (q t) (focused dot place last r) ▷= λ a. give (selected o (core_of t e) y last dot place v a)) (fresh_made h.items)
      (then_made {read = itself} (λ t r. fresh p.base)
      (λ t last r. fresh p.base ▷= λ dot. fresh p.base ▷= λ place. fresh p.base ▷= λ v. norm p.base (bodies_in t p) (q t) (focused dot place last r) ▷= λ a. give (selected o (core_of t e) y last dot place v a)) (fresh_made h.count)
      (then_made {read = itself} (λ t r. fresh p.base)
      (λ t dot r. fresh p.base ▷= λ place. fresh p.base ▷= λ v. norm p.base (bodies_in t p) (q t) (focused dot place last r) ▷= λ a. give (selected o (core_of t e) y last dot place v a)) (fresh_made h.item)
      (then_made {read = itself} (λ t r. fresh p.base)
      (λ t place r. fresh p.base ▷= λ v. norm p.base (bodies_in t p) (q t) (focused dot place last r) ▷= λ a. give (selected o (core_of t e) y last dot place v a)) (fresh_made h.position)
      (then_made {read = itself} (λ t r. fresh p.base)
      (λ t v r. norm p.base (bodies_in t p) (q t) (focused dot place last r) ▷= λ a. give (selected o (core_of t e) y last dot place v a)) (fresh_made hv)
      (then_made (λ t r. normed p q t (focused dot place last r)) (λ t a r. give (selected o (core_of t e) y last dot place v a)) (refocused dot place last (normed p q) m)
      (given _ (λ t w. z t)))))))

  -- the predicates that are left, over what was selected
  pub predicates_rest : ℕ → Core → List ResolvedTree → Making PlainCore
  predicates_rest o left qs t r = predicates p.base (bodies_in t p) (syns t qs) o (core_of t left) r

  pub behind_rest : Core → List (Behind TextId ResolvedTree) → Making PlainCore
  behind_rest left bs t r = next_steps p.base (bodies_in t p) t bs (core_of t left) r

  pub predicates_start : {s0 : State} {f : Option Context} (o : ℕ) (e : Core) (qs : List ResolvedTree) → SoFar p s0 f (normed_predicates p (λ t. syns t qs) o (λ t. core_of t e)) (predicates_rest o e (drop 0 qs)) s0
  unfolding normed_predicates predicates_rest
  predicates_start o e qs = all_left _ _ (λ t r n z. refl)

  pub predicates_turn : {s0 : State} {s1 : State} {f : Option Context} {s2 : State} (o : ℕ) (w : Making PlainCore) (qs : List ResolvedTree) (i : ℕ) (q : ResolvedTree) (left more : Core) → i < length qs → q ≡ get_or qs i q →
      SoFar p s0 f w (predicates_rest o left (drop i qs)) s1 → MadeBy core_of p s1 f (normed_predicate p (λ t. syn_resolved t q) o (λ t. core_of t left)) more s2 →
      SoFar p s0 f w (predicates_rest o more (drop (i + 1) qs)) s2
  unfolding norm normed_predicate predicates_rest
  predicates_turn o w qs i q left more h is so one =
      turn w (predicates_rest o) (normed_predicate p (λ t. syn_resolved t q) o (λ t. core_of t left)) qs i q left more h is
      (λ ys t r n k z e. ap (λ (u : Made PlainCore). predicates p.base (bodies_in t p) (syns t ys) o u.made r u.next) e) so one

  pub predicates_end : {s0 : State} {s1 : State} {f : Option Context} (o : ℕ) (w : Making PlainCore) (qs : List ResolvedTree) (i : ℕ) (left : Core) → length qs ≤ i → SoFar p s0 f w (predicates_rest o left (drop i qs)) s1 → MadeBy core_of p s0 f w left s1
  unfolding norm predicates_rest
  predicates_end o w qs i left h so = finish w (predicates_rest o) qs i left left h (λ t r n z. refl) so

  pub filtered_made : {s0 : State} {s1 : State} {f : Option Context} {s2 : State} (o : ℕ) (m : Texts → Syn resolved) (qs : Texts → Syns resolved) (e core : Core) → MadeBy core_of p s0 f (normed p m) e s1 →
      MadeBy core_of p s1 f (normed_predicates p qs o (λ t. core_of t e)) core s2 → MadeBy core_of p s0 f (normed_filtered p o m qs) core s2
  unfolding normed normed_predicates normed_filtered
  filtered_made o m qs e core h i = then_made (normed p m) (λ t a r. predicates p.base (bodies_in t p) (qs t) o a r) h i

  -- steps from the context item
  none_here : (o : ℕ) (plain here : PlainCore) (t : Texts) (qs : List ResolvedTree) (r : Around) (n : ℕ) → qs ≡ [] →
      chosen_from_dot p.base (bodies_in t p) t o plain here (syns t qs) r n ≡ made_with plain n
  none_here o plain here t qs r n e = ap (λ ys. chosen_from_dot p.base (bodies_in t p) t o plain here (syns t ys) r n) e

  some_here : (o : ℕ) (plain here : PlainCore) (t : Texts) (qs : List ResolvedTree) (r : Around) (n : ℕ) → (qs ≡ [] → ⊥) →
      chosen_from_dot p.base (bodies_in t p) t o plain here (syns t qs) r n ≡ (predicates p.base (bodies_in t p) (syns t qs) o here r ▷= λ a. give (ordered o a)) n
  some_here o plain here t [] r n h = absurd (h refl)
  some_here o plain here t (q ∷ qs) r n h = refl

  pub plain_here : {s0 : State} {f : Option Context} (o : ℕ) (x : Axis) (test : CodeTest TextId) (qs : List ResolvedTree) (core : Core) → qs ≡ [] →
      ((t : Texts) → core_of t core ≡ c.Step o from_.Dot x (test_of (text_in t) test) (dot_at o (focus_of f))) →
      MadeBy core_of p s0 f (normed_here p o x test (λ t. syns t qs)) core s0
  unfolding normed_here
  plain_here {s0 = s0} {f = f} o x test qs core h q = record {
    made = λ t env z vs. none_here o _ _ t qs (around_of env f) s0.next h ∙ ap (λ u. made_with u s0.next) (sym (q t));
    same = refl;
  }

  pub chosen_here : {s0 : State} {s1 : State} {f : Option Context} (o : ℕ) (x : Axis) (test : CodeTest TextId) (qs : List ResolvedTree) (from' a core : Core) → (qs ≡ [] → ⊥) →
      ((t : Texts) → core_of t from' ≡ counted o x (c.Step o from_.Dot x (test_of (text_in t) test) (dot_at o (focus_of f)))) →
      MadeBy core_of p s0 f (normed_predicates p (λ t. syns t qs) o (λ t. core_of t from')) a s1 →
      ((t : Texts) → core_of t core ≡ ordered o (core_of t a)) →
      MadeBy core_of p s0 f (normed_here p o x test (λ t. syns t qs)) core s1
  unfolding normed_here normed_predicates
  chosen_here {s0 = s0} {s1 = s1} {f = f} o x test qs from' a core h q i j = record {
    made = λ t env z vs.
        some_here o _ _ t qs (around_of env f) s0.next h
        ∙ ap (λ u. (predicates p.base (bodies_in t p) (syns t qs) o u (around_of env f) ▷= λ a. give (ordered o a)) s0.next) (sym (q t))
        ∙ ap (λ (u : Made PlainCore). made_with (ordered o u.made) u.next) (i.made t env z vs)
        ∙ ap (λ u. made_with u s1.next) (sym (j t));
    same = i.same;
  }

  -- steps behind others
  none_on : (o : ℕ) (x : Axis) (test : CodeTest TextId) (e : PlainCore) (t : Texts) (qs : List ResolvedTree) (r : Around) (n : ℕ) → qs ≡ [] →
      walked p.base (bodies_in t p) t o x (test_of (text_in t) test) (syns t qs) e r n ≡ made_with (c.Step o from_.Path x (test_of (text_in t) test) e) n
  none_on o x test e t qs r n h = ap (λ ys. walked p.base (bodies_in t p) t o x (test_of (text_in t) test) (syns t ys) e r n) h

  some_on : (o : ℕ) (x : Axis) (test : CodeTest TextId) (e : Texts → PlainCore) (t : Texts) (qs : List ResolvedTree) (r : Around) (n : ℕ) → (qs ≡ [] → ⊥) →
      normed_on p o x test (λ u. syns u qs) e t r n ≡ normed_chosen p o x test (λ u. syns u qs) e t r n
  unfolding normed_on normed_chosen
  some_on o x test e t [] r n h = absurd (h refl)
  some_on o x test e t (q ∷ qs) r n h = refl

  pub plain_on : {s0 : State} {f : Option Context} (o : ℕ) (x : Axis) (test : CodeTest TextId) (qs : List ResolvedTree) (e core : Core) → qs ≡ [] →
      ((t : Texts) → core_of t core ≡ c.Step o from_.Path x (test_of (text_in t) test) (core_of t e)) →
      MadeBy core_of p s0 f (normed_on p o x test (λ t. syns t qs) (λ t. core_of t e)) core s0
  unfolding normed_on
  plain_on {s0 = s0} {f = f} o x test qs e core h q = record {
    made = λ t env z vs. none_on o x test (core_of t e) t qs (around_of env f) s0.next h ∙ ap (λ u. made_with u s0.next) (sym (q t));
    same = refl;
  }

  pub chosen_on : {s0 : State} {s1 : State} {f : Option Context} (o : ℕ) (x : Axis) (test : CodeTest TextId) (qs : List ResolvedTree) (e core : Core) → (qs ≡ [] → ⊥) →
      MadeBy core_of p s0 f (normed_chosen p o x test (λ t. syns t qs) (λ t. core_of t e)) core s1 →
      MadeBy core_of p s0 f (normed_on p o x test (λ t. syns t qs) (λ t. core_of t e)) core s1
  chosen_on o x test qs e core h i = made_as _ _ (λ t r n z. some_on o x test (λ u. core_of u e) t qs r n h) i

  pub chosen_made : {s0 : State} {s1 : State} {f : Option Context} {s2 s3 : State} {item place : ℕ} (o : ℕ) (x : Axis) (test : CodeTest TextId) (qs : Texts → Syns resolved) (e from' b core : Core) →
      IsFresh p s0 item s1 → IsFresh p s1 place s2 →
      ((t : Texts) → core_of t from' ≡ counted o x (c.Step o from_.Path x (test_of (text_in t) test) (c.Var o item))) →
      MadeBy core_of p s2 f (normed_predicates p qs o (λ t. core_of t from')) b s3 →
      ((t : Texts) → core_of t core ≡ ordered o (c.For o item place (core_of t e) (core_of t b))) →
      MadeBy core_of p s0 f (normed_chosen p o x test qs (λ t. core_of t e)) core s3
  unfolding normed_chosen normed_predicates
  chosen_made {item = item} {place = place} o x test qs e from' b core hd hq q i j =
      then_made {read = itself} (λ t r. fresh p.base)
      (λ t d' r. fresh p.base ▷= λ q. predicates p.base (bodies_in t p) (qs t) o (counted o x (c.Step o from_.Path x (test_of (text_in t) test) (c.Var o d'))) r ▷= λ b. give (ordered o (c.For o d' q (core_of t e) b))) (fresh_made hd)
      (then_made {read = itself} (λ t r. fresh p.base)
      (λ t q r. predicates p.base (bodies_in t p) (qs t) o (counted o x (c.Step o from_.Path x (test_of (text_in t) test) (c.Var o item))) r ▷= λ b. give (ordered o (c.For o item q (core_of t e) b))) (fresh_made hq)
      (then_made (λ t r. predicates p.base (bodies_in t p) (qs t) o (counted o x (c.Step o from_.Path x (test_of (text_in t) test) (c.Var o item))) r) (λ t b r. give (ordered o (c.For o item place (core_of t e) b)))
      (made_as _ (normed_predicates p qs o (λ t. core_of t from')) (λ t r n z. ap (λ u. predicates p.base (bodies_in t p) (qs t) o u r n) (sym (q t))) i)
      (given _ (λ t z. j t))))

  pub through_made : {s0 : State} {f : Option Context} {s4 s5 : State} {y last dot place : ℕ} (o : ℕ) (m : Texts → Syn resolved) (qs : Texts → Syns resolved) (e b core : Core) →
      ArePicked p s0 y last dot place s4 →
      MadeBy core_of p s4 (Some (record { item = dot; place = place; last = last })) (normed_filtered p o m qs) b s5 →
      ((t : Texts) → core_of t core ≡ for_each_node o (core_of t e) y last dot place (core_of t b)) →
      MadeBy core_of p s0 f (normed_through p o m qs (λ t. core_of t e)) core s5
  unfolding normed_through
  through_made {y = y} {last = last} {dot = dot} {place = place} o m qs e b core h i j =
      then_made {read = itself} (λ t r. fresh p.base)
      (λ t y r. fresh p.base ▷= λ last. fresh p.base ▷= λ dot. fresh p.base ▷= λ place. normed_filtered p o m qs t (focused dot place last r) ▷= λ b. give (for_each_node o (core_of t e) y last dot place b)) (fresh_made h.items)
      (then_made {read = itself} (λ t r. fresh p.base)
      (λ t last r. fresh p.base ▷= λ dot. fresh p.base ▷= λ place. normed_filtered p o m qs t (focused dot place last r) ▷= λ b. give (for_each_node o (core_of t e) y last dot place b)) (fresh_made h.count)
      (then_made {read = itself} (λ t r. fresh p.base)
      (λ t dot r. fresh p.base ▷= λ place. normed_filtered p o m qs t (focused dot place last r) ▷= λ b. give (for_each_node o (core_of t e) y last dot place b)) (fresh_made h.item)
      (then_made {read = itself} (λ t r. fresh p.base)
      (λ t place r. normed_filtered p o m qs t (focused dot place last r) ▷= λ b. give (for_each_node o (core_of t e) y last dot place b)) (fresh_made h.position)
      (then_made (λ t r. normed_filtered p o m qs t (focused dot place last r)) (λ t b r. give (for_each_node o (core_of t e) y last dot place b)) (refocused dot place last (normed_filtered p o m qs) i)
      (given _ (λ t z. j t))))))

  -- by the kind of a step
  pub first_walk : {s0 : State} {s1 : State} {f : Option Context} (x : Step TextId ResolvedTree) (a : Axis) (test : CodeTest TextId) (ps : List ResolvedTree) (core : Core) → x.kind ≡ step_.Walk a test → ps ≡ x.predicates →
      MadeBy core_of p s0 f (normed_here p x.offset a test (λ t. syns t ps)) core s1 → MadeBy core_of p s0 f (normed_first p x) core s1
  unfolding normed_here normed_first
  first_walk x a test ps core k e i = made_as _ (normed_here p x.offset a test (λ t. syns t ps)) (λ t r n z. rw (k, e) refl) i

  pub first_primary : {s0 : State} {s1 : State} {f : Option Context} (x : Step TextId ResolvedTree) (m v : ResolvedTree) (ps : List ResolvedTree) (core : Core) → x.kind ≡ step_.Primary m → v ≡ m → ps ≡ x.predicates →
      MadeBy core_of p s0 f (normed_filtered p x.offset (λ t. syn_resolved t v) (λ t. syns t ps)) core s1 → MadeBy core_of p s0 f (normed_first p x) core s1
  unfolding normed_filtered normed_first
  first_primary x m v ps core k h e i = made_as _ (normed_filtered p x.offset (λ t. syn_resolved t v) (λ t. syns t ps)) (λ t r n z. rw (k, h, e) refl) i

  pub next_walk : {s0 : State} {s1 : State} {f : Option Context} (x : Step TextId ResolvedTree) (a : Axis) (test : CodeTest TextId) (ps : List ResolvedTree) (left core : Core) → x.kind ≡ step_.Walk a test → ps ≡ x.predicates →
      MadeBy core_of p s0 f (normed_on p x.offset a test (λ t. syns t ps) (λ t. core_of t left)) core s1 → MadeBy core_of p s0 f (normed_next p x (λ t. core_of t left)) core s1
  unfolding normed_on normed_next
  next_walk x a test ps left core k e i = made_as _ (normed_on p x.offset a test (λ t. syns t ps) (λ t. core_of t left)) (λ t r n z. rw (k, e) refl) i

  pub next_primary : {s0 : State} {s1 : State} {f : Option Context} (x : Step TextId ResolvedTree) (m v : ResolvedTree) (ps : List ResolvedTree) (left core : Core) → x.kind ≡ step_.Primary m → v ≡ m → ps ≡ x.predicates →
      MadeBy core_of p s0 f (normed_through p x.offset (λ t. syn_resolved t v) (λ t. syns t ps) (λ t. core_of t left)) core s1 → MadeBy core_of p s0 f (normed_next p x (λ t. core_of t left)) core s1
  unfolding normed_through normed_filtered normed_next
  next_primary x m v ps left core k h e i =
      made_as _ (normed_through p x.offset (λ t. syn_resolved t v) (λ t. syns t ps) (λ t. core_of t left)) (λ t r n z. rw (k, h, e) refl) i

  -- the steps behind the first
  pub behind_start : {s0 : State} {f : Option Context} (e : Core) (bs : List (Behind TextId ResolvedTree)) → SoFar p s0 f (normed_behind p bs (λ t. core_of t e)) (behind_rest e (drop 0 bs)) s0
  unfolding normed_behind behind_rest
  behind_start e bs = all_left _ _ (λ t r n z. refl)

  pub behind_turn : {s0 : State} {s1 : State} {f : Option Context} {s2 : State} (w : Making PlainCore) (bs : List (Behind TextId ResolvedTree)) (i : ℕ) (b : Behind TextId ResolvedTree) (left from' more : Core) → i < length bs → b ≡ get_or bs i b →
      ((t : Texts) → core_of t from' ≡ behind_slashes b.slashes (core_of t left)) →
      SoFar p s0 f w (behind_rest left (drop i bs)) s1 → MadeBy core_of p s1 f (normed_next p b.step (λ t. core_of t from')) more s2 →
      SoFar p s0 f w (behind_rest more (drop (i + 1) bs)) s2
  unfolding normed_next behind_rest
  behind_turn w bs i b left from' more h is q so one =
      turn w behind_rest (normed_next p b.step (λ t. core_of t from')) bs i b left more h is
      (λ ys t r n k z e. ap (λ u. (next_step p.base (bodies_in t p) t b.step u r ▷= λ a. next_steps p.base (bodies_in t p) t ys a r) n) (sym (q t))
      ∙ ap (λ (u : Made PlainCore). next_steps p.base (bodies_in t p) t ys u.made r u.next) e) so one

  pub behind_end : {s0 : State} {s1 : State} {f : Option Context} (w : Making PlainCore) (bs : List (Behind TextId ResolvedTree)) (i : ℕ) (left : Core) → length bs ≤ i → SoFar p s0 f w (behind_rest left (drop i bs)) s1 → MadeBy core_of p s0 f w left s1
  unfolding behind_rest
  behind_end w bs i left h so = finish w behind_rest bs i left left h (λ t r n z. refl) so

  -- the begin of a path
  pub start_here : {s0 : State} {s1 : State} {f : Option Context} (w : Start) (x : Step TextId ResolvedTree) (core : Core) → w ≡ start_.Here → MadeBy core_of p s0 f (normed_first p x) core s1 → MadeBy core_of p s0 f (normed p (λ t. step t (start_of w) x)) core s1
  unfolding normed normed_first
  start_here w x core h i =
      made_as _ (normed_first p x) (λ t r n z. ap (λ v. norm p.base (bodies_in t p) (step t (start_of v) x) r n) h ∙ first_law p.base (bodies_in t p) t x r n) i

  behind_top : {s0 : State} {s1 : State} {f : Option Context} (x : Step TextId ResolvedTree) (a : Syn resolved) (top core : Core) (v : Around → PlainCore) →
      ((t : Texts) (r : Around) (n : ℕ) → norm p.base (bodies_in t p) a r n ≡ made_with (v r) n) →
      ((t : Texts) (env : Env) → core_of t top ≡ v (around_of env f)) →
      MadeBy core_of p s0 f (normed_next p x (λ t. core_of t top)) core s1 → MadeBy core_of p s0 f (normed p (λ t. step t (s.present a) x)) core s1
  unfolding normed normed_next
  behind_top {s0 = s0} {f = f} x a top core v law q i = record {
    made = λ t env z vs.
        next_steps_law p.base (bodies_in t p) t a (record { slashes = slashes_.One; step = x } ∷ []) (around_of env f) s0.next
        ∙ ap (λ (u : Made PlainCore). next_step p.base (bodies_in t p) t x u.made (around_of env f) u.next) (law t (around_of env f) s0.next)
        ∙ ap (λ u. next_step p.base (bodies_in t p) t x u (around_of env f) s0.next) (sym (q t env))
        ∙ i.made t env z vs;
    same = i.same;
  }

  pub start_root : {s0 : State} {s1 : State} {f : Option Context} (w : Start) (o : ℕ) (x : Step TextId ResolvedTree) (top core : Core) → w ≡ start_.Root o → ((t : Texts) → core_of t top ≡ root_at o (focus_of f)) →
      MadeBy core_of p s0 f (normed_next p x (λ t. core_of t top)) core s1 → MadeBy core_of p s0 f (normed p (λ t. step t (start_of w) x)) core s1
  unfolding norm
  start_root w o x top core h q i = rw h (behind_top x (s.root o) top core (λ r. root_at o r.focus) (λ t r n. refl) (λ t env. q t) i)

  pub start_deep : {s0 : State} {s1 : State} {f : Option Context} (w : Start) (o : ℕ) (x : Step TextId ResolvedTree) (top every core : Core) → w ≡ start_.Deep o → ((t : Texts) → core_of t top ≡ root_at o (focus_of f)) →
      ((t : Texts) → core_of t every ≡ behind_slashes (slashes_.Two o) (core_of t top)) →
      MadeBy core_of p s0 f (normed_next p x (λ t. core_of t every)) core s1 → MadeBy core_of p s0 f (normed p (λ t. step t (start_of w) x)) core s1
  unfolding norm
  start_deep w o x top every core h q e i =
      rw h (behind_top x (all_below o (s.root o)) every core (λ r. behind_slashes (slashes_.Two o) (root_at o r.focus)) (λ t r n. refl) (λ t env. e t ∙ ap (behind_slashes (slashes_.Two o)) (q t)) i)

  pub path_made : {s0 : State} {s1 : State} {f : Option Context} {s2 : State} (w : Start) (x : Step TextId ResolvedTree) (bs : List (Behind TextId ResolvedTree)) (first core : Core) → MadeBy core_of p s0 f (normed p (λ t. step t (start_of w) x)) first s1 →
      MadeBy core_of p s1 f (normed_behind p bs (λ t. core_of t first)) core s2 → MadeBy core_of p s0 f (normed p (λ t. behinds t (step t (start_of w) x) bs)) core s2
  unfolding normed normed_behind
  path_made w x bs first core h i =
      made_as _ (λ t r. normed p (λ t. step t (start_of w) x) t r ▷= λ e. next_steps p.base (bodies_in t p) t bs e r)
      (λ t r n z. next_steps_law p.base (bodies_in t p) t (step t (start_of w) x) bs r n)
      (then_made (normed p (λ t. step t (start_of w) x)) (λ t e r. next_steps p.base (bodies_in t p) t bs e r) h i)
