-- Lists of expressions, and operators of a level.
use Rattle.std.proofs.Common.{◌≡◌, refl, sym, ap, ◌∙◌, ℕ, ◌+◌, ◌<◌, ◌≤◌, List, [], ◌∷◌, ◌++◌, length, drop, get_or, Option}
use Rattle.std.proofs.lemmas.List.{map-append}
use Rattle.core_meaning.specs.declared.node.Core.{Core}
use Rattle.core_meaning.specs.Erasure.{Texts, core_of, cores_of}
use Rattle.core_meaning.specs.PlainCore.{PlainCore, PlainCores}
use Rattle.core_meaning.specs.PlainCore as c
use Rattle.xq_ast.specs.declared.node.Right.{Right}
use Rattle.core_scope.specs.Syn.{place_of}
use Rattle.core_scope.specs.Syn as s
use Rattle.core_scope.specs.Leaves.{ResolvedTree, syn_resolved}
use Rattle.core_normal.specs.declared.pieces.Context.{Context}
use Rattle.core_normal.specs.declared.bodies.Bodies.{Bodies}
use Rattle.core_normal.specs.declared.bodies.State.{State}
use Rattle.core_normal.specs.Fresh.{Made, give, ◌▷=◌}
use Rattle.core_normal.specs.Around.{Around}
use Rattle.core_normal.specs.Pieces.{chain, fun_of, operand, two}
use Rattle.core_normal.specs.Normal.{norm, norm_all}
use Rattle.core_normal.specs.Stepping.{next_operands}
use Rattle.core_normal.specs.Trees.{rights, syns}
use Rattle.core_normal.specs.Making.{Making, MadeBy, SoFar, all_in, around_of, bodies_in, before_cores, cores_in, normed, normed_all, normed_rights}
use Rattle.core_normal.proofs.Folding.{turn, finish, all_left, made_as}
use Rattle.core_normal.proofs.Made.{then_made, given}
use Rattle.core_normal.proofs.NormForms.{made_with, next_operands_law}

pub before_more : (xs : List PlainCore) (x : PlainCore) (more : PlainCores) → before_cores (xs ++ x ∷ []) more ≡ before_cores xs (c.one_core x more)
before_more [] x more = refl
before_more (y ∷ ys) x more = ap (c.one_core y) (before_more ys x more)

pub before_none : (xs : List PlainCore) → before_cores xs c.no_cores ≡ cores_of xs
before_none [] = refl
before_none (y ∷ ys) = ap (c.one_core y) (before_none ys)

-- one Core more was made
pub map_more : (t : Texts) (made more : List Core) (core : Core) → more ≡ made ++ core ∷ [] → (m : Made PlainCores) →
    made_with (before_cores (all_in t made) (c.one_core (core_of t core) m.made)) m.next ≡ made_with (before_cores (all_in t more) m.made) m.next
map_more t made more core e m =
    ap (λ b. made_with b m.next)
    (sym (before_more (all_in t made) (core_of t core) m.made) ∙ ap (λ l. before_cores l m.made) (sym (map-append (core_of t) made (core ∷ []))) ∙ ap (λ l. before_cores (all_in t l) m.made) (sym e))

module _ (p : Bodies) where
  -- Cores of the expressions that are left, behind those that were made
  pub all_rest : List Core → List ResolvedTree → Making PlainCores
  all_rest made es t r = norm_all p.base (bodies_in t p) (syns t es) r ▷= λ more. give (before_cores (all_in t made) more)

  pub comma_rest : ℕ → Core → List ResolvedTree → Making PlainCore
  comma_rest o left es t r = norm_all p.base (bodies_in t p) (syns t es) r ▷= λ more. give (chain o (core_of t left) more)

  -- the operators that are left, over what was made, which has this place
  pub rights_rest : ℕ → Core × ℕ → List (Right ResolvedTree) → Making PlainCore
  rights_rest o left bs t r = next_operands p.base (bodies_in t p) t o bs left.1 (core_of t left.0) r

  pub all_start : {s0 : State} {f : Option Context} (es : List ResolvedTree) (made : List Core) → made ≡ [] → SoFar p s0 f (normed_all p (λ t. syns t es)) (all_rest made (drop 0 es)) s0
  unfolding normed_all all_rest
  all_start es made e = all_left _ _ (λ t r n z. rw e refl)

  pub all_turn : {s0 : State} {s1 : State} {f : Option Context} {s2 : State} (es : List ResolvedTree) (i : ℕ) (e : ResolvedTree) (made more : List Core) (core : Core) → i < length es → e ≡ get_or es i e → more ≡ made ++ core ∷ [] →
      SoFar p s0 f (normed_all p (λ t. syns t es)) (all_rest made (drop i es)) s1 → MadeBy core_of p s1 f (normed p (λ t. syn_resolved t e)) core s2 →
      SoFar p s0 f (normed_all p (λ t. syns t es)) (all_rest more (drop (i + 1) es)) s2
  unfolding normed norm all_rest
  all_turn es i e made more core h is m so one =
      turn (normed_all p (λ t. syns t es)) all_rest (normed p (λ t. syn_resolved t e)) es i e made more h is
      (λ ys t r n k z q.
      ap (λ (u : Made PlainCore). (norm_all p.base (bodies_in t p) (syns t ys) r ▷= λ more. give (before_cores (all_in t made) (c.one_core u.made more))) u.next) q
      ∙ map_more t made more core m (norm_all p.base (bodies_in t p) (syns t ys) r k)) so one

  pub all_end : {s0 : State} {s1 : State} {f : Option Context} (es : List ResolvedTree) (i : ℕ) (made : List Core) → length es ≤ i → SoFar p s0 f (normed_all p (λ t. syns t es)) (all_rest made (drop i es)) s1 →
      MadeBy cores_in p s0 f (normed_all p (λ t. syns t es)) made s1
  unfolding norm all_rest
  all_end es i made h so = finish _ all_rest es i made made h (λ t r n z. ap (λ b. made_with b n) (before_none (all_in t made))) so

  pub comma_start : {s0 : State} {s1 : State} {f : Option Context} (o : ℕ) (a : ResolvedTree) (es : List ResolvedTree) (left : Core) → MadeBy core_of p s0 f (normed p (λ t. syn_resolved t a)) left s1 →
      SoFar p s0 f (normed p (λ t. s.comma o (syn_resolved t a) (syns t es))) (comma_rest o left (drop 0 es)) s1
  unfolding normed norm comma_rest
  comma_start {f = f} o a es left one = record {
    so_far = λ t env z vs. ap (λ (u : Made PlainCore). (norm_all p.base (bodies_in t p) (syns t es) (around_of env f) ▷= λ more. give (chain o u.made more)) u.next) (one.made t env z vs);
    same = one.same;
  }

  pub comma_turn : {s0 : State} {s1 : State} {f : Option Context} {s2 : State} (o : ℕ) (w : Making PlainCore) (es : List ResolvedTree) (i : ℕ) (e : ResolvedTree) (left more core : Core) → i < length es → e ≡ get_or es i e →
      ((t : Texts) → core_of t more ≡ c.Seq o (core_of t left) (core_of t core)) →
      SoFar p s0 f w (comma_rest o left (drop i es)) s1 → MadeBy core_of p s1 f (normed p (λ t. syn_resolved t e)) core s2 →
      SoFar p s0 f w (comma_rest o more (drop (i + 1) es)) s2
  unfolding normed norm comma_rest
  comma_turn o w es i e left more core h is m so one =
      turn w (comma_rest o) (normed p (λ t. syn_resolved t e)) es i e left more h is (λ ys t r n k z q. law ys t r n k q) so one
    where
      law : (ys : List ResolvedTree) (t : Texts) (r : Around) (n k : ℕ) → norm p.base (bodies_in t p) (syn_resolved t e) r n ≡ made_with (core_of t core) k →
          comma_rest o left (e ∷ ys) t r n ≡ comma_rest o more ys t r k
      law ys t r n k q =
          ap (λ (u : Made PlainCore). (norm_all p.base (bodies_in t p) (syns t ys) r ▷= λ rest. give (chain o (c.Seq o (core_of t left) u.made) rest)) u.next) q
          ∙ ap (λ b. (norm_all p.base (bodies_in t p) (syns t ys) r ▷= λ rest. give (chain o b rest)) k) (sym (m t))

  pub comma_end : {s0 : State} {s1 : State} {f : Option Context} (o : ℕ) (w : Making PlainCore) (es : List ResolvedTree) (i : ℕ) (left : Core) → length es ≤ i → SoFar p s0 f w (comma_rest o left (drop i es)) s1 → MadeBy core_of p s0 f w left s1
  unfolding norm comma_rest
  comma_end o w es i left h so = finish w (comma_rest o) es i left left h (λ t r n z. refl) so

  pub right_made : {s0 : State} {s1 : State} {f : Option Context} (o at : ℕ) (left core whole : Core) (b : Right ResolvedTree) → MadeBy core_of p s0 f (normed p (λ t. syn_resolved t b.operand)) core s1 →
      ((t : Texts) → core_of t whole ≡ c.Call o (fun_of b.operator) (two (operand b.operator at (core_of t left)) (operand b.operator (place_of (syn_resolved t b.operand)) (core_of t core)))) →
      MadeBy core_of p s0 f (normed_rights p o (b ∷ []) at (λ t. core_of t left)) whole s1
  unfolding normed normed_rights
  right_made o at left core whole b one q =
      then_made (normed p (λ t. syn_resolved t b.operand)) (λ t a r. give (c.Call o (fun_of b.operator) (two (operand b.operator at (core_of t left)) (operand b.operator (place_of (syn_resolved t b.operand)) a)))) one
      (given _ (λ t z. q t))

  pub rights_start : {s0 : State} {f : Option Context} (o at : ℕ) (first : Core) (bs : List (Right ResolvedTree)) → SoFar p s0 f (normed_rights p o bs at (λ t. core_of t first)) (rights_rest o (first, at) (drop 0 bs)) s0
  unfolding normed_rights rights_rest
  rights_start o at first bs = all_left _ _ (λ t r n z. refl)

  pub rights_turn : {s0 : State} {s1 : State} {f : Option Context} {s2 : State} (o at : ℕ) (w : Making PlainCore) (bs : List (Right ResolvedTree)) (i : ℕ) (b : Right ResolvedTree) (left more : Core) → i < length bs → b ≡ get_or bs i b →
      SoFar p s0 f w (rights_rest o (left, at) (drop i bs)) s1 → MadeBy core_of p s1 f (normed_rights p o (b ∷ []) at (λ t. core_of t left)) more s2 →
      SoFar p s0 f w (rights_rest o (more, o) (drop (i + 1) bs)) s2
  unfolding normed_rights rights_rest
  rights_turn o at w bs i b left more h is so one =
      turn w (rights_rest o) (normed_rights p o (b ∷ []) at (λ t. core_of t left)) bs i b (left, at) (more, o) h is
      (λ ys t r n k z q. ap (λ (u : Made PlainCore). next_operands p.base (bodies_in t p) t o ys o u.made r u.next) q) so one

  pub rights_end : {s0 : State} {s1 : State} {f : Option Context} (o at : ℕ) (w : Making PlainCore) (bs : List (Right ResolvedTree)) (i : ℕ) (left : Core) → length bs ≤ i → SoFar p s0 f w (rights_rest o (left, at) (drop i bs)) s1 → MadeBy core_of p s0 f w left s1
  unfolding rights_rest
  rights_end o at w bs i left h so = finish w (rights_rest o) bs i (left, at) left h (λ t r n z. refl) so

  pub chain_made : {s0 : State} {s1 : State} {f : Option Context} {s2 : State} (o at : ℕ) (a : ResolvedTree) (bs : List (Right ResolvedTree)) (first core : Core) → MadeBy core_of p s0 f (normed p (λ t. syn_resolved t a)) first s1 →
      ((t : Texts) → at ≡ place_of (syn_resolved t a)) →
      MadeBy core_of p s1 f (normed_rights p o bs at (λ t. core_of t first)) core s2 →
      MadeBy core_of p s0 f (normed p (λ t. rights t o (syn_resolved t a) bs)) core s2
  unfolding normed normed_rights
  chain_made o at a bs first core one q more =
      made_as _ (λ t r. normed p (λ t. syn_resolved t a) t r ▷= λ e. next_operands p.base (bodies_in t p) t o bs at e r)
      (λ t r n z. next_operands_law p.base (bodies_in t p) t o (syn_resolved t a) bs r n
      ∙ ap (λ u. (norm p.base (bodies_in t p) (syn_resolved t a) r ▷= λ e. next_operands p.base (bodies_in t p) t o bs u e r) n) (sym (q t)))
      (then_made (normed p (λ t. syn_resolved t a)) (λ t e r. next_operands p.base (bodies_in t p) t o bs at e r) one more)
