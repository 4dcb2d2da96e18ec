-- The variables of the prolog round the main expression.
use Rattle.std.proofs.Common.{◌≡◌, refl, sym, ap, ◌∙◌, ℕ, ◌+◌, ◌*◌, ◌<◌, List, [], ◌∷◌, ◌++◌, length, drop, get_or, Option, None, arith, length-append}
use Rattle.xq_base.specs.declared.item.TextId.{TextId}
use Rattle.core_meaning.specs.declared.node.Core.{Core}
use Rattle.core_meaning.specs.Erasure.{Texts, core_of}
use Rattle.core_meaning.specs.PlainCore.{PlainCore}
use Rattle.core_meaning.specs.PlainCore as c
use Rattle.xq_ast.specs.declared.leaf.Name.{Name}
use Rattle.xq_ast.specs.declared.leaf.SeqType.{SeqType}
use Rattle.xq_ast.specs.declared.leaf.Variable.{Variable}
use Rattle.xq_ast.specs.declared.query.Declaration.{Declaration as CodeDeclaration}
use Rattle.xq_ast.specs.declared.query.Declaration.TheVariants as declaration_
use Rattle.xq_ast.specs.declared.query.Param.{Param}
use Rattle.core_scope.specs.Syn.{place_of}
use Rattle.core_scope.specs.Leaves.{ResolvedTree, syn_resolved}
use Rattle.core_normal.specs.declared.bodies.Bodies.{Bodies}
use Rattle.core_normal.specs.declared.bodies.State.{State}
use Rattle.core_normal.specs.declared.prolog.GlobalValue.{GlobalValue}
use Rattle.core_normal.specs.Fresh.{Made, give, ◌▷=◌}
use Rattle.core_normal.specs.Around.{Env}
use Rattle.core_normal.specs.Held.{type_in}
use Rattle.core_normal.specs.Making.{MadeBy, SoFar, around_of, bodies_in, normed}
use Rattle.core_normal.specs.Measuring.{Declarations, declarations}
use Rattle.core_normal.specs.Pieces.{tested}
use Rattle.core_normal.specs.Prologue.{IsPassed, normed_prolog, prolog_rest, with_global, with_globals}
use Rattle.core_normal.specs.Query.{prolog}
use Rattle.core_normal.specs.Standing.{Values, with_value}
use Rattle.core_normal.specs.Templating.{global_values, global_var, var_count}
use Rattle.core_normal.specs.Trees.{type_of}
use Rattle.core_normal.proofs.Folding.{all_left, item_front}
use Rattle.core_normal.proofs.Made.{still}
use Rattle.core_normal.proofs.NormForms.{made_with}

-- a variable more round what follows
pub globals_more : (t : Texts) (j : ℕ) (gs : List GlobalValue) (g : GlobalValue) (d : PlainCore) → with_globals t j (gs ++ g ∷ []) d ≡ with_globals t j gs (with_global t (j + length gs) g d)
globals_more t j [] g d = ap (λ k. with_global t k g d) (omega arith)
globals_more t j (h ∷ gs) g d = ap (with_global t j h) (globals_more t (j + 1) gs g d ∙ ap (λ k. with_globals t (j + 1) gs (with_global t k g d)) (omega arith))

pub globals_turn : (t : Texts) (before left : List GlobalValue) (g : GlobalValue) (n : ℕ) (e more : Core) → before ≡ left ++ g ∷ [] → n ≡ length left → core_of t more ≡ with_global t n g (core_of t e) →
    with_globals t 0 before (core_of t e) ≡ with_globals t 0 left (core_of t more)
globals_turn t before left g n e more q count m =
    ap (λ l. with_globals t 0 l (core_of t e)) q ∙ globals_more t 0 left g (core_of t e) ∙ ap (λ k. with_globals t 0 left (with_global t k g (core_of t e))) (omega (arith, count)) ∙ ap (with_globals t 0 left) (sym m)

pub globals_end : (t : Texts) (left : List GlobalValue) (d : PlainCore) → left ≡ [] → with_globals t 0 left d ≡ d
globals_end t [] d q = refl
globals_end t (g ∷ left) d q = cc

-- one variable of the prolog, by its two variables of the Core
pub global_round : (t : Texts) (n j first second : ℕ) (g : GlobalValue) (e inner core : Core) → j ≡ n → first ≡ 2 * j + 1 → second ≡ 2 * j + 2 →
    core_of t inner ≡ tested g.place (type_in t g.ty) first second (core_of t e) → core_of t core ≡ c.Let g.offset first (core_of t g.value) (core_of t inner) → core_of t core ≡ with_global t n g (core_of t e)
global_round t n j first second g e inner core same one two inside outside =
    outside ∙ ap (c.Let g.offset first (core_of t g.value)) inside
    ∙ ap (λ y. c.Let g.offset y (core_of t g.value) (tested g.place (type_in t g.ty) y second (core_of t e))) (one ∙ ap (λ k. 2 * k + 1) same)
    ∙ ap (λ x. c.Let g.offset (2 * n + 1) (core_of t g.value) (tested g.place (type_in t g.ty) (2 * n + 1) x (core_of t e))) (two ∙ ap (λ k. 2 * k + 2) same)

-- the values of the prolog's variables in the code
pub fun_entered : (d : CodeDeclaration TextId ℕ SeqType ResolvedTree) (at : ℕ) (n : Name TextId) (ps : List (Param ℕ SeqType)) (ty : Option SeqType) (e : ResolvedTree) (j : ℕ) (vs : Values) (ds : Declarations) →
    d ≡ declaration_.Fun at n ps ty e → global_values (d ∷ ds) j vs ≡ global_values ds j vs
fun_entered d at n ps ty e j vs ds q = ap (λ x. global_values (x ∷ ds) j vs) q

pub fun_counted : (d : CodeDeclaration TextId ℕ SeqType ResolvedTree) (at : ℕ) (n : Name TextId) (ps : List (Param ℕ SeqType)) (ty : Option SeqType) (e : ResolvedTree) (j : ℕ) (ds : Declarations) →
    d ≡ declaration_.Fun at n ps ty e → j + var_count (d ∷ ds) ≡ j + var_count ds
fun_counted d at n ps ty e j ds q = ap (λ x. j + var_count (x ∷ ds)) q

pub var_entered : (d : CodeDeclaration TextId ℕ SeqType ResolvedTree) (at : ℕ) (x : Variable ℕ) (ty : Option SeqType) (e : ResolvedTree) (j y k : ℕ) (vs ws : Values) (ds : Declarations) →
    d ≡ declaration_.Var at x ty e → y ≡ global_var ty j → ws ≡ with_value x.name y vs → k ≡ j + 1 → global_values (d ∷ ds) j vs ≡ global_values ds k ws
var_entered d at x ty e j y k vs ws ds q is bound next =
    ap (λ z. global_values (z ∷ ds) j vs) q ∙ ap (λ z. global_values ds (j + 1) (with_value x.name z vs)) (sym is) ∙ ap (global_values ds (j + 1)) (sym bound) ∙ ap (λ z. global_values ds z ws) (sym next)

pub var_counted : (d : CodeDeclaration TextId ℕ SeqType ResolvedTree) (at : ℕ) (x : Variable ℕ) (ty : Option SeqType) (e : ResolvedTree) (j k : ℕ) (ds : Declarations) →
    d ≡ declaration_.Var at x ty e → k ≡ j + 1 → j + var_count (d ∷ ds) ≡ k + var_count ds
var_counted d at x ty e j k ds q next = ap (λ z. j + var_count (z ∷ ds)) q ∙ omega (arith, next)

-- a function is passed by
pub function_passed : {p : Bodies} {s0 : State} (d : CodeDeclaration TextId ℕ SeqType ResolvedTree) (at : ℕ) (n : Name TextId) (ps : List (Param ℕ SeqType)) (ty : Option SeqType) (e : ResolvedTree) (gs : List GlobalValue) →
    d ≡ declaration_.Fun at n ps ty e → IsPassed p s0 d gs gs s0
unfolding prolog_rest
function_passed {p = p} {s0 = s0} d at n ps ty e gs q = record {
  made = λ t env z st ds m. ap (λ x. prolog_rest p m gs (x ∷ ds) t (around_of env None) s0.next) q;
  same = refl;
}

value_law : (p : Bodies) (at : ℕ) (x : Variable ℕ) (ty : Option SeqType) (e m : ResolvedTree) (gs : List GlobalValue) (ds : Declarations) (t : Texts) (env : Env) (n : ℕ) →
    prolog_rest p m gs (declaration_.Var at x ty e ∷ ds) t (around_of env None) n
    ≡ (normed p (λ t. syn_resolved t e) t (around_of env None)
    ▷= λ a. prolog p.base (bodies_in t p) env (declarations t ds) (length gs + 1) (syn_resolved t m)
    ▷= λ d. give (with_globals t 0 gs (c.Let x.offset (2 * length gs + 1) a (tested (place_of (syn_resolved t e)) (type_of t ty) (2 * length gs + 1) (2 * length gs + 2) d)))) n
unfolding prolog_rest normed
value_law p at x ty e m gs ds t env n = refl

pub value_passed : {p : Bodies} {s0 s1 : State} (d : CodeDeclaration TextId ℕ SeqType ResolvedTree) (at : ℕ) (x : Variable ℕ) (ty : Option SeqType) (e w : ResolvedTree) (g : GlobalValue) (gs hs : List GlobalValue) →
    d ≡ declaration_.Var at x ty e → w ≡ e → MadeBy core_of p s0 None (normed p (λ t. syn_resolved t w)) g.value s1 → hs ≡ gs ++ g ∷ [] →
    g.offset ≡ x.offset → ((t : Texts) → g.place ≡ place_of (syn_resolved t w)) → ((t : Texts) → type_in t g.ty ≡ type_of t ty) → IsPassed p s0 d gs hs s1
unfolding prolog_rest
value_passed {p = p} {s0 = s0} {s1 = s1} d at x ty e w g gs hs q same made more offset_is place_is type_is = record {
  made = λ t env z st ds m.
      let after : PlainCore → PlainCore → PlainCore = λ a f. c.Let x.offset (2 * length gs + 1) a (tested (place_of (syn_resolved t e)) (type_of t ty) (2 * length gs + 1) (2 * length gs + 2) f) in
      ap (λ y. prolog_rest p m gs (y ∷ ds) t (around_of env None) s0.next) q ∙ value_law p at x ty e m gs ds t env s0.next
      ∙ ap (λ (u : Made PlainCore). (prolog p.base (bodies_in t p) env (declarations t ds) (length gs + 1) (syn_resolved t m) ▷= λ f. give (with_globals t 0 gs (after u.made f))) u.next)
      (ap (λ y. normed p (λ t. syn_resolved t y) t (around_of env None) s0.next) (sym same) ∙ made.made t env z st)
      ∙ ap (λ k. (prolog p.base (bodies_in t p) env (declarations t ds) k (syn_resolved t m) ▷= λ f. give (with_globals t 0 gs (after (core_of t g.value) f))) s1.next)
      (sym (ap length more ∙ length-append gs (g ∷ []) ∙ omega arith))
      ∙ ap (λ a. made_with a ((prolog p.base (bodies_in t p) env (declarations t ds) (length hs) (syn_resolved t m) s1.next).next))
      (wrapped t ((prolog p.base (bodies_in t p) env (declarations t ds) (length hs) (syn_resolved t m) s1.next).made));
  same = made.same;
}
  where
    wrapped : (t : Texts) (f : PlainCore) →
        with_globals t 0 gs (c.Let x.offset (2 * length gs + 1) (core_of t g.value) (tested (place_of (syn_resolved t e)) (type_of t ty) (2 * length gs + 1) (2 * length gs + 2) f)) ≡ with_globals t 0 hs f
    wrapped t f =
        ap (λ o. with_globals t 0 gs (c.Let o (2 * length gs + 1) (core_of t g.value) (tested (place_of (syn_resolved t e)) (type_of t ty) (2 * length gs + 1) (2 * length gs + 2) f))) (sym offset_is)
        ∙ ap (λ y. with_globals t 0 gs (c.Let g.offset (2 * length gs + 1) (core_of t g.value) (tested (place_of (syn_resolved t y)) (type_of t ty) (2 * length gs + 1) (2 * length gs + 2) f))) (sym same)
        ∙ ap (λ o. with_globals t 0 gs (c.Let g.offset (2 * length gs + 1) (core_of t g.value) (tested o (type_of t ty) (2 * length gs + 1) (2 * length gs + 2) f))) (sym (place_is t))
        ∙ ap (λ o. with_globals t 0 gs (c.Let g.offset (2 * length gs + 1) (core_of t g.value) (tested g.place o (2 * length gs + 1) (2 * length gs + 2) f))) (sym (type_is t))
        ∙ ap (λ k. with_globals t 0 gs (with_global t k g f)) (omega arith)
        ∙ sym (globals_more t 0 gs g f)
        ∙ ap (λ l. with_globals t 0 l f) (sym more)

module _ {p : Bodies} {s0 : State} where
  pub prolog_start : (ds : Declarations) (m : ResolvedTree) (gs : List GlobalValue) → gs ≡ [] → SoFar p s0 None (normed_prolog p ds m) (prolog_rest p m gs (drop 0 ds)) s0
  unfolding normed_prolog prolog_rest
  prolog_start ds m gs e = all_left _ _ (λ t r n z. rw e refl)

  pub prolog_turn : {s1 : State} {s2 : State} (ds : Declarations) (m : ResolvedTree) (i : ℕ) (d : CodeDeclaration TextId ℕ SeqType ResolvedTree) (gs hs : List GlobalValue) → i < length ds → d ≡ get_or ds i d →
      SoFar p s0 None (normed_prolog p ds m) (prolog_rest p m gs (drop i ds)) s1 → IsPassed p s1 d gs hs s2 → SoFar p s0 None (normed_prolog p ds m) (prolog_rest p m hs (drop (i + 1) ds)) s2
  prolog_turn {s1 = s1} ds m i d gs hs h is so one = record {
    so_far = λ t env z st.
        so.so_far t env z st ∙ ap (λ ys. prolog_rest p m gs ys t (around_of env None) s1.next) (item_front ds i d h is)
        ∙ one.made t env z (still _ _ env so.same st) (drop (i + 1) ds) m;
    same = one.same ∙ so.same;
  }

  pub prolog_end : {s1 : State} {s2 : State} (ds : Declarations) (m : ResolvedTree) (i : ℕ) (gs : List GlobalValue) (core whole : Core) → drop i ds ≡ [] →
      SoFar p s0 None (normed_prolog p ds m) (prolog_rest p m gs (drop i ds)) s1 → MadeBy core_of p s1 None (normed p (λ t. syn_resolved t m)) core s2 →
      ((t : Texts) → core_of t whole ≡ with_globals t 0 gs (core_of t core)) → MadeBy core_of p s0 None (normed_prolog p ds m) whole s2
  unfolding prolog_rest normed
  prolog_end {s1 = s1} {s2 = s2} ds m i gs core whole q so one is = record {
    made = λ t env z st.
        so.so_far t env z st ∙ ap (λ ys. prolog_rest p m gs ys t (around_of env None) s1.next) q
        ∙ ap (λ (u : Made PlainCore). made_with (with_globals t 0 gs u.made) u.next) (one.made t env z (still _ _ env so.same st))
        ∙ ap (λ a. made_with a s2.next) (sym (is t));
    same = one.same ∙ so.same;
  }
