-- The bodies of declared functions, one made behind the other.
use Rattle.std.proofs.Common.{◌≡◌, ◌≢◌, refl, sym, ap, ◌∙◌, subst, ℕ, zero, suc, ◌+◌, ◌*◌, ◌<◌, Bool, true, false, List, [], ◌∷◌, length, drop, Option, Some, None, arith}
use Rattle.std.specs.Prelude.{slice_get, slice_index_or, slice_set}
use Rattle.xq_base.specs.declared.item.TextId.{TextId}
use Rattle.core_meaning.specs.Erasure.{Texts}
use Rattle.xq_ast.specs.declared.leaf.Name.{Name}
use Rattle.xq_ast.specs.declared.leaf.SeqType.{SeqType}
use Rattle.xq_ast.specs.declared.query.Declaration.{Declaration as CodeDeclaration}
use Rattle.xq_ast.specs.declared.query.Declaration.TheVariants as declaration_
use Rattle.xq_ast.specs.declared.query.Param.{Param}
use Rattle.core_scope.specs.Leaves.{ResolvedTree, syn_resolved}
use Rattle.core_normal.specs.declared.bodies.Bodies.{Bodies}
use Rattle.core_normal.specs.declared.bodies.Template.{Template}
use Rattle.core_normal.specs.Fresh.{Makes}
use Rattle.core_normal.specs.Around.{Env, no_vars}
use Rattle.core_normal.specs.Calls.{calls_in}
use Rattle.core_normal.specs.Making.{bodies_in, template_at, template_of}
use Rattle.core_normal.specs.Measuring.{Declarations, declarations}
use Rattle.core_normal.specs.Order.{placed, places}
use Rattle.core_normal.specs.Ordered.{AllHeld, WithBody, calls_of}
use Rattle.core_normal.specs.Pieces.{Inlined}
use Rattle.core_normal.specs.Query.{body_at, body_of, count, functions, globals, variables}
use Rattle.core_normal.specs.Shift as shift
use Rattle.core_normal.specs.Standing.{Stands, Values, no_value, with_value}
use Rattle.core_normal.specs.Templating.{AreBodies, HasCalls, IsTemplate, IsTemplateOf, function_in, global_values, held_in, is_held, var_count}
use Rattle.core_normal.proofs.CallsMade.{held}
use Rattle.core_normal.proofs.Globals.{globals_fixed}
use Rattle.core_normal.proofs.OrderedBodies.{holds_more, holds_none}
use Rattle.core_normal.proofs.Valued.{stands_at_first, stands_behind}

-- a place that is set, and the others
set_here : {X : Type 0} (xs : List X) (k : ℕ) (x y : X) → slice_get xs k ≡ Some y → slice_get (slice_set xs k x) k ≡ Some x
set_here [] k x y e = cc
set_here (z ∷ xs) zero x y e = refl
set_here (z ∷ xs) (suc k) x y e = set_here xs k x y e

set_there : {X : Type 0} (xs : List X) (k i : ℕ) (x : X) → i ≢ k → slice_get (slice_set xs k x) i ≡ slice_get xs i
set_there [] k i x n = refl
set_there (z ∷ xs) zero zero x n = absurd (n refl)
set_there (z ∷ xs) zero (suc i) x n = refl
set_there (z ∷ xs) (suc k) zero x n = refl
set_there (z ∷ xs) (suc k) (suc i) x n = set_there xs k i x (λ e. n (ap suc e))

at_there : (t : Texts) (bs : List (Option Template)) (k i : ℕ) (b : Option Template) → i ≢ k → template_at t (slice_set bs k b) i ≡ template_at t bs i
at_there t [] k i b n = refl
at_there t (z ∷ bs) zero zero b n = absurd (n refl)
at_there t (z ∷ bs) zero (suc i) b n = refl
at_there t (z ∷ bs) (suc k) zero b n = refl
at_there t (z ∷ bs) (suc k) (suc i) b n = at_there t bs k i b (λ e. n (ap suc e))

-- a body more
module _ (t : Texts) (base : ℕ) (p p' : Bodies) (k : ℕ) (b : Template) where
  put_body : p'.base ≡ base → p.base ≡ base → p'.templates.items ≡ slice_set p.templates.items k (Some b) → slice_get p.templates.items k ≡ Some None →
      WithBody base (held_in p) (bodies_in t p) k (template_of t b) (held_in p') (bodies_in t p')
  put_body same before put new = record {
    holds = ap is_held here;
    held_before = λ i n. ap (λ bs. is_held (slice_get bs i)) put ∙ ap is_held (set_there p.templates.items k i (Some b) n);
    body = λ d. ap (λ o. shift.all o d (shift.inlined o d) (template_at t p'.templates.items k)) same ∙ ap (shift.all base d (shift.inlined base d)) (held t p'.templates.items k b here);
    bodies = λ i d n.
        ap (λ o. shift.all o d (shift.inlined o d) (template_at t p'.templates.items i)) (same ∙ sym before)
        ∙ ap (λ bs. shift.all p.base d (shift.inlined p.base d) (template_at t bs i)) put
        ∙ ap (shift.all p.base d (shift.inlined p.base d)) (at_there t p.templates.items k i (Some b) n);
  }
    where
      here : slice_get p'.templates.items k ≡ Some (Some b)
      here = ap (λ bs. slice_get bs k) put ∙ set_here p.templates.items k (Some b) None new

-- what stands at a place of a list
drop_here : {X : Type 0} (xs : List X) (i : ℕ) (x : X) (more : List X) → drop i xs ≡ x ∷ more → slice_get xs i ≡ Some x
drop_here [] zero x more e = cc
drop_here [] (suc i) x more e = cc
drop_here (y ∷ xs) zero x more e = let same : y ≡ x = cc in ap Some same
drop_here (y ∷ xs) (suc i) x more e = drop_here xs i x more e

drop_next : {X : Type 0} (xs : List X) (i : ℕ) (x : X) (more : List X) → drop i xs ≡ x ∷ more → drop (suc i) xs ≡ more
drop_next [] zero x more e = cc
drop_next [] (suc i) x more e = cc
drop_next (y ∷ xs) zero x more e = cc
drop_next (y ∷ xs) (suc i) x more e = drop_next xs i x more e

-- the function of this number, counted in the declarations
abbrev function_at : Declarations → ℕ → Option (CodeDeclaration TextId ℕ SeqType ResolvedTree)
function_at [] k = None
function_at (declaration_.Var at x ty e ∷ ds) k = function_at ds k
function_at (declaration_.Fun at n ps ty e ∷ ds) zero = Some (declaration_.Fun at n ps ty e)
function_at (declaration_.Fun at n ps ty e ∷ ds) (suc k) = function_at ds k

placed_from : (all ds : Declarations) (i k : ℕ) → drop i all ≡ ds → placed all (slice_get (places i ds) k) ≡ function_at ds k
placed_from all [] i k q = refl
placed_from all (declaration_.Var at x ty e ∷ ds) i k q =
    ap (λ j. placed all (slice_get (places j ds) k)) (omega arith) ∙ placed_from all ds (suc i) k (drop_next all i (declaration_.Var at x ty e) ds q)
placed_from all (declaration_.Fun at n ps ty e ∷ ds) i zero q = drop_here all i (declaration_.Fun at n ps ty e) ds q
placed_from all (declaration_.Fun at n ps ty e ∷ ds) i (suc k) q =
    ap (λ j. placed all (slice_get (places j ds) k)) (omega arith) ∙ placed_from all ds (suc i) k (drop_next all i (declaration_.Fun at n ps ty e) ds q)

module _ (t : Texts) where
  -- what is known of a function at its place
  record FunctionAt (ds : Declarations) (k : ℕ) (ps : List (Param ℕ SeqType)) (ty : Option SeqType) (e : ResolvedTree) : Type 0 where
    within : k < count (functions (declarations t ds))
    calls : calls_of (functions (declarations t ds)) k ≡ calls_in (syn_resolved t e)
    body : (base : ℕ) (b : ℕ → Makes Inlined) (env : Env) (m : ℕ) → body_at base b env (functions (declarations t ds)) k m ≡ body_of base b env (function_in t ps ty e) m

  function_known : (ds : Declarations) (k at : ℕ) (n : Name TextId) (ps : List (Param ℕ SeqType)) (ty : Option SeqType) (e : ResolvedTree) →
      function_at ds k ≡ Some (declaration_.Fun at n ps ty e) → FunctionAt ds k ps ty e
  function_known [] k at n ps ty e q = let no : ⊥ = cc in absurd no
  function_known (declaration_.Var i x u v ∷ ds) k at n ps ty e q =
      let r = function_known ds k at n ps ty e q in
      record { within = r.within; calls = r.calls; body = r.body }
  function_known (declaration_.Fun i m xs u v ∷ ds) zero at n ps ty e q =
      let same_params : xs ≡ ps = cc in
      let same_type : u ≡ ty = cc in
      let same_body : v ≡ e = cc in
      record {
        within = omega arith;
        calls = ap (λ x. calls_in (syn_resolved t x)) same_body;
        body = λ base b env j.
            ap (λ x. body_of base b env (function_in t x u v) j) same_params ∙ ap (λ x. body_of base b env (function_in t ps x v) j) same_type
            ∙ ap (λ x. body_of base b env (function_in t ps ty x) j) same_body;
      }
  function_known (declaration_.Fun i m xs u v ∷ ds) (suc k) at n ps ty e q =
      let r = function_known ds k at n ps ty e q in
      let below : k < count (functions (declarations t ds)) = r.within in
      record { within = omega (arith, below); calls = r.calls; body = r.body }

  count_law : (ds : Declarations) → var_count ds ≡ variables (declarations t ds)
  count_law [] = refl
  count_law (declaration_.Var at x ty e ∷ ds) = ap (λ n. n + 1) (count_law ds)
  count_law (declaration_.Fun at n ps ty e ∷ ds) = count_law ds

  -- what stands for the variables of the prolog
  globals_law : (ds : Declarations) (j : ℕ) (vs : Values) (env : Env) → Stands vs env → Stands (global_values ds j vs) (globals (declarations t ds) j env)
  globals_law [] j vs env st = st
  globals_law (declaration_.Var at x None e ∷ ds) j vs env st =
      globals_law ds (j + 1) (with_value x.name (2 * j + 1) vs) _ (stands_behind vs (with_value x.name (2 * j + 1) vs) env x.name (2 * j + 1) st refl)
  globals_law (declaration_.Var at x (Some ty) e ∷ ds) j vs env st =
      globals_law ds (j + 1) (with_value x.name (2 * j + 2) vs) _ (stands_behind vs (with_value x.name (2 * j + 2) vs) env x.name (2 * j + 2) st refl)
  globals_law (declaration_.Fun at n ps ty e ∷ ds) j vs env st = globals_law ds j vs env st

-- the prolog's variables as the code has them
pub globals_stand : (ds : Declarations) (vs : Values) → vs ≡ global_values ds 0 no_value → (t : Texts) → Stands vs (globals (declarations t ds) 0 no_vars)
globals_stand ds vs q t = λ v. globals_law t ds 0 no_value no_vars stands_at_first v ∙ ap (λ (w : Values). w v) (sym q)

pub base_law : (t : Texts) (ds : Declarations) → 2 * var_count ds + 1 ≡ 2 * variables (declarations t ds) + 1
base_law t ds = ap (λ n. 2 * n + 1) (count_law t ds)

-- no body is made
pub bodies_none : (ds : Declarations) (p : Bodies) (base : ℕ) → base ≡ 2 * var_count ds + 1 → p.base ≡ base → ((k : ℕ) → held_in p k ≡ false) → AreBodies ds p
bodies_none ds p base q same none = record {
  base = same ∙ q;
  holds = λ t z. holds_none (2 * var_count ds + 1) (globals (declarations t ds) 0 no_vars) (functions (declarations t ds)) (held_in p) (bodies_in t p) none;
}

-- the body of a declaration more
pub bodies_more : (ds : Declarations) (p p' : Bodies) (vs : Values) (k : ℕ) (d : CodeDeclaration TextId ℕ SeqType ResolvedTree) (b : Template) →
    slice_get p.templates.items k ≡ Some None → placed ds (slice_get (places 0 ds) k) ≡ Some d → IsTemplateOf p vs d b →
    p'.base ≡ p.base → p'.templates.items ≡ slice_set p.templates.items k (Some b) → vs ≡ global_values ds 0 no_value → AreBodies ds p → AreBodies ds p'
bodies_more ds p p' vs k (declaration_.Var at x ty e) b new is made same put q h = absurd made
bodies_more ds p p' vs k (declaration_.Fun at n ps ty e) b new is made same put q h = record {
  base = same ∙ h.base;
  holds = λ t z.
      let known = function_known t ds k at n ps ty e (sym (placed_from ds ds 0 k refl) ∙ is) in
      holds_more (2 * var_count ds + 1) (globals (declarations t ds) 0 no_vars) (functions (declarations t ds)) (omega arith)
      (λ d. ap (λ o. shift.env o d (globals (declarations t ds) 0 no_vars)) (base_law t ds) ∙ globals_fixed d (declarations t ds))
      (held_in p) (bodies_in t p) (h.holds t z) k known.within (ap is_held new)
      (subst (AllHeld (held_in p)) (sym known.calls) (made.0 t))
      (template_of t b)
      (sym (known.body (2 * var_count ds + 1) (bodies_in t p) (globals (declarations t ds) 0 no_vars) 0
      ∙ ap (λ o. body_of o (bodies_in t p) (globals (declarations t ds) 0 no_vars) (function_in t ps ty e) 0) (sym h.base)
      ∙ made.1 t (globals (declarations t ds) 0 no_vars) z (globals_stand ds vs q t)))
      (held_in p') (bodies_in t p') (put_body t (2 * var_count ds + 1) p p' k b (same ∙ h.base) h.base put new);
}

-- what holds at each place holds of each element
pub by_places : (held : ℕ → Bool) (ks : List ℕ) → ((i : ℕ) → i < length ks → held (slice_index_or ks i 0) ≡ true) → AllHeld held ks
by_places held [] h k (i, p, e) = absurd (omega (arith, p))
by_places held (x ∷ ks) h k (zero, p, e) = subst (λ z. held z ≡ true) e (h zero (omega arith))
by_places held (x ∷ ks) h k (suc i, p, e) = by_places held ks (λ j q. h (suc j) (omega (arith, q))) k (i, omega (arith, p), e)

pub calls_held : (p : Bodies) (e : ResolvedTree) (ks : List ℕ) → ((t : Texts) → ks ≡ calls_in (syn_resolved t e)) → AllHeld (held_in p) ks → HasCalls p e
calls_held p e ks is h = λ t. subst (AllHeld (held_in p)) (is t) h

-- the template of a declared function
pub declared_template : (p : Bodies) (vs : Values) (d : CodeDeclaration TextId ℕ SeqType ResolvedTree) (at : ℕ) (n : Name TextId) (ps xs : List (Param ℕ SeqType)) (ty : Option SeqType) (e x : ResolvedTree) (b : Template) →
    d ≡ declaration_.Fun at n ps ty e → xs ≡ ps → x ≡ e → HasCalls p x → IsTemplate p vs xs ty x b → IsTemplateOf p vs d b
declared_template p vs d at n ps xs ty e x b is same_params same_body calls made =
    subst (λ y. IsTemplateOf p vs y b) (sym is) (subst (λ y. HasCalls p y) same_body calls, subst (λ y. IsTemplate p vs ps ty y b) same_body (subst (λ y. IsTemplate p vs y ty x b) same_params made))
