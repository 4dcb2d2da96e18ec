-- The Core of a query of which nothing is refused is lawful, where it isn't too large.
use Rattle.std.proofs.Common.{◌≡◌, refl, sym, ap, ◌∙◌, subst, ℕ, zero, suc, ◌+◌, ◌*◌, ◌<◌, ◌||◌, nat_eq, Bool, true, false, cond, not, Option, Some, None, List, [], ◌∷◌, ◌++◌, length, ⊎_elim, arith}
use Rattle.std.proofs.lemmas.Bool.{true≢false, and_parts}
use Rattle.xq_base.specs.declared.code.Code.TheVariants as code
use Rattle.xq_base.specs.Texts.{Text, text_eq}
use Rattle.core_meaning.specs.ExprOf.{expr_of}
use Rattle.core_meaning.specs.Lawful.{all_differ, is_lawful}
use Rattle.core_meaning.specs.PlainCore.{PlainCore}
use Rattle.core_meaning.specs.Types.{SequenceTest}
use Rattle.core_meaning.specs.Work.{is_member}
use Rattle.core_scope.specs.declared.names.Visible.{Visible}
use Rattle.core_scope.specs.declared.refusal.Refusal.{Refusal}
use Rattle.core_scope.specs.Names.{Scope, no_names, with_global, with_local, Signature, is_among, is_taken}
use Rattle.core_scope.specs.Prolog.{signatures, signature_of, with_params, param_facts, told, all_told, behind_prolog, resolved_params, resolved_declarations, functions_of, resolved_query}
use Rattle.core_scope.specs.Refusals.{IsRefusal, Scopes, accepted}
use Rattle.core_scope.specs.Resolving.{resolved_types, resolve}
use Rattle.core_scope.specs.Syn.{Params, Declaration, Query, read, resolved, how_many_params, place_of}
use Rattle.core_scope.specs.Syn as s
use Rattle.core_scope.specs.Walk as w
use Rattle.core_scope.specs.Walk.{walk, ◌with◌}
use Rattle.core_normal.specs.Fresh.{Makes}
use Rattle.core_normal.specs.Around.{Env, found, with_var, no_vars, outside}
use Rattle.core_normal.specs.Limits.{is_too_large}
use Rattle.core_normal.specs.Normal.{norm}
use Rattle.core_normal.specs.Pieces as n
use Rattle.core_normal.specs.Pieces.{Inlined}
use Rattle.core_normal.specs.Query.{functions, global_of, globals, bodies_within, count, prolog, base_of, core_of_query}
use Rattle.core_normal.specs.Sound.{In, BuiltDeclarations, IsBuilt, places}
use Rattle.core_normal.proofs.BinderLaw.{once}
use Rattle.core_normal.proofs.BodiesFit.{behind_params, Bound, FunsSound, within_fits}
use Rattle.core_normal.proofs.BuiltInCalls.{arity_of}
use Rattle.core_normal.proofs.Fitting.{Sub, Fit, here, later, sub_same}
use Rattle.core_normal.proofs.FittingLaw.{FitBodies, law}
use Rattle.core_normal.proofs.LawfulFrom.{lawful_from}
use Rattle.core_normal.proofs.SoundLaw as so
use Rattle.core_normal.proofs.SoundLaw.{ScopeOk, number_ok, visible_ok, scope_local, clean_right}
use Rattle.core_normal.proofs.ToldQuery.{FactsOk, VarsOk, MayBefore, facts_before, facts_always, variables_ok, body_ok, less_or_not}

-- the place of a variable of the prolog, by its number
abbrev nth : List ℕ → ℕ → ℕ
nth [] i = 0
nth (x ∷ xs) zero = x
nth (x ∷ xs) (suc i) = nth xs i

module _ (place : ℕ → ℕ) where
  -- the visible variables of the prolog are the first ones, each at its place
  abbrev global_ok : ℕ → Option Visible → Type 0
  global_ok j None = Unit {0}
  global_ok j (Some v) = (i : ℕ) × (v.number ≡ Some i) × (i < j) × (v.place ≡ place i)

  abbrev GlobalScope : ℕ → Scope → Type 0
  GlobalScope j sc = (x : Text) → global_ok j (sc x)

  weaker : (j : ℕ) (v : Option Visible) → global_ok j v → global_ok (suc j) v
  weaker j None h = tt
  weaker j (Some v) h = let lt = h.2 in (h.0, h.1, omega (arith, lt), h.3)

  one_more : (j o : ℕ) (x : Text) (sc : Scope) → o ≡ place j → GlobalScope j sc → GlobalScope (suc j) (with_global o x j sc)
  one_more j o x sc e h y = at (text_eq x y)
    where
      at : (b : Bool) → global_ok (suc j) (cond b (Some (record { place = o; number = Some j })) (sc y))
      at true = (j, refl, omega arith, e)
      at false = weaker j (sc y) (h y)

  scope_ok : (may refer : ℕ → Type 0) (j : ℕ) (sc : Scope) (vs : List ℕ) → GlobalScope j sc → ((i : ℕ) → i < j → refer i → In (place i) vs) → ScopeOk may refer sc vs
  scope_ok may refer j sc vs h inside x = at (sc x) (h x)
    where
      at : (v : Option Visible) → global_ok j v → visible_ok may refer vs v
      at None g = tt
      at (Some v) g = λ ok. subst (λ p. In p vs) (sym g.3) (inside g.0 g.2 (subst (number_ok may refer) g.1 ok))

scope_params : (fs : List Signature) (may refer : ℕ → Type 0) (ps : Params read) (sc : Scope) (vs : List ℕ) → ScopeOk may refer sc vs →
    ScopeOk may refer (with_params ps sc) (behind_params (resolved_params fs ps) vs)
scope_params fs may refer s.no_params sc vs h = h
scope_params fs may refer (s.param o x ty ps) sc vs h = scope_params fs may refer ps (with_local o x sc) (o ∷ vs) (scope_local may refer sc vs o x h)

as_many : (fs : List Signature) (ps : Params read) → how_many_params (resolved_params fs ps) ≡ how_many_params ps
as_many fs s.no_params = refl
as_many fs (s.param o x ty ps) = ap suc (as_many fs ps)

-- resolved declarations have the same places
same_places : (fs : List Signature) (ds : List (Declaration read)) (j : ℕ) (sc : Scope) → places (resolved_declarations fs ds j sc) ≡ places ds
same_places fs [] j sc = refl
same_places fs (s.function o p x ps ty e ∷ ds) j sc = same_places fs ds j sc
same_places fs (s.variable o p x ty e ∷ ds) j sc = ap (λ xs. p ∷ xs) (same_places fs ds (suc j) (with_global p x j sc))

-- the declared functions' bodies are sound, where they may be called
funs_sound : (globals : List ℕ) (base : ℕ) (env : Env) (fs : List Signature) (may refer : ℕ → Type 0) (place : ℕ → ℕ) (vs : List ℕ) (bound : Bound vs env globals) (all : ℕ) →
    ((i : ℕ) → i < all → refer i → In (place i) vs) →
    (ds : List (Declaration read)) (before : List Signature) (names : List Text) (j : ℕ) (sc : Scope) (k : ℕ) → GlobalScope place j sc → j + length (places ds) ≡ all →
    ((i : ℕ) → nth (places ds) i ≡ place (j + i)) → BuiltDeclarations (resolved_declarations fs ds j sc) → FactsOk may refer k (told fs ds before names j sc) →
    ((i : ℕ) → arity_of fs (k + i) ≡ arity_of (signatures ds) i) →
    FunsSound globals may (arity_of fs) base env vs bound k (functions (resolved_declarations fs ds j sc))
funs_sound globals base env fs may refer place vs bound all inside [] before names j sc k gs long at built facts arity = tt
funs_sound globals base env fs may refer place vs bound all inside (s.variable o p x ty e ∷ ds) before names j sc k gs long at built facts arity =
    let here_ : p ≡ place j = at 0 ∙ ap place (omega arith) in
    funs_sound globals base env fs may refer place vs bound all inside ds before (x ∷ names) (suc j) (with_global p x j sc) k (one_more place j p x sc here_ gs)
    (omega (arith, long)) (λ i. at (suc i) ∙ ap place (omega arith)) built.1 facts arity
funs_sound globals base env fs may refer place vs bound all inside (s.function o p x ps ty e ∷ ds) before names j sc k gs long at built facts arity =
    let zero_more : k + 0 ≡ k = omega arith in (
      λ ok. so.law may refer fs e (with_params ps sc) (behind_params (resolved_params fs ps) vs)
          (scope_params fs may refer ps sc vs (scope_ok place may refer j sc vs gs (λ i lt. inside i (omega (arith, lt, long))))) built.0
          (clean_right may refer (w.bind_type_facts ty) (walk fs e (with_params ps sc))
          (clean_right may refer (param_facts ps []) (w.bind_type_facts ty with walk fs e (with_params ps sc))
          (clean_right may refer (w.amiss_where (is_taken before x (how_many_params ps)) code.XQST0034 p) (param_facts ps [] with (w.bind_type_facts ty with walk fs e (with_params ps sc))) (facts.0 ok)))),
      ap (arity_of fs) (sym zero_more) ∙ arity 0 ∙ sym (as_many fs ps),
      funs_sound globals base env fs may refer place vs bound all inside ds (before ++ signature_of x ps ∷ []) names j sc (suc k) gs long at built.1 facts.1
          (λ i. ap (arity_of fs) (omega arith) ∙ arity (suc i)),
    )

-- the variables of the prolog in the environment
not_among : (v : ℕ) (o p x : ℕ) (vs : List ℕ) → nat_eq p v ≡ true → In v vs → is_member p vs ≡ true
not_among v o p x vs e h = subst (λ y. In y vs) (sym (same_of p v e)) h
  where
    same_of : (a b : ℕ) → nat_eq a b ≡ true → a ≡ b
    same_of a b e = grind (arith, e)

found_outside : (fs : List Signature) (ds : List (Declaration read)) (j i : ℕ) (sc : Scope) (env : Env) (v : ℕ) → is_member v (places ds) ≡ false →
    found (globals (resolved_declarations fs ds j sc) i env) v ≡ found env v
unfolding found
found_outside fs [] j i sc env v h = refl
found_outside fs (s.function o p x ps ty e ∷ ds) j i sc env v h = found_outside fs ds j i sc env v h
found_outside fs (s.variable o p x ty e ∷ ds) j i sc env v h =
    let parts = or_parts (nat_eq v p) (is_member v (places ds)) h in
    found_outside fs ds (suc j) (i + 1) (with_global p x j sc) (with_var p (global_of (resolved_types ty) i) env) v parts.1
    ∙ passed (nat_eq p v) (global_of (resolved_types ty) i) (found env v) (turned v p parts.0)
  where
    or_parts : (a b : Bool) → (a || b) ≡ false → (a ≡ false) × (b ≡ false)
    or_parts true b h = absurd (true≢false h)
    or_parts false b h = (refl, h)

    turned : (v p : ℕ) → nat_eq v p ≡ false → nat_eq p v ≡ false
    turned v p h = grind (arith, h)

    passed : (b : Bool) (x y : ℕ) → b ≡ false → cond b x y ≡ y
    passed true x y h = absurd (true≢false h)
    passed false x y h = refl

found_here : (fs : List Signature) (ds : List (Declaration read)) (j i : ℕ) (sc : Scope) (env : Env) (p x : ℕ) → is_member p (places ds) ≡ false →
    found (globals (resolved_declarations fs ds j sc) i (with_var p x env)) p ≡ x
unfolding found
found_here fs ds j i sc env p x h = found_outside fs ds j i sc (with_var p x env) p h ∙ itself (nat_eq p p) x (found env p) (same p)
  where
    same : (p : ℕ) → nat_eq p p ≡ true
    same p = grind arith

    itself : (b : Bool) (x y : ℕ) → b ≡ true → cond b x y ≡ x
    itself true x y h = refl
    itself false x y h = absurd (true≢false (sym h))

-- the variables of the Core that stand for those of the prolog, with one more
abbrev next_globals : Option SequenceTest → ℕ → List ℕ → List ℕ
next_globals None j ws = (2 * j + 1) ∷ ws
next_globals (Some t) j ws = (2 * j + 2) ∷ (2 * j + 1) ∷ ws

has_next : (t : Option SequenceTest) (j : ℕ) (ws : List ℕ) → In (global_of t j) (next_globals t j ws)
has_next None j ws = here (2 * j + 1) ws
has_next (Some t) j ws = here (2 * j + 2) ((2 * j + 1) ∷ ws)

keeps_next : (t : Option SequenceTest) (j : ℕ) (ws : List ℕ) → Sub ws (next_globals t j ws)
keeps_next None j ws u h = later u (2 * j + 1) ws h
keeps_next (Some t) j ws u h = later u (2 * j + 2) ((2 * j + 1) ∷ ws) (later u (2 * j + 1) ws h)

fit_next : (o : ℕ) (t : Option SequenceTest) (j : ℕ) (ws : List ℕ) (d : PlainCore) → Fit (next_globals t j ws) d → Fit ((2 * j + 1) ∷ ws) (n.tested o t (2 * j + 1) (2 * j + 2) d)
fit_next o None j ws d h = h
fit_next o (Some t) j ws d h = ((here (2 * j + 1) ws, here (2 * j + 1) ws, refl), h)

bound_next : (vs ws us : List ℕ) (env : Env) (p : ℕ) → Sub ws us → In (found env p) us → Bound vs env ws → Bound (p ∷ vs) env us
bound_next vs ws us env p sub new old v h = at (nat_eq v p) refl h
  where
    same_of : (a b : ℕ) → nat_eq a b ≡ true → b ≡ a
    same_of a b e = grind (arith, e)

    at : (b : Bool) → nat_eq v p ≡ b → (b || is_member v vs) ≡ true → In (found env v) us
    at true e k = subst (λ u. In (found env u) us) (same_of v p e) new
    at false e k = sub (found env v) (old v k)

-- what is known of the whole query
module _ (q : Query read) (refused_nothing : (x : Refusal) → IsRefusal q x → ⊥) (built : IsBuilt (resolved_query q)) where
  abbrev fs : List Signature
  fs = functions_of q

  abbrev ds0 : List (Declaration resolved)
  ds0 = (resolved_query q).declarations

  abbrev base : ℕ
  base = base_of ds0

  abbrev env0 : Env
  env0 = globals ds0 0 no_vars

  abbrev place : ℕ → ℕ
  place i = nth (places q.declarations) i

  abbrev all : ℕ
  all = length (places q.declarations)

  abbrev bodies : ℕ → Makes Inlined
  bodies = bodies_within base (count (functions ds0)) env0 (functions ds0)

  sound_functions : (may refer : ℕ → Type 0) (vs ws : List ℕ) (bound : Bound vs env0 ws) → ((i : ℕ) → i < all → refer i → In (place i) vs) →
      FactsOk may refer 0 (all_told q) → FunsSound ws may (arity_of fs) base env0 vs bound 0 (functions ds0)
  sound_functions may refer vs ws bound inside facts =
      funs_sound ws base env0 fs may refer place vs bound all inside q.declarations [] [] 0 no_names 0 (λ x. tt) (omega arith)
      (λ i. ap place (omega arith)) built.declarations facts (λ i. ap (arity_of fs) (omega arith))

  -- calls in the value of a variable, and in the main expression
  fit_before : (j : ℕ) (vs ws : List ℕ) → Bound vs env0 ws → ((i : ℕ) → i < j → In (place i) vs) → FitBodies ws (MayBefore q j) (arity_of fs) base bodies
  fit_before j vs ws bound inside =
      within_fits ws (MayBefore q j) (arity_of fs) base env0 vs bound (functions ds0)
      (sound_functions (MayBefore q j) (λ i. i < j) vs ws bound (λ i lt ok. inside i ok) (facts_before q refused_nothing j)) (count (functions ds0))

  fit_always : (vs ws : List ℕ) → Bound vs env0 ws → ((i : ℕ) → i < all → In (place i) vs) → FitBodies ws (λ k. Unit {0}) (arity_of fs) base bodies
  fit_always vs ws bound inside =
      within_fits ws (λ k. Unit {0}) (arity_of fs) base env0 vs bound (functions ds0)
      (sound_functions (λ k. Unit {0}) (λ i. Unit {0}) vs ws bound (λ i lt ok. inside i lt) (facts_always q refused_nothing)) (count (functions ds0))

  -- the prolog behind its first variables
  prolog_fits : (ds : List (Declaration read)) (before : List Signature) (names : List Text) (j : ℕ) (sc : Scope) (env : Env) (vs ws : List ℕ) (m : ℕ) →
      env0 ≡ globals (resolved_declarations fs ds j sc) j env → GlobalScope place j sc → j + length (places ds) ≡ all → ((i : ℕ) → nth (places ds) i ≡ place (j + i)) →
      all_differ (places ds) ≡ true → BuiltDeclarations (resolved_declarations fs ds j sc) → VarsOk q (told fs ds before names j sc) →
      Bound vs env0 ws → ((i : ℕ) → i < j → In (place i) vs) → behind_prolog ds j sc ≡ behind_prolog q.declarations 0 no_names →
      Fit ws ((prolog base bodies env0 (resolved_declarations fs ds j sc) j (resolve fs q.body (behind_prolog q.declarations 0 no_names)) m).made)
  prolog_fits [] before names j sc env vs ws m is gs long at differ built' facts bound inside rest =
      let far : j ≡ all = omega (arith, long) in
      law ws (λ k. Unit {0}) (arity_of fs) base bodies (fit_always vs ws bound (λ i lt. inside i (omega (arith, lt, far)))) vs (resolve fs q.body (behind_prolog q.declarations 0 no_names))
      (so.law (λ k. Unit {0}) (λ i. Unit {0}) fs q.body (behind_prolog q.declarations 0 no_names) vs
      (subst (λ sc'. ScopeOk (λ k. Unit {0}) (λ i. Unit {0}) sc' vs) rest (scope_ok place (λ k. Unit {0}) (λ i. Unit {0}) j sc vs gs (λ i lt ok. inside i lt)))
      built.body (body_ok q refused_nothing))
      (outside env0) m ws (record { env = bound; focus = tt; global = sub_same ws })
  prolog_fits (s.function o p x ps ty e ∷ ds) before names j sc env vs ws m is gs long at differ built' facts bound inside rest =
      prolog_fits ds (before ++ signature_of x ps ∷ []) names j sc env vs ws m is gs long at differ built'.1 facts bound inside rest
  prolog_fits (s.variable o p x ty e ∷ ds) before names j sc env vs ws m is gs long at differ built' facts bound inside rest =
      let here_ : p ≡ place j = at 0 ∙ ap place (omega arith) in
      let t = resolved_types ty in
      let apart = and_parts (not (is_member p (places ds))) (all_differ (places ds)) differ in
      let us = next_globals t j ws in
      let after = (norm base bodies (resolve fs e sc) (outside env0) m).next in
      let is_found : found env0 p ≡ global_of t j =
      ap (λ v. found v p) is ∙ found_here fs ds (suc j) (j + 1) (with_global p x j sc) env p (global_of t j) (not_false (is_member p (places ds)) apart.0) in
      let bound' : Bound (p ∷ vs) env0 us = bound_next vs ws us env0 p (keeps_next t j ws) (subst (λ v. In v us) (sym is_found) (has_next t j ws)) bound in
      let next : suc j ≡ j + 1 = omega arith in
      let value_facts = clean_right (MayBefore q j) (λ i. Unit {0}) (w.bind_type_facts ty) (walk fs e sc) (clean_right (MayBefore q j) (λ i. Unit {0}) (w.amiss_where (is_among names x) code.XQST0049 p) (w.bind_type_facts ty with walk fs e sc) facts.0) in (
        law ws (MayBefore q j) (arity_of fs) base bodies (fit_before j vs ws bound inside) vs (resolve fs e sc)
            (so.law (MayBefore q j) (λ i. Unit {0}) fs e sc vs (scope_ok place (MayBefore q j) (λ i. Unit {0}) j sc vs gs (λ i lt ok. inside i lt)) built'.0 value_facts)
            (outside env0) m ws (record { env = bound; focus = tt; global = sub_same ws }),
        fit_next (place_of (resolve fs e sc)) t j ws _
            (subst (λ i. Fit us ((prolog base bodies env0 (resolved_declarations fs ds (suc j) (with_global p x j sc)) i (resolve fs q.body (behind_prolog q.declarations 0 no_names)) after).made)) next
            (prolog_fits ds before (x ∷ names) (suc j) (with_global p x j sc) (with_var p (global_of t j) env) (p ∷ vs) us after
            (is ∙ ap (λ i. globals (resolved_declarations fs ds (suc j) (with_global p x j sc)) i (with_var p (global_of t j) env)) (sym next))
            (one_more place j p x sc here_ gs) (omega (arith, long)) (λ i. at (suc i) ∙ ap place (omega arith)) apart.1 built'.1 facts.1 bound'
            (λ i lt. at_place i lt) rest)),
      )
    where
      not_false : (b : Bool) → not b ≡ true → b ≡ false
      not_false true h = absurd (true≢false (sym h))
      not_false false h = refl

      at_place : (i : ℕ) → i < suc j → In (place i) (p ∷ vs)
      at_place i lt =
          ⊎_elim (λ k. later (place i) p vs (inside i k))
          (λ k. let same : j + 0 ≡ i = omega (arith, k, lt) in subst (λ u. In u (p ∷ vs)) (at 0 ∙ ap place same) (here p vs)) (less_or_not i j)

  pub fits_query : Fit [] (core_of_query (resolved_query q))
  fits_query =
      prolog_fits q.declarations [] [] 0 no_names no_vars [] [] 0 refl (λ x. tt) (omega arith) (λ i. ap place (omega arith)) (subst (λ xs. all_differ xs ≡ true) (same_places fs q.declarations 0 no_names) built.apart) built.declarations
      (variables_ok q refused_nothing) (λ v h. absurd (true≢false (sym h))) (λ i lt. absurd (omega (arith, lt))) refl

-- a query's Core is lawful
pub lawful_core : (q : Query read) (r : Query resolved) → IsBuilt r → Scopes q (accepted r) → is_too_large (core_of_query r) ≡ false → is_lawful (expr_of (core_of_query r)) ≡ true
lawful_core q r built scopes small =
    let fit : Fit [] (core_of_query r) = subst (λ x. Fit [] (core_of_query x)) (sym scopes.1) (fits_query q scopes.0 (subst IsBuilt scopes.1 built)) in
    lawful_from (core_of_query r) fit (once r) small
