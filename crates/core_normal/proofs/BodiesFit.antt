-- A call of a declared function whose body is sound has its variables in scope.
use Rattle.std.proofs.Common.{◌≡◌, ap, ◌∙◌, subst, ℕ, zero, suc, ◌+◌, nat_eq, List, [], ◌∷◌, arith}
use Rattle.core_meaning.specs.PlainCore.{PlainCore, PlainCores}
use Rattle.core_meaning.specs.PlainCore as c
use Rattle.core_meaning.specs.Work.{is_member}
use Rattle.core_scope.specs.Syn.{Params, resolved, how_many_params}
use Rattle.core_scope.specs.Syn as s
use Rattle.core_normal.specs.Fresh.{Makes}
use Rattle.core_normal.specs.Around.{Env, found, with_var, outside}
use Rattle.core_normal.specs.Pieces as n
use Rattle.core_normal.specs.Pieces.{Inlined}
use Rattle.core_normal.specs.Query.{Function, entered, types_of, body_of, body_at, bodies_within}
use Rattle.core_normal.specs.Sound.{In, Sound}
use Rattle.core_normal.proofs.Fitting as f
use Rattle.core_normal.proofs.Fitting.{Sub, Fit, FitAll, here, later, sub_same, long}
use Rattle.core_normal.proofs.FittingLaw.{FitBodies, known_in, law}

-- the variables that are visible with the parameters of a function
abbrev pub behind_params : Params resolved → List ℕ → List ℕ
behind_params s.no_params vs = vs
behind_params (s.param o v t ps) vs = behind_params ps (v ∷ vs)

-- variables that stand for ones in scope
abbrev pub Bound : List ℕ → Env → List ℕ → Type 0
Bound vs env ws = (v : ℕ) → In v vs → In (found env v) ws

bound_more : (vs : List ℕ) (env : Env) (ws : List ℕ) (v x : ℕ) → Bound vs env ws → Bound (v ∷ vs) (with_var v x env) (x ∷ ws)
unfolding found
bound_more vs env ws v x h u k =
    known_in (x ∷ ws) (nat_eq v u) x (found env u) (x ∷ ws) (is_member u vs) (here x ws) (λ e. later (found env u) x ws (h u e)) (rw (same_test u v) at k)
  where
    same_test : (u v : ℕ) → nat_eq u v ≡ nat_eq v u
    same_test u v = grind arith

no_zero : (k : ℕ) → 0 ≡ suc k → ⊥
no_zero k e = omega (arith, e)

less_one : (j k : ℕ) → suc j ≡ suc k → j ≡ k
less_one j k e = omega (arith, e)

-- parameters over arguments, round what fits where the parameters are in scope
params_fit : (base o : ℕ) (ps : Params resolved) (v : Env) (m : ℕ) (as' : PlainCores) → long as' ≡ how_many_params ps → (us ws : List ℕ) → Bound us v ws →
    ((zs : List ℕ) → Sub ws zs → FitAll zs as') → (e : PlainCore) →
    ((zs : List ℕ) → Sub ws zs → Bound (behind_params ps us) ((entered base ps v m).made.env) zs → Fit zs e) →
    Fit ws (n.with_params o ((entered base ps v m).made.vars) (types_of ps) as' e)
params_fit base o s.no_params v m as' l us ws bound args e rest = rest ws (sub_same ws) bound
params_fit base o (s.param i u t ps) v m c.no_cores l us ws bound args e rest = absurd (no_zero (how_many_params ps) l)
params_fit base o (s.param i u t ps) v m (c.one_core a as') l us ws bound args e rest = (
  f.fit_converted ws o t a (args ws (sub_same ws)).0,
  params_fit base o ps (with_var u (base + m) v) (m + 1) as' (less_one (long as') (how_many_params ps) l) (u ∷ us) ((base + m) ∷ ws)
      (bound_more us v ws u (base + m) bound)
      (λ zs sub. (args zs (λ y h. sub y (later y (base + m) ws h))).1) e
      (λ zs sub. rest zs (λ y h. sub y (later y (base + m) ws h))),
)

module _ (globals : List ℕ) (may : ℕ → Type 0) (arity : ℕ → ℕ) (base : ℕ) (env : Env) (vs : List ℕ) (bound : Bound vs env globals) where
  -- functions whose bodies are sound, where they may be called; the first has this number
  abbrev pub FunsSound : ℕ → List Function → Type 0
  FunsSound k [] = Unit {0}
  FunsSound k (g ∷ gs) = (may k → Sound may arity (behind_params g.params vs) g.body) × (arity k ≡ how_many_params g.params) × FunsSound (suc k) gs

  function_fits : (bodies : ℕ → Makes Inlined) → FitBodies globals may arity base bodies → (g : Function) → Sound may arity (behind_params g.params vs) g.body →
      (m o : ℕ) (as' : PlainCores) → long as' ≡ how_many_params g.params → (ws : List ℕ) → Sub globals ws → ((us : List ℕ) → Sub ws us → FitAll us as') →
      Fit ws (n.inlined o ((body_of base bodies env g m).made) as')
  function_fits bodies own g sound m o as' l ws inside args =
      params_fit base o g.params env m as' l vs ws (λ v h. inside (found env v) (bound v h)) args _
      (λ zs sub seen. f.fit_converted zs o g.result _
      (law globals may arity base bodies own (behind_params g.params vs) g.body sound (outside ((entered base g.params env m).made.env)) ((entered base g.params env m).next) zs
      (record { env = seen; focus = tt; global = λ x h. sub x (inside x h) })))

  at_fits : (bodies : ℕ → Makes Inlined) → FitBodies globals may arity base bodies → (gs : List Function) (i : ℕ) → FunsSound i gs → (k : ℕ) → may (i + k) →
      (m o : ℕ) (as' : PlainCores) → long as' ≡ arity (i + k) → (ws : List ℕ) → Sub globals ws → ((us : List ℕ) → Sub ws us → FitAll us as') →
      Fit ws (n.inlined o ((body_at base bodies env gs k m).made) as')
  at_fits bodies own [] i sound k ok m o as' l ws inside args = tt
  at_fits bodies own (g ∷ gs) i sound zero ok m o as' l ws inside args =
      let e : i + 0 ≡ i = omega arith in
      function_fits bodies own g (sound.0 (subst may e ok)) m o as' (l ∙ ap arity e ∙ sound.1) ws inside args
  at_fits bodies own (g ∷ gs) i sound (suc k) ok m o as' l ws inside args =
      let e : i + suc k ≡ suc i + k = omega arith in
      at_fits bodies own gs (suc i) sound.2 k (subst may e ok) m o as' (l ∙ ap arity e) ws inside args

  pub within_fits : (gs : List Function) → FunsSound 0 gs → (i : ℕ) → FitBodies globals may arity base (bodies_within base i env gs)
  within_fits gs sound zero k ok m o as' l ws inside args = tt
  within_fits gs sound (suc i) k ok m o as' l ws inside args =
      let e : k ≡ 0 + k = omega arith in
      at_fits (bodies_within base i env gs) (within_fits gs sound i) gs 0 sound k (subst may e ok) m o as' (l ∙ ap arity e) ws inside args
