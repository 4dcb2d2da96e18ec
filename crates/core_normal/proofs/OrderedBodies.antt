-- Bodies made in an order, callees first, are those of the definitions.
use Rattle.std.proofs.Common.{◌≡◌, ◌≢◌, refl, sym, ap, subst, ◌∙◌, ℕ, zero, suc, ◌<◌, ◌≤◌, eqb, Bool, true, false, ◌||◌, List, [], ◌∷◌, length, ◌⊎◌, inl, inr, ⊎_elim, Contains, arith}
use Rattle.std.specs.List.{IsDistinct, AllByRecursion, list_any}
use Rattle.std.proofs.lemmas.Bool.{true≢false}
use Rattle.std.proofs.lemmas.Bool.Decides.{eqb_tells}
use Rattle.std.proofs.lemmas.Map.Steps.{length-le_from_distinct_below}
use Rattle.core_scope.specs.Syn.{Syn, Declaration, Query, resolved}
use Rattle.core_normal.specs.Fresh.{Made, Makes}
use Rattle.core_normal.specs.Around.{Env, Around, no_vars}
use Rattle.core_normal.specs.Pieces.{Inlined}
use Rattle.core_normal.specs.Normal.{norm}
use Rattle.core_normal.specs.Query.{Function, body_at, bodies_within, count, prolog, functions, globals, base_of, core_of_query}
use Rattle.core_normal.specs.Calls.{calls_in}
use Rattle.core_normal.specs.Ordered.{SameFor, calls_of, main_calls, Next, Ordered, nobody, behind, AllHeld, Holds, HoldsOf, WithBody}
use Rattle.core_normal.specs.Shift as h
use Rattle.core_normal.proofs.CalledBodies.{law, body_same, prolog_same}
use Rattle.core_normal.proofs.Moves.{template_law}
use Rattle.core_normal.proofs.Globals.{globals_fixed}

-- members of a list with one more at its front
later_member : (x : ℕ) (xs : List ℕ) (i : ℕ) → Contains xs i → Contains (x ∷ xs) i
later_member x xs i h = let lt = h.1 in (suc h.0, omega arith, h.2)

member_cases : (x : ℕ) (xs : List ℕ) (i : ℕ) → Contains (x ∷ xs) i → (x ≡ i) ⊎ Contains xs i
member_cases x xs i (zero, lt, e) = inl e
member_cases x xs i (suc j, lt, e) = inr (j, omega (arith, lt), e)

no_member : (i : ℕ) → Contains [] i → ⊥
no_member i h = let lt = h.1 in omega arith

member_from_any : (xs : List ℕ) (q : ℕ) → list_any (eqb q) xs ≡ true → Contains xs q
member_from_any [] q e = absurd (true≢false (sym e))
member_from_any (x ∷ xs) q e = ⊎_elim (λ t. (0, omega arith, sym t.1)) (λ t. later_member x xs q (member_from_any xs q (subst (λ z. (z || list_any (eqb q) xs) ≡ true) t.0 e))) (eqb_tells q x)

apart : (k : ℕ) (xs : List ℕ) → (Contains xs k → ⊥) → AllByRecursion (λ y. eqb k y ≡ false) xs
apart k [] no_k = tt
apart k (x ∷ xs) no_k = (⊎_elim (λ t. absurd (no_k (0, omega arith, sym t.1))) (λ t. t.0) (eqb_tells k x), apart k xs (λ h. no_k (later_member x xs k h)))

module _ (fs : List Function) where
  distinct_order : {ks : List ℕ} → Ordered fs ks → IsDistinct eqb ks
  unfolding IsDistinct
  distinct_order nobody = tt
  distinct_order (behind {before} k o next) = (apart k before next.is_new, distinct_order o)

  order_below : {ks : List ℕ} → Ordered fs ks → (q : ℕ) → Contains ks q → q < count fs
  order_below nobody q h = absurd (no_member q h)
  order_below (behind {before} k o next) q h = ⊎_elim (λ e. subst (λ z. z < count fs) e next.is_function) (λ h'. order_below o q h') (member_cases k before q h)

  -- an order has as many functions at most as there are
  pub order_length : {ks : List ℕ} → Ordered fs ks → length ks ≤ count fs
  order_length {ks} o = length-le_from_distinct_below ks (count fs) (distinct_order o) (λ q e. order_below o q (member_from_any ks q e))

module _ (base : ℕ) (env : Env) where
  at_same : (b b' : ℕ → Makes Inlined) (fs : List Function) (k : ℕ) → SameFor b b' (calls_of fs k) → (d : ℕ) → body_at base b env fs k d ≡ body_at base b' env fs k d
  at_same b b' [] k same d = refl
  at_same b b' (f ∷ fs) zero same d = body_same base b b' env f same d
  at_same b b' (f ∷ fs) (suc k) same d = at_same b b' fs k same d

  -- bodies of an order don't depend on how deep calls may go, from as deep as the order is long
  pub stable : (fs : List Function) {ks : List ℕ} → Ordered fs ks → (n m : ℕ) → length ks ≤ n → length ks ≤ m →
      SameFor (bodies_within base n env fs) (bodies_within base m env fs) ks
  stable fs nobody n m p q i h d = absurd (no_member i h)
  stable fs (behind {before} k o next) zero m p q i h d = absurd (omega (arith, p))
  stable fs (behind {before} k o next) (suc n) zero p q i h d = absurd (omega (arith, q))
  stable fs (behind {before} k o next) (suc n) (suc m) p q i h d =
      ⊎_elim (λ e. subst (λ j. bodies_within base (suc n) env fs j d ≡ bodies_within base (suc m) env fs j d) e
      (at_same (bodies_within base n env fs) (bodies_within base m env fs) fs k
      (λ c g. stable fs o n m (omega (arith, p)) (omega (arith, q)) c (next.calls c g)) d))
      (λ g. stable fs o (suc n) (suc m) (omega (arith, p)) (omega (arith, q)) i g d)
      (member_cases k before i h)

  -- the body of the function that comes next, from those of an order
  next_body : (fs : List Function) {ks : List ℕ} → Ordered fs ks → (k : ℕ) → Next fs ks k → (b : ℕ → Makes Inlined) (n : ℕ) → suc (length ks) ≤ n →
      SameFor b (bodies_within base n env fs) ks → (d : ℕ) → body_at base b env fs k d ≡ bodies_within base n env fs k d
  next_body fs o k next b zero p same d = absurd (omega (arith, p))
  next_body fs o k next b (suc n) p same d =
      at_same b (bodies_within base n env fs) fs k
      (λ c g j. same c (next.calls c g) j ∙ stable fs o (suc n) n (omega (arith, p)) (omega (arith, p)) c (next.calls c g) j) d

  module _ (fs : List Function) where
    -- at first no function is held
    pub holds_none : (held : ℕ → Bool) (b : ℕ → Makes Inlined) → ((k : ℕ) → held k ≡ false) → Holds base env fs held b
    holds_none held b no_one =
        record {
          order = [];
          ordered = nobody;
          has = λ k h. absurd (no_member k h);
          is = λ k e. absurd (true≢false (sym e ∙ no_one k));
          same = λ k h d. absurd (no_member k h);
        }

    -- the bodies of functions that are held
    pub held_same : (held : ℕ → Bool) (b : ℕ → Makes Inlined) → Holds base env fs held b → (ks : List ℕ) → AllHeld held ks →
        SameFor b (bodies_within base (count fs) env fs) ks
    held_same held b y ks all k h d = y.same k (y.is k (all k h)) d

    -- a body that was made with those that are held is held then
    pub holds_more : 0 < base → ((d : ℕ) → h.env base d env ≡ env) → (held : ℕ → Bool) (b : ℕ → Makes Inlined) → Holds base env fs held b →
        (k : ℕ) → k < count fs → held k ≡ false → AllHeld held (calls_of fs k) → (x : Made Inlined) → x ≡ body_at base b env fs k 0 →
        (held' : ℕ → Bool) (b' : ℕ → Makes Inlined) → WithBody base held b k x held' b' → Holds base env fs held' b'
    holds_more low fixed held b y k lt new calls x is held' b' w =
        record {
          order = k ∷ y.order;
          ordered = behind k y.ordered next;
          has = λ i g. ⊎_elim (λ e. subst (λ z. held' z ≡ true) e w.holds) (λ g'. w.held_before i (other i g') ∙ y.has i g') (member_cases k y.order i g);
          is = λ i e. ⊎_elim (λ t. (0, omega arith, sym t.1)) (λ t. later_member k y.order i (y.is i (sym (w.held_before i t.1) ∙ e))) (eqb_tells i k);
          same = λ i g d. ⊎_elim (λ e. subst (λ z. b' z d ≡ bodies_within base (count fs) env fs z d) e (latest d)) (λ g'. w.bodies i d (other i g') ∙ y.same i g' d) (member_cases k y.order i g);
        }
      where
        next : Next fs y.order k
        next = record { is_function = lt; is_new = λ g. true≢false (sym (y.has k g) ∙ new); calls = λ c g. y.is c (calls c g) }

        other : (i : ℕ) → Contains y.order i → i ≢ k
        other i g e = true≢false (sym (y.has i g) ∙ ap held e ∙ new)

        latest : (d : ℕ) → b' k d ≡ bodies_within base (count fs) env fs k d
        latest d =
            w.body d
            ∙ ap (h.all base d (h.inlined base d)) (is ∙ next_body fs y.ordered k next b (count fs) (order_length fs (behind k y.ordered next)) y.same 0)
            ∙ sym (template_law base d low (count fs) env (fixed d) fs k)

    -- the Core of an expression whose calls are held
    pub norm_held : (held : ℕ → Bool) (b : ℕ → Makes Inlined) → Holds base env fs held b → (e : Syn resolved) → AllHeld held (calls_in e) →
        (r : Around) (m : ℕ) → norm base b e r m ≡ norm base (bodies_within base (count fs) env fs) e r m
    norm_held held b y e all r m = law base b (bodies_within base (count fs) env fs) e (held_same held b y (calls_in e) all) r m

    pub prolog_held : (held : ℕ → Bool) (b : ℕ → Makes Inlined) → Holds base env fs held b → (ds : List (Declaration resolved)) (e : Syn resolved) →
        AllHeld held (main_calls ds (calls_in e)) → (v : Env) (j m : ℕ) →
        prolog base b v ds j e m ≡ prolog base (bodies_within base (count fs) env fs) v ds j e m
    prolog_held held b y ds e all v j m =
        prolog_same base b (bodies_within base (count fs) env fs) v ds j e (held_same held b y (main_calls ds (calls_in e)) all) m

-- for a query: no function is held, one more is, and what the main expression and the prolog call is
pub query_none : (q : Query resolved) (held : ℕ → Bool) (b : ℕ → Makes Inlined) → ((k : ℕ) → held k ≡ false) → HoldsOf q held b
query_none q held b no_one = holds_none (base_of q.declarations) (globals q.declarations 0 no_vars) (functions q.declarations) held b no_one

pub query_more : (q : Query resolved) (held : ℕ → Bool) (b : ℕ → Makes Inlined) → HoldsOf q held b →
    (k : ℕ) → k < count (functions q.declarations) → held k ≡ false → AllHeld held (calls_of (functions q.declarations) k) →
    (x : Made Inlined) → x ≡ body_at (base_of q.declarations) b (globals q.declarations 0 no_vars) (functions q.declarations) k 0 →
    (held' : ℕ → Bool) (b' : ℕ → Makes Inlined) → WithBody (base_of q.declarations) held b k x held' b' → HoldsOf q held' b'
query_more q held b y k lt new calls x is held' b' w =
    holds_more (base_of q.declarations) (globals q.declarations 0 no_vars) (functions q.declarations) (omega arith)
    (λ d. globals_fixed d q.declarations) held b y k lt new calls x is held' b' w

pub query_core : (q : Query resolved) (held : ℕ → Bool) (b : ℕ → Makes Inlined) → HoldsOf q held b →
    AllHeld held (main_calls q.declarations (calls_in q.body)) →
    (prolog (base_of q.declarations) b (globals q.declarations 0 no_vars) q.declarations 0 q.body 0).made ≡ core_of_query q
query_core q held b y all =
    ap (λ x. x.made) (prolog_held (base_of q.declarations) (globals q.declarations 0 no_vars) (functions q.declarations) held b y
    q.declarations q.body all (globals q.declarations 0 no_vars) 0 0)
