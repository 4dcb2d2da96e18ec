-- What is told of a query of which nothing is refused: each function may be called where what it refers to is visible.
use Rattle.std.proofs.Common.{◌≡◌, refl, ap, ◌∙◌, subst, ℕ, zero, suc, ◌+◌, ◌<◌, ◌≤◌, map, List, [], ◌∷◌, ◌++◌, ◌⊎◌, inl, inr, ⊎_elim, Contains, arith}
use Rattle.xq_base.specs.declared.code.Code.TheVariants as code
use Rattle.core_scope.specs.declared.found.DeclaredCall.{DeclaredCall}
use Rattle.core_scope.specs.declared.refusal.Refusal.{Refusal}
use Rattle.core_scope.specs.Prolog.{Told, of_function, of_variable, all_told, local_refusals, told_refusals, version_refusals, setter_refusals, body_facts}
use Rattle.core_scope.specs.Refusals.{ToldFunction, told_functions, function_at, straight, through, the_functions, Refers, itself, by_call, IsRefusal}
use Rattle.core_scope.specs.Syn.{Query, read}
use Rattle.core_scope.specs.Walk.{Facts, refused}
use Rattle.core_normal.proofs.SoundLaw.{AllCalls, AllRefers, Clean}

-- members of lists
there : {A : Type 0} (x : A) (xs : List A) (y : A) → Contains xs y → Contains (x ∷ xs) y
there x xs y h = let lt = h.1 in (suc h.0, omega arith, h.2)

first : {A : Type 0} (x : A) (xs : List A) → Contains (x ∷ xs) x
first x xs = (0, omega arith, refl)

contains_map : {A B : Type 0} (g : A → B) (xs : List A) (x : A) → Contains xs x → Contains (map g xs) (g x)
contains_map g [] x h = let lt = h.1 in absurd (omega arith)
contains_map g (y ∷ ys) x (zero, lt, e) = (0, omega arith, ap g e)
contains_map g (y ∷ ys) x (suc k, lt, e) = there (g y) (map g ys) (g x) (contains_map g ys x (k, omega (arith, lt), e))

no_members : {A : Type 0} (xs : List A) → ((x : A) → Contains xs x → ⊥) → xs ≡ []
no_members [] h = refl
no_members (x ∷ xs) h = absurd (h x (first x xs))

first_empty : {A : Type 0} (xs ys : List A) → xs ++ ys ≡ [] → xs ≡ []
first_empty [] ys e = refl
first_empty (x ∷ xs) ys e = cc

second_empty : {A : Type 0} (xs ys : List A) → xs ++ ys ≡ [] → ys ≡ []
second_empty [] ys e = e
second_empty (x ∷ xs) ys e = cc

all_calls : (may : ℕ → Type 0) (refer : ℕ → Type 0) (cs : List DeclaredCall) → ((c : DeclaredCall) → Contains cs c → may c.function) → AllCalls may refer cs
all_calls may refer [] h = tt
all_calls may refer (c ∷ cs) h = (h c (first c cs), all_calls may refer cs (λ d k. h d (there c cs d k)))

all_refers : (may : ℕ → Type 0) (refer : ℕ → Type 0) (js : List ℕ) → ((j : ℕ) → Contains js j → refer j) → AllRefers may refer js
all_refers may refer [] h = tt
all_refers may refer (j ∷ js) h = (h j (first j js), all_refers may refer js (λ i k. h i (there j js i k)))

-- of each function that may be called, what is told is clean; the first has this number
abbrev pub FactsOk : (ℕ → Type 0) → (ℕ → Type 0) → ℕ → List Told → Type 0
FactsOk may refer k [] = Unit {0}
FactsOk may refer k (of_function o f ∷ ts) = (may k → Clean may refer f) × FactsOk may refer (suc k) ts
FactsOk may refer k (of_variable j f ∷ ts) = FactsOk may refer k ts

-- the values of variables call what doesn't refer to themselves or to later variables
abbrev pub MayBefore : Query read → ℕ → ℕ → Type 0
MayBefore q j k = (m : ℕ) → Refers q k m → m < j

abbrev pub VarsOk : Query read → List Told → Type 0
VarsOk q [] = Unit {0}
VarsOk q (of_function o f ∷ ts) = VarsOk q ts
VarsOk q (of_variable j f ∷ ts) = Clean (MayBefore q j) (λ i. Unit {0}) f × VarsOk q ts

facts_ok : (may refer : ℕ → Type 0) (fs : List ToldFunction) →
    ((k : ℕ) → may k → (c : DeclaredCall) → Contains (function_at fs k).facts.calls c → may c.function) →
    ((k : ℕ) → may k → (j : ℕ) → Contains (function_at fs k).facts.refers j → refer j) →
    (k : ℕ) (ts : List Told) → told_refusals ts ≡ [] → ((i : ℕ) → function_at (told_functions ts) i ≡ function_at fs (k + i)) → FactsOk may refer k ts
facts_ok may refer fs calls refers k [] none at = tt
facts_ok may refer fs calls refers k (of_variable j f ∷ ts) none at = facts_ok may refer fs calls refers k ts (second_empty f.refusals (told_refusals ts) none) at
facts_ok may refer fs calls refers k (of_function o f ∷ ts) none at = (
  λ ok. record {
    refusals = first_empty f.refusals (told_refusals ts) none;
    calls = all_calls may refer f.calls (λ c h. calls k ok c (subst (λ g. Contains g.facts.calls c) this h));
    refers = all_refers may refer f.refers (λ j h. refers k ok j (subst (λ g. Contains g.facts.refers j) this h));
  },
  facts_ok may refer fs calls refers (suc k) ts (second_empty f.refusals (told_refusals ts) none) (λ i. at (suc i) ∙ ap (function_at fs) (omega arith)),
)
  where
    zero_more : k + 0 ≡ k
    zero_more = omega arith

    this : function_at (told_functions (of_function o f ∷ ts)) 0 ≡ function_at fs k
    this = at 0 ∙ ap (function_at fs) zero_more

pub less_or_not : (m j : ℕ) → (m < j) ⊎ (j ≤ m)
less_or_not zero zero = inr (omega arith)
less_or_not zero (suc j) = inl (omega arith)
less_or_not (suc m) zero = inr (omega arith)
less_or_not (suc m) (suc j) = ⊎_elim (λ p. inl (omega (arith, p))) (λ p. inr (omega (arith, p))) (less_or_not m j)

module _ (q : Query read) (accepted : (x : Refusal) → IsRefusal q x → ⊥) where
  none_local : local_refusals q ≡ []
  none_local = no_members (local_refusals q) (λ x h. accepted x (inl h))

  front : List Refusal
  front = version_refusals q.version ++ setter_refusals q.setters

  pub none_in_body : (body_facts q).refusals ≡ []
  none_in_body = second_empty ((version_refusals q.version ++ setter_refusals q.setters) ++ told_refusals (all_told q)) ((body_facts q).refusals) none_local

  none_told : told_refusals (all_told q) ≡ []
  none_told =
      second_empty (version_refusals q.version ++ setter_refusals q.setters) (told_refusals (all_told q))
      (first_empty ((version_refusals q.version ++ setter_refusals q.setters) ++ told_refusals (all_told q)) ((body_facts q).refusals) none_local)

  -- what a function that may be called calls may be called too
  called_before : (j k : ℕ) → MayBefore q j k → (c : DeclaredCall) → Contains (function_at (the_functions q) k).facts.calls c → MayBefore q j c.function
  called_before j k ok c h m (itself g) = ok m (by_call (straight (contains_map (λ d. d.function) (function_at (the_functions q) k).facts.calls c h)) g)
  called_before j k ok c h m (by_call path g) = ok m (by_call (through (contains_map (λ d. d.function) (function_at (the_functions q) k).facts.calls c h) path) g)

  pub facts_before : (j : ℕ) → FactsOk (MayBefore q j) (λ i. i < j) 0 (all_told q)
  facts_before j =
      facts_ok (MayBefore q j) (λ i. i < j) (the_functions q) (called_before j) (λ k ok i h. ok i (itself h)) 0 (all_told q) none_told
      (λ i. ap (function_at (the_functions q)) (omega arith))

  pub facts_always : FactsOk (λ k. Unit {0}) (λ i. Unit {0}) 0 (all_told q)
  facts_always =
      facts_ok (λ k. Unit {0}) (λ i. Unit {0}) (the_functions q) (λ k ok c h. tt) (λ k ok i h. tt) 0 (all_told q) none_told
      (λ i. ap (function_at (the_functions q)) (omega arith))

  soon : (j : ℕ) (f : Facts) → Contains (all_told q) (of_variable j f) → (c : DeclaredCall) → Contains f.calls c → MayBefore q j c.function
  soon j f told c h m g =
      ⊎_elim (λ p. p)
      (λ p. absurd (accepted (refused code.XPST0008 c.offset)
      (inr (inr (record { number = j; facts = f; is_variable = told; call = c; is_call = h; later = m; is_later = p; refers = g; is = refl })))))
      (less_or_not m j)

  vars_ok : (ts : List Told) → told_refusals ts ≡ [] → ((j : ℕ) (f : Facts) → Contains ts (of_variable j f) → Contains (all_told q) (of_variable j f)) → VarsOk q ts
  vars_ok [] none inside = tt
  vars_ok (of_function o f ∷ ts) none inside = vars_ok ts (second_empty f.refusals (told_refusals ts) none) (λ j g h. inside j g (there (of_function o f) ts (of_variable j g) h))
  vars_ok (of_variable i f ∷ ts) none inside = (
    record {
      refusals = first_empty f.refusals (told_refusals ts) none;
      calls = all_calls (MayBefore q i) (λ j. Unit {0}) f.calls (λ c h. soon i f (inside i f (first (of_variable i f) ts)) c h);
      refers = all_refers (MayBefore q i) (λ j. Unit {0}) f.refers (λ j h. tt);
    },
    vars_ok ts (second_empty f.refusals (told_refusals ts) none) (λ j g h. inside j g (there (of_variable i f) ts (of_variable j g) h)),
  )

  pub variables_ok : VarsOk q (all_told q)
  variables_ok = vars_ok (all_told q) none_told (λ j f h. h)

  -- the main expression may call whatever is declared
  pub body_ok : Clean (λ k. Unit {0}) (λ i. Unit {0}) (body_facts q)
  body_ok =
      record {
        refusals = none_in_body;
        calls = all_calls (λ k. Unit {0}) (λ i. Unit {0}) ((body_facts q).calls) (λ c h. tt);
        refers = all_refers (λ k. Unit {0}) (λ i. Unit {0}) ((body_facts q).refers) (λ j h. tt);
      }
