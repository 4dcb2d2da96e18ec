-- The first refusal of a call that comes too soon, variable by variable from the last to the first.
use Rattle.std.proofs.Common.{◌≡◌, refl, sym, ap, subst, ◌∙◌, ℕ, zero, suc, ◌+◌, ◌-◌, ◌<◌, ◌≤◌, length, map, Bool, true, false, cond, List, [], ◌∷◌, get_or, Option, Some, None, ◌⊎◌, inl, inr, Contains, nat_eq, arith}
use Rattle.xq_base.specs.declared.code.Code.TheVariants as code
use Rattle.core_scope.specs.declared.refusal.Refusal.{Refusal}
use Rattle.core_scope.specs.declared.found.DeclaredCall.{DeclaredCall}
use Rattle.core_scope.specs.Walk.{refused}
use Rattle.core_scope.specs.Refusals.{earlier}
use Rattle.core_scope.specs.Search.{Marked, Graph, targets, turned, Search, mark_all, searched}
use Rattle.core_scope.specs.Leasts.{IsLeast}
use Rattle.core_scope.specs.Kinds.{RefersTo, IsTooSoon}
use Rattle.core_scope.specs.Soon.{soon_from, stage, soon}
use Rattle.core_scope.proofs.Searching.{In, contains_in, in_contains, inside_edge, comes_inside, fresh, mark_all_length}
use Rattle.core_scope.proofs.Leasting.{least_same}
use Rattle.core_scope.proofs.Firsts.{least_more}
use Rattle.core_scope.proofs.Stages as stages
use Rattle.core_scope.proofs.Stages.{callers, referrers, Reaches, From, Exact}

-- the calls of marked functions
abbrev soon_refusal : DeclaredCall → Refusal
soon_refusal c = refused code.XPST0008 c.offset

abbrev SoonIn : List Bool → List DeclaredCall → Refusal → Type 0
SoonIn ms cs x = (c : DeclaredCall) × In c cs × Marked ms c.function × (x ≡ soon_refusal c)

module _ (ms : List Bool) (P : Refusal → Type 0) (c : DeclaredCall) (cs : List DeclaredCall) where
  later : (x : Refusal) → SoonIn ms cs x → SoonIn ms (c ∷ cs) x
  later x p = (p.0, inr p.1, p.2, p.3)

  first_in : (x : Refusal) (d : DeclaredCall) → (c ≡ d) ⊎ In d cs → Marked ms d.function → x ≡ soon_refusal d → ((c ≡ d) × Marked ms c.function × (soon_refusal c ≡ x)) ⊎ SoonIn ms cs x
  first_in x d (inl e) m q = inl (e, subst (λ z. Marked ms z.function) (sym e) m, ap soon_refusal e ∙ sym q)
  first_in x d (inr i) m q = inr (d, i, m, q)

  to_marked : Marked ms c.function → (x : Refusal) → (P x ⊎ (soon_refusal c ≡ x)) ⊎ SoonIn ms cs x → P x ⊎ SoonIn ms (c ∷ cs) x
  to_marked m x (inl (inl p)) = inl p
  to_marked m x (inl (inr e)) = inr (c, inl refl, m, sym e)
  to_marked m x (inr s) = inr (later x s)

  from_marked : (x : Refusal) → P x ⊎ SoonIn ms (c ∷ cs) x → (P x ⊎ (soon_refusal c ≡ x)) ⊎ SoonIn ms cs x
  from_marked x (inl p) = inl (inl p)
  from_marked x (inr s) = at (first_in x s.0 s.1 s.2 s.3)
    where
      at : ((c ≡ s.0) × Marked ms c.function × (soon_refusal c ≡ x)) ⊎ SoonIn ms cs x → (P x ⊎ (soon_refusal c ≡ x)) ⊎ SoonIn ms cs x
      at (inl q) = inl (inr q.2)
      at (inr q) = inr q

  to_other : (x : Refusal) → P x ⊎ SoonIn ms cs x → P x ⊎ SoonIn ms (c ∷ cs) x
  to_other x (inl p) = inl p
  to_other x (inr s) = inr (later x s)

  from_other : get_or ms c.function false ≡ false → (x : Refusal) → P x ⊎ SoonIn ms (c ∷ cs) x → P x ⊎ SoonIn ms cs x
  from_other n x (inl p) = inl p
  from_other n x (inr s) = at (first_in x s.0 s.1 s.2 s.3)
    where
      no : Marked ms c.function → ⊥
      no m = let e : true ≡ false = sym m ∙ n in cc

      at : ((c ≡ s.0) × Marked ms c.function × (soon_refusal c ≡ x)) ⊎ SoonIn ms cs x → P x ⊎ SoonIn ms cs x
      at (inl q) = let x : ⊥ = no q.1 in elim x [ ]
      at (inr q) = inr q

soon_none : (ms : List Bool) (P : Refusal → Type 0) (x : Refusal) → P x ⊎ SoonIn ms [] x → P x
soon_none ms P x (inl p) = p
soon_none ms P x (inr s) = elim (s.1) [ ]

from_least : (ms : List Bool) (cs : List DeclaredCall) (P : Refusal → Type 0) (k : Option Refusal) → IsLeast P k → IsLeast (λ x. P x ⊎ SoonIn ms cs x) (soon_from ms k cs)
from_least ms [] P k l = least_same P (λ x. P x ⊎ SoonIn ms [] x) k (λ x p. inl p) (λ x h. soon_none ms P x h) l
from_least ms (c ∷ cs) P k l = at (get_or ms c.function false) refl (from_least ms cs)
  where
    at : (b : Bool) → get_or ms c.function false ≡ b →
        ((Q : Refusal → Type 0) (j : Option Refusal) → IsLeast Q j → IsLeast (λ x. Q x ⊎ SoonIn ms cs x) (soon_from ms j cs)) →
        IsLeast (λ x. P x ⊎ SoonIn ms (c ∷ cs) x) (soon_from ms (cond b (Some (earlier (soon_refusal c) k)) k) cs)
    at true e rest =
        least_same (λ x. (P x ⊎ (soon_refusal c ≡ x)) ⊎ SoonIn ms cs x) (λ x. P x ⊎ SoonIn ms (c ∷ cs) x) (soon_from ms (Some (earlier (soon_refusal c) k)) cs)
        (to_marked ms P c cs e) (from_marked ms P c cs)
        (rest (λ x. P x ⊎ (soon_refusal c ≡ x)) (Some (earlier (soon_refusal c) k)) (least_more P (soon_refusal c) k l))
    at false e rest =
        least_same (λ x. P x ⊎ SoonIn ms cs x) (λ x. P x ⊎ SoonIn ms (c ∷ cs) x) (soon_from ms k cs) (to_other ms P c cs) (from_other ms P c cs e) (rest P k l)

none_beyond : {A : Type 0} (xs : List (List A)) (j : ℕ) → length xs ≤ j → get_or xs j [] ≡ []
none_beyond [] j h = refl
none_beyond (x ∷ xs) zero h = let no : ⊥ = omega (arith, h) in elim no [ ]
none_beyond (x ∷ xs) (suc j) h = none_beyond xs j (omega (arith, h))

nothing_in : (c : DeclaredCall) → Contains [] c → ⊥
nothing_in c k = let h : k.0 < 0 = k.1 in omega (arith, h)

module _ (calls refers : Graph) (values : List (List DeclaredCall)) where
  abbrev variables : ℕ
  variables = length values

  abbrev before : ℕ → Refusal → Type 0
  before n = IsTooSoon calls refers values n

  to_refers : (f m : ℕ) → Reaches calls refers variables f m → RefersTo calls refers f m
  to_refers f m (inl i) = inl (in_contains (targets refers f) m i)
  to_refers f m (inr p) = inr (p.0, p.1, in_contains (targets refers p.0) m p.2)

  from_refers : (f m : ℕ) → RefersTo calls refers f m → Reaches calls refers variables f m
  from_refers f m (inl c) = inl (contains_in (targets refers f) m c.0 c.1 c.2)
  from_refers f m (inr p) = inr (p.0, p.1, within p.0 p.2)
    where
      within : (h : ℕ) → Contains (targets refers h) m → In m (targets refers h)
      within h c = contains_in (targets refers h) m c.0 c.1 c.2

  none_last : (x : Refusal) → before variables x → ⊥
  none_last x p = at p.0 p.1 p.2 p.3
    where
      at : (j : ℕ) → variables ≤ j → (c : DeclaredCall) → Contains (get_or values j []) c → ⊥
      at j h c k = nothing_in c (subst (λ z. Contains z c) (none_beyond values j h) k)

  module _ (as_many : length refers ≡ length calls) where
    inside : (f m : ℕ) → Reaches calls refers variables f m → f < length calls
    inside f m (inl i) = subst (λ z. f < z) as_many (inside_edge refers f m i)
    inside f m (inr p) = comes_inside calls f p.0 p.1

    -- the calls in the value of one variable more
    one_stage : (n : ℕ) (s : Search) (first : Option Refusal) → Exact calls refers variables n s → IsLeast (before (suc n)) first →
        IsLeast (before n) (soon_from s.marked first (get_or values n []))
    one_stage n s first exact l =
        least_same (λ x. before (suc n) x ⊎ SoonIn s.marked (get_or values n []) x) (before n) (soon_from s.marked first (get_or values n []))
        (λ x h. to x h) (λ x h. from' x h) (from_least s.marked (get_or values n []) (before (suc n)) first l)
      where
        to : (x : Refusal) → before (suc n) x ⊎ SoonIn s.marked (get_or values n []) x → before n x
        to x (inl p) = let h : suc n ≤ p.0 = p.1 in (p.0, omega (arith, h), p.2, p.3, p.4, p.5, p.6, p.7)
        to x (inr p) =
            let r : From calls refers variables n (p.0.function) = exact.sound (p.0.function) p.2 in
            (n, omega arith, p.0, in_contains (get_or values n []) p.0 p.1, r.0, r.1, to_refers (p.0.function) r.0 r.2, p.3)

        from' : (x : Refusal) → before n x → before (suc n) x ⊎ SoonIn s.marked (get_or values n []) x
        from' x p = at p.0 p.1 p.2 p.3 p.4 p.5 p.6 p.7 (nat_eq p.0 n) refl
          where
            at : (j : ℕ) → n ≤ j → (c : DeclaredCall) → Contains (get_or values j []) c → (m : ℕ) → j ≤ m → RefersTo calls refers c.function m → x ≡ soon_refusal c →
                (b : Bool) → nat_eq j n ≡ b → before (suc n) x ⊎ SoonIn s.marked (get_or values n []) x
            at j h c k m g r e true q =
                let same : j ≡ n = grind (arith, q) in
                let i : Contains (get_or values n []) c = subst (λ z. Contains (get_or values z []) c) same k in
                let reach : Reaches calls refers variables c.function m = from_refers c.function m r in
                inr (c, contains_in (get_or values n []) c i.0 i.1 i.2, exact.complete c.function (inside c.function m reach) (m, omega (arith, same, g), reach), e)
            at j h c k m g r e false q = inl (j, grind (arith, q, h), c, k, m, g, r, e)

    module _ (bounded : (f m : ℕ) → In m (targets refers f) → m < variables) where
      advanced : (n : ℕ) (s : Search) → n < variables → Exact calls refers variables (suc n) s →
          Exact calls refers variables n (stage (callers calls refers variables) (referrers calls refers variables) n s)
      advanced n s h exact =
          let next : suc n ≡ n + 1 = omega arith in
          let same : length ((mark_all (targets (referrers calls refers variables) n) s).marked) ≡ length s.marked = mark_all_length (targets (referrers calls refers variables) n) s in
          subst (λ k. Exact calls refers variables n (searched (callers calls refers variables) k (mark_all (targets (referrers calls refers variables) n) s))) (sym same)
          (stages.advances calls refers variables bounded as_many n s h (subst (λ z. Exact calls refers variables z s) next exact))

      soon_least : (n : ℕ) (s : Search) (first : Option Refusal) → n ≤ variables → Exact calls refers variables n s → IsLeast (before n) first →
          IsLeast (before 0) (soon (callers calls refers variables) (referrers calls refers variables) values n s first)
      unfolding soon
      soon_least zero s first h exact l = l
      soon_least (suc n) s first h exact l =
          let now : Exact calls refers variables n (stage (callers calls refers variables) (referrers calls refers variables) n s) = advanced n s (omega (arith, h)) exact in
          soon_least n (stage (callers calls refers variables) (referrers calls refers variables) n s)
          (soon_from ((stage (callers calls refers variables) (referrers calls refers variables) n s).marked) first (get_or values n [])) (omega (arith, h)) now
          (one_stage n (stage (callers calls refers variables) (referrers calls refers variables) n s) first now l)

      pub soon_law : IsLeast (before 0) (soon (callers calls refers variables) (referrers calls refers variables) values variables (fresh (length calls)) None)
      soon_law = soon_least variables (fresh (length calls)) None (omega arith) (stages.begins calls refers variables bounded as_many) (λ x p. none_last x p)

-- a turn of the loop, and its end
pub soon_turn : (callers' referrers' : Graph) (values : List (List DeclaredCall)) (n i : ℕ) (s : Search) (first : Option Refusal) → i < n →
    soon callers' referrers' values (n - i) s first
    ≡ soon callers' referrers' values (n - (i + 1)) (stage callers' referrers' (n - (i + 1)) s) (soon_from ((stage callers' referrers' (n - (i + 1)) s).marked) first (get_or values (n - (i + 1)) []))
unfolding soon
soon_turn callers' referrers' values n i s first h = let e : n - i ≡ suc (n - (i + 1)) = omega (arith, h) in rw e refl

pub soon_end : (callers' referrers' : Graph) (values : List (List DeclaredCall)) (n i : ℕ) (s : Search) (first : Option Refusal) → n ≤ i → soon callers' referrers' values (n - i) s first ≡ first
unfolding soon
soon_end callers' referrers' values n i s first h = let e : n - i ≡ 0 = omega (arith, h) in ap (λ m. soon callers' referrers' values m s first) e

-- the same of the steps of the code
pub as_many_mapped : {A B : Type 0} (f : A → B) (xs : List A) → length xs ≡ length (map f xs)
as_many_mapped f [] = refl
as_many_mapped f (x ∷ xs) = ap suc (as_many_mapped f xs)

pub soon_steps : (calls refers : Graph) (values : List (List DeclaredCall)) (count n m : ℕ) (a b : Graph) (o : Option Refusal) → length refers ≡ length calls →
    ((f k : ℕ) → Contains (targets refers f) k → k < count) → count ≡ length values → a ≡ turned n calls → n ≡ length calls → b ≡ turned count refers → m ≡ length calls →
    o ≡ soon a b values count (fresh m) None → IsLeast (IsTooSoon calls refers values 0) o
soon_steps calls refers values count n m a b o many bounded ce ae ne be me oe =
    subst (λ z. IsLeast (IsTooSoon calls refers values 0) z) (sym whole) (soon_law calls refers values many within)
  where
    within : (f k : ℕ) → In k (targets refers f) → k < length values
    within f k i = subst (λ z. k < z) ce (bounded f k (in_contains (targets refers f) k i))

    whole : o ≡ soon (turned (length calls) calls) (turned (length values) refers) values (length values) (fresh (length calls)) None
    whole =
        oe ∙ ap (λ z. soon z b values count (fresh m) None) (ae ∙ ap (λ z. turned z calls) ne)
        ∙ ap (λ z. soon (turned (length calls) calls) z values count (fresh m) None) (be ∙ ap (λ z. turned z refers) ce)
        ∙ ap (λ z. soon (turned (length calls) calls) (turned (length values) refers) values z (fresh m) None) ce
        ∙ ap (λ z. soon (turned (length calls) calls) (turned (length values) refers) values (length values) (fresh z) None) me
