-- Hits come out ascending, each once.
use Rattle.std.proofs.Common.{inl, inr, ◌⊎◌, ◌≡◌, ℕ, suc, ◌+◌, ◌<◌, ◌≤◌, Bool, true, false, ◌&&◌, ◌||◌, cond, List, [], ◌∷◌, ◌++◌, length, drop, refl, sym, ap, ◌∙◌, subst, arith, Option, Some, None, IsPermutation}
use Rattle.std.specs.Prelude.{nat_eq, nat_lt, slice_index_or}
use Rattle.std.proofs.lemmas.Bool.{eq-eqb, ne_eqb, eqb-true, le-ltb, lt-ltb, and_parts, false≢true, cases_order}
use Rattle.std.proofs.lemmas.Bool.Decides.{nat_tests}
use Rattle.std.proofs.lemmas.List.{append-nil, drop_all}
use Rattle.std.specs.Cmp.{nat_cmp_is}
use Rattle.std.specs.Ordering.{is_lt, nat_cmp, ordering_then}
use Rattle.std.specs.declared.cmp.Ordering.{Ordering}
use Rattle.std.specs.declared.cmp.Ordering.TheVariants.{Less, Equal, Greater}
use Rattle.std.proofs.lemmas.List.Sorted.{Contains-permutation, IsPermutation-sym}
use Rattle.staircase.specs.Parts.{In}
use Rattle.staircase.proofs.Elements.{in-right, in-contains, contains-in}
use Rattle.staircase.specs.declared.kinds.Ctx.{Ctx}
use Rattle.staircase.specs.declared.hits.Hit.{Hit}
use Rattle.staircase.specs.Hits.{before, all_after, Ascending, ctx_of, same_hit, is_last, spread, AppendsHits}

-- ---- which hits come out

same-is : (h k : Hit) → same_hit h k ≡ true → h ≡ k
same-is h k e =
    let a = and_parts (nat_eq h.pre k.pre) (nat_eq h.attr k.attr && nat_eq h.iter k.iter) e in
    let b = and_parts (nat_eq h.attr k.attr) (nat_eq h.iter k.iter) a.1 in
    let p : h.pre ≡ k.pre = eqb-true h.pre k.pre a.0 in
    let q : h.attr ≡ k.attr = eqb-true h.attr k.attr b.0 in
    let r : h.iter ≡ k.iter = eqb-true h.iter k.iter b.1 in
    ap (λ z. record { pre = z; attr = h.attr; iter = h.iter }) p ∙ ap (λ z. record { pre = k.pre; attr = z; iter = h.iter }) q ∙ ap (λ z. record { pre = k.pre; attr = k.attr; iter = z }) r

all-out : (last : Option Hit) (hs : List Hit) (h : Hit) → In h hs → (last ≡ Some h) ⊎ In (ctx_of h) (spread last hs)
all-out last [] h k = absurd k
all-out last (x ∷ hs) h k = elim k [
  | inl e ↦ here last (is_last last x) refl e
  | inr r ↦ elim (all-out (Some x) hs h r) [
    | inl e ↦ (let q : h ≡ x = cc in here last (is_last last x) refl q)
    | inr o ↦ inr (in-right (ctx_of h) (cond (is_last last x) [] (ctx_of x ∷ [])) (spread (Some x) hs) o)
  ]
]
  where
    here : (last : Option Hit) (b : Bool) → is_last last x ≡ b → h ≡ x → (last ≡ Some h) ⊎ In (ctx_of h) (cond b [] (ctx_of x ∷ []) ++ spread (Some x) hs)
    here last false t e = inr (inl (ap ctx_of e))
    here None true t e = absurd (false≢true t)
    here (Some y) true t e = inl (ap (λ z. Some z) (same-is y x t ∙ sym e))

from-hits : (last : Option Hit) (hs : List Hit) (c : Ctx) → In c (spread last hs) → (h : Hit) × In h hs × (ctx_of h ≡ c)
from-hits last [] c k = absurd k
from-hits last (x ∷ hs) c k = here (is_last last x) k (λ i. from-hits (Some x) hs c i)
  where
    here : (b : Bool) → In c (cond b [] (ctx_of x ∷ []) ++ spread (Some x) hs) → (In c (spread (Some x) hs) → (h : Hit) × In h hs × (ctx_of h ≡ c)) → (h : Hit) × In h (x ∷ hs) × (ctx_of h ≡ c)
    here true k f = (let r = f k in (r.0, inr r.1, r.2))
    here false k f = elim k [ inl e ↦ (x, inl refl, sym e) | inr k ↦ (let r = f k in (r.0, inr r.1, r.2)) ]

-- ---- in which order

abbrev pub UpTo : Hit → List Hit → Type 0
UpTo x [] = Unit {0}
UpTo x (y ∷ ys) = (before (ctx_of y) (ctx_of x) ≡ false) × UpTo y ys

before-trans : (c d e : Ctx) → before c d ≡ true → before d e ≡ true → before c e ≡ true
before-trans c d e p q = grind (arith, nat_tests)

before-other : (x y : Hit) → before (ctx_of y) (ctx_of x) ≡ false → same_hit x y ≡ false → before (ctx_of x) (ctx_of y) ≡ true
before-other x y p q = grind (arith, nat_tests)

all-trans : (c d : Ctx) (ds : List Ctx) → before c d ≡ true → all_after d ds → all_after c ds
all-trans c d [] p h = tt
all-trans c d (e ∷ ds) p h = (before-trans c d e p h.0, all-trans c d ds p h.1)

after-last : (x : Hit) (hs : List Hit) → UpTo x hs → all_after (ctx_of x) (spread (Some x) hs) × Ascending (spread (Some x) hs)
after-last x [] u = (tt, tt)
after-last x (y ∷ hs) u = here (same_hit x y) refl (after-last y hs u.1)
  where
    here : (b : Bool) → same_hit x y ≡ b → all_after (ctx_of y) (spread (Some y) hs) × Ascending (spread (Some y) hs) → all_after (ctx_of x) (cond b [] (ctx_of y ∷ []) ++ spread (Some y) hs) × Ascending (cond b [] (ctx_of y ∷ []) ++ spread (Some y) hs)
    here true e r = (subst (λ (z : Hit). all_after (ctx_of z) (spread (Some y) hs)) (sym (same-is x y e)) r.0, r.1)
    here false e r =
        let b : before (ctx_of x) (ctx_of y) ≡ true = before-other x y u.0 e in
        ((b, all-trans (ctx_of x) (ctx_of y) (spread (Some y) hs) b r.0), r)

abbrev pub Rises : List Hit → Type 0
Rises [] = Unit {0}
Rises (x ∷ hs) = UpTo x hs

ascends : (hs : List Hit) → Rises hs → Ascending (spread None hs)
ascends [] u = tt
ascends (x ∷ hs) u = after-last x hs u

-- from a list in order, by places
rises-from : (x : Hit) (hs : List Hit) → ((k : ℕ) (d : Hit) → k + 1 < length (x ∷ hs) → before (ctx_of (slice_index_or (x ∷ hs) (k + 1) d)) (ctx_of (slice_index_or (x ∷ hs) k d)) ≡ false) → UpTo x hs
rises-from x [] f = tt
rises-from x (y ∷ ys) f = (f 0 x (omega arith), rises-from y ys (λ k d l. next k d (omega arith)))
  where
    next : (k : ℕ) (d : Hit) → suc k + 1 < length (x ∷ y ∷ ys) → before (ctx_of (slice_index_or (y ∷ ys) (k + 1) d)) (ctx_of (slice_index_or (y ∷ ys) k d)) ≡ false
    next k d l =
        let e : suc k + 1 ≡ suc (k + 1) = omega arith in
        let P : ℕ → Type 0 = λ z. before (ctx_of (slice_index_or (x ∷ y ∷ ys) z d)) (ctx_of (slice_index_or (x ∷ y ∷ ys) (suc k) d)) ≡ false in
        subst P e (f (suc k) d l)

pub rises : (hs : List Hit) → ((k : ℕ) (d : Hit) → k + 1 < length hs → before (ctx_of (slice_index_or hs (k + 1) d)) (ctx_of (slice_index_or hs k d)) ≡ false) → Rises hs
rises [] f = tt
rises (x ∷ hs) f = rises-from x hs f

pub spread-appends : (hits sorted : List Hit) (old new : List Ctx) → IsPermutation hits sorted → Rises sorted → new ≡ old ++ spread None sorted → AppendsHits hits old new
spread-appends hits sorted old new p u e = record {
  more = spread None sorted;
  appended = e;
  ascending = ascends sorted u;
  sound = λ c k. (let r = from-hits None sorted c (contains-in c (spread None sorted) k) in (r.0, Contains-permutation sorted hits r.0 (IsPermutation-sym hits sorted p) (in-contains r.0 sorted r.1), r.2));
  complete = λ h k. in-contains (ctx_of h) (spread None sorted) (elim (all-out None sorted h (contains-in h sorted (Contains-permutation hits sorted h p k))) [ inl e ↦ absurd (cc) | inr r ↦ r ]);
}

lt-is : (a b : ℕ) → is_lt (nat_cmp a b) ≡ nat_lt a b
lt-is a b = elim (cases_order a b) [
  | inl e ↦ rw (sym (nat_cmp_is a b Equal e), le-ltb a b (omega arith)) refl
  | inr o ↦ elim o [
    | inl l ↦ rw (sym (nat_cmp_is a b Less l), lt-ltb a b l) refl
    | inr g ↦ rw (sym (nat_cmp_is a b Greater g), le-ltb a b (omega arith)) refl
  ]
]

then-is : (a b : ℕ) (o : Ordering) (r : Bool) → is_lt o ≡ r → is_lt (ordering_then (nat_cmp a b) o) ≡ (nat_lt a b || (nat_eq a b && r))
then-is a b o r f = elim (cases_order a b) [
  | inl e ↦ rw (sym (nat_cmp_is a b Equal e), le-ltb a b (omega arith), eq-eqb a b e) f
  | inr q ↦ elim q [
    | inl l ↦ rw (sym (nat_cmp_is a b Less l), lt-ltb a b l) refl
    | inr g ↦ rw (sym (nat_cmp_is a b Greater g), le-ltb a b (omega arith), ne_eqb a b (λ e. omega arith)) refl
  ]
]

pub order-is : (h k : Hit) → is_lt (ordering_then (nat_cmp h.pre k.pre) (ordering_then (nat_cmp h.attr k.attr) (nat_cmp h.iter k.iter))) ≡ before (ctx_of h) (ctx_of k)
order-is h k = then-is h.pre k.pre _ _ (then-is h.attr k.attr _ _ (lt-is h.iter k.iter))

-- at the end of the hits all came out
pub spread-end : (out old : List Ctx) (last : Option Hit) (k : ℕ) (items sorted : List Hit) → out ++ spread last (drop k items) ≡ old ++ spread None items → length items ≤ k → items ≡ sorted → out ≡ old ++ spread None sorted
spread-end out old last k items sorted e l f =
    let none : drop k items ≡ [] = drop_all k items l in
    sym (append-nil out) ∙ ap (λ z. out ++ spread last z) (sym none) ∙ e ∙ ap (λ z. old ++ spread None z) f
