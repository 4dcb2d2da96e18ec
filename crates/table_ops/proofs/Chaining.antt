-- Chains of places.
use Rattle.std.proofs.Common.{◌≡◌, ◌<◌, ◌≤◌, ◌+◌, ◌++◌, ◌∷◌, [], ℕ, zero, suc, Bool, true, false, cond, List, length, map, drop, set, slice_index, nat_eq, refl, sym, ap, ◌∙◌, subst, arith, true≢false, Result, Ok, Err, is_ok, is_err, if◌then◌else◌}
use Rattle.std.proofs.lemmas.Bool.Decides.{Decides-eqb}
use Rattle.std.proofs.Math.Seq.{drop-cons}
use Rattle.table_ops.specs.Chains.{places_of, Linked, LeadsOn, IsIndexFrom, IsUnlinked, AllBelow, pairs_from}
use Rattle.table_ops.proofs.Lists.{joined_to}

unfoldable pub AllAbove : ℕ → List ℕ → Type 0
AllAbove i [] = Unit {0}
AllAbove i (q ∷ qs) = (i < q) × AllAbove i qs

above_places : {X : Type 0} (test : X → Bool) (i j : ℕ) (xs : List X) → i < j → AllAbove i (places_of test j xs)
unfolding AllAbove
above_places test i j [] h = tt
above_places test i j (x ∷ xs) h = by (test x) (above_places test i (suc j) xs (omega (arith, h)))
  where
    by : (b : Bool) → AllAbove i (places_of test (suc j) xs) → AllAbove i (cond b (j ∷ places_of test (suc j) xs) (places_of test (suc j) xs))
    by true r = (h, r)
    by false r = r

len_set : (xs : List ℕ) (i v : ℕ) → length (set xs i v) ≡ length xs
len_set [] i v = refl
len_set (x ∷ xs) zero v = refl
len_set (x ∷ xs) (suc i) v = ap suc (len_set xs i v)

at_set : (xs : List ℕ) (i v : ℕ) → i < length xs → slice_index (set xs i v) i ≡ v
at_set [] i v h = absurd (omega (arith, h))
at_set (x ∷ xs) zero v h = refl
at_set (x ∷ xs) (suc i) v h = at_set xs i v (omega (arith, h))

other_set : (xs : List ℕ) (i v k : ℕ) → (i ≡ k → ⊥) → slice_index (set xs i v) k ≡ slice_index xs k
other_set [] i v k n = refl
other_set (x ∷ xs) zero v zero n = absurd (n refl)
other_set (x ∷ xs) zero v (suc k) n = refl
other_set (x ∷ xs) (suc i) v zero n = refl
other_set (x ∷ xs) (suc i) v (suc k) n = other_set xs i v k (λ e. n (ap suc e))

-- a link at a smaller place changes no chain
frame : (next : List ℕ) (i v p : ℕ) (qs : List ℕ) → AllAbove i qs → Linked next p qs → Linked (set next i v) p qs
unfolding AllAbove
frame next i v p [] a h = subst (λ n. n ≤ p) (sym (len_set next i v)) h
frame next i v p (q ∷ qs) a h = (
  h.0,
  subst (λ n. q < n) (sym (len_set next i v)) h.1,
  subst (λ z. Linked (set next i v) z qs) (sym (other_set next i v q (λ e. omega (arith, a.0, e)))) (frame next i v (slice_index next q) qs a.1 h.2),
)

-- where a chain begins
head_above : (next : List ℕ) (i p : ℕ) (qs : List ℕ) → AllAbove i qs → i < length next → Linked next p qs → i < p
unfolding AllAbove
head_above next i p [] a h l = omega (arith, h, l)
head_above next i p (q ∷ qs) a h l = omega (arith, a.0, l.0)

pub below_at : (n : ℕ) (ks : List ℕ) (i : ℕ) → AllBelow n ks → i < length ks → slice_index ks i < n
below_at n [] i a h = absurd (omega (arith, h))
below_at n (k ∷ ks) zero a h = a.0
below_at n (k ∷ ks) (suc i) a h = below_at n ks i a.1 (omega (arith, h))

-- one more place is linked
pub link_turn : (keys first next : List ℕ) (i : ℕ) → i < length keys → slice_index keys i < length first → IsIndexFrom (suc i) keys first next
    → IsIndexFrom i keys (set first (slice_index keys i) i) (set next i (slice_index first (slice_index keys i)))
link_turn keys first next i small there was = record { as_long = len_set next i start ∙ was.as_long; leads_on = leads; chains = chains }
  where
    key : ℕ
    key = slice_index keys i

    start : ℕ
    start = slice_index first key

    rest : ℕ → List ℕ
    rest k = places_of (nat_eq k) (suc i) (drop (suc i) keys)

    within : i < length next
    within = subst (λ n. i < n) (sym was.as_long) small

    lead_at : (j : ℕ) (b : Bool) → nat_eq i j ≡ b → j < length next → j < slice_index (set next i start) j
    lead_at j true e h =
        let same : i ≡ j = (Decides-eqb i j).0 e in
        subst (λ z. z < slice_index (set next i start) z) same
        (subst (λ z. i < z) (sym (at_set next i start within)) (head_above next i start (rest key) (above_places (nat_eq key) i (suc i) (drop (suc i) keys) (omega arith)) within (was.chains key there)))
    lead_at j false e h =
        subst (λ z. j < z) (sym (other_set next i start j (λ same. true≢false (sym ((Decides-eqb i j).1 same) ∙ e)))) (was.leads_on j h)

    leads : LeadsOn (set next i start)
    leads j h = lead_at j (nat_eq i j) refl (subst (λ n. j < n) (len_set next i start) h)

    kept : (k : ℕ) → k < length first → Linked (set next i start) (slice_index first k) (rest k)
    kept k h = frame next i start (slice_index first k) (rest k) (above_places (nat_eq k) i (suc i) (drop (suc i) keys) (omega arith)) (was.chains k h)

    chain_at : (k : ℕ) (b : Bool) → nat_eq k key ≡ b → k < length first → Linked (set next i start) (slice_index (set first key i) k) (cond b (i ∷ rest k) (rest k))
    chain_at k true e h =
        let same : k ≡ key = (Decides-eqb k key).0 e in
        let begins : slice_index (set first key i) k ≡ i = ap (slice_index (set first key i)) same ∙ at_set first key i there in (
          begins,
          subst (λ n. i < n) (sym (len_set next i start)) within,
          subst (λ z. Linked (set next i start) z (rest k)) (ap (slice_index first) same ∙ sym (at_set next i start within)) (kept k h),
        )
    chain_at k false e h =
        subst (λ z. Linked (set next i start) z (rest k)) (sym (other_set first key i k (λ same. true≢false (sym ((Decides-eqb k key).1 (sym same)) ∙ e)))) (kept k h)

    chains : (k : ℕ) → k < length (set first key i) → Linked (set next i start) (slice_index (set first key i) k) (places_of (nat_eq k) i (drop i keys))
    chains k h =
        subst (λ z. Linked (set next i start) (slice_index (set first key i) k) (places_of (nat_eq k) i z)) (sym (drop-cons keys i 0 small))
        (chain_at k (nat_eq k key) refl (subst (λ n. k < n) (len_set first key i) h))

pub link_none : (keys first next : List ℕ) → IsUnlinked keys first next → IsIndexFrom (length keys) keys first next
link_none keys first next u = record { as_long = u.as_long; leads_on = u.leads_on; chains = λ k h. subst (λ z. Linked next (slice_index first k) (places_of (nat_eq k) (length keys) z)) (sym (all_dropped keys)) (u.ends k h) }
  where
    all_dropped : (xs : List ℕ) → drop (length xs) xs ≡ []
    all_dropped [] = refl
    all_dropped (x ∷ xs) = all_dropped xs

-- a chain is one list
pub linked_once : (next : List ℕ) (p : ℕ) (qs rs : List ℕ) → Linked next p qs → Linked next p rs → qs ≡ rs
linked_once next p [] [] h k = refl
linked_once next p [] (r ∷ rs) h k = absurd (omega (arith, h, k.0, k.1))
linked_once next p (q ∷ qs) [] h k = absurd (omega (arith, h.0, h.1, k))
linked_once next p (q ∷ qs) (r ∷ rs) h k =
    let e : q ≡ r = sym h.0 ∙ k.0 in
    λ i. e i ∷ linked_once next (slice_index next q) qs rs h.2 (subst (λ z. Linked next (slice_index next z) rs) (sym e) k.2) i

-- one more left place
pub pairs_turn : (l : ℕ) (ks rs : List ℕ) (out new all : List (ℕ × ℕ)) → l < length ks
    → new ≡ out ++ map (λ r. (l, r)) (places_of (nat_eq (slice_index ks l)) 0 rs) → out ++ pairs_from l (drop l ks) rs ≡ all → new ++ pairs_from (l + 1) (drop (l + 1) ks) rs ≡ all
pairs_turn l ks rs out new all h e was =
    let one : l + 1 ≡ suc l = omega arith in
    let M : List (ℕ × ℕ) = map (λ r. (l, r)) (places_of (nat_eq (slice_index ks l)) 0 rs) in
    ap (λ z. z ++ pairs_from (l + 1) (drop (l + 1) ks) rs) e
    ∙ ap (λ n. (out ++ M) ++ pairs_from n (drop n ks) rs) one
    ∙ joined_to out M (pairs_from (suc l) (drop (suc l) ks) rs)
    ∙ ap (λ z. out ++ pairs_from l z rs) (sym (drop-cons ks l 0 h))
    ∙ was

-- what a push that wasn't refused leaves
pub after_push : {A E X : Type 0} (r : Result A E) (xs ys zs : List X) → false ≡ is_err r → xs ≡ (if is_ok r then ys else zs) → xs ≡ ys
after_push (Ok x) xs ys zs h e = e
after_push (Err x) xs ys zs h e = absurd (true≢false (sym h))
