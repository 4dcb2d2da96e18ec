-- Places and parts of the rows that were read.
use Rattle.std.proofs.Common.{inl, inr, ◌⊎◌, ◌≡◌, ℕ, zero, suc, ◌+◌, ◌-◌, ◌<◌, ◌≤◌, List, [], ◌∷◌, length, take, drop, refl, sym, ap, ◌∙◌, subst, arith, length-drop}
use Rattle.std.specs.Prelude.{slice_index_or}
use Rattle.std.proofs.lemmas.Bool.{cases_lt, cases_order}
use Rattle.std.proofs.lemmas.List.{get_or-drop, get_or-take, length-take-le}
use Rattle.staircase.specs.Parts.{In, IsRising, Splits, Between}
use Rattle.staircase.specs.declared.seen.Seen.{Seen}

pub same-at : {X : Type 0} (xs : List X) (k : ℕ) (d e : X) → k < length xs → slice_index_or xs k d ≡ slice_index_or xs k e
same-at [] k d e l = absurd (omega arith)
same-at (x ∷ xs) zero d e l = refl
same-at (x ∷ xs) (suc k) d e l = same-at xs k d e (omega arith)

pub in-at : {X : Type 0} (xs : List X) (k : ℕ) (d : X) → k < length xs → In (slice_index_or xs k d) xs
in-at [] k d l = absurd (omega arith)
in-at (x ∷ xs) zero d l = inl refl
in-at (x ∷ xs) (suc k) d l = inr (in-at xs k d (omega arith))

pub place-in : {X : Type 0} (x : X) (xs : List X) → In x xs → (k : ℕ) × (k < length xs) × (slice_index_or xs k x ≡ x)
place-in x [] h = absurd h
place-in x (y ∷ ys) h = elim h [
  | inl e ↦ (0, omega arith, sym e)
  | inr r ↦ (let k = place-in x ys r in (suc k.0, omega (arith, k.1), k.2))
]

-- a row in the middle that is before row `pre`
pub split-up : (seen : List Seen) (pre low high mid : ℕ) (d : Seen) → IsRising seen → Splits seen pre low high → mid < length seen → (slice_index_or seen mid d).pre < pre → Splits seen pre (mid + 1) high
split-up seen pre low high mid d r s l m = record { below = λ k e h. here k e h (cases_order k mid); above = s.above }
  where
    here : (k : ℕ) (e : Seen) → k < mid + 1 → (k ≡ mid) ⊎ ((k < mid) ⊎ (mid < k)) → (slice_index_or seen k e).pre < pre
    here k e h (inl q) = (let same : (slice_index_or seen k e).pre ≡ (slice_index_or seen mid d).pre = ap (λ z. (slice_index_or seen z e).pre) q ∙ ap (λ (z : Seen). z.pre) (same-at seen mid e d l) in omega arith)
    here k e h (inr (inl q)) = (let less = r k mid e q l in let same : (slice_index_or seen mid e).pre ≡ (slice_index_or seen mid d).pre = ap (λ (z : Seen). z.pre) (same-at seen mid e d l) in omega arith)
    here k e h (inr (inr q)) = absurd (omega arith)

pub split-down : (seen : List Seen) (pre low high mid : ℕ) (d : Seen) → IsRising seen → Splits seen pre low high → mid < length seen → pre ≤ (slice_index_or seen mid d).pre → Splits seen pre low mid
split-down seen pre low high mid d r s l m = record { below = s.below; above = λ k e h j. here k e h j (cases_lt mid k) }
  where
    here : (k : ℕ) (e : Seen) → mid ≤ k → k < length seen → (mid < k) ⊎ (k ≤ mid) → pre ≤ (slice_index_or seen k e).pre
    here k e h j (inl q) = (let less = r mid k e q j in let same : (slice_index_or seen mid e).pre ≡ (slice_index_or seen mid d).pre = ap (λ (z : Seen). z.pre) (same-at seen mid e d l) in omega arith)
    here k e h j (inr q) = (let same : (slice_index_or seen k e).pre ≡ (slice_index_or seen mid d).pre = ap (λ z. (slice_index_or seen z e).pre) (let o : k ≡ mid = omega arith in o) ∙ ap (λ (z : Seen). z.pre) (same-at seen mid e d l) in omega arith)

-- the rows between two places
pub between-places : (seen : List Seen) (first end from to : ℕ) → IsRising seen → from ≤ to → to ≤ length seen → Splits seen first from from → Splits seen end to to → Between seen first end (take (to - from) (drop from seen))
between-places seen first end from to r o l a b = record { within = within; all = all }
  where
    part : List Seen
    part = take (to - from) (drop from seen)

    long : length part ≡ to - from
    long = length-take-le (to - from) (drop from seen) (omega (arith, length-drop from seen))

    at-part : (k : ℕ) (d : Seen) → k < to - from → slice_index_or part k d ≡ slice_index_or seen (from + k) d
    at-part k d h = get_or-take (to - from) (drop from seen) k d h ∙ get_or-drop from seen k d

    within : (s : Seen) → In s part → In s seen × (first ≤ s.pre) × (s.pre < end)
    within s h =
        let p = place-in s part h in
        let h1 : p.0 < to - from = omega (arith, p.1, long) in
        let same : slice_index_or seen (from + p.0) s ≡ s = sym (at-part p.0 s h1) ∙ p.2 in
        let pre : (slice_index_or seen (from + p.0) s).pre ≡ s.pre = ap (λ (z : Seen). z.pre) same in
        let lo = a.above (from + p.0) s (omega arith) (omega arith) in
        let hi = b.below (from + p.0) s (omega arith) in
        (subst (λ (z : Seen). In z seen) same (in-at seen (from + p.0) s (omega arith)), omega arith, omega arith)

    all : (s : Seen) → In s seen → first ≤ s.pre → s.pre < end → In s part
    all s h f e =
        let p = place-in s seen h in
        let pre : (slice_index_or seen p.0 s).pre ≡ s.pre = ap (λ (z : Seen). z.pre) p.2 in
        let lo : from ≤ p.0 = low p.0 p.1 p.2 (cases_lt p.0 from) in
        let hi : p.0 < to = high p.0 p.1 p.2 (cases_lt p.0 to) in
        let k : p.0 - from < to - from = omega arith in
        let back : from + (p.0 - from) ≡ p.0 = omega arith in
        let same : slice_index_or part (p.0 - from) s ≡ s = at-part (p.0 - from) s k ∙ ap (λ z. slice_index_or seen z s) back ∙ p.2 in
        subst (λ (z : Seen). In z part) same (in-at part (p.0 - from) s (omega (arith, long)))
      where
        low : (k : ℕ) → k < length seen → slice_index_or seen k s ≡ s → (k < from) ⊎ (from ≤ k) → from ≤ k
        low k l q (inl x) = (let y = a.below k s x in let z : (slice_index_or seen k s).pre ≡ s.pre = ap (λ (z : Seen). z.pre) q in absurd (omega arith))
        low k l q (inr x) = x

        high : (k : ℕ) → k < length seen → slice_index_or seen k s ≡ s → (k < to) ⊎ (to ≤ k) → k < to
        high k l q (inl x) = x
        high k l q (inr x) = (let y = b.above k s x l in let z : (slice_index_or seen k s).pre ≡ s.pre = ap (λ (z : Seen). z.pre) q in absurd (omega arith))

-- no rows where the places meet
pub between-none : (seen : List Seen) (first end from to : ℕ) → to ≤ from → Splits seen first from from → Splits seen end to to → Between seen first end []
between-none seen first end from to o a b = record { within = λ s h. absurd h; all = all }
  where
    all : (s : Seen) → In s seen → first ≤ s.pre → s.pre < end → In s []
    all s h f e =
        let p = place-in s seen h in
        let pre : (slice_index_or seen p.0 s).pre ≡ s.pre = ap (λ (z : Seen). z.pre) p.2 in
        none p.0 p.1 pre (cases_lt p.0 from)
      where
        none : (k : ℕ) → k < length seen → (slice_index_or seen k s).pre ≡ s.pre → (k < from) ⊎ (from ≤ k) → ⊥
        none k l q (inl x) = (let y = a.below k s x in omega arith)
        none k l q (inr x) = (let y = b.above k s (omega arith) l in omega arith)
