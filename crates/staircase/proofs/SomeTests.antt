-- Tests of whether some row or some node passes.
use Rattle.std.proofs.Common.{inl, inr, ◌⊎◌, ◌≡◌, ℕ, zero, suc, ◌<◌, ◌≤◌, Bool, true, false, not, ◌&&◌, ◌||◌, cond, List, [], ◌∷◌, ◌++◌, refl, sym, ap, ◌∙◌, subst, arith, Option, Some, None}
use Rattle.std.specs.Prelude.{nat_eq, nat_lt}
use Rattle.std.proofs.lemmas.Bool.{eq-eqb, eqb-true, eqb-false, ltb-true, cases_lt, and_parts, and_from, or_left, or_right, or_cases, false≢true, true≢false}
use Rattle.doc_table.specs.Places.{Place}
use Rattle.doc_table.specs.Touched.{picked, some_below, some_place}
use Rattle.staircase.specs.declared.kinds.Ctx.{Ctx}
use Rattle.staircase.specs.Ahead.{has, any, UpFrom}
use Rattle.staircase.specs.Hits.{Ascending, all_after}
use Rattle.staircase.specs.Joins.{place_of, places, is_wanted, is_after, rows_from}
use Rattle.staircase.specs.Parts.{In}
use Rattle.staircase.proofs.Elements.{in-left, in-right, in-parts}

pub both_ways : (a b : Bool) → (a ≡ true → b ≡ true) → (b ≡ true → a ≡ true) → a ≡ b
both_ways true b f g = sym (f refl)
both_ways false true f g = g refl
both_ways false false f g = refl

pub not_true : (a : Bool) → (a ≡ true → ⊥) → a ≡ false
not_true true f = absurd (f refl)
not_true false f = refl

pub has-in : (v : ℕ) (xs : List ℕ) → In v xs → has v xs ≡ true
has-in v [] h = absurd h
has-in v (x ∷ xs) h = elim h [
  | inl e ↦ or_left (nat_eq x v) (has v xs) (eq-eqb x v (sym e))
  | inr r ↦ or_right (nat_eq x v) (has v xs) (has-in v xs r)
]

pub in-has : (v : ℕ) (xs : List ℕ) → has v xs ≡ true → In v xs
in-has v [] h = absurd (false≢true h)
in-has v (x ∷ xs) h = elim (or_cases (nat_eq x v) (has v xs) h) [ inl e ↦ inl (sym (eqb-true x v e)) | inr r ↦ inr (in-has v xs r) ]

pub any-in : (p : ℕ → Bool) (x : ℕ) (xs : List ℕ) → In x xs → p x ≡ true → any p xs ≡ true
any-in p x [] h e = absurd h
any-in p x (y ∷ ys) h e = elim h [
  | inl q ↦ or_left (p y) (any p ys) (ap p (sym q) ∙ e)
  | inr r ↦ or_right (p y) (any p ys) (any-in p x ys r e)
]

pub in-any : (p : ℕ → Bool) (xs : List ℕ) → any p xs ≡ true → (x : ℕ) × In x xs × (p x ≡ true)
in-any p [] h = absurd (false≢true h)
in-any p (y ∷ ys) h = elim (or_cases (p y) (any p ys) h) [ inl e ↦ (y, inl refl, e) | inr r ↦ (let k = in-any p ys r in (k.0, inr k.1, k.2)) ]

pub place-in_some : (p : Place → Bool) (c : Ctx) (cs : List Ctx) → In c cs → p (place_of c) ≡ true → some_place p (places cs) ≡ true
place-in_some p c [] h e = absurd h
place-in_some p c (d ∷ ds) h e = elim h [
  | inl q ↦ or_left (p (place_of d)) (some_place p (places ds)) (ap (λ z. p (place_of z)) (sym q) ∙ e)
  | inr r ↦ or_right (p (place_of d)) (some_place p (places ds)) (place-in_some p c ds r e)
]

pub some-place_in : (p : Place → Bool) (cs : List Ctx) → some_place p (places cs) ≡ true → (c : Ctx) × In c cs × (p (place_of c) ≡ true)
some-place_in p [] h = absurd (false≢true h)
some-place_in p (d ∷ ds) h = elim (or_cases (p (place_of d)) (some_place p (places ds)) h) [ inl e ↦ (d, inl refl, e) | inr r ↦ (let k = some-place_in p ds r in (k.0, inr k.1, k.2)) ]

pub below-some : (p : ℕ → Bool) (n k : ℕ) → k < n → p k ≡ true → some_below p n ≡ true
below-some p zero k l e = absurd (omega arith)
below-some p (suc n) k l e = elim (cases_lt k n) [
  | inl m ↦ or_left (some_below p n) (p n) (below-some p n k m e)
  | inr g ↦ (let q : k ≡ n = omega arith in or_right (some_below p n) (p n) (ap p (sym q) ∙ e))
]

pub some-below : (p : ℕ → Bool) (n : ℕ) → some_below p n ≡ true → (k : ℕ) × (k < n) × (p k ≡ true)
some-below p zero h = absurd (false≢true h)
some-below p (suc n) h = elim (or_cases (some_below p n) (p n) h) [ inl a ↦ (let r = some-below p n a in (r.0, omega (arith, r.1), r.2)) | inr b ↦ (n, omega arith, b) ]

pub in-picked : (p : ℕ → Bool) (n v : ℕ) → v < n → p v ≡ true → In v (picked p n)
in-picked p zero v l e = absurd (omega arith)
in-picked p (suc n) v l e = elim (cases_lt v n) [
  | inl m ↦ in-left v (picked p n) (cond (p n) (n ∷ []) []) (in-picked p n v m e)
  | inr g ↦ (let q : v ≡ n = omega arith in in-right v (picked p n) (cond (p n) (n ∷ []) []) (subst (λ z. In z (cond (p n) (n ∷ []) [])) (sym q) (rw (ap p (sym q) ∙ e) (inl refl))))
]

pub picked-in : (p : ℕ → Bool) (n v : ℕ) → In v (picked p n) → (v < n) × (p v ≡ true)
picked-in p zero v h = absurd h
picked-in p (suc n) v h = elim (in-parts v (picked p n) (cond (p n) (n ∷ []) []) h) [
  | inl a ↦ (let r = picked-in p n v a in (omega (arith, r.0), r.1))
  | inr b ↦ here (p n) refl b
]
  where
    here : (b : Bool) → p n ≡ b → In v (cond b (n ∷ []) []) → (v < suc n) × (p v ≡ true)
    here true e i = elim i [ inl q ↦ (omega arith, ap p q ∙ e) | inr x ↦ absurd x ]
    here false e i = absurd i

-- ---- rows of a context

-- some wanted node of the context is on row v
pub rows-sound : (rows owners : Bool) (last : Option ℕ) (cs : List Ctx) (v : ℕ) → In v (rows_from rows owners last cs) → (c : Ctx) × In c cs × (c.pre ≡ v) × (is_wanted rows owners c ≡ true)
rows-sound rows owners last [] v h = absurd h
rows-sound rows owners last (c ∷ cs) v h = here (is_wanted rows owners c) refl (is_after last c.pre) (in-parts v (cond (is_wanted rows owners c && is_after last c.pre) (c.pre ∷ []) []) (rows_from rows owners (cond (is_wanted rows owners c) (Some c.pre) last) cs) h) (λ i. rows-sound rows owners (cond (is_wanted rows owners c) (Some c.pre) last) cs v i)
  where
    here : (b : Bool) → is_wanted rows owners c ≡ b → (d : Bool) → In v (cond (b && d) (c.pre ∷ []) []) ⊎ In v (rows_from rows owners (cond (is_wanted rows owners c) (Some c.pre) last) cs) → (In v (rows_from rows owners (cond (is_wanted rows owners c) (Some c.pre) last) cs) → (e : Ctx) × In e cs × (e.pre ≡ v) × (is_wanted rows owners e ≡ true)) → (e : Ctx) × In e (c ∷ cs) × (e.pre ≡ v) × (is_wanted rows owners e ≡ true)
    here b e d (inr r) f = (let x = f r in (x.0, inr x.1, x.2, x.3))
    here true e true (inl a) f = elim a [ inl q ↦ (c, inl refl, sym q, e) | inr x ↦ absurd x ]
    here true e false (inl a) f = absurd a
    here false e d (inl a) f = absurd a

pub rows-complete : (rows owners : Bool) (last : Option ℕ) (cs : List Ctx) (c : Ctx) → In c cs → is_wanted rows owners c ≡ true → (last ≡ Some c.pre) ⊎ In c.pre (rows_from rows owners last cs)
rows-complete rows owners last [] c h e = absurd h
rows-complete rows owners last (d ∷ cs) c h e = elim h [
  | inl q ↦ here q (is_after last d.pre) refl
  | inr r ↦ later (is_wanted rows owners d) refl (rows-complete rows owners (cond (is_wanted rows owners d) (Some d.pre) last) cs c r e)
]
  where
    front : List ℕ
    front = cond (is_wanted rows owners d && is_after last d.pre) (d.pre ∷ []) []

    back : List ℕ
    back = rows_from rows owners (cond (is_wanted rows owners d) (Some d.pre) last) cs

    after-false : (l : Option ℕ) (x : ℕ) → is_after l x ≡ false → l ≡ Some x
    after-false None x f = absurd (true≢false f)
    after-false (Some y) x f = at (nat_eq y x) refl f
      where
        at : (b : Bool) → nat_eq y x ≡ b → not b ≡ false → Some y ≡ Some x
        at true g f = ap (λ z. Some z) (eqb-true y x g)
        at false g f = absurd (true≢false f)

    here : c ≡ d → (b : Bool) → is_after last d.pre ≡ b → (last ≡ Some c.pre) ⊎ In c.pre (front ++ back)
    here q true f =
        let wd : is_wanted rows owners d ≡ true = ap (is_wanted rows owners) (sym q) ∙ e in
        inr (in-left c.pre front back (rw (wd, f) (inl (ap (λ (z : Ctx). z.pre) q))))
    here q false f = inl (after-false last d.pre f ∙ ap (λ (z : Ctx). Some z.pre) (sym q))

    pushed : is_wanted rows owners d ≡ true → c.pre ≡ d.pre → (b : Bool) → is_after last d.pre ≡ b → (last ≡ Some c.pre) ⊎ In c.pre (front ++ back)
    pushed w q true f = inr (in-left c.pre front back (rw (w, f) (inl q)))
    pushed w q false f = inl (after-false last d.pre f ∙ ap (λ z. Some z) (sym q))

    later : (b : Bool) → is_wanted rows owners d ≡ b → (cond (is_wanted rows owners d) (Some d.pre) last ≡ Some c.pre) ⊎ In c.pre back → (last ≡ Some c.pre) ⊎ In c.pre (front ++ back)
    later b w (inr r) = inr (in-right c.pre front back r)
    later true w (inl l) =
        let s : Some d.pre ≡ Some c.pre = sym (ap (λ z. cond z (Some d.pre) last) w) ∙ l in
        let q : c.pre ≡ d.pre = cc in
        pushed w q (is_after last d.pre) refl
    later false w (inl l) = inl (sym (ap (λ z. cond z (Some d.pre) last) w) ∙ l)

pub rows-has : (rows owners : Bool) (cs : List Ctx) (v : ℕ) → has v (rows_from rows owners None cs) ≡ some_place (λ p. nat_eq p.pre v && cond (nat_eq p.attr 0) rows owners) (places cs)
rows-has rows owners cs v = both_ways (has v (rows_from rows owners None cs)) (some_place (λ p. nat_eq p.pre v && cond (nat_eq p.attr 0) rows owners) (places cs))
    (λ h. let r = rows-sound rows owners None cs v (in-has v (rows_from rows owners None cs) h) in
    place-in_some (λ p. nat_eq p.pre v && cond (nat_eq p.attr 0) rows owners) r.0 cs r.1 (and_from (nat_eq r.0.pre v) (is_wanted rows owners r.0) (eq-eqb r.0.pre v r.2) r.3))
    (λ h. let r = some-place_in (λ p. nat_eq p.pre v && cond (nat_eq p.attr 0) rows owners) cs h in
    let b = and_parts (nat_eq r.0.pre v) (is_wanted rows owners r.0) r.2 in
    let q : r.0.pre ≡ v = eqb-true r.0.pre v b.0 in
    elim (rows-complete rows owners None cs r.0 r.1 b.1) [ inl e ↦ absurd (no e) | inr i ↦ has-in v (rows_from rows owners None cs) (subst (λ z. In z (rows_from rows owners None cs)) q i) ])
  where
    no : {x : ℕ} → None ≡ Some x → ⊥
    no e = cc

-- they ascend
abbrev From : ℕ → List Ctx → Type 0
From a [] = Unit {0}
From a (c ∷ cs) = (a ≤ c.pre) × From a cs

from-after : (c : Ctx) (cs : List Ctx) → all_after c cs → From c.pre cs
from-after c [] h = tt
from-after c (d ∷ cs) h = (least (or_cases (nat_lt c.pre d.pre) (nat_eq c.pre d.pre && (nat_lt c.attr d.attr || (nat_eq c.attr d.attr && nat_lt c.iter d.iter))) h.0), from-after c cs h.1)
  where
    least : (nat_lt c.pre d.pre ≡ true) ⊎ ((nat_eq c.pre d.pre && (nat_lt c.attr d.attr || (nat_eq c.attr d.attr && nat_lt c.iter d.iter))) ≡ true) → c.pre ≤ d.pre
    least (inl a) = omega (arith, ltb-true c.pre d.pre a)
    least (inr b) = omega (arith, eqb-true c.pre d.pre (and_parts (nat_eq c.pre d.pre) (nat_lt c.attr d.attr || (nat_eq c.attr d.attr && nat_lt c.iter d.iter)) b).0)

abbrev Beyond : Option ℕ → ℕ
Beyond None = 0
Beyond (Some x) = suc x

abbrev At : Option ℕ → ℕ
At None = 0
At (Some x) = x

beyond-new : (last : Option ℕ) (x : ℕ) → At last ≤ x → is_after last x ≡ true → Beyond last ≤ x
beyond-new None x l e = omega arith
beyond-new (Some y) x l e = at (nat_eq y x) refl e
  where
    at : (b : Bool) → nat_eq y x ≡ b → not b ≡ true → suc y ≤ x
    at true g f = absurd (false≢true f)
    at false g f = (let ne : y ≡ x → ⊥ = eqb-false y x g in omega (arith, ne))

same-last : (last : Option ℕ) (x : ℕ) → is_after last x ≡ false → Beyond last ≡ suc x
same-last None x e = absurd (true≢false e)
same-last (Some y) x e = at (nat_eq y x) refl e
  where
    at : (b : Bool) → nat_eq y x ≡ b → not b ≡ false → suc y ≡ suc x
    at true g f = ap (λ z. suc z) (eqb-true y x g)
    at false g f = absurd (true≢false f)

rows-up : (rows owners : Bool) (n : ℕ) (last : Option ℕ) (cs : List Ctx) → Ascending cs → ((c : Ctx) → In c cs → c.pre < n) → From (At last) cs → UpFrom (Beyond last) n (rows_from rows owners last cs)
rows-up rows owners n last [] a w f = tt
rows-up rows owners n last (c ∷ cs) a w f =
    here (is_wanted rows owners c) (is_after last c.pre) refl
    (rows-up rows owners n (Some c.pre) cs a.1 (λ d i. w d (inr i)) (from-after c cs a.0))
    (rows-up rows owners n last cs a.1 (λ d i. w d (inr i)) f.1)
  where
    here : (b d : Bool) → is_after last c.pre ≡ d → UpFrom (suc c.pre) n (rows_from rows owners (Some c.pre) cs) → UpFrom (Beyond last) n (rows_from rows owners last cs) → UpFrom (Beyond last) n (cond (b && d) (c.pre ∷ []) [] ++ rows_from rows owners (cond b (Some c.pre) last) cs)
    here true true e r s = (beyond-new last c.pre f.0 e, w c (inl refl), r)
    here true false e r s = subst (λ z. UpFrom z n (rows_from rows owners (Some c.pre) cs)) (sym (same-last last c.pre e)) r
    here false d e r s = s

pub rows-ascend : (rows owners : Bool) (n : ℕ) (cs : List Ctx) → Ascending cs → ((c : Ctx) → In c cs → c.pre < n) → UpFrom 0 n (rows_from rows owners None cs)
rows-ascend rows owners n cs a w = rows-up rows owners n None cs a w (zeros cs)
  where
    zeros : (cs : List Ctx) → From 0 cs
    zeros [] = tt
    zeros (c ∷ cs) = (omega arith, zeros cs)
