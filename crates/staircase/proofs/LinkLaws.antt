-- The nearest places where searches end, and where chains begin.
use Rattle.std.proofs.Common.{inl, inr, ◌⊎◌, ◌≡◌, ℕ, zero, suc, ◌+◌, ◌-◌, ◌<◌, ◌≤◌, Bool, true, false, ◌&&◌, cond, List, [], ◌∷◌, ◌++◌, length, reverse, refl, sym, ap, ◌∙◌, subst, arith, Option, Some, None, length-append}
use Rattle.std.specs.Prelude.{nat_eq, nat_lt, nat_le, slice_index_or}
use Rattle.std.proofs.lemmas.Bool.{eq-eqb, ne_eqb, eqb-true, lt-ltb, ltb-true, and_parts, and_from, cases_order, cases_lt}
use Rattle.std.proofs.lemmas.Bool.Decides.{nat_tests}
use Rattle.std.proofs.lemmas.List.{length-reverse, get_or-reverse, get_or_append_left, get_or-append-add}
use Rattle.xq_base.specs.declared.axis.Axis.{Axis}
use Rattle.staircase.specs.declared.chain.Start.{Start}
use Rattle.staircase.specs.declared.hits.Hit.{Hit}
use Rattle.staircase.specs.declared.kinds.Ctx.{Ctx}
use Rattle.staircase.specs.declared.seen.Seen.{Seen}
use Rattle.staircase.specs.Chains.{row_at, kept_at, is_sibling, leads_on, lined, turned, ends_at, is_next, where_next, next_of, is_lone_step, onward, begins_below, begins_here, first_child, first_of_row, start_of, one_later, place_found, started, starts_at, starts_one, all_starts, AreOrdered, AreWithin, AddsChains, AddsWalks, Leads, leads_here, leads_more, Below, Past, Nearest, Linked, up_to}
use Rattle.staircase.specs.Made.{iter_for}
use Rattle.staircase.specs.Parts.{In, AreRows, IsRising, Splits}
use Rattle.staircase.proofs.Elements.{in-left, in-right, in-parts}
use Rattle.staircase.proofs.PartLaws.{same-at, in-at, place-in}

-- ---- searches

-- where a search from k doesn't end, one from a row at which it didn't end at k doesn't end either
skips : (b : Bool) (li lk lf pf pk ai ak : ℕ) → cond b (nat_le li lk) (nat_le pk ai) ≡ false → cond b (nat_le lk lf) (nat_le pf ak) ≡ false → pk ≤ ak → cond b (nat_le li lf) (nat_le pf ai) ≡ false
skips true li lk lf pf pk ai ak d e o = grind (arith, nat_tests)
skips false li lk lf pf pk ai ak d e o = grind (arith, nat_tests)

-- a search that goes on from a place where it doesn't end
pub record Jumps (axis : Axis) (rows : List Seen) (from : Seen) (n k : ℕ) (o : Option ℕ) : Type 0 where
  pub within : Below o n
  pub past : (i : ℕ) → Past o i → i < n → ends_at axis (row_at rows i) from ≡ false
  pub falls : up_to o < suc k

pub nearest-jump : (axis : Axis) (rows : List Seen) (n : ℕ) (from : Seen) (k : ℕ) → AreOrdered rows → n ≤ length rows → k < n → ((i : ℕ) → k < i → i < n → ends_at axis (row_at rows i) from ≡ false) → ends_at axis (row_at rows k) from ≡ false → (o : Option ℕ) → Nearest axis rows (row_at rows k) k o → Jumps axis rows from n k o
nearest-jump axis rows n from k a w l f e o near = go o near
  where
    here : (i : ℕ) → (i < k → ends_at axis (row_at rows i) (row_at rows k) ≡ false) → i < n → (i ≡ k) ⊎ ((i < k) ⊎ (k < i)) → ends_at axis (row_at rows i) from ≡ false
    here i g m (inl q) = ap (λ z. ends_at axis (row_at rows z) from) q ∙ e
    here i g m (inr (inl q)) = skips (is_sibling axis) (row_at rows i).level (row_at rows k).level from.level from.pre (row_at rows k).pre (row_at rows i).last (row_at rows k).last (g q) e (a.order (row_at rows k) (in-at rows k _ (omega arith)))
    here i g m (inr (inr q)) = f i q m

    go : (o : Option ℕ) → Nearest axis rows (row_at rows k) k o → Jumps axis rows from n k o
    go None near = record { within = tt; past = λ i p m. here i (λ q. near i q) m (cases_order i k); falls = omega arith }
    go (Some j) near = record { within = omega (arith, near.0); past = λ i p m. here i (λ q. near.2 i p q) m (cases_order i k); falls = omega (arith, near.0) }

-- one link more
pub links-more : (axis : Axis) (rows : List Seen) (links : List (Option ℕ)) (n : ℕ) (o : Option ℕ) → Linked axis rows links n → Nearest axis rows (row_at rows n) n o → Linked axis rows (links ++ o ∷ []) (n + 1)
links-more axis rows links n o a near = record {
  many = length-append links (o ∷ []) ∙ ap (λ z. z + 1) a.many;
  nearest = λ k l. here k l (cases_lt k n);
}
  where
    here : (k : ℕ) → k < n + 1 → (k < n) ⊎ (n ≤ k) → Nearest axis rows (row_at rows k) k (kept_at (links ++ o ∷ []) k)
    here k l (inl m) = subst (λ z. Nearest axis rows (row_at rows k) k z) (sym (get_or_append_left links (o ∷ []) None k (omega (arith, a.many)))) (a.nearest k m)
    here k l (inr m) =
        let last : k ≡ length links + 0 = omega (arith, a.many) in
        let q : n ≡ k = omega arith in
        subst (λ z. Nearest axis rows (row_at rows k) k z) (sym (ap (kept_at (links ++ o ∷ [])) last ∙ get_or-append-add links (o ∷ []) 0 None)) (subst (λ z. Nearest axis rows (row_at rows z) z o) q near)

-- ---- chains fall

-- each step leads to an earlier place
abbrev pub Falls : (ℕ → Option ℕ) → ℕ → Type 0
Falls step n = (k j : ℕ) → k < n → step k ≡ Some j → j < k

-- one step more at the end
pub leads-on : {step : ℕ → Option ℕ} {k m j : ℕ} → Leads step k m → step m ≡ Some j → Leads step k j
leads-on leads_here e = leads_more e leads_here
leads-on (leads_more f r) e = leads_more f (leads-on r e)

-- what comes next, with the link
pub record Next (axis : Axis) (rows : List Seen) (links : List (Option ℕ)) (k j : ℕ) : Type 0 where
  pub link : kept_at links k ≡ Some j
  pub next : is_next axis (row_at rows j) (row_at rows k) ≡ true

pub next-from : (axis : Axis) (rows : List Seen) (links : List (Option ℕ)) (k j : ℕ) → next_of axis rows links k ≡ Some j → Next axis rows links k j
next-from axis rows links k j e = go (kept_at links k) refl e
  where
    go : (o : Option ℕ) → kept_at links k ≡ o → where_next axis rows (row_at rows k) o ≡ Some j → Next axis rows links k j
    go None g e = cc
    go (Some i) g e = at (is_next axis (row_at rows i) (row_at rows k)) refl e
      where
        at : (b : Bool) → is_next axis (row_at rows i) (row_at rows k) ≡ b → cond b (Some i) None ≡ Some j → Next axis rows links k j
        at true f e = (let q : i ≡ j = cc in record { link = g ∙ ap (λ z. Some z) q; next = subst (λ z. is_next axis (row_at rows z) (row_at rows k) ≡ true) q f })
        at false f e = cc

pub next-to : (axis : Axis) (rows : List Seen) (links : List (Option ℕ)) (k j : ℕ) → kept_at links k ≡ Some j → is_next axis (row_at rows j) (row_at rows k) ≡ true → next_of axis rows links k ≡ Some j
next-to axis rows links k j e f = ap (where_next axis rows (row_at rows k)) e ∙ ap (λ b. cond b (Some j) None) f

-- the nearest place that a link names
pub linked-at : (axis : Axis) (rows : List Seen) (links : List (Option ℕ)) (n k j : ℕ) → Linked axis rows links n → k < n → kept_at links k ≡ Some j → Nearest axis rows (row_at rows k) k (Some j)
linked-at axis rows links n k j a l e = subst (λ z. Nearest axis rows (row_at rows k) k z) e (a.nearest k l)

pub next-falls : (axis : Axis) (rows : List Seen) (links : List (Option ℕ)) (n : ℕ) → Linked axis rows links n → Falls (next_of axis rows links) n
next-falls axis rows links n a k j l e = (linked-at axis rows links n k j a l (next-from axis rows links k j e).link).0

pub onward-next : (axis : Axis) (rows : List Seen) (links : List (Option ℕ)) (k j : ℕ) → onward axis rows links k ≡ Some j → next_of axis rows links k ≡ Some j
onward-next axis rows links k j e = go (is_lone_step axis) e
  where
    go : (b : Bool) → cond b None (next_of axis rows links k) ≡ Some j → next_of axis rows links k ≡ Some j
    go true e = cc
    go false e = e

pub onward-falls : (axis : Axis) (rows : List Seen) (links : List (Option ℕ)) (n : ℕ) → Linked axis rows links n → Falls (onward axis rows links) n
onward-falls axis rows links n a k j l e = next-falls axis rows links n a k j l (onward-next axis rows links k j e)

pub onward-below : (axis : Axis) (rows : List Seen) (links : List (Option ℕ)) (n k : ℕ) → Linked axis rows links n → k < n → Below (onward axis rows links k) n
onward-below axis rows links n k a l = go (onward axis rows links k) refl
  where
    go : (o : Option ℕ) → onward axis rows links k ≡ o → Below o n
    go None e = tt
    go (Some j) e = omega (arith, onward-falls axis rows links n a k j l e)

-- ---- places of rows

pub place-found_at : (seen : List Seen) (k pre : ℕ) (d : Seen) → IsRising seen → k < length seen → (slice_index_or seen k d).pre ≡ pre → place_found seen pre ≡ Some k
place-found_at [] k pre d r l e = absurd (omega arith)
place-found_at (s ∷ ss) zero pre d r l e = rw (eq-eqb s.pre pre e) refl
place-found_at (s ∷ ss) (suc k) pre d r l e =
    let first = r 0 (suc k) d (omega arith) l in
    rw (ne_eqb s.pre pre (λ q. omega (arith, first))) (ap one_later (place-found_at ss k pre d (λ i j f h m. r (suc i) (suc j) f (omega arith) (omega arith)) (omega arith) e))

pub place-found_none : (seen : List Seen) (pre : ℕ) → ((k : ℕ) (d : Seen) → k < length seen → (slice_index_or seen k d).pre ≡ pre → ⊥) → place_found seen pre ≡ None
place-found_none [] pre f = refl
place-found_none (s ∷ ss) pre f = rw (ne_eqb s.pre pre (λ e. f 0 s (omega arith) e)) (ap one_later (place-found_none ss pre (λ k d l e. f (suc k) d (omega arith) e)))

-- a place that is found holds the row
pub found-place : (seen : List Seen) (pre k : ℕ) → place_found seen pre ≡ Some k → (k < length seen) × ((row_at seen k).pre ≡ pre)
found-place [] pre k e = cc
found-place (s ∷ ss) pre k e = at (nat_eq s.pre pre) refl e (λ j q. found-place ss pre j q)
  where
    later : (o : Option ℕ) → one_later o ≡ Some k → ((j : ℕ) → o ≡ Some j → (j < length ss) × ((row_at ss j).pre ≡ pre)) → (k < length (s ∷ ss)) × ((row_at (s ∷ ss) k).pre ≡ pre)
    later None e f = cc
    later (Some j) e f =
        let q : suc j ≡ k = cc in
        let r = f j refl in
        subst (λ z. (z < length (s ∷ ss)) × ((row_at (s ∷ ss) z).pre ≡ pre)) q (omega (arith, r.0), r.1)

    at : (b : Bool) → nat_eq s.pre pre ≡ b → cond b (Some 0) (one_later (place_found ss pre)) ≡ Some k → ((j : ℕ) → place_found ss pre ≡ Some j → (j < length ss) × ((row_at ss j).pre ≡ pre)) → (k < length (s ∷ ss)) × ((row_at (s ∷ ss) k).pre ≡ pre)
    at true g e f =
        let q : 0 ≡ k = cc in
        subst (λ z. (z < length (s ∷ ss)) × ((row_at (s ∷ ss) z).pre ≡ pre)) q (omega arith, eqb-true s.pre pre g)
    at false g e f = later (place_found ss pre) e f

pub no-place : (seen : List Seen) (pre place : ℕ) (d : Seen) → IsRising seen → Splits seen pre place place → (place < length seen → (slice_index_or seen place d).pre ≡ pre → ⊥) → place_found seen pre ≡ None
no-place seen pre place d r s n = place-found_none seen pre (λ k e l q. other k e l q (cases_order k place))
  where
    other : (k : ℕ) (e : Seen) → k < length seen → (slice_index_or seen k e).pre ≡ pre → (k ≡ place) ⊎ ((k < place) ⊎ (place < k)) → ⊥
    other k e l q (inl x) = n (omega arith) (ap (λ z. (slice_index_or seen z d).pre) (sym x) ∙ ap (λ (z : Seen). z.pre) (same-at seen k d e l) ∙ q)
    other k e l q (inr (inl x)) = (let y = s.below k e x in omega arith)
    other k e l q (inr (inr x)) = (let y = s.above place d (omega arith) (omega arith) in let z = r place k d x l in let same : (slice_index_or seen k d).pre ≡ (slice_index_or seen k e).pre = ap (λ (z : Seen). z.pre) (same-at seen k d e l) in omega arith)

-- ---- where chains begin

-- a start of the chain of a node of the context
pub record Begins (axis : Axis) (counting : Bool) (seen rows : List Seen) (links : List (Option ℕ)) (cs : List Ctx) (start : Start) : Type 0 where
  pub ctx : Ctx
  pub there : In ctx cs
  pub place : ℕ
  pub found : place_found seen ctx.pre ≡ Some place
  pub begins : start_of axis rows links ctx.attr (turned axis (length rows) place) ≡ Some start.place
  pub iter : start.iter ≡ iter_for counting ctx

starts-one_from : (axis : Axis) (counting : Bool) (seen rows : List Seen) (links : List (Option ℕ)) (c : Ctx) (start : Start) → In start (starts_one axis counting seen rows links c) → Begins axis counting seen rows links (c ∷ []) start
starts-one_from axis counting seen rows links c start h = go (place_found seen c.pre) refl h
  where
    go : (o : Option ℕ) → place_found seen c.pre ≡ o → In start (starts_at axis counting rows links c o) → Begins axis counting seen rows links (c ∷ []) start
    go None e h = absurd h
    go (Some k) e h = at (start_of axis rows links c.attr (turned axis (length rows) k)) refl h
      where
        at : (p : Option ℕ) → start_of axis rows links c.attr (turned axis (length rows) k) ≡ p → In start (started (iter_for counting c) p) → Begins axis counting seen rows links (c ∷ []) start
        at None f h = absurd h
        at (Some p) f h = elim h [
          | inl q ↦ record { ctx = c; there = inl refl; place = k; found = e; begins = f ∙ ap (λ (z : Start). Some z.place) (sym q); iter = ap (λ (z : Start). z.iter) q }
          | inr x ↦ absurd x
        ]

pub starts-from : (axis : Axis) (counting : Bool) (seen rows : List Seen) (links : List (Option ℕ)) (cs : List Ctx) (start : Start) → In start (all_starts axis counting seen rows links cs) → Begins axis counting seen rows links cs start
starts-from axis counting seen rows links [] start h = absurd h
starts-from axis counting seen rows links (c ∷ cs) start h = elim (in-parts start (starts_one axis counting seen rows links c) (all_starts axis counting seen rows links cs) h) [
  | inl x ↦ (let r = starts-one_from axis counting seen rows links c start x in
      record { ctx = r.ctx; there = elim r.there [ inl q ↦ inl q | inr y ↦ absurd y ]; place = r.place; found = r.found; begins = r.begins; iter = r.iter })
  | inr y ↦ (let r = starts-from axis counting seen rows links cs start y in
      record { ctx = r.ctx; there = inr r.there; place = r.place; found = r.found; begins = r.begins; iter = r.iter })
]

pub starts-to : (axis : Axis) (counting : Bool) (seen rows : List Seen) (links : List (Option ℕ)) (cs : List Ctx) (c : Ctx) (k p : ℕ) → In c cs → place_found seen c.pre ≡ Some k → start_of axis rows links c.attr (turned axis (length rows) k) ≡ Some p → In (record { iter = iter_for counting c; place = p }) (all_starts axis counting seen rows links cs)
starts-to axis counting seen rows links [] c k p h e f = absurd h
starts-to axis counting seen rows links (d ∷ cs) c k p h e f = elim h [
  | inl q ↦ in-left (record { iter = iter_for counting c; place = p }) (starts_one axis counting seen rows links d) (all_starts axis counting seen rows links cs)
      (subst (λ (z : Ctx). In (record { iter = iter_for counting c; place = p }) (starts_one axis counting seen rows links z)) q
      (subst (λ z. In (record { iter = iter_for counting c; place = p }) (starts_at axis counting rows links c z)) (sym e)
      (subst (λ z. In (record { iter = iter_for counting c; place = p }) (started (iter_for counting c) z)) (sym f) (inl refl))))
  | inr y ↦ in-right (record { iter = iter_for counting c; place = p }) (starts_one axis counting seen rows links d) (all_starts axis counting seen rows links cs) (starts-to axis counting seen rows links cs c k p y e f)
]

pub turned-within : (axis : Axis) (n k : ℕ) → k < n → turned axis n k < n
turned-within axis n k l = go (leads_on axis)
  where
    go : (b : Bool) → cond b (n - 1 - k) k < n
    go true = omega arith
    go false = l

-- the first child, with the rows turned around
pub record FirstChild (rows : List Seen) (k j : ℕ) : Type 0 where
  pub before : k ≡ suc j
  pub pre : (row_at rows j).pre ≡ (row_at rows k).pre + 1
  pub inner : (row_at rows k).pre < (row_at rows k).last

pub first-child_from : (rows : List Seen) (k j : ℕ) → first_child rows k ≡ Some j → FirstChild rows k j
first-child_from rows k j e = go (nat_lt 0 k && (nat_lt (row_at rows k).pre (row_at rows k).last && nat_eq (row_at rows (k - 1)).pre ((row_at rows k).pre + 1))) refl e
  where
    go : (b : Bool) → (nat_lt 0 k && (nat_lt (row_at rows k).pre (row_at rows k).last && nat_eq (row_at rows (k - 1)).pre ((row_at rows k).pre + 1))) ≡ b → cond b (Some (k - 1)) None ≡ Some j → FirstChild rows k j
    go true f e =
        let q : k - 1 ≡ j = cc in
        let p = and_parts (nat_lt 0 k) (nat_lt (row_at rows k).pre (row_at rows k).last && nat_eq (row_at rows (k - 1)).pre ((row_at rows k).pre + 1)) f in
        let r = and_parts (nat_lt (row_at rows k).pre (row_at rows k).last) (nat_eq (row_at rows (k - 1)).pre ((row_at rows k).pre + 1)) p.1 in
        record {
          before = omega (arith, ltb-true 0 k p.0, q);
          pre = ap (λ z. (row_at rows z).pre) (sym q) ∙ eqb-true (row_at rows (k - 1)).pre ((row_at rows k).pre + 1) r.1;
          inner = ltb-true (row_at rows k).pre (row_at rows k).last r.0;
        }
    go false f e = cc

pub first-child_to : (rows : List Seen) (j : ℕ) → (row_at rows j).pre ≡ (row_at rows (suc j)).pre + 1 → (row_at rows (suc j)).pre < (row_at rows (suc j)).last → first_child rows (suc j) ≡ Some j
first-child_to rows j e l =
    let back : suc j - 1 ≡ j = omega arith in
    let all : (nat_lt 0 (suc j) && (nat_lt (row_at rows (suc j)).pre (row_at rows (suc j)).last && nat_eq (row_at rows (suc j - 1)).pre ((row_at rows (suc j)).pre + 1))) ≡ true =
    and_from (nat_lt 0 (suc j)) (nat_lt (row_at rows (suc j)).pre (row_at rows (suc j)).last && nat_eq (row_at rows (suc j - 1)).pre ((row_at rows (suc j)).pre + 1)) (lt-ltb 0 (suc j) (omega arith))
    (and_from (nat_lt (row_at rows (suc j)).pre (row_at rows (suc j)).last) (nat_eq (row_at rows (suc j - 1)).pre ((row_at rows (suc j)).pre + 1)) (lt-ltb (row_at rows (suc j)).pre (row_at rows (suc j)).last l) (eq-eqb (row_at rows (suc j - 1)).pre ((row_at rows (suc j)).pre + 1) (ap (λ z. (row_at rows z).pre) back ∙ e))) in
    ap (λ b. cond b (Some (suc j - 1)) None) all ∙ ap (λ z. Some z) back

first-falls : (axis : Axis) (rows : List Seen) (links : List (Option ℕ)) (n k j : ℕ) → Linked axis rows links n → k < n → first_of_row axis rows links k ≡ Some j → j < k
first-falls axis rows links n k j a l e = go (begins_below axis) e
  where
    go : (b : Bool) → cond b (first_child rows k) (next_of axis rows links k) ≡ Some j → j < k
    go true e = (let f = first-child_from rows k j e in omega (arith, f.before))
    go false e = next-falls axis rows links n a k j l e

pub start-within : (axis : Axis) (rows : List Seen) (links : List (Option ℕ)) (attr k p : ℕ) → Linked axis rows links (length rows) → k < length rows → start_of axis rows links attr k ≡ Some p → p ≤ k
start-within axis rows links attr k p a l e = go (begins_here axis (nat_eq attr 0)) (nat_eq attr 0) e
  where
    go : (b d : Bool) → cond b (Some k) (cond d (first_of_row axis rows links k) None) ≡ Some p → p ≤ k
    go true d e = (let q : k ≡ p = cc in omega arith)
    go false true e = omega (arith, first-falls axis rows links (length rows) k p a l e)
    go false false e = cc

pub starts-within : (axis : Axis) (counting : Bool) (seen rows : List Seen) (links : List (Option ℕ)) (cs : List Ctx) → length rows ≡ length seen → Linked axis rows links (length rows) → AreWithin (all_starts axis counting seen rows links cs) (length rows)
starts-within axis counting seen rows links cs n a start h =
    let r = starts-from axis counting seen rows links cs start h in
    let f = found-place seen r.ctx.pre r.place r.found in
    let t = turned-within axis (length rows) r.place (omega (arith, f.0)) in
    omega (arith, t, start-within axis rows links r.ctx.attr (turned axis (length rows) r.place) start.place a t r.begins)

-- ---- the rows in their other order

pub lined-many : (axis : Axis) (seen : List Seen) → length (lined axis seen) ≡ length seen
lined-many axis seen = go (leads_on axis)
  where
    go : (b : Bool) → length (cond b (reverse seen) seen) ≡ length seen
    go true = length-reverse seen
    go false = refl

pub lined-at : (axis : Axis) (seen : List Seen) (k : ℕ) → k < length seen → row_at (lined axis seen) (turned axis (length seen) k) ≡ row_at seen k
lined-at axis seen k l = go (leads_on axis)
  where
    go : (b : Bool) → row_at (cond b (reverse seen) seen) (cond b (length seen - 1 - k) k) ≡ row_at seen k
    go true = (let back : length seen - 1 - (length seen - 1 - k) ≡ k = omega arith in get_or-reverse seen (length seen - 1 - k) _ (omega arith) ∙ ap (row_at seen) back)
    go false = refl

-- each place is the place of one in the first order
pub lined-from : (axis : Axis) (seen : List Seen) (k : ℕ) → k < length seen → (turned axis (length seen) k < length seen) × (turned axis (length seen) (turned axis (length seen) k) ≡ k)
lined-from axis seen k l = (turned-within axis (length seen) k l, go (leads_on axis))
  where
    go : (b : Bool) → cond b (length seen - 1 - cond b (length seen - 1 - k) k) (cond b (length seen - 1 - k) k) ≡ k
    go true = omega arith
    go false = refl

pub lined-ordered : (axis : Axis) (seen : List Seen) → AreRows seen → AreOrdered (lined axis seen)
lined-ordered axis seen a = record { small = λ s h. a.small s (back s h); order = λ s h. a.order s (back s h) }
  where
    back : (s : Seen) → In s (lined axis seen) → In s seen
    back s h =
        let p = place-in s (lined axis seen) h in
        let l : p.0 < length seen = omega (arith, p.1, lined-many axis seen) in
        let w = lined-from axis seen p.0 l in
        let same : row_at (lined axis seen) p.0 ≡ s = same-at (lined axis seen) p.0 _ s p.1 ∙ p.2 in
        let e : row_at seen (turned axis (length seen) p.0) ≡ s = sym (lined-at axis seen (turned axis (length seen) p.0) w.0) ∙ ap (row_at (lined axis seen)) w.1 ∙ same in
        subst (λ (z : Seen). In z seen) e (in-at seen (turned axis (length seen) p.0) _ w.0)

pub chains-added : (axis : Axis) (counting : Bool) (seen rows : List Seen) (links : List (Option ℕ)) (xs : List Start) (cs : List Ctx) (old new : List Hit) → rows ≡ lined axis seen → Linked axis rows links (length rows) → xs ≡ all_starts axis counting seen rows links cs → AddsWalks axis counting rows links xs old new → AddsChains axis counting seen cs old new
chains-added axis counting seen rows links xs cs old new e a f w = record {
  links = links;
  linked = subst (λ z. Linked axis (lined axis seen) links z) (lined-many axis seen) (subst (λ z. Linked axis z links (length z)) e a);
  gains = subst (λ z. AddsWalks axis counting z links (all_starts axis counting seen z links cs) old new) e (subst (λ z. AddsWalks axis counting rows links z old new) f w);
}
