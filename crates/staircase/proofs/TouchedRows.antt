-- The rows that passes want are the rows that the step touches.
use Rattle.std.proofs.Common.{inl, inr, ◌⊎◌, ◌≡◌, ℕ, zero, suc, ◌+◌, ◌<◌, ◌≤◌, max, min, Bool, true, false, ◌&&◌, ◌||◌, cond, List, [], ◌∷◌, length, refl, sym, ap, ◌∙◌, arith, Some, None}
use Rattle.std.specs.Prelude.{nat_eq, nat_lt, nat_le}
use Rattle.std.proofs.lemmas.Bool.{ne_eqb, le-ltb, lt-ltb, le-leb, lt-leb, ltb-true, cases_lt, and_parts, and_from, or_left, or_right, or_cases, false≢true, true≢false}
use Rattle.xq_base.specs.declared.item.TextId.{TextId}
use Rattle.xq_base.specs.declared.axis.Axis.{Axis}
use Rattle.xq_base.specs.declared.axis.Axis.TheVariants as a
use Rattle.doc_table.specs.Tree.{Tree}
use Rattle.doc_table.specs.Enc.{enc, line_in}
use Rattle.doc_table.specs.Axes.{on_descendant, on_following, on_child}
use Rattle.doc_table.specs.Places.{Place, path_at, row_path, below, child, RowsTell}
use Rattle.doc_table.specs.Touched.{some_below, some_place, is_context, some_context, adds_owner, place_path}
use Rattle.doc_table.proofs.ByRows.{by-descendant, by-following, by-child}
use Rattle.doc_table.proofs.RowNodes.{named_row}
use Rattle.staircase.specs.declared.kinds.Ctx.{Ctx}
use Rattle.staircase.specs.Ahead.{has, any, UpFrom}
use Rattle.staircase.specs.Hits.{Ascending}
use Rattle.staircase.specs.Joins.{place_of, places, is_wanted, own, owning, end_of, AreNodes}
use Rattle.staircase.specs.Parts.{In}
use Rattle.staircase.specs.Passes.{follows}
use Rattle.staircase.proofs.RowsAhead.{has-below}
use Rattle.staircase.proofs.SomeTests.{both_ways, has-in, in-has, any-in, in-any, place-in_some, some-place_in, below-some, some-below, rows-has, rows-ascend, rows-sound, rows-complete}
use Rattle.staircase.proofs.LookLaws.{after-attribute}

-- ---- the rows of the context

some-place_like : (p q : Place → Bool) (cs : List Place) → ((c : Place) → p c ≡ q c) → some_place p cs ≡ some_place q cs
some-place_like p q [] f = refl
some-place_like p q (c ∷ cs) f = rw (f c, some-place_like p q cs f) refl

cond-or : (b x : Bool) → cond b true x ≡ (b || x)
cond-or true x = refl
cond-or false x = refl

pub own-is : (axis : Axis) (cs : List Ctx) (v : ℕ) → has v (own axis cs) ≡ is_context axis (places cs) v
own-is axis cs v = rows-has true (adds_owner axis) cs v ∙ some-place_like (λ p. nat_eq p.pre v && cond (nat_eq p.attr 0) true (adds_owner axis)) (λ p. nat_eq p.pre v && (nat_eq p.attr 0 || adds_owner axis)) (places cs) (λ c. ap (λ z. nat_eq c.pre v && z) (cond-or (nat_eq c.attr 0) (adds_owner axis)))

pub own-up : (axis : Axis) (t : Tree TextId) (cs : List Ctx) → RowsTell t → Ascending cs → AreNodes t cs → UpFrom 0 (length (enc t)) (own axis cs)
own-up axis t cs b up nodes = rows-ascend true (adds_owner axis) (length (enc t)) cs up (λ c i. named_row t (place_of c) b (nodes c i))

-- some row of an ascending list, and some row below n
any-below : (p : ℕ → Bool) (n : ℕ) (xs : List ℕ) → UpFrom 0 n xs → any p xs ≡ some_below (λ c. has c xs && p c) n
any-below p n xs u = both_ways (any p xs) (some_below (λ c. has c xs && p c) n)
    (λ h. let r = in-any p xs h in let i = has-in r.0 xs r.1 in below-some (λ c. has c xs && p c) n r.0 (has-below 0 n r.0 xs u i).1 (and_from (has r.0 xs) (p r.0) i r.2))
    (λ h. let r = some-below (λ c. has c xs && p c) n h in let b = and_parts (has r.0 xs) (p r.0) r.2 in any-in p r.0 xs (in-has r.0 xs b.0) b.1)

some-below_like : (p q : ℕ → Bool) (n : ℕ) → ((c : ℕ) → c < n → p c ≡ q c) → some_below p n ≡ some_below q n
some-below_like p q zero f = refl
some-below_like p q (suc n) f = rw (f n (omega arith), some-below_like p q n (λ c l. f c (omega arith))) refl

pub any-context : (axis : Axis) (t : Tree TextId) (cs : List Ctx) (p q : ℕ → Bool) → UpFrom 0 (length (enc t)) (own axis cs) → ((c : ℕ) → c < length (enc t) → p c ≡ q c) → any p (own axis cs) ≡ some_context axis t (places cs) q
any-context axis t cs p q u f = any-below p (length (enc t)) (own axis cs) u ∙ some-below_like (λ c. has c (own axis cs) && p c) (λ c. is_context axis (places cs) c && q c) (length (enc t)) (λ c l. rw (own-is axis cs c, f c l) refl)

-- ---- what each pass wants

-- descendant and descendant-or-self
pub down-touches : (axis : Axis) (t : Tree TextId) (cs : List Ctx) (v : ℕ) → RowsTell t → UpFrom 0 (length (enc t)) (own axis cs) → v < length (enc t) → (has v (own axis cs) || any (λ c. below (enc t) c v) (own axis cs)) ≡ (is_context axis (places cs) v || some_context axis t (places cs) (λ p. on_descendant (row_path t p) (row_path t v)))
down-touches axis t cs v b u l = rw (own-is axis cs v, any-context axis t cs (λ c. below (enc t) c v) (λ p. on_descendant (row_path t p) (row_path t v)) u (λ c k. sym (by-descendant t c v b k l))) refl

-- child
pub child-touches : (axis : Axis) (t : Tree TextId) (cs : List Ctx) (v : ℕ) → RowsTell t → UpFrom 0 (length (enc t)) (own axis cs) → v < length (enc t) → (has v (own axis cs) || any (λ c. child (enc t) c v) (own axis cs)) ≡ (is_context axis (places cs) v || some_context axis t (places cs) (λ p. on_child (row_path t p) (row_path t v)))
child-touches axis t cs v b u l = rw (own-is axis cs v, any-context axis t cs (λ c. child (enc t) c v) (λ p. on_child (row_path t p) (row_path t v)) u (λ c k. sym (by-child t c v b k l))) refl

-- preceding
end-any : (a n v : ℕ) (xs : List ℕ) → n < 4294967296 → UpFrom a n xs → nat_lt v (end_of xs) ≡ any (λ p. nat_le v p) xs
end-any a n v [] l u = le-ltb v 0 (omega arith)
end-any a n v (x ∷ xs) l u = go (cases_lt x v) (cases_lt v (end_of xs)) (end-any (suc x) n v xs l u.2)
  where
    go : (x < v) ⊎ (v ≤ x) → (v < end_of xs) ⊎ (end_of xs ≤ v) → nat_lt v (end_of xs) ≡ any (λ p. nat_le v p) xs → nat_lt v (max (min (x + 1) 4294967295) (end_of xs)) ≡ (nat_le v x || any (λ p. nat_le v p) xs)
    go (inl k) (inl m) e = rw (lt-leb v x k, lt-ltb v (max (min (x + 1) 4294967295) (end_of xs)) (omega arith)) (sym (lt-ltb v (end_of xs) m) ∙ e)
    go (inl k) (inr m) e = rw (lt-leb v x k, le-ltb v (max (min (x + 1) 4294967295) (end_of xs)) (omega arith)) (sym (le-ltb v (end_of xs) m) ∙ e)
    go (inr k) m e = rw (le-leb v x k, lt-ltb v (max (min (x + 1) 4294967295) (end_of xs)) (omega (arith, u.1))) refl

pub before-touches : (axis : Axis) (t : Tree TextId) (cs : List Ctx) (v : ℕ) → length (enc t) < 4294967296 → UpFrom 0 (length (enc t)) (own axis cs) → nat_lt v (end_of (own axis cs)) ≡ some_context axis t (places cs) (λ p. nat_le v p)
before-touches axis t cs v l u = end-any 0 (length (enc t)) v (own axis cs) l u ∙ any-context axis t cs (λ p. nat_le v p) (λ p. nat_le v p) u (λ c k. refl)

pub end-within : (a n : ℕ) (xs : List ℕ) → UpFrom a n xs → end_of xs ≤ n
end-within a n [] u = omega arith
end-within a n (x ∷ xs) u = omega (arith, u.1, end-within (suc x) n xs u.2)

-- following
pub owning-up : (t : Tree TextId) (cs : List Ctx) → RowsTell t → Ascending cs → AreNodes t cs → UpFrom 0 (length (enc t)) (owning cs)
owning-up t cs b up nodes = rows-ascend false true (length (enc t)) cs up (λ c i. named_row t (place_of c) b (nodes c i))

none-some : {x : ℕ} → None ≡ Some x → ⊥
none-some e = cc

pub after-touches : (t : Tree TextId) (cs : List Ctx) (v : ℕ) → RowsTell t → AreNodes t cs → v < length (enc t)
    → (has v (own a.Following cs) || (any (λ c. follows (enc t) c v) (own a.Following cs) || any (λ c. nat_lt c v) (owning cs))) ≡ (is_context a.Following (places cs) v || some_place (λ c. on_following (place_path t c) (row_path t v)) (places cs))
after-touches t cs v b nodes l = rw (own-is a.Following cs v) (ap (λ z. is_context a.Following (places cs) v || z) (both_ways (any (λ c. follows (enc t) c v) (own a.Following cs) || any (λ c. nat_lt c v) (owning cs)) (some_place (λ c. on_following (place_path t c) (row_path t v)) (places cs)) to from))
  where
    row : (c : Ctx) → In c cs → c.pre < length (enc t)
    row c i = named_row t (place_of c) b (nodes c i)

    on : (c : ℕ) (k : ℕ) → c < length (enc t) → follows (enc t) c v ≡ true → on_following (record { steps = path_at t c; attr = k }) (row_path t v) ≡ true
    on c zero h f = by-following t c v b h l ∙ f
    on c (suc k) h f = after-attribute t c k v b h l ∙ lt-ltb c v (omega (arith, ltb-true (c + (line_in (enc t) c).size) v f))

    on-owner : (c : ℕ) (k : ℕ) → c < length (enc t) → nat_eq k 0 ≡ false → nat_lt c v ≡ true → on_following (record { steps = path_at t c; attr = k }) (row_path t v) ≡ true
    on-owner c zero h z f = absurd (true≢false z)
    on-owner c (suc k) h z f = after-attribute t c k v b h l ∙ f

    wanted-owner : (k : ℕ) → cond (nat_eq k 0) false true ≡ true → nat_eq k 0 ≡ false
    wanted-owner k e = at (nat_eq k 0) e
      where
        at : (d : Bool) → cond d false true ≡ true → d ≡ false
        at true e = absurd (false≢true e)
        at false e = refl

    to : (any (λ c. follows (enc t) c v) (own a.Following cs) || any (λ c. nat_lt c v) (owning cs)) ≡ true → some_place (λ c. on_following (place_path t c) (row_path t v)) (places cs) ≡ true
    to h = elim (or_cases (any (λ c. follows (enc t) c v) (own a.Following cs)) (any (λ c. nat_lt c v) (owning cs)) h) [
      | inl x ↦ (let r = in-any (λ c. follows (enc t) c v) (own a.Following cs) x in
          let s = rows-sound true true None cs r.0 r.1 in
          place-in_some (λ c. on_following (place_path t c) (row_path t v)) s.0 cs s.1 (on s.0.pre s.0.attr (row s.0 s.1) (ap (λ z. follows (enc t) z v) s.2 ∙ r.2)))
      | inr x ↦ (let r = in-any (λ c. nat_lt c v) (owning cs) x in
          let s = rows-sound false true None cs r.0 r.1 in
          place-in_some (λ c. on_following (place_path t c) (row_path t v)) s.0 cs s.1 (on-owner s.0.pre s.0.attr (row s.0 s.1) (wanted-owner s.0.attr s.3) (ap (λ z. nat_lt z v) s.2 ∙ r.2)))
    ]

    back : (c : Ctx) → In c cs → (k : ℕ) → c.attr ≡ k → on_following (record { steps = path_at t c.pre; attr = k }) (row_path t v) ≡ true → (any (λ c. follows (enc t) c v) (own a.Following cs) || any (λ c. nat_lt c v) (owning cs)) ≡ true
    back c i zero e h =
        let w : is_wanted true true c ≡ true = rw e refl in
        let there : In c.pre (own a.Following cs) = elim (rows-complete true true None cs c i w) [ inl x ↦ absurd (none-some x) | inr x ↦ x ] in
        or_left (any (λ c. follows (enc t) c v) (own a.Following cs)) (any (λ c. nat_lt c v) (owning cs)) (any-in (λ c. follows (enc t) c v) c.pre (own a.Following cs) there (sym (by-following t c.pre v b (row c i) l) ∙ h))
    back c i (suc k) e h =
        let w : is_wanted false true c ≡ true = rw (e, ne_eqb (suc k) 0 (λ q. omega arith)) refl in
        let there : In c.pre (owning cs) = elim (rows-complete false true None cs c i w) [ inl x ↦ absurd (none-some x) | inr x ↦ x ] in
        or_right (any (λ c. follows (enc t) c v) (own a.Following cs)) (any (λ c. nat_lt c v) (owning cs)) (any-in (λ c. nat_lt c v) c.pre (owning cs) there (sym (after-attribute t c.pre k v b (row c i) l) ∙ h))

    from : some_place (λ c. on_following (place_path t c) (row_path t v)) (places cs) ≡ true → (any (λ c. follows (enc t) c v) (own a.Following cs) || any (λ c. nat_lt c v) (owning cs)) ≡ true
    from h = (let r = some-place_in (λ c. on_following (place_path t c) (row_path t v)) cs h in back r.0 r.1 r.0.attr refl r.2)
