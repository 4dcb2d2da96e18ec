-- The next rows of the passes down, and past the subtrees of a context.
use Rattle.std.proofs.Common.{inl, inr, ◌⊎◌, ◌≡◌, ℕ, ◌+◌, ◌<◌, ◌≤◌, max, min, Bool, true, false, ◌&&◌, ◌||◌, cond, List, [], ◌∷◌, length, refl, sym, ap, ◌∙◌, subst, arith, Option, Some, None}
use Rattle.std.specs.Prelude.{nat_eq, nat_lt, nat_le}
use Rattle.std.proofs.lemmas.Bool.{eqb-true, le-ltb, lt-ltb, le-leb, lt-leb, or_left, or_right, false≢true, cases_lt}
use Rattle.xq_base.specs.declared.item.TextId.{TextId}
use Rattle.doc_table.specs.Enc.{Line, line_in}
use Rattle.doc_table.specs.Places.{below}
use Rattle.staircase.specs.Ahead.{has, any, UpFrom, first_of, is_first, without, Comes}
use Rattle.staircase.specs.Passes.{NextIs, Reached, Follows, follows, earlier, nearer}
use Rattle.staircase.proofs.RowsAhead.{any-none, comes-first, comes-none, comes-later, comes-past}

-- no row still to come has a row before all of them below it
none-below : (lines : List (Line TextId)) (a n : ℕ) (rest : List ℕ) → UpFrom a n rest → (w : ℕ) → w < a → any (λ c. below lines c w) rest ≡ false
none-below lines a n rest u w l = any-none (λ c. below lines c w) a n rest u (λ c k m. rw (le-ltb c w (omega arith)) refl)

up-at : (x n : ℕ) (rest : List ℕ) (from : ℕ) → UpFrom from n rest → first_of rest ≡ Some x → UpFrom x n rest
up-at x n [] from u e = cc
up-at x n (y ∷ ys) from u e = let q : y ≡ x = cc in (omega arith, u.1, u.2)

nil-from : (rest : List ℕ) → first_of rest ≡ None → rest ≡ []
nil-from [] e = refl
nil-from (x ∷ xs) e = cc

pub down-first : (lines : List (Line TextId)) (rows rest : List ℕ) (reach from total : ℕ) → length lines ≡ total → Reached lines rows rest reach from → reach ≤ from → (r : Option ℕ) → r ≡ first_of rest
    → NextIs (λ v. has v rows || any (λ c. below lines c v) rows) (λ at. Reached lines rows rest reach at) from total r
down-first lines rows rest reach from total e h t None f = λ v l k.
    let empty : rest ≡ [] = nil-from rest (sym f) in
    let past : nat_lt v reach ≡ false = le-ltb v reach (omega arith) in
    let one : has v rows ≡ false = comes-none rows rest from (length lines) h.comes (sym f) v l in
    let two : any (λ c. below lines c v) rows ≡ false = h.reached v l ∙ rw (past, empty) refl in
    rw (one, two) refl
down-first lines rows rest reach from total e h t (Some at) f =
    let k = comes-first rows rest from at (length lines) h.comes (sym f) in
    let clear : (v : ℕ) → from ≤ v → v < at → (has v rows || any (λ c. below lines c v) rows) ≡ false = λ v l m.
    let past : nat_lt v reach ≡ false = le-ltb v reach (omega arith) in
    let two : any (λ c. below lines c v) rows ≡ false = h.reached v l ∙ rw (past, none-below lines at (length lines) rest (up-at at (length lines) rest from h.comes.up (sym f)) v m) refl in
    rw (k.none v l m, two) refl in
    (k.later, omega (arith, k.within), or_left (has at rows) (any (λ c. below lines c at) rows) k.there, record { comes = k.comes; within = h.within; reached = λ w l. h.reached w (omega (arith, k.later)) }, clear)

reach-more : (at w s reach last : ℕ) (more : Bool) → last ≡ at + s → at < w → (nat_lt w reach || ((nat_lt at w && nat_le w (at + s)) || more)) ≡ (nat_lt w (max reach (last + 1)) || more)
reach-more at w s reach last more e l = rw (e, lt-ltb at w l) (go (cases_lt w (at + s + 1)) (cases_lt w reach))
  where
    go : (w < at + s + 1) ⊎ (at + s + 1 ≤ w) → (w < reach) ⊎ (reach ≤ w) → (nat_lt w reach || (nat_le w (at + s) || more)) ≡ (nat_lt w (max reach (at + s + 1)) || more)
    go (inl a) (inl b) = rw (lt-ltb w reach b, lt-ltb w (max reach (at + s + 1)) (omega arith)) refl
    go (inl a) (inr b) = rw (le-ltb w reach b, le-leb w (at + s) (omega arith), lt-ltb w (max reach (at + s + 1)) (omega arith)) refl
    go (inr a) (inl b) = rw (lt-ltb w reach b, lt-ltb w (max reach (at + s + 1)) (omega arith)) refl
    go (inr a) (inr b) = rw (le-ltb w reach b, lt-leb w (at + s) (omega arith), le-ltb w (max reach (at + s + 1)) (omega arith)) refl

pub down-enter : (lines : List (Line TextId)) (rows rest : List ℕ) (reach at last : ℕ) → Reached lines rows rest reach at → at + (line_in lines at).size < length lines → last ≡ at + (line_in lines at).size
    → is_first at rest ≡ true → Reached lines rows (without at rest) (max reach (last + 1)) (at + 1)
down-enter lines rows [] reach at last h ends e f = absurd (false≢true f)
down-enter lines rows (x ∷ xs) reach at last h ends e f =
    let q : x ≡ at = eqb-true x at f in
    let gone : without at (x ∷ xs) ≡ xs = rw f refl in
    record {
      comes = comes-past rows (x ∷ xs) at (length lines) h.comes;
      within = omega (arith, h.within);
      reached = λ w l. h.reached w (omega arith)
          ∙ ap (λ z. nat_lt w reach || (below lines z w || any (λ c. below lines c w) xs)) q
          ∙ reach-more at w (line_in lines at).size reach last (any (λ c. below lines c w) xs) e (omega arith)
          ∙ ap (λ z. nat_lt w (max reach (last + 1)) || any (λ c. below lines c w) z) (sym gone);
    }

pub down-beside : (lines : List (Line TextId)) (rows rest : List ℕ) (reach at : ℕ) → Reached lines rows rest reach at → is_first at rest ≡ false → Reached lines rows (without at rest) reach (at + 1)
down-beside lines rows [] reach at h f = record { comes = comes-past rows [] at (length lines) h.comes; within = h.within; reached = λ w l. h.reached w (omega arith) }
down-beside lines rows (x ∷ xs) reach at h f =
    let kept : without at (x ∷ xs) ≡ x ∷ xs = rw f refl in
    record {
      comes = comes-past rows (x ∷ xs) at (length lines) h.comes;
      within = h.within;
      reached = λ w l. h.reached w (omega arith) ∙ ap (λ z. nat_lt w reach || any (λ c. below lines c w) z) (sym kept);
    }

pub reached-as : (lines : List (Line TextId)) (rows rows2 rest rest2 : List ℕ) (reach reach2 from : ℕ) → rows2 ≡ rows → rest2 ≡ rest → reach2 ≡ reach → Reached lines rows rest reach from → Reached lines rows2 rest2 reach2 from
reached-as lines rows rows2 rest rest2 reach reach2 from e f g h =
    subst (λ z. Reached lines z rest2 reach2 from) (sym e) (subst (λ z. Reached lines rows z reach2 from) (sym f) (subst (λ z. Reached lines rows rest z from) (sym g) h))

-- ---- rows that follow a node of the context

-- no row still to come has a row up to all of them after it
none-after : (lines : List (Line TextId)) (a n : ℕ) (rest : List ℕ) → UpFrom a n rest → (w : ℕ) → w ≤ a → any (λ c. follows lines c w) rest ≡ false
none-after lines a n rest u w l = any-none (λ c. follows lines c w) a n rest u (λ c k m. le-ltb (c + (line_in lines c).size) w (omega arith))

none-after_own : (a n : ℕ) (rest : List ℕ) → UpFrom a n rest → (w : ℕ) → w ≤ a → any (λ c. nat_lt c w) rest ≡ false
none-after_own a n rest u w l = any-none (λ c. nat_lt c w) a n rest u (λ c k m. le-ltb c w (omega arith))

abbrev Wanted : List (Line TextId) → List ℕ → List ℕ → ℕ → Bool
Wanted lines rows owners v = has v rows || (any (λ c. follows lines c v) rows || any (λ c. nat_lt c v) owners)

earlier-within : (first : Option ℕ) (then : ℕ) → earlier first then ≤ then
earlier-within None then = omega arith
earlier-within (Some x) then = omega arith

-- an owner that is still to come isn't before the rows that are still to come
owners-up : (rows rest owners owners_rest : List ℕ) (from at n : ℕ) → Comes owners owners_rest from n → ((w : ℕ) → has w owners ≡ true → has w rows ≡ true) → from ≤ at → ((w : ℕ) → from ≤ w → w < at → has w rows ≡ false) → Comes owners owners_rest at n
owners-up rows rest owners owners_rest from at n o own l none = comes-later owners owners_rest from at n o l (λ w h k. no w (none w h k) (has w owners) refl)
  where
    no : (w : ℕ) → has w rows ≡ false → (b : Bool) → has w owners ≡ b → b ≡ false
    no w f true e = sym (own w e) ∙ f
    no w f false e = refl

-- where no row below `at` is wanted, the state holds there
follows-later : (lines : List (Line TextId)) (rows rest owners owners_rest : List ℕ) (beyond from at : ℕ) → Follows lines rows rest owners owners_rest beyond from → from ≤ at → ((w : ℕ) → from ≤ w → w < at → has w rows ≡ false) → Follows lines rows rest owners owners_rest beyond at
follows-later lines rows rest owners owners_rest beyond from at h l none = record {
  comes = comes-later rows rest from at (length lines) h.comes l none;
  owning = owners-up rows rest owners owners_rest from at (length lines) h.owning h.own l none;
  own = h.own;
  beyond_rows = λ w k m. h.beyond_rows w (omega arith) m;
}

-- before the first row still to come, and before `beyond`, no row is wanted
clear-before : (lines : List (Line TextId)) (rows rest owners owners_rest : List ℕ) (beyond from at : ℕ) → Follows lines rows rest owners owners_rest beyond from → from ≤ at → ((w : ℕ) → from ≤ w → w < at → has w rows ≡ false) → UpFrom at (length lines) rest → (v : ℕ) → from ≤ v → v < at → v < beyond → v < length lines → Wanted lines rows owners v ≡ false
clear-before lines rows rest owners owners_rest beyond from at h l none up v k m b n =
    let o = (owners-up rows rest owners owners_rest from at (length lines) h.owning h.own l none).up in
    let two : (any (λ c. follows lines c v) rows || any (λ c. nat_lt c v) owners) ≡ false = h.beyond_rows v k n ∙ rw (lt-leb beyond v b, none-after lines at (length lines) rest up v (omega arith), none-after_own at (length lines) owners_rest o v (omega arith)) refl in
    rw (none v k m, two) refl

pub after-next : (lines : List (Line TextId)) (rows rest owners owners_rest : List ℕ) (beyond from total : ℕ) → length lines ≡ total → Follows lines rows rest owners owners_rest beyond from → (at : ℕ) → at ≡ earlier (first_of rest) (max from beyond)
    → (at < total → NextIs (Wanted lines rows owners) (λ at. Follows lines rows rest owners owners_rest beyond at) from total (Some at)) × (total ≤ at → NextIs (Wanted lines rows owners) (λ at. Follows lines rows rest owners owners_rest beyond at) from total None)
after-next lines rows [] owners owners_rest beyond from total e h at f =
    let none : (w : ℕ) → from ≤ w → has w rows ≡ false = λ w k. h.comes.same w k in
    let clear : (v : ℕ) → from ≤ v → v < at → v < length lines → Wanted lines rows owners v ≡ false = λ v k m n. clear-before lines rows [] owners owners_rest beyond from at h (omega arith) (λ w a b. none w a) tt v k m (omega arith) n in (
      λ l. (omega arith, l, or_right (has at rows) (any (λ c. follows lines c at) rows || any (λ c. nat_lt c at) owners) (h.beyond_rows at (omega arith) (omega arith) ∙ rw (le-leb beyond at (omega arith)) refl), follows-later lines rows [] owners owners_rest beyond from at h (omega arith) (λ w a b. none w a), λ v k m. clear v k m (omega arith)),
      λ l v k m. clear v k (omega arith) (omega arith),
    )
after-next lines rows (x ∷ xs) owners owners_rest beyond from total e h at f =
    let k = comes-first rows (x ∷ xs) from x (length lines) h.comes refl in
    let none : (w : ℕ) → from ≤ w → w < at → has w rows ≡ false = λ w a b. k.none w a (omega arith) in
    let up : UpFrom at (length lines) (x ∷ xs) = (omega arith, h.comes.up.1, h.comes.up.2) in
    let clear : (v : ℕ) → from ≤ v → v < at → v < length lines → Wanted lines rows owners v ≡ false = λ v a b n. clear-before lines rows (x ∷ xs) owners owners_rest beyond from at h (omega (arith, h.comes.up.0)) none up v a b (pick v a b (cases_lt beyond from)) n in (
      λ l. (omega (arith, h.comes.up.0), l, wanted (omega arith) (cases_lt at x), follows-later lines rows (x ∷ xs) owners owners_rest beyond from at h (omega (arith, h.comes.up.0)) none, λ v a b. clear v a b (omega arith)),
      λ l v a b. clear v a (omega arith) (omega arith),
    )
  where
    pick : (v : ℕ) → from ≤ v → v < at → (beyond < from) ⊎ (from ≤ beyond) → v < beyond
    pick v a b (inl q) = absurd (omega (arith, h.comes.up.0))
    pick v a b (inr q) = omega arith

    wanted : at < length lines → (at < x) ⊎ (x ≤ at) → Wanted lines rows owners at ≡ true
    wanted n (inl q) = or_right (has at rows) (any (λ c. follows lines c at) rows || any (λ c. nat_lt c at) owners) (h.beyond_rows at (omega (arith, h.comes.up.0)) n ∙ rw (le-leb beyond at (omega arith)) refl)
    wanted n (inr q) =
        let same : x ≡ at = omega arith in
        or_left (has at rows) (any (λ c. follows lines c at) rows || any (λ c. nat_lt c at) owners) (subst (λ z. has z rows ≡ true) same (comes-first rows (x ∷ xs) from x (length lines) h.comes refl).there)

any-without : (p : ℕ → Bool) (at : ℕ) (rest : List ℕ) → any p rest ≡ ((is_first at rest && p at) || any p (without at rest))
any-without p at [] = refl
any-without p at (x ∷ xs) = go (nat_eq x at) refl
  where
    go : (b : Bool) → nat_eq x at ≡ b → (p x || any p xs) ≡ ((b && p at) || any p (cond b xs (x ∷ xs)))
    go true e = ap (λ z. p z || any p xs) (eqb-true x at e)
    go false e = refl

nearer-rows : (beyond at last w : ℕ) (r o a b : Bool) → at < w → (nat_le beyond w || (((r && nat_lt last w) || a) || ((o && nat_lt at w) || b))) ≡ (nat_le (nearer beyond r o at last) w || (a || b))
nearer-rows beyond at last w r true a b l = rw (lt-ltb at w l, le-leb (min beyond (at + 1)) w (omega arith)) (ones (nat_le beyond w) ((r && nat_lt last w) || a))
  where
    ones : (x y : Bool) → (x || (y || true)) ≡ true
    ones true y = refl
    ones false true = refl
    ones false false = refl
nearer-rows beyond at last w false false a b l = refl
nearer-rows beyond at last w true false a b l = go (cases_lt last w) (cases_lt w beyond)
  where
    true-last : (x : Bool) → (x || true) ≡ true
    true-last true = refl
    true-last false = refl

    go : (last < w) ⊎ (w ≤ last) → (w < beyond) ⊎ (beyond ≤ w) → (nat_le beyond w || ((nat_lt last w || a) || b)) ≡ (nat_le (min beyond (last + 1)) w || (a || b))
    go (inl x) y = rw (lt-ltb last w x, le-leb (min beyond (last + 1)) w (omega arith)) (true-last (nat_le beyond w))
    go (inr x) (inl y) = rw (le-ltb last w x, lt-leb beyond w y, lt-leb (min beyond (last + 1)) w (omega arith)) refl
    go (inr x) (inr y) = rw (le-leb beyond w y, le-leb (min beyond (last + 1)) w (omega arith)) refl

pub after-enter : (lines : List (Line TextId)) (rows rest owners owners_rest : List ℕ) (beyond at last : ℕ) → Follows lines rows rest owners owners_rest beyond at → last ≡ at + (line_in lines at).size
    → Follows lines rows (without at rest) owners (without at owners_rest) (nearer beyond (is_first at rest) (is_first at owners_rest) at last) (at + 1)
after-enter lines rows rest owners owners_rest beyond at last h e = record {
  comes = comes-past rows rest at (length lines) h.comes;
  owning = comes-past owners owners_rest at (length lines) h.owning;
  own = h.own;
  beyond_rows = λ w l n. h.beyond_rows w (omega arith) n
      ∙ ap (λ z. nat_le beyond w || (z || any (λ c. nat_lt c w) owners_rest)) (any-without (λ c. follows lines c w) at rest)
      ∙ ap (λ z. nat_le beyond w || (((is_first at rest && follows lines at w) || any (λ c. follows lines c w) (without at rest)) || z)) (any-without (λ c. nat_lt c w) at owners_rest)
      ∙ ap (λ z. nat_le beyond w || (((is_first at rest && nat_lt z w) || any (λ c. follows lines c w) (without at rest)) || ((is_first at owners_rest && nat_lt at w) || any (λ c. nat_lt c w) (without at owners_rest)))) (sym e)
      ∙ nearer-rows beyond at last w (is_first at rest) (is_first at owners_rest) (any (λ c. follows lines c w) (without at rest)) (any (λ c. nat_lt c w) (without at owners_rest)) (omega arith);
}

pub follows-as : (lines : List (Line TextId)) (rows rows2 rest rest2 owners owners2 owners_rest owners_rest2 : List ℕ) (beyond beyond2 from : ℕ) → rows2 ≡ rows → rest2 ≡ rest → owners2 ≡ owners → owners_rest2 ≡ owners_rest → beyond2 ≡ beyond → Follows lines rows rest owners owners_rest beyond from → Follows lines rows2 rest2 owners2 owners_rest2 beyond2 from
follows-as lines rows rows2 rest rest2 owners owners2 owners_rest owners_rest2 beyond beyond2 from a b c d e h =
    subst (λ z. Follows lines z rest2 owners2 owners_rest2 beyond2 from) (sym a) (subst (λ z. Follows lines rows z owners2 owners_rest2 beyond2 from) (sym b)
    (subst (λ z. Follows lines rows rest z owners_rest2 beyond2 from) (sym c) (subst (λ z. Follows lines rows rest owners z beyond2 from) (sym d) (subst (λ z. Follows lines rows rest owners owners_rest z from) (sym e) h))))
