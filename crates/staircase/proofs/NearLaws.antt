-- The next row on the way to a row of the context, or after one of its children.
use Rattle.std.proofs.Common.{inl, inr, ◌≡◌, ℕ, suc, ◌+◌, ◌-◌, ◌<◌, ◌≤◌, Bool, true, false, ◌&&◌, ◌||◌, cond, List, [], ◌∷◌, length, refl, sym, ap, ◌∙◌, subst, arith, Option, Some}
use Rattle.std.specs.Prelude.{nat_eq, nat_lt}
use Rattle.std.proofs.lemmas.Bool.{eqb-true, lt-ltb, ltb-true, ltb-false, and_parts, and_from, or_left, or_right, or_cases, cases_lt, false≢true, true≢false}
use Rattle.xq_base.specs.declared.item.TextId.{TextId}
use Rattle.xq_base.specs.declared.axis.Axis.{Axis}
use Rattle.xq_base.specs.declared.axis.Axis.TheVariants as a
use Rattle.doc_table.specs.Tree.{Tree}
use Rattle.doc_table.specs.Enc.{enc, line_in}
use Rattle.doc_table.specs.Axes.{on_following_sibling}
use Rattle.doc_table.specs.Places.{row_path, child, RowsTell}
use Rattle.doc_table.specs.Touched.{on_way, on_some_way, picked, touched, touched_rows}
use Rattle.staircase.specs.declared.kinds.Ctx.{Ctx}
use Rattle.staircase.specs.declared.near.Parent.{Parent}
use Rattle.staircase.specs.Ahead.{any, UpFrom, first_of, is_first, without}
use Rattle.staircase.specs.Hits.{Ascending}
use Rattle.staircase.specs.Joins.{AreNodes, own, places, is_near, adds_siblings}
use Rattle.staircase.specs.Near.{is_near_row, marked, comes_before, has_wanted, parents_left, row_left, next_near, IsInside, AreParents, IsNext, is_passed, NearAt, GoesOn, NearAhead}
use Rattle.staircase.specs.Passes.{NextIs}
use Rattle.staircase.proofs.PassStarts.{own-start, tree-nests}
use Rattle.staircase.proofs.ByWay.{child-after, root-holds, way-within, way-holds, way-child, sibling-later, sibling-child, sibling-root}
use Rattle.staircase.proofs.Children.{child-within, not-child, past-child}
use Rattle.staircase.proofs.RowsAhead.{any-none, comes-past}
use Rattle.staircase.proofs.Picks.{picked-like}
use Rattle.staircase.proofs.SomeTests.{not_true}
use Rattle.staircase.proofs.TouchedRows.{own-up, any-context}

and_no : (b : Bool) → (b && false) ≡ false
and_no true = refl
and_no false = refl

or_no : (b : Bool) → (b || false) ≡ b
or_no true = refl
or_no false = refl

or_false : (b c : Bool) → (b || c) ≡ false → (b ≡ false) × (c ≡ false)
or_false true c h = absurd (true≢false h)
or_false false c h = (refl, h)

-- ---- rows that aren't wanted

-- no row is on the way to a row that comes before it
before-way : (t : Tree TextId) (w c : ℕ) → RowsTell t → w < length (enc t) → c < length (enc t) → c < w → on_way t w c ≡ false
before-way t w c b hw hc l = not_true (on_way t w c) (λ h. (let k = way-within t w c b hw hc h in omega (arith, k.0)))

-- a row below d isn't wanted for a row that comes after all rows below d
not-near : (siblings : Bool) (t : Tree TextId) (d w c : ℕ) → RowsTell t → w < length (enc t) → c < length (enc t) → d < w → w ≤ d + (line_in (enc t) d).size → d + (line_in (enc t) d).size < c → is_near_row siblings t w c ≡ false
not-near siblings t d w c b hw hc l m k =
    let way : on_way t w c ≡ false = not_true (on_way t w c) (λ h. (let e = (way-within t w c b hw hc h).1 d l m in omega arith)) in
    let sibling : on_following_sibling (row_path t c) (row_path t w) ≡ false = not_true (on_following_sibling (row_path t c) (row_path t w)) (λ h. (let e = sibling-later t c w b hc hw h in omega arith)) in
    rw (way, sibling) (and_no siblings)

none-near : (siblings : Bool) (t : Tree TextId) (d w end : ℕ) (rest : List ℕ) → RowsTell t → w < length (enc t) → d < w → w ≤ d + (line_in (enc t) d).size → d + (line_in (enc t) d).size < end → UpFrom end (length (enc t)) rest → any (is_near_row siblings t w) rest ≡ false
none-near siblings t d w end rest b hw l m k up = any-none (is_near_row siblings t w) end (length (enc t)) rest up (λ c x y. not-near siblings t d w c b hw y l m (omega arith))

-- a row below a child of the innermost parent is a child of no parent
none-passed : (t : Tree TextId) (v w : ℕ) (ps : List Parent) → RowsTell t → v < length (enc t) → w < length (enc t) → IsInside (enc t) v ps → AreParents (enc t) ps → v < w → w ≤ v + (line_in (enc t) v).size → is_passed (enc t) w ps ≡ false
none-passed t v w [] b hv hw i h l m = refl
none-passed t v w (p ∷ ps) b hv hw i h l m =
    let nests = tree-nests t in
    let k = child-within (enc t) p.pre v i in
    let no : child (enc t) p.pre w ≡ false = not-child (enc t) p.pre w (λ e. (let r = child-within (enc t) p.pre w e in omega (arith, k.2, r.2, nests.kids.deeper v w l m hv))) in
    let pv : p.pre < v = child-after t p.pre v i in
    let outer : is_passed (enc t) w ps ≡ false = none-passed t p.pre w ps b h.0 hw h.2 h.3 (omega arith) (omega (arith, nests.nested p.pre v pv k.1 hv)) in
    rw (no, outer) (ap (λ z. z || false) (and_no p.passed))

-- ---- the innermost parent is left

left-next : (t : Tree TextId) (p : Parent) (ps : List Parent) → RowsTell t → AreParents (enc t) (p ∷ ps) → IsNext (enc t) p.end ps
left-next t p [] b h =
    let last = root-holds t (length (enc t) - 1) b (omega (arith, b.some)) in
    let same : p.pre + (line_in (enc t) p.pre).size ≡ 0 + (line_in (enc t) 0).size = ap (λ z. z + (line_in (enc t) z).size) h.2 in
    inr (omega (arith, h.1))
left-next t p (q ∷ qs) b h =
    let nests = tree-nests t in
    let k = child-within (enc t) q.pre p.pre h.2 in
    let after : q.pre < p.pre = child-after t q.pre p.pre h.2 in
    let within = nests.nested q.pre p.pre after k.1 h.0 in (
      omega (arith, h.1),
      omega (arith, h.1, h.3.1),
      λ l. subst (λ z. child (enc t) q.pre z ≡ true) (sym h.1) (nests.kids.next q.pre p.pre h.3.0 h.0 h.2 (omega (arith, h.1, h.3.1))),
    )

up-beyond : (end n : ℕ) (rest : List ℕ) (at : ℕ) → UpFrom at n rest → comes_before (first_of rest) end ≡ false → UpFrom end n rest
up-beyond end n [] at u e = tt
up-beyond end n (x ∷ xs) at u e = (ltb-false x end e, u.1, u.2)

record Left (siblings : Bool) (t : Tree TextId) (rows rest : List ℕ) (ps : List Parent) (at end : ℕ) : Type 0 where
  here : NearAt siblings t rows rest ps end
  later : at ≤ end
  none : (w : ℕ) → at ≤ w → w < end → any (is_near_row siblings t w) rows ≡ false

near-out : (siblings : Bool) (t : Tree TextId) (rows rest : List ℕ) (p : Parent) (ps : List Parent) (at : ℕ) → RowsTell t → NearAt siblings t rows rest (p ∷ ps) at → has_wanted at (first_of rest) p ≡ false → Left siblings t rows rest ps at p.end
near-out siblings t rows rest p ps at b h e = elim (cases_lt at p.end) [
  | inl l ↦ (let r = or_false p.passed (comes_before (first_of rest) p.end) (sym (ap (λ z. z && (p.passed || comes_before (first_of rest) p.end)) (lt-ltb at p.end l)) ∙ e) in
      from (up-beyond p.end (length (enc t)) rest at h.comes.up r.1) (λ w x y.
      let ends = (tree-nests t).ends p.pre h.parents_ok.0 in
      let hw : w < length (enc t) = omega (arith, h.parents_ok.1) in
      let pw : p.pre < w = omega (arith, h.next.0) in
      let m : w ≤ p.pre + (line_in (enc t) p.pre).size = omega (arith, h.parents_ok.1) in
      h.near w x hw ∙ rw (none-near siblings t p.pre w p.end rest b hw pw m (omega (arith, h.parents_ok.1)) (up-beyond p.end (length (enc t)) rest at h.comes.up r.1), r.0, none-passed t p.pre w ps b h.parents_ok.0 hw h.parents_ok.2 h.parents_ok.3 pw m) refl))
  | inr g ↦ (let q : at ≡ p.end = omega (arith, h.next.1) in from (subst (λ z. UpFrom z (length (enc t)) rest) q h.comes.up) (λ w x y. absurd (omega arith)))
]
  where
    from : UpFrom p.end (length (enc t)) rest → ((w : ℕ) → at ≤ w → w < p.end → any (is_near_row siblings t w) rows ≡ false) → Left siblings t rows rest ps at p.end
    from up none = record {
      here = record {
        comes = record { up = up; same = λ w l. h.comes.same w (omega (arith, h.next.1)) };
        parents_ok = h.parents_ok.3;
        next = left-next t p ps b h.parents_ok;
        near = λ w l m. h.near w (omega (arith, h.next.1)) m ∙ rw (past-child (enc t) p.pre w (omega (arith, h.parents_ok.1))) (ap (λ z. any (is_near_row siblings t w) rest || (z || is_passed (enc t) w ps)) (and_no p.passed));
      };
      later = h.next.1;
      none = none;
    }

-- the inner parents without a wanted row are left
near-left : (siblings : Bool) (t : Tree TextId) (rows rest : List ℕ) (ps : List Parent) (at from : ℕ) → RowsTell t → NearAt siblings t rows rest ps at → from ≤ at → ((w : ℕ) → from ≤ w → w < at → any (is_near_row siblings t w) rows ≡ false)
    → NearAhead siblings t rows rest (parents_left at (first_of rest) ps) (row_left at (first_of rest) ps) from
near-left siblings t rows rest [] at from b h l none = record { here = h; goes = tt; later = l; none = none }
near-left siblings t rows rest (p ∷ ps) at from b h l none = go (has_wanted at (first_of rest) p) refl (λ e.
    let r = near-out siblings t rows rest p ps at b h e in
    near-left siblings t rows rest ps p.end from b r.here (omega (arith, r.later)) (λ w x y. elim (cases_lt w at) [ inl k ↦ none w x k | inr k ↦ r.none w k y ]))
  where
    go : (x : Bool) → has_wanted at (first_of rest) p ≡ x → (has_wanted at (first_of rest) p ≡ false → NearAhead siblings t rows rest (parents_left p.end (first_of rest) ps) (row_left p.end (first_of rest) ps) from) → NearAhead siblings t rows rest (cond x (p ∷ ps) (parents_left p.end (first_of rest) ps)) (cond x at (row_left p.end (first_of rest) ps)) from
    go true e f = record { here = h; goes = e; later = l; none = none }
    go false e f = f e

-- ---- the next row

next-inside : (t : Tree TextId) (at : ℕ) (first : Option ℕ) (ps : List Parent) → at < length (enc t) → IsNext (enc t) at ps → GoesOn at first ps → IsInside (enc t) at ps
next-inside t at first [] l n g = elim n [ inl e ↦ e | inr m ↦ absurd (omega arith) ]
next-inside t at first (p ∷ ps) l n g = n.2 (ltb-true at p.end (and_parts (nat_lt at p.end) (p.passed || comes_before first p.end) g).0)

near-some : (siblings : Bool) (t : Tree TextId) (rows rest : List ℕ) (ps : List Parent) (at from total : ℕ) → length (enc t) ≡ total → NearAhead siblings t rows rest ps at from → at < length (enc t) → (any (is_near_row siblings t at) rest || is_passed (enc t) at ps) ≡ true
    → NextIs (λ v. any (is_near_row siblings t v) rows) (λ z. NearAhead siblings t rows rest ps at z) from total (Some at)
near-some siblings t rows rest ps at from total e h l w = (h.later, omega arith, h.here.near at (omega arith) l ∙ w, record { here = h.here; goes = h.goes; later = omega arith; none = λ w x y. absurd (omega arith) }, h.none)

pub near-next : (siblings : Bool) (t : Tree TextId) (rows rest : List ℕ) (ps : List Parent) (at from total : ℕ) → RowsTell t → length (enc t) ≡ total → NearAhead siblings t rows rest ps at from → (r : Option ℕ) → r ≡ next_near ps at (first_of rest)
    → NextIs (λ v. any (is_near_row siblings t v) rows) (λ z. NearAhead siblings t rows rest ps at z) from total r
near-next siblings t rows [] [] at from total b e h r f = subst (λ z. NextIs (λ v. any (is_near_row siblings t v) rows) (λ z. NearAhead siblings t rows [] [] at z) from total z) (sym f)
    (λ w x y. elim (cases_lt w at) [ inl k ↦ h.none w x k | inr k ↦ h.here.near w k (omega arith) ])
near-next siblings t rows (x ∷ xs) [] at from total b e h r f =
    let up = h.here.comes.up in
    let l : at < length (enc t) = omega (arith, up.0, up.1) in
    let zero : at ≡ 0 = next-inside t at (Some x) [] l h.here.next tt in
    let way : on_way t at x ≡ true = way-holds t at x b l up.1 up.0 (subst (λ z. x ≤ z + (line_in (enc t) z).size) (sym zero) (root-holds t x b up.1)) in
    subst (λ z. NextIs (λ v. any (is_near_row siblings t v) rows) (λ z. NearAhead siblings t rows (x ∷ xs) [] at z) from total z) (sym f)
    (near-some siblings t rows (x ∷ xs) [] at from total e h l (rw way refl))
near-next siblings t rows rest (p ∷ ps) at from total b e h r f =
    let parts = and_parts (nat_lt at p.end) (p.passed || comes_before (first_of rest) p.end) h.goes in
    let less : at < p.end = ltb-true at p.end parts.0 in
    let ok = h.here.parents_ok in
    let l : at < length (enc t) = omega (arith, ok.1, (tree-nests t).ends p.pre ok.0) in
    let kid : child (enc t) p.pre at ≡ true = h.here.next.2 less in
    subst (λ z. NextIs (λ v. any (is_near_row siblings t v) rows) (λ z. NearAhead siblings t rows rest (p ∷ ps) at z) from total z) (sym f) (near-some siblings t rows rest (p ∷ ps) at from total e h l (elim (or_cases p.passed (comes_before (first_of rest) p.end) parts.1) [
      | inl x ↦ or_right (any (is_near_row siblings t at) rest) _ (or_left (p.passed && child (enc t) p.pre at) (is_passed (enc t) at ps) (and_from p.passed (child (enc t) p.pre at) x kid))
      | inr x ↦ or_left (any (is_near_row siblings t at) rest) _ (wanted rest x h.here.comes.up kid l)
    ]))
  where
    wanted : (rest : List ℕ) → comes_before (first_of rest) p.end ≡ true → UpFrom at (length (enc t)) rest → child (enc t) p.pre at ≡ true → at < length (enc t) → any (is_near_row siblings t at) rest ≡ true
    wanted [] c up kid l = absurd (false≢true c)
    wanted (x ∷ xs) c up kid l =
        let ok = h.here.parents_ok in
        let way : on_way t at x ≡ true = way-child t p.pre at x b ok.0 l up.1 kid up.0 (omega (arith, ok.1, ltb-true x p.end c)) in
        rw way refl

-- the next row is the first one that is wanted
near-here : (siblings : Bool) (t : Tree TextId) (rows rest : List ℕ) (ps : List Parent) (at from : ℕ) → NearAhead siblings t rows rest ps at from → any (is_near_row siblings t from) rows ≡ true → at ≡ from
near-here siblings t rows rest ps at from h w = elim (cases_lt from at) [
  | inl l ↦ absurd (true≢false (sym w ∙ h.none from (omega arith) l))
  | inr g ↦ omega (arith, h.later)
]

-- ---- past a row

marked-inside : (t : Tree TextId) (m : Bool) (v : ℕ) (ps : List Parent) → IsInside (enc t) v ps → IsInside (enc t) v (marked m ps)
marked-inside t false v ps i = i
marked-inside t true v [] i = i
marked-inside t true v (p ∷ ps) i = i

marked-parents : (t : Tree TextId) (m : Bool) (ps : List Parent) → AreParents (enc t) ps → AreParents (enc t) (marked m ps)
marked-parents t false ps h = h
marked-parents t true [] h = h
marked-parents t true (p ∷ ps) h = h

-- what a row of the context wants among those after it, its parent tells once it's marked
marked-passed : (siblings : Bool) (t : Tree TextId) (at w : ℕ) (ps : List Parent) → RowsTell t → at < length (enc t) → w < length (enc t) → at < w → IsInside (enc t) at ps → AreParents (enc t) ps → (is_near_row siblings t w at || is_passed (enc t) w ps) ≡ is_passed (enc t) w (marked siblings ps)
marked-passed false t at w ps b hat hw l i h = rw (before-way t w at b hw hat l) refl
marked-passed true t at w [] b hat hw l i h =
    let none : on_following_sibling (row_path t at) (row_path t w) ≡ false = subst (λ z. on_following_sibling (row_path t z) (row_path t w) ≡ false) (sym i) (sibling-root t w) in
    rw (before-way t w at b hw hat l, none) refl
marked-passed true t at w (p ∷ ps) b hat hw l i h =
    let way : on_way t w at ≡ false = before-way t w at b hw hat l in
    ap (λ z. (z || on_following_sibling (row_path t at) (row_path t w)) || is_passed (enc t) w (p ∷ ps)) way
    ∙ ap (λ z. z || is_passed (enc t) w (p ∷ ps)) (sibling-child t p.pre at w b h.0 hat hw i l)
    ∙ absorbed (child (enc t) p.pre w) p.passed (is_passed (enc t) w ps)
  where
    absorbed : (x y z : Bool) → (x || ((y && x) || z)) ≡ (x || z)
    absorbed true y z = refl
    absorbed false true z = refl
    absorbed false false z = refl

moved : (x y z u : Bool) → (x || z) ≡ u → ((x || y) || z) ≡ (y || u)
moved x true z u e = swap x
  where
    swap : (x : Bool) → ((x || true) || z) ≡ true
    swap true = refl
    swap false = refl
moved x false z u e = ap (λ w. w || z) (or_no x) ∙ e

near-enter : (siblings : Bool) (t : Tree TextId) (rows rest : List ℕ) (ps : List Parent) (at last : ℕ) → RowsTell t → NearAt siblings t rows rest ps at → GoesOn at (first_of rest) ps → at < length (enc t) → last ≡ at + (line_in (enc t) at).size
    → NearAt siblings t rows (without at rest) (record { pre = at; end = last + 1; passed = false } ∷ marked (is_first at rest && siblings) ps) (at + 1)
near-enter siblings t rows rest ps at last b h g l e =
    let i : IsInside (enc t) at ps = next-inside t at (first_of rest) ps l h.next g in
    record {
      comes = comes-past rows rest at (length (enc t)) h.comes;
      parents_ok = (l, omega arith, marked-inside t (is_first at rest && siblings) at ps i, marked-parents t (is_first at rest && siblings) ps h.parents_ok);
      next = (omega arith, omega arith, λ m. (let s : suc at ≡ at + 1 = omega arith in subst (λ z. child (enc t) at z ≡ true) s ((tree-nests t).kids.first at l (omega arith))));
      near = λ w m k. h.near w (omega arith) k ∙ same rest w m k i;
    }
  where
    same : (rest : List ℕ) (w : ℕ) → at + 1 ≤ w → w < length (enc t) → IsInside (enc t) at ps → (any (is_near_row siblings t w) rest || is_passed (enc t) w ps) ≡ (any (is_near_row siblings t w) (without at rest) || is_passed (enc t) w (marked (is_first at rest && siblings) ps))
    same [] w m k i = refl
    same (x ∷ xs) w m k i = go (nat_eq x at) refl
      where
        go : (c : Bool) → nat_eq x at ≡ c → ((is_near_row siblings t w x || any (is_near_row siblings t w) xs) || is_passed (enc t) w ps) ≡ (any (is_near_row siblings t w) (cond c xs (x ∷ xs)) || is_passed (enc t) w (marked (c && siblings) ps))
        go true q =
            ap (λ z. (is_near_row siblings t w z || any (is_near_row siblings t w) xs) || is_passed (enc t) w ps) (eqb-true x at q)
            ∙ moved (is_near_row siblings t w at) (any (is_near_row siblings t w) xs) (is_passed (enc t) w ps) (is_passed (enc t) w (marked siblings ps)) (marked-passed siblings t at w ps b l k (omega arith) i h.parents_ok)
        go false q = refl

near-as : (siblings : Bool) (t : Tree TextId) (rows rows2 rest rest2 : List ℕ) (ps ps2 : List Parent) (at at2 from : ℕ) → rows2 ≡ rows → rest2 ≡ rest → ps2 ≡ ps → at2 ≡ at → NearAhead siblings t rows rest ps at from → NearAhead siblings t rows2 rest2 ps2 at2 from
near-as siblings t rows rows2 rest rest2 ps ps2 at at2 from e f g k h = subst (λ z. NearAhead siblings t z rest2 ps2 at2 from) (sym e) (subst (λ z. NearAhead siblings t rows z ps2 at2 from) (sym f) (subst (λ z. NearAhead siblings t rows rest z at2 from) (sym g) (subst (λ z. NearAhead siblings t rows rest ps z from) (sym k) h)))

-- what is known once a row was entered
pub near-entered : (siblings : Bool) (t : Tree TextId) (rows rest rows2 rest2 : List ℕ) (ps ps1 ps2 ps3 : List Parent) (at at2 from last : ℕ) (is_context : Bool) (first : Option ℕ) → RowsTell t → from < length (enc t) → any (is_near_row siblings t from) rows ≡ true → last ≡ from + (line_in (enc t) from).size → NearAhead siblings t rows rest ps at from
    → rows2 ≡ rows → is_context ≡ is_first from rest → rest2 ≡ without from rest
    → ps1 ≡ marked (is_context && siblings) ps → ps2 ≡ record { pre = from; end = last + 1; passed = false } ∷ ps1
    → first ≡ first_of rest2 → ps3 ≡ parents_left (from + 1) first ps2 → at2 ≡ row_left (from + 1) first ps2
    → NearAhead siblings t rows2 rest2 ps3 at2 (from + 1)
near-entered siblings t rows rest rows2 rest2 ps ps1 ps2 ps3 at at2 from last is_context first b l w e h rows_are found rest_is marks pushes first_is left row =
    let k = near-as siblings t rows rows rest rest ps ps at from from refl refl refl (sym (near-here siblings t rows rest ps at from h w)) h in
    let ahead : List ℕ = without from rest in
    let new : List Parent = record { pre = from; end = last + 1; passed = false } ∷ marked (is_first from rest && siblings) ps in
    let new_is : ps2 ≡ new = pushes ∙ ap (λ z. record { pre = from; end = last + 1; passed = false } ∷ z) (marks ∙ ap (λ z. marked (z && siblings) ps) found) in
    let first_too : first ≡ first_of ahead = first_is ∙ ap first_of rest_is in
    near-as siblings t rows rows2 ahead rest2 (parents_left (from + 1) (first_of ahead) new) ps3 (row_left (from + 1) (first_of ahead) new) at2 (from + 1) rows_are rest_is
    (left ∙ ap (λ z. parents_left (from + 1) first z) new_is ∙ ap (λ z. parents_left (from + 1) z new) first_too)
    (row ∙ ap (λ z. row_left (from + 1) first z) new_is ∙ ap (λ z. row_left (from + 1) z new) first_too)
    (near-left siblings t rows ahead new (from + 1) (from + 1) b (near-enter siblings t rows rest ps from last b k.here k.goes l e) (omega arith) (λ w x y. absurd (omega arith)))

-- ---- how the pass begins, and that it reads what the step touches

pub near-start : (siblings : Bool) (axis : Axis) (t : Tree TextId) (cs : List Ctx) (rows : List ℕ) (ps : List Parent) → RowsTell t → Ascending cs → AreNodes t cs → rows ≡ own axis cs → ps ≡ [] → NearAhead siblings t rows rows ps 0 0
near-start siblings axis t cs rows ps b up nodes e f = subst (λ z. NearAhead siblings t rows rows z 0 0) (sym f) (record {
  here = record { comes = own-start axis t cs rows b up nodes e; parents_ok = tt; next = inl refl; near = λ w l m. sym (or_no (any (is_near_row siblings t w) rows)) };
  goes = tt;
  later = omega arith;
  none = λ w l m. absurd (omega arith);
})

any-or : (p q : ℕ → Bool) (xs : List ℕ) → any (λ x. p x || q x) xs ≡ (any p xs || any q xs)
any-or p q [] = refl
any-or p q (x ∷ xs) = ap (λ z. (p x || q x) || z) (any-or p q xs) ∙ regrouped (p x) (q x) (any p xs) (any q xs)
  where
    regrouped : (x y z u : Bool) → ((x || y) || (z || u)) ≡ ((x || z) || (y || u))
    regrouped true y z u = refl
    regrouped false true true u = refl
    regrouped false true false u = refl
    regrouped false false z u = refl

way-touches : (axis : Axis) (t : Tree TextId) (cs : List Ctx) (v : ℕ) → UpFrom 0 (length (enc t)) (own axis cs) → any (is_near_row false t v) (own axis cs) ≡ on_some_way axis t (places cs) v
way-touches axis t cs v u = any-context axis t cs (is_near_row false t v) (on_way t v) u (λ c k. or_no (on_way t v c))

near-touches : (axis : Axis) (t : Tree TextId) (cs : List Ctx) (v : ℕ) → UpFrom 0 (length (enc t)) (own axis cs) → is_near axis ≡ true → any (is_near_row (adds_siblings axis) t v) (own axis cs) ≡ touched axis t (places cs) v
near-touches a.Parent t cs v u s = way-touches a.Parent t cs v u
near-touches a.Ancestor t cs v u s = way-touches a.Ancestor t cs v u
near-touches a.AncestorOrSelf t cs v u s = way-touches a.AncestorOrSelf t cs v u
near-touches a.PrecedingSibling t cs v u s = way-touches a.PrecedingSibling t cs v u
near-touches a.FollowingSibling t cs v u s =
    any-or (on_way t v) (λ c. on_following_sibling (row_path t c) (row_path t v)) (own a.FollowingSibling cs)
    ∙ rw (any-context a.FollowingSibling t cs (on_way t v) (on_way t v) u (λ c k. refl), any-context a.FollowingSibling t cs (λ c. on_following_sibling (row_path t c) (row_path t v)) (λ c. on_following_sibling (row_path t c) (row_path t v)) u (λ c k. refl)) refl
near-touches a.SelfNode t cs v u s = absurd (false≢true s)
near-touches a.Attribute t cs v u s = absurd (false≢true s)
near-touches a.Child t cs v u s = absurd (false≢true s)
near-touches a.Descendant t cs v u s = absurd (false≢true s)
near-touches a.DescendantOrSelf t cs v u s = absurd (false≢true s)
near-touches a.Following t cs v u s = absurd (false≢true s)
near-touches a.Preceding t cs v u s = absurd (false≢true s)

pub near-rows : (axis : Axis) (siblings : Bool) (t : Tree TextId) (cs : List Ctx) (rows : List ℕ) → RowsTell t → Ascending cs → AreNodes t cs → is_near axis ≡ true → siblings ≡ adds_siblings axis → rows ≡ own axis cs → picked (λ v. any (is_near_row siblings t v) rows) (length (enc t)) ≡ touched_rows axis t (places cs)
near-rows axis siblings t cs rows b up nodes s f e = picked-like (λ v. any (is_near_row siblings t v) rows) (touched axis t (places cs)) (length (enc t))
    (λ v l. ap (any (is_near_row siblings t v)) e ∙ ap (λ z. any (is_near_row z t v) (own axis cs)) f ∙ near-touches axis t cs v (own-up axis t cs b up nodes) s)
