-- The rows on the way to a row, and the siblings after it, by numbers of rows.
use Rattle.std.proofs.Common.{inl, inr, ◌⊎◌, ◌≡◌, ℕ, ◌+◌, ◌<◌, ◌≤◌, true, false, ◌&&◌, ◌||◌, List, [], ◌∷◌, ◌++◌, length, refl, sym, ap, ◌∙◌, arith, append-nil, length-append}
use Rattle.std.specs.Prelude.{nat_eq, nat_lt, nat_le}
use Rattle.std.proofs.lemmas.Bool.{eq-eqb, eqb-true, lt-ltb, ltb-true, and_parts, and_from, or_left, or_right, or_cases, cases_order, false≢true, true≢false}
use Rattle.std.proofs.lemmas.Bool.Decides.{nat_tests}
use Rattle.xq_base.specs.declared.item.TextId.{TextId}
use Rattle.xq_base.specs.declared.axis.Axis.TheVariants as a
use Rattle.doc_table.specs.Tree.{Tree, Branch}
use Rattle.doc_table.specs.Paths.{is_prefix, is_less, have_one_parent}
use Rattle.doc_table.specs.Enc.{enc, line_in}
use Rattle.doc_table.specs.Axes.{on_axis, on_ancestor, on_self, on_following_sibling, on_preceding_sibling}
use Rattle.doc_table.specs.Places.{path_at, row_path, within, child, RowsTell}
use Rattle.doc_table.specs.Touched.{by_way, on_way}
use Rattle.doc_table.proofs.ByRows.{nested, same, by-self, by-ancestor}
use Rattle.doc_table.proofs.Kids.{within-parts, within-from}
use Rattle.doc_table.proofs.Marks.{is_prefix-self, is_less-self}
use Rattle.doc_table.proofs.Ways.{row-of, rest-of, prefix-append, prefix-append_more, less-last, one-parent, snoc-or-nil, begins-sibling}
use Rattle.staircase.proofs.Children.{child-within}
use Rattle.staircase.proofs.SomeTests.{both_ways, below-some, some-below}

-- ---- paths of a row and of its child

lone : (r : List ℕ) → length r ≡ 1 → (i : ℕ) × (r ≡ i ∷ [])
lone [] e = absurd (omega arith)
lone (i ∷ []) e = (i, refl)
lone (i ∷ j ∷ r) e = absurd (omega arith)

pub path-child : (t : Tree TextId) (d v : ℕ) → RowsTell t → d < length (enc t) → v < length (enc t) → child (enc t) d v ≡ true → (i : ℕ) × (path_at t v ≡ path_at t d ++ i ∷ [])
path-child t d v b hd hv h =
    let w = child-within (enc t) d v h in
    let r = rest-of (path_at t d) (path_at t v) (b.prefix d v hd hv ∙ within-from t d v w.0 w.1) in
    let one = lone r.0 (omega (arith, b.level d hd, b.level v hv, w.2, ap length r.1, length-append (path_at t d) r.0)) in
    (one.0, r.1 ∙ ap (λ z. path_at t d ++ z) one.1)

pub child-path : (t : Tree TextId) (d v i : ℕ) → RowsTell t → d < length (enc t) → v < length (enc t) → path_at t v ≡ path_at t d ++ i ∷ [] → child (enc t) d v ≡ true
child-path t d v i b hd hv e =
    let pre : is_prefix (path_at t d) (path_at t v) ≡ true = ap (is_prefix (path_at t d)) e ∙ prefix-append (path_at t d) (i ∷ []) in
    and_from (within (enc t) d v) (nat_eq (line_in (enc t) v).level ((line_in (enc t) d).level + 1)) (sym (b.prefix d v hd hv) ∙ pre)
    (eq-eqb (line_in (enc t) v).level ((line_in (enc t) d).level + 1) (omega (arith, b.level d hd, b.level v hv, ap length e, length-append (path_at t d) (i ∷ []))))

-- a child comes after its parent
pub child-after : (t : Tree TextId) (d v : ℕ) → child (enc t) d v ≡ true → d < v
child-after t d v h = let w = child-within (enc t) d v h in elim (cases_order d v) [
  | inl e ↦ absurd (omega (arith, w.2, ap (λ z. (line_in (enc t) z).level) e))
  | inr o ↦ elim o [ inl l ↦ l | inr g ↦ absurd (omega (arith, w.0)) ]
]

root-path : (t : Tree TextId) → path_at t 0 ≡ []
root-path (Branch l f) = refl

-- the root holds all rows
pub root-holds : (t : Tree TextId) (v : ℕ) → RowsTell t → v < length (enc t) → v ≤ 0 + (line_in (enc t) 0).size
root-holds t v b h = (within-parts t 0 v (sym (b.prefix 0 v b.some h) ∙ ap (λ z. is_prefix z (path_at t v)) (root-path t))).1

-- ---- ways

holds-is : (u s p : ℕ) → ((nat_lt u p && nat_le p (u + s)) || nat_eq p u) ≡ (nat_le u p && nat_le p (u + s))
holds-is u s p = grind (arith, nat_tests)

pub by-ancestor_or_self : (t : Tree TextId) (p u : ℕ) → RowsTell t → p < length (enc t) → u < length (enc t) → (on_ancestor (row_path t p) (row_path t u) || on_self (row_path t p) (row_path t u)) ≡ within (enc t) u p
by-ancestor_or_self t p u b hp hu = rw (by-ancestor t p u b hp hu, by-self t p u b hp hu) (holds-is u (line_in (enc t) u).size p)

-- what is on the way to a row comes no later, and what holds it holds the row
pub way-within : (t : Tree TextId) (v p : ℕ) → RowsTell t → v < length (enc t) → p < length (enc t) → on_way t v p ≡ true → (v ≤ p) × ((x : ℕ) → x < v → v ≤ x + (line_in (enc t) x).size → p ≤ x + (line_in (enc t) x).size)
way-within t v p b hv hp e =
    let r = some-below (by_way t v p) (length (enc t)) e in
    let u : ℕ = r.0 in
    let q = and_parts (on_axis a.AncestorOrSelf (row_path t p) (row_path t u)) (nat_eq u v || on_preceding_sibling (row_path t u) (row_path t v)) r.2 in
    let w = within-parts t u p (sym (by-ancestor_or_self t p u b hp r.1) ∙ q.0) in
    elim (or_cases (nat_eq u v) (on_preceding_sibling (row_path t u) (row_path t v)) q.1) [
      | inl s ↦
          (let f : u ≡ v = eqb-true u v s in
          let end : u + (line_in (enc t) u).size ≡ v + (line_in (enc t) v).size = ap (λ z. z + (line_in (enc t) z).size) f in
          (omega (arith, w.0), λ x l m. omega (arith, w.1, nested t x v b l m hv)))
      | inr s ↦
          (let k = and_parts (have_one_parent (path_at t u) (path_at t v)) (is_less (path_at t v) (path_at t u)) s in
          let vu : v < u = ltb-true v u (sym (b.less v u hv r.1) ∙ k.1) in
          (omega (arith, w.0), λ x l m. through x u r.1 l m vu k.0 w.1))
    ]
  where
    through : (x u : ℕ) → u < length (enc t) → x < v → v ≤ x + (line_in (enc t) x).size → v < u → have_one_parent (path_at t u) (path_at t v) ≡ true → p ≤ u + (line_in (enc t) u).size → p ≤ x + (line_in (enc t) x).size
    through x u hu l m vu one k =
        let hx : x < length (enc t) = omega arith in
        let pre : is_prefix (path_at t x) (path_at t v) ≡ true = b.prefix x v hx hv ∙ within-from t x v (omega arith) m in
        let less : is_less (path_at t x) (path_at t v) ≡ true = b.less x v hx hv ∙ lt-ltb x v l in
        let n = within-parts t x u (sym (b.prefix x u hx hu) ∙ begins-sibling (path_at t x) (path_at t u) (path_at t v) one pre less) in
        omega (arith, nested t x u b (omega arith) n.1 hu)

way-from : (t : Tree TextId) (v p u : ℕ) → RowsTell t → u < length (enc t) → p < length (enc t) → within (enc t) u p ≡ true → (nat_eq u v || on_preceding_sibling (row_path t u) (row_path t v)) ≡ true → on_way t v p ≡ true
way-from t v p u b hu hp w e = below-some (by_way t v p) (length (enc t)) u hu (and_from (on_axis a.AncestorOrSelf (row_path t p) (row_path t u)) (nat_eq u v || on_preceding_sibling (row_path t u) (row_path t v)) (by-ancestor_or_self t p u b hp hu ∙ w) e)

-- a row that holds another one is on the way to it
pub way-holds : (t : Tree TextId) (v p : ℕ) → RowsTell t → v < length (enc t) → p < length (enc t) → v ≤ p → p ≤ v + (line_in (enc t) v).size → on_way t v p ≡ true
way-holds t v p b hv hp l m = way-from t v p v b hv hp (within-from t v p l m) (or_left (nat_eq v v) (on_preceding_sibling (row_path t v) (row_path t v)) (eq-eqb v v refl))

-- a sibling before a row is on the way to it
pub way-before : (t : Tree TextId) (v p : ℕ) → RowsTell t → p < length (enc t) → on_preceding_sibling (row_path t p) (row_path t v) ≡ true → on_way t v p ≡ true
way-before t v p b hp e = way-from t v p p b hp hp (within-from t p p (omega arith) (omega arith)) (or_right (nat_eq p v) (on_preceding_sibling (row_path t p) (row_path t v)) e)

-- a child of a row is on the way to every row from it on that the row holds
pub way-child : (t : Tree TextId) (d v p : ℕ) → RowsTell t → d < length (enc t) → v < length (enc t) → p < length (enc t) → child (enc t) d v ≡ true → v ≤ p → p ≤ d + (line_in (enc t) d).size → on_way t v p ≡ true
way-child t d v p b hd hv hp h l m =
    let dv : d < v = child-after t d v h in
    let c = path-child t d v b hd hv h in
    let r = rest-of (path_at t d) (path_at t p) (b.prefix d p hd hp ∙ within-from t d p (omega arith) m) in
    go c.0 c.1 r.0 r.1 (omega arith)
  where
    row-is : (u : ℕ) → u < length (enc t) → path_at t u ≡ path_at t v → nat_eq u v ≡ true
    row-is u hu e = sym (same t u v b hu hv) ∙ rw e (and_from (is_prefix (path_at t v) (path_at t v)) (is_prefix (path_at t v) (path_at t v)) (is_prefix-self (path_at t v)) (is_prefix-self (path_at t v)))

    go : (i : ℕ) → path_at t v ≡ path_at t d ++ i ∷ [] → (r : List ℕ) → path_at t p ≡ path_at t d ++ r → d < p → on_way t v p ≡ true
    go i e [] f dp =
        let less : is_less (path_at t d) (path_at t p) ≡ true = b.less d p hd hp ∙ lt-ltb d p dp in
        absurd (true≢false (sym less ∙ ap (is_less (path_at t d)) (f ∙ append-nil (path_at t d)) ∙ is_less-self (path_at t d)))
    go i e (j ∷ s) f dp =
        let u = row-of t p (path_at t d ++ j ∷ []) b hp (ap (is_prefix (path_at t d ++ j ∷ [])) f ∙ prefix-append_more (path_at t d) j s) in
        let holds : within (enc t) u.0 p ≡ true = sym (b.prefix u.0 p u.1 hp) ∙ ap (λ z. is_prefix z (path_at t p)) u.2 ∙ ap (is_prefix (path_at t d ++ j ∷ [])) f ∙ prefix-append_more (path_at t d) j s in
        way-from t v p u.0 b u.1 hp holds (elim (cases_order i j) [
          | inl q ↦ or_left (nat_eq u.0 v) (on_preceding_sibling (row_path t u.0) (row_path t v)) (row-is u.0 u.1 (u.2 ∙ ap (λ z. path_at t d ++ z ∷ []) (sym q) ∙ sym e))
          | inr o ↦ elim o [
            | inl less ↦ or_right (nat_eq u.0 v) (on_preceding_sibling (row_path t u.0) (row_path t v))
                (and_from (have_one_parent (path_at t u.0) (path_at t v)) (is_less (path_at t v) (path_at t u.0)) (rw (u.2, e) (one-parent (path_at t d) j i)) (rw (u.2, e) (less-last (path_at t d) i j [] [] less)))
            | inr more ↦
                (let before : p < v = ltb-true p v (sym (b.less p v hp hv) ∙ rw (f, e) (less-last (path_at t d) j i s [] more)) in
                absurd (omega arith))
          ]
        ])

-- a row is the root or a child of some row
pub parent-of : (t : Tree TextId) (v : ℕ) → RowsTell t → v < length (enc t) → (path_at t v ≡ []) ⊎ ((d : ℕ) × (d < length (enc t)) × (child (enc t) d v ≡ true))
parent-of t v b hv = elim (snoc-or-nil (path_at t v)) [
  | inl e ↦ inl e
  | inr s ↦
      (let d = row-of t v s.0 b hv (ap (is_prefix s.0) s.2 ∙ prefix-append s.0 (s.1 ∷ [])) in
      inr (d.0, d.1, child-path t d.0 v s.1 b d.1 hv (s.2 ∙ ap (λ z. z ++ s.1 ∷ []) (sym d.2))))
]

-- what comes no later than a row is on the way to it where all that holds it holds the row
pub way-where : (t : Tree TextId) (v p : ℕ) → RowsTell t → v < length (enc t) → p < length (enc t) → v ≤ p → ((x : ℕ) → x < v → v ≤ x + (line_in (enc t) x).size → p ≤ x + (line_in (enc t) x).size) → on_way t v p ≡ true
way-where t v p b hv hp l f = elim (parent-of t v b hv) [
  | inl e ↦ way-holds t v p b hv hp l (within-parts t v p (sym (b.prefix v p hv hp) ∙ ap (λ z. is_prefix z (path_at t p)) e)).1
  | inr d ↦ way-child t d.0 v p b d.1 hv hp d.2 l (f d.0 (child-after t d.0 v d.2) (child-within (enc t) d.0 v d.2).1)
]

-- ---- siblings after a row

pub sibling-later : (t : Tree TextId) (c w : ℕ) → RowsTell t → c < length (enc t) → w < length (enc t) → on_following_sibling (row_path t c) (row_path t w) ≡ true → c < w
sibling-later t c w b hc hw e = ltb-true c w (sym (b.less c w hc hw) ∙ (and_parts (have_one_parent (path_at t c) (path_at t w)) (is_less (path_at t c) (path_at t w)) e).1)

have-parent : (q : List ℕ) (i : ℕ) (p : List ℕ) → have_one_parent (q ++ i ∷ []) p ≡ true → (j : ℕ) × (p ≡ q ++ j ∷ [])
have-parent [] i [] h = absurd (false≢true h)
have-parent [] i (j ∷ []) h = (j, refl)
have-parent [] i (j ∷ k ∷ p) h = absurd (false≢true h)
have-parent (x ∷ []) i [] h = absurd (false≢true h)
have-parent (x ∷ []) i (j ∷ []) h = absurd (false≢true h)
have-parent (x ∷ []) i (j ∷ k ∷ p) h =
    let s = and_parts (nat_eq x j) (have_one_parent (i ∷ []) (k ∷ p)) h in
    let r = have-parent [] i (k ∷ p) s.1 in
    (r.0, ap (λ z. z ∷ k ∷ p) (sym (eqb-true x j s.0)) ∙ ap (λ z. x ∷ z) r.1)
have-parent (x ∷ y ∷ q) i [] h = absurd (false≢true h)
have-parent (x ∷ y ∷ q) i (j ∷ []) h = absurd (false≢true h)
have-parent (x ∷ y ∷ q) i (j ∷ k ∷ p) h =
    let s = and_parts (nat_eq x j) (have_one_parent (y ∷ (q ++ i ∷ [])) (k ∷ p)) h in
    let r = have-parent (y ∷ q) i (k ∷ p) s.1 in
    (r.0, ap (λ z. z ∷ k ∷ p) (sym (eqb-true x j s.0)) ∙ ap (λ z. x ∷ z) r.1)

-- the siblings after a child are the later children of its parent
pub sibling-child : (t : Tree TextId) (d c w : ℕ) → RowsTell t → d < length (enc t) → c < length (enc t) → w < length (enc t) → child (enc t) d c ≡ true → c < w → on_following_sibling (row_path t c) (row_path t w) ≡ child (enc t) d w
sibling-child t d c w b hd hc hw h l =
    let p = path-child t d c b hd hc h in
    both_ways (on_following_sibling (row_path t c) (row_path t w)) (child (enc t) d w)
    (λ e. let s = and_parts (have_one_parent (path_at t c) (path_at t w)) (is_less (path_at t c) (path_at t w)) e in
    let r = have-parent (path_at t d) p.0 (path_at t w) (ap (λ z. have_one_parent z (path_at t w)) (sym p.1) ∙ s.0) in
    child-path t d w r.0 b hd hw r.1)
    (λ e. let q = path-child t d w b hd hw e in
    and_from (have_one_parent (path_at t c) (path_at t w)) (is_less (path_at t c) (path_at t w)) (rw (p.1, q.1) (one-parent (path_at t d) p.0 q.0)) (b.less c w hc hw ∙ lt-ltb c w l))

-- the root has none
pub sibling-root : (t : Tree TextId) (w : ℕ) → on_following_sibling (row_path t 0) (row_path t w) ≡ false
sibling-root t w = ap (λ z. have_one_parent z (path_at t w) && is_less z (path_at t w)) (root-path t)
