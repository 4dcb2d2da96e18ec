-- Parents and siblings, by rows and by paths.
use Rattle.std.proofs.Common.{inl, inr, ◌≡◌, ℕ, zero, suc, ◌+◌, ◌<◌, ◌≤◌, true, List, [], ◌∷◌, ◌++◌, length, refl, sym, ap, ◌∙◌, subst, arith}
use Rattle.std.specs.Prelude.{nat_eq, nat_le}
use Rattle.std.proofs.lemmas.Bool.{eq-eqb, eqb-true, le-leb, lt-ltb, ltb-true, cases_order, cases_lt, and_parts, and_from, false≢true}
use Rattle.xq_base.specs.declared.item.TextId.{TextId}
use Rattle.doc_table.specs.Tree.{Tree}
use Rattle.doc_table.specs.Enc.{enc, line_in}
use Rattle.doc_table.specs.Paths.{is_prefix, is_less, have_one_parent}
use Rattle.doc_table.specs.Axes.{on_preceding_sibling, on_following_sibling}
use Rattle.doc_table.specs.Places.{path_at, row_path, within, child}
use Rattle.doc_table.proofs.Marks.{bridge}
use Rattle.doc_table.proofs.ByRows.{nested}
use Rattle.doc_table.proofs.Kids.{level-deeper, children_stand}
use Rattle.doc_table.proofs.Ways.{row-of, snoc-or-nil, prefix-append, one-parent}
use Rattle.staircase.proofs.ByWay.{child-after, child-path, path-child}
use Rattle.staircase.proofs.Children.{child-within}

-- row v is a child of row p
pub record IsChild (t : Tree TextId) (p v : ℕ) : Type 0 where
  pub parent : p < length (enc t)
  pub row : v < length (enc t)
  pub after : p < v
  pub inside : v ≤ p + (line_in (enc t) p).size
  pub level : (line_in (enc t) v).level ≡ (line_in (enc t) p).level + 1

pub child-from : (t : Tree TextId) (p v : ℕ) → p < length (enc t) → v < length (enc t) → child (enc t) p v ≡ true → IsChild t p v
child-from t p v lp lv e = (let w = child-within (enc t) p v e in record { parent = lp; row = lv; after = child-after t p v e; inside = w.1; level = w.2 })

pub child-to : (t : Tree TextId) (p v : ℕ) → IsChild t p v → child (enc t) p v ≡ true
child-to t p v c = and_from (within (enc t) p v) (nat_eq (line_in (enc t) v).level ((line_in (enc t) p).level + 1)) (and_from (nat_le p v) (nat_le v (p + (line_in (enc t) p).size)) (le-leb p v (omega (arith, c.after))) (le-leb v (p + (line_in (enc t) p).size) c.inside)) (eq-eqb (line_in (enc t) v).level ((line_in (enc t) p).level + 1) c.level)

pub one-row : (t : Tree TextId) (p q v : ℕ) → IsChild t p v → IsChild t q v → p ≡ q
one-row t p q v a b = (children_stand t).one p q v a.parent b.parent a.row (child-to t p v a) (child-to t q v b)

-- ---- by paths

-- a path with one step more
pub step-child : (t : Tree TextId) (p v i : ℕ) → p < length (enc t) → v < length (enc t) → path_at t v ≡ path_at t p ++ i ∷ [] → IsChild t p v
step-child t p v i lp lv e = child-from t p v lp lv (child-path t p v i (bridge t) lp lv e)

pub child-step : (t : Tree TextId) (p v : ℕ) → IsChild t p v → (i : ℕ) × (path_at t v ≡ path_at t p ++ i ∷ [])
child-step t p v c = path-child t p v (bridge t) c.parent c.row (child-to t p v c)

-- a row that isn't the first one has a parent
pub parent-of : (t : Tree TextId) (v l : ℕ) → v < length (enc t) → (line_in (enc t) v).level ≡ suc l → (p : ℕ) × IsChild t p v
parent-of t v l h e = elim (snoc-or-nil (path_at t v)) [
  | inl n ↦ absurd (omega (arith, e, (bridge t).level v h, ap length n))
  | inr r ↦ (let u = row-of t v r.0 (bridge t) h (ap (is_prefix r.0) r.2 ∙ prefix-append r.0 (r.1 ∷ [])) in
      (u.0, step-child t u.0 v r.1 u.1 h (r.2 ∙ ap (λ z. z ++ r.1 ∷ []) (sym u.2))))
]

-- ---- siblings

-- two children of one row
abbrev pub Twins : Tree TextId → ℕ → ℕ → Type 0
Twins t v w = (p : ℕ) × IsChild t p v × IsChild t p w

pub twins-turned : (t : Tree TextId) (v w : ℕ) → Twins t v w → Twins t w v
twins-turned t v w b = (b.0, b.2, b.1)

pub twins-join : (t : Tree TextId) (u v w : ℕ) → Twins t u v → Twins t v w → Twins t u w
twins-join t u v w a b = (a.0, a.1, subst (λ z. IsChild t z w) (one-row t b.0 a.0 v b.1 a.2) b.2)

-- a row after the rows below another one, at the same depth
pub next-twin : (t : Tree TextId) (w x : ℕ) → x < length (enc t) → x ≡ suc (w + (line_in (enc t) w).size) → (line_in (enc t) x).level ≡ (line_in (enc t) w).level → Twins t w x
next-twin t w x h e q = go (line_in (enc t) x).level refl
  where
    row : w < length (enc t)
    row = omega arith

    go : (l : ℕ) → (line_in (enc t) x).level ≡ l → Twins t w x
    go zero g =
        let b = bridge t in
        let less : is_less (path_at t w) (path_at t x) ≡ true = b.less w x row h ∙ lt-ltb w x (omega arith) in
        absurd (none (path_at t x) (omega (arith, b.level x h)) less)
      where
        none : (p : List ℕ) → length p ≡ 0 → is_less (path_at t w) p ≡ true → ⊥
        none [] l e = false≢true e
        none (i ∷ p) l e = omega arith
    go (suc l) g =
        let r = parent-of t x l h g in
        let p : ℕ = r.0 in
        elim (cases_order p w) [
          | inl s ↦ absurd (let z : p + (line_in (enc t) p).size ≡ w + (line_in (enc t) w).size = ap (λ y. y + (line_in (enc t) y).size) s in omega (arith, r.1.inside))
          | inr o ↦ elim o [
            | inl pw ↦ (p, record { parent = r.1.parent; row = row; after = pw; inside = omega (arith, r.1.inside); level = omega (arith, r.1.level) }, r.1)
            | inr wp ↦ absurd (omega (arith, r.1.inside, nested t w p (bridge t) wp (omega (arith, r.1.after)) r.1.parent))
          ]
        ]

parted : (p q : List ℕ) → have_one_parent p q ≡ true → (r : List ℕ) × (i : ℕ) × (j : ℕ) × (p ≡ r ++ i ∷ []) × (q ≡ r ++ j ∷ [])
parted [] q e = absurd (false≢true e)
parted (i ∷ []) [] e = absurd (false≢true e)
parted (i ∷ []) (j ∷ []) e = ([], i, j, refl, refl)
parted (i ∷ []) (j ∷ b ∷ q) e = absurd (false≢true e)
parted (i ∷ a ∷ p) [] e = absurd (false≢true e)
parted (i ∷ a ∷ p) (j ∷ []) e = absurd (false≢true e)
parted (i ∷ a ∷ p) (j ∷ b ∷ q) e =
    let s = and_parts (nat_eq i j) (have_one_parent (a ∷ p) (b ∷ q)) e in
    let r = parted (a ∷ p) (b ∷ q) s.1 in
    (i ∷ r.0, r.1, r.2, ap (λ z. i ∷ z) r.3, ap (λ z. z ∷ b ∷ q) (sym (eqb-true i j s.0)) ∙ ap (λ z. i ∷ z) r.4)

pub twins-from : (t : Tree TextId) (v w : ℕ) → v < length (enc t) → w < length (enc t) → have_one_parent (path_at t v) (path_at t w) ≡ true → Twins t v w
twins-from t v w h k e =
    let r = parted (path_at t v) (path_at t w) e in
    let u = row-of t v r.0 (bridge t) h (ap (is_prefix r.0) r.3 ∙ prefix-append r.0 (r.1 ∷ [])) in
    (u.0, step-child t u.0 v r.1 u.1 h (r.3 ∙ ap (λ z. z ++ r.1 ∷ []) (sym u.2)), step-child t u.0 w r.2 u.1 k (r.4 ∙ ap (λ z. z ++ r.2 ∷ []) (sym u.2)))

pub twins-to : (t : Tree TextId) (v w : ℕ) → Twins t v w → have_one_parent (path_at t v) (path_at t w) ≡ true
twins-to t v w b =
    let x = child-step t b.0 v b.1 in
    let y = child-step t b.0 w b.2 in
    ap (λ z. have_one_parent z (path_at t w)) x.1 ∙ ap (have_one_parent (path_at t b.0 ++ x.0 ∷ [])) y.1 ∙ one-parent (path_at t b.0) x.0 y.0

pub before-from : (t : Tree TextId) (c v : ℕ) → c < length (enc t) → v < length (enc t) → on_preceding_sibling (row_path t c) (row_path t v) ≡ true → Twins t c v × (v < c)
before-from t c v h k e =
    let p = and_parts (have_one_parent (path_at t c) (path_at t v)) (is_less (path_at t v) (path_at t c)) e in
    (twins-from t c v h k p.0, ltb-true v c (sym ((bridge t).less v c k h) ∙ p.1))

pub before-to : (t : Tree TextId) (c v : ℕ) → Twins t c v → v < c → on_preceding_sibling (row_path t c) (row_path t v) ≡ true
before-to t c v b l = and_from (have_one_parent (path_at t c) (path_at t v)) (is_less (path_at t v) (path_at t c)) (twins-to t c v b) ((bridge t).less v c b.2.row b.1.row ∙ lt-ltb v c l)

pub after-from : (t : Tree TextId) (c v : ℕ) → c < length (enc t) → v < length (enc t) → on_following_sibling (row_path t c) (row_path t v) ≡ true → Twins t c v × (c < v)
after-from t c v h k e =
    let p = and_parts (have_one_parent (path_at t c) (path_at t v)) (is_less (path_at t c) (path_at t v)) e in
    (twins-from t c v h k p.0, ltb-true c v (sym ((bridge t).less c v h k) ∙ p.1))

pub after-to : (t : Tree TextId) (c v : ℕ) → Twins t c v → c < v → on_following_sibling (row_path t c) (row_path t v) ≡ true
after-to t c v b l = and_from (have_one_parent (path_at t c) (path_at t v)) (is_less (path_at t c) (path_at t v)) (twins-to t c v b) ((bridge t).less c v b.1.row b.2.row ∙ lt-ltb c v l)

-- the child after a child that isn't the last one before v
pub record NextChild (t : Tree TextId) (p u v : ℕ) : Type 0 where
  pub is_child : IsChild t p (suc (u + (line_in (enc t) u).size))
  pub no_later : suc (u + (line_in (enc t) u).size) ≤ v

pub next-child : (t : Tree TextId) (p u v : ℕ) → IsChild t p u → IsChild t p v → u < v → NextChild t p u v
next-child t p u v a b l = elim (cases_lt (u + (line_in (enc t) u).size) v) [
  | inr g ↦ absurd (omega (arith, a.level, b.level, level-deeper t u v l g a.row))
  | inl g ↦ record {
    is_child = child-from t p (suc (u + (line_in (enc t) u).size)) a.parent (omega (arith, b.row)) ((children_stand t).next p u a.parent a.row (child-to t p u a) (omega (arith, b.inside)));
    no_later = omega arith;
  }
]

-- what holds of two children that follow each other, and goes on, holds of all
pub by-next : (t : Tree TextId) (p low high : ℕ) (G : ℕ → ℕ → Type 0)
    → ((u x : ℕ) → low ≤ u → x ≤ high → IsChild t p u → IsChild t p x → x ≡ suc (u + (line_in (enc t) u).size) → G u x)
    → ((u x v : ℕ) → low ≤ u → v ≤ high → x < v → IsChild t p u → IsChild t p x → x ≡ suc (u + (line_in (enc t) u).size) → G x v → G u v)
    → (f u v : ℕ) → v ≤ u + f → u < v → low ≤ u → v ≤ high → IsChild t p u → IsChild t p v → G u v
by-next t p low high G one join zero u v m l a b c d = absurd (omega arith)
by-next t p low high G one join (suc f) u v m l a b c d =
    let n = next-child t p u v c d l in
    let x : ℕ = suc (u + (line_in (enc t) u).size) in
    elim (cases_lt x v) [
      | inl k ↦ join u x v a b k c n.is_child refl (by-next t p low high G one join f x v (omega arith) k (omega arith) b n.is_child d)
      | inr g ↦ (let q : x ≡ v = omega (arith, n.no_later) in one u v a b c d (sym q))
    ]
