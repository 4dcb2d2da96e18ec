-- What chains of the rows that were read lead to.
use Rattle.std.proofs.Common.{inl, inr, ◌⊎◌, ◌≡◌, ℕ, zero, suc, ◌+◌, ◌-◌, ◌<◌, ◌≤◌, Bool, true, false, ◌&&◌, cond, List, length, reverse, refl, sym, ap, ◌∙◌, subst, arith, Option, Some, None}
use Rattle.std.specs.Prelude.{nat_eq, nat_le}
use Rattle.std.proofs.lemmas.Bool.{eq-eqb, eqb-true, le-leb, leb-true, cases_order, cases_lt, and_parts, and_from, true≢false}
use Rattle.std.proofs.lemmas.List.{get_or-reverse}
use Rattle.xq_base.specs.declared.item.TextId.{TextId}
use Rattle.xq_base.specs.declared.axis.Axis.{Axis}
use Rattle.xq_base.specs.declared.axis.NodeTest.{NodeTest}
use Rattle.doc_table.specs.Tree.{Tree}
use Rattle.doc_table.specs.Enc.{enc, line_in}
use Rattle.doc_table.proofs.ByRows.{nested}
use Rattle.doc_table.proofs.Kids.{level-deeper}
use Rattle.doc_table.proofs.Marks.{bridge}
use Rattle.staircase.specs.declared.seen.Seen.{Seen}
use Rattle.staircase.specs.Chains.{no_seen, row_at, kept_at, is_sibling, leads_on, lined, turned, ends_at, is_next, next_of, Leads, leads_here, leads_more, Nearest, Linked}
use Rattle.staircase.specs.Parts.{In, AreRows}
use Rattle.staircase.specs.Seen.{seen_of, AllSeen}
use Rattle.staircase.proofs.Siblings.{IsChild, Twins, twins-join, twins-turned, next-twin, by-next}
use Rattle.staircase.proofs.LinkLaws.{Falls, Next, leads-on, lined-at, lined-from, lined-many, linked-at, next-falls, next-from, next-to}
use Rattle.staircase.proofs.PartLaws.{same-at, in-at, place-in}

-- ---- places and rows

-- the number of the row at a place
abbrev pub pre_at : List Seen → ℕ → ℕ
pre_at rows k = (row_at rows k).pre

-- what stands at a place
pub record Stood (axis : Axis) (tested : NodeTest) (t : Tree TextId) (rows : List Seen) (k : ℕ) : Type 0 where
  pub within : pre_at rows k < length (enc t)
  pub last : (row_at rows k).last ≡ pre_at rows k + (line_in (enc t) (pre_at rows k)).size
  pub level : (row_at rows k).level ≡ (line_in (enc t) (pre_at rows k)).level
  pub is : row_at rows k ≡ seen_of axis tested t (pre_at rows k)

-- the rows that were read, in an order in which chains lead to earlier places
pub record Laid (axis : Axis) (tested : NodeTest) (t : Tree TextId) (rows : List Seen) : Type 0 where
  pub stood : (k : ℕ) → k < length rows → Stood axis tested t rows k
  pub up : leads_on axis ≡ false → (i k : ℕ) → i < k → k < length rows → pre_at rows i < pre_at rows k
  pub down : leads_on axis ≡ true → (i k : ℕ) → i < k → k < length rows → pre_at rows k < pre_at rows i

pub laid : (axis : Axis) (tested : NodeTest) (t : Tree TextId) (seen : List Seen) → AreRows seen → AllSeen axis tested t seen → Laid axis tested t (lined axis seen)
laid axis tested t seen r s = record { stood = stood; up = up; down = down }
  where
    rows : List Seen
    rows = lined axis seen

    same : (k : ℕ) → k < length rows → (turned axis (length seen) k < length seen) × (row_at rows k ≡ row_at seen (turned axis (length seen) k))
    same k l =
        let m : k < length seen = omega (arith, lined-many axis seen) in
        let w = lined-from axis seen k m in
        (w.0, ap (row_at rows) (sym w.1) ∙ lined-at axis seen (turned axis (length seen) k) w.0)

    stood : (k : ℕ) → k < length rows → Stood axis tested t rows k
    stood k l =
        let w = same k l in
        let x = s (row_at seen (turned axis (length seen) k)) (in-at seen (turned axis (length seen) k) _ w.0) in
        let pre : pre_at rows k ≡ pre_at seen (turned axis (length seen) k) = ap (λ (z : Seen). z.pre) w.1 in
        let is : row_at rows k ≡ seen_of axis tested t (pre_at rows k) = w.1 ∙ x.1 ∙ ap (seen_of axis tested t) (sym pre) in
        record { within = omega (arith, x.0); last = ap (λ (z : Seen). z.last) is; level = ap (λ (z : Seen). z.level) is; is = is }

    up : leads_on axis ≡ false → (i k : ℕ) → i < k → k < length rows → pre_at rows i < pre_at rows k
    up e i k h l =
        let x : rows ≡ seen = ap (λ b. cond b (reverse seen) seen) e in
        subst (λ z. pre_at z i < pre_at z k) (sym x) (r.rising i k _ h (omega (arith, lined-many axis seen)))

    down : leads_on axis ≡ true → (i k : ℕ) → i < k → k < length rows → pre_at rows k < pre_at rows i
    down e i k h l =
        let n : k < length seen = omega (arith, lined-many axis seen) in
        let x : rows ≡ reverse seen = ap (λ b. cond b (reverse seen) seen) e in
        let at : (j : ℕ) → j < length seen → pre_at rows j ≡ pre_at seen (length seen - 1 - j) = λ j m. ap (λ z. pre_at z j) x ∙ ap (λ (z : Seen). z.pre) (get_or-reverse seen j _ m) in
        omega (arith, at i (omega arith), at k n, r.rising (length seen - 1 - k) (length seen - 1 - i) no_seen (omega arith) (omega arith))

-- the place of a row that was read
pub place-of : (axis : Axis) (seen : List Seen) (s : Seen) → In s seen → (k : ℕ) × (k < length (lined axis seen)) × (pre_at (lined axis seen) k ≡ s.pre)
place-of axis seen s h =
    let p = place-in s seen h in
    (turned axis (length seen) p.0, omega (arith, (lined-from axis seen p.0 p.1).0, lined-many axis seen), ap (λ (z : Seen). z.pre) (lined-at axis seen p.0 p.1 ∙ same-at seen p.0 _ s p.1 ∙ p.2))

-- ---- searches

-- a search that would end at an earlier place ends there or after it
pub record Ends (axis : Axis) (rows : List Seen) (links : List (Option ℕ)) (m k : ℕ) : Type 0 where
  pub place : ℕ
  pub link : kept_at links k ≡ Some place
  pub before : place < k
  pub from : m ≤ place
  pub ends : ends_at axis (row_at rows place) (row_at rows k) ≡ true

pub ends-from : (axis : Axis) (rows : List Seen) (links : List (Option ℕ)) (m k : ℕ) → Linked axis rows links (length rows) → k < length rows → m < k → ends_at axis (row_at rows m) (row_at rows k) ≡ true → Ends axis rows links m k
ends-from axis rows links m k a l h e = go (kept_at links k) refl (a.nearest k l)
  where
    go : (o : Option ℕ) → kept_at links k ≡ o → Nearest axis rows (row_at rows k) k o → Ends axis rows links m k
    go None g near = absurd (true≢false (sym e ∙ near m h))
    go (Some j) g near = record {
      place = j;
      link = g;
      before = near.0;
      from = elim (cases_lt j m) [ inl x ↦ absurd (true≢false (sym e ∙ near.2 m x h)) | inr y ↦ y ];
      ends = near.1;
    }

-- one step, and then the chain
pub leads-past : {step : ℕ → Option ℕ} {n k m : ℕ} → Falls step n → k < n → Leads step k m → m ≤ k
leads-past f l leads_here = omega arith
leads-past {step = step} {n = n} {k = k} f l (leads_more {j = j} e r) =
    let x : j < k = f k j l e in
    omega (arith, leads-past {step = step} {n = n} {k = j} f (omega arith) r)

-- ---- rows above

module _ (axis : Axis) (tested : NodeTest) (t : Tree TextId) (rows : List Seen) (links : List (Option ℕ)) (d : Laid axis tested t rows) (linked : Linked axis rows links (length rows)) where
  abbrev P : ℕ → ℕ
  P k = pre_at rows k

  -- row m is row k or above it
  pub record Over (m k : ℕ) : Type 0 where
    pub from : pre_at rows m ≤ pre_at rows k
    pub to : pre_at rows k ≤ pre_at rows m + (line_in (enc t) (pre_at rows m)).size

  up-ends : is_sibling axis ≡ false → (m k : ℕ) → m < length rows → k < length rows → Over m k → ends_at axis (row_at rows m) (row_at rows k) ≡ true
  up-ends s m k l h o = ap (λ b. cond b (nat_le (row_at rows m).level (row_at rows k).level) (nat_le (row_at rows k).pre (row_at rows m).last)) s ∙ le-leb (pre_at rows k) (row_at rows m).last (omega (arith, o.to, (d.stood m l).last))

  ends-up : is_sibling axis ≡ false → leads_on axis ≡ false → (m k : ℕ) → m < k → k < length rows → ends_at axis (row_at rows m) (row_at rows k) ≡ true → Over m k
  ends-up s f m k h l e =
      let x : nat_le (row_at rows k).pre (row_at rows m).last ≡ true = sym (ap (λ b. cond b (nat_le (row_at rows m).level (row_at rows k).level) (nat_le (row_at rows k).pre (row_at rows m).last)) s) ∙ e in
      record { from = omega (arith, d.up f m k h l); to = omega (arith, leb-true (pre_at rows k) (row_at rows m).last x, (d.stood m (omega arith)).last) }

  over-join : (i j k : ℕ) → i < length rows → j < length rows → Over i j → Over j k → Over i k
  over-join i j k li lj x y = elim (cases_lt (pre_at rows i) (pre_at rows j)) [
    | inl h ↦ record { from = omega (arith, x.from, y.from); to = omega (arith, y.to, nested t (pre_at rows i) (pre_at rows j) (bridge t) h x.to (d.stood j lj).within) }
    | inr g ↦ (let q : pre_at rows i ≡ pre_at rows j = omega (arith, x.from) in
        let s : pre_at rows i + (line_in (enc t) (pre_at rows i)).size ≡ pre_at rows j + (line_in (enc t) (pre_at rows j)).size = ap (λ z. z + (line_in (enc t) z).size) q in
        record { from = omega (arith, y.from); to = omega (arith, y.to) })
  ]

  -- the next row of a chain holds the row
  pub next-over : is_sibling axis ≡ false → leads_on axis ≡ false → (k j : ℕ) → k < length rows → next_of axis rows links k ≡ Some j → (j < k) × Over j k
  next-over s f k j l e =
      let x = linked-at axis rows links (length rows) k j linked l (next-from axis rows links k j e).link in
      (x.0, ends-up s f j k x.0 l x.1)

  pub leads-over : is_sibling axis ≡ false → leads_on axis ≡ false → {k m : ℕ} → k < length rows → Leads (next_of axis rows links) k m → Over m k
  leads-over s f l leads_here = record { from = omega arith; to = omega arith }
  leads-over s f {k = k} {m = m} l (leads_more {j = j} e r) =
      let x = next-over s f k j l e in
      let lj : j < length rows = omega (arith, x.0) in
      let p = leads-past {step = next_of axis rows links} {n = length rows} {k = j} (next-falls axis rows links (length rows) linked) lj r in
      over-join m j k (omega (arith, p)) lj (leads-over s f {k = j} {m = m} lj r) x.1

  -- a row above comes earlier
  pub over-before : leads_on axis ≡ false → (m k : ℕ) → m < length rows → k < length rows → pre_at rows m < pre_at rows k → m < k
  over-before f m k l h o = elim (cases_order m k) [
    | inl q ↦ absurd (let z : pre_at rows m ≡ pre_at rows k = ap (pre_at rows) q in omega arith)
    | inr x ↦ elim x [ inl y ↦ y | inr z ↦ absurd (omega (arith, d.up f k m z l)) ]
  ]

  pub over-leads : is_sibling axis ≡ false → leads_on axis ≡ false → ((s r : Seen) → is_next axis s r ≡ true) → (n m k : ℕ) → k < n → k < length rows → m ≤ k → Over m k → Leads (next_of axis rows links) k m
  over-leads s f g zero m k h l b o = absurd (omega arith)
  over-leads s f g (suc n) m k h l b o = elim (cases_lt m k) [
    | inr q ↦ (let e : k ≡ m = omega arith in subst (λ z. Leads (next_of axis rows links) k z) e leads_here)
    | inl q ↦ (let x = ends-from axis rows links m k linked l q (up-ends s m k (omega arith) l o) in
        let below : Over m x.place = record { from = low m x.place x.from (omega (arith, x.before)); to = omega (arith, o.to, d.up f x.place k x.before l) } in
        leads_more (next-to axis rows links k x.place x.link (g (row_at rows x.place) (row_at rows k))) (over-leads s f g n m x.place (omega (arith, x.before)) (omega (arith, x.before)) x.from below))
  ]
    where
      low : (m j : ℕ) → m ≤ j → j < length rows → pre_at rows m ≤ pre_at rows j
      low m j b l = elim (cases_lt m j) [
        | inl q ↦ omega (arith, d.up f m j q l)
        | inr q ↦ (let e : m ≡ j = omega arith in let z : pre_at rows m ≡ pre_at rows j = ap (pre_at rows) e in omega arith)
      ]

  -- ---- parents

  pub parent-next : is_sibling axis ≡ false → leads_on axis ≡ false → ((s r : Seen) → is_next axis s r ≡ nat_eq r.level (s.level + 1)) → (k j : ℕ) → k < length rows → next_of axis rows links k ≡ Some j → IsChild t (pre_at rows j) (pre_at rows k)
  parent-next s f g k j l e =
      let x = next-over s f k j l e in
      let lj : j < length rows = omega (arith, x.0) in
      let n : nat_eq (row_at rows k).level ((row_at rows j).level + 1) ≡ true = sym (g (row_at rows j) (row_at rows k)) ∙ (next-from axis rows links k j e).next in
      record {
        parent = (d.stood j lj).within;
        row = (d.stood k l).within;
        after = d.up f j k x.0 l;
        inside = x.1.to;
        level = omega (arith, (d.stood j lj).level, (d.stood k l).level, eqb-true (row_at rows k).level ((row_at rows j).level + 1) n);
      }

  pub next-parent : is_sibling axis ≡ false → leads_on axis ≡ false → ((s r : Seen) → is_next axis s r ≡ nat_eq r.level (s.level + 1)) → (m k : ℕ) → m < length rows → k < length rows → IsChild t (pre_at rows m) (pre_at rows k) → next_of axis rows links k ≡ Some m
  next-parent s f g m k l h c =
      let b : m < k = over-before f m k l h c.after in
      let x = ends-from axis rows links m k linked h b (up-ends s m k l h (record { from = omega (arith, c.after); to = c.inside })) in
      let q : x.place ≡ m = elim (cases_lt m x.place) [
        | inr y ↦ omega (arith, x.from)
        | inl y ↦ absurd (let j : ℕ = x.place in
            let lj : j < length rows = omega (arith, x.before) in
            let o = ends-up s f j k x.before h x.ends in
            let mj = d.up f m j y lj in
            let jk = d.up f j k x.before h in
            omega (arith, c.level, level-deeper t (pre_at rows m) (pre_at rows j) mj (omega (arith, c.inside)) c.parent, level-deeper t (pre_at rows j) (pre_at rows k) jk o.to (d.stood j lj).within))
      ] in
      next-to axis rows links k m (x.link ∙ ap (λ z. Some z) q) (g (row_at rows m) (row_at rows k) ∙ eq-eqb (row_at rows k).level ((row_at rows m).level + 1) (omega (arith, c.level, (d.stood m l).level, (d.stood k h).level)))

  -- ---- siblings

  -- the next row of a chain is a sibling
  abbrev pub IsSiblingAxis : Type 0
  IsSiblingAxis = (is_sibling axis ≡ true) × ((s r : Seen) → is_next axis s r ≡ cond (leads_on axis) (nat_eq s.level r.level && nat_eq s.pre (r.last + 1)) (nat_eq s.level r.level && nat_eq r.pre (s.last + 1)))

  pub next-sibling : IsSiblingAxis → (k j : ℕ) → k < length rows → next_of axis rows links k ≡ Some j → (j < k) × Twins t (pre_at rows j) (pre_at rows k)
  next-sibling s k j l e = go (leads_on axis) (sym (s.1 (row_at rows j) (row_at rows k)) ∙ n.next)
    where
      n : Next axis rows links k j
      n = next-from axis rows links k j e

      b : j < k
      b = next-falls axis rows links (length rows) linked k j l e

      go : (z : Bool) → cond z (nat_eq (row_at rows j).level (row_at rows k).level && nat_eq (row_at rows j).pre ((row_at rows k).last + 1)) (nat_eq (row_at rows j).level (row_at rows k).level && nat_eq (row_at rows k).pre ((row_at rows j).last + 1)) ≡ true → (j < k) × Twins t (pre_at rows j) (pre_at rows k)
      go true f =
          let p = and_parts (nat_eq (row_at rows j).level (row_at rows k).level) (nat_eq (row_at rows j).pre ((row_at rows k).last + 1)) f in
          let level = eqb-true (row_at rows j).level (row_at rows k).level p.0 in
          let pre = eqb-true (row_at rows j).pre ((row_at rows k).last + 1) p.1 in
          (b, twins-turned t (pre_at rows k) (pre_at rows j) (next-twin t (pre_at rows k) (pre_at rows j) (d.stood j (omega (arith, b))).within (omega (arith, pre, (d.stood k l).last)) (omega (arith, level, (d.stood k l).level, (d.stood j (omega (arith, b))).level))))
      go false f =
          let p = and_parts (nat_eq (row_at rows j).level (row_at rows k).level) (nat_eq (row_at rows k).pre ((row_at rows j).last + 1)) f in
          let level = eqb-true (row_at rows j).level (row_at rows k).level p.0 in
          let pre = eqb-true (row_at rows k).pre ((row_at rows j).last + 1) p.1 in
          (b, next-twin t (pre_at rows j) (pre_at rows k) (d.stood k l).within (omega (arith, pre, (d.stood j (omega (arith, b))).last)) (omega (arith, level, (d.stood k l).level, (d.stood j (omega (arith, b))).level)))

  pub leads-siblings : IsSiblingAxis → {k m : ℕ} → k < length rows → Leads (next_of axis rows links) k m → (m ≡ k) ⊎ ((m < k) × Twins t (pre_at rows m) (pre_at rows k))
  leads-siblings s l leads_here = inl refl
  leads-siblings s {k = k} {m = m} l (leads_more {j = j} e r) =
      let x = next-sibling s k j l e in
      elim (leads-siblings s {k = j} {m = m} (omega (arith, x.0)) r) [
        | inl q ↦ inr (subst (λ z. (z < k) × Twins t (pre_at rows z) (pre_at rows k)) (sym q) x)
        | inr y ↦ inr (omega (arith, x.0, y.0), twins-join t (pre_at rows m) (pre_at rows j) (pre_at rows k) y.1 x.1)
      ]

  side-ends : is_sibling axis ≡ true → (m k : ℕ) → m < length rows → k < length rows → (line_in (enc t) (pre_at rows m)).level ≡ (line_in (enc t) (pre_at rows k)).level → ends_at axis (row_at rows m) (row_at rows k) ≡ true
  side-ends s m k l h e = ap (λ b. cond b (nat_le (row_at rows m).level (row_at rows k).level) (nat_le (row_at rows k).pre (row_at rows m).last)) s ∙ le-leb (row_at rows m).level (row_at rows k).level (omega (arith, (d.stood m l).level, (d.stood k h).level, e))

  ends-side : is_sibling axis ≡ true → (m k : ℕ) → m < length rows → k < length rows → ends_at axis (row_at rows m) (row_at rows k) ≡ true → (line_in (enc t) (pre_at rows m)).level ≤ (line_in (enc t) (pre_at rows k)).level
  ends-side s m k l h e = omega (arith, (d.stood m l).level, (d.stood k h).level, leb-true (row_at rows m).level (row_at rows k).level (sym (ap (λ b. cond b (nat_le (row_at rows m).level (row_at rows k).level) (nat_le (row_at rows k).pre (row_at rows m).last)) s) ∙ e))

  -- siblings that follow each other: u at place i, and x at place k
  next-before : IsSiblingAxis → leads_on axis ≡ false → (p i k : ℕ) → i < length rows → k < length rows → IsChild t p (pre_at rows i) → IsChild t p (pre_at rows k) → pre_at rows k ≡ suc (pre_at rows i + (line_in (enc t) (pre_at rows i)).size) → next_of axis rows links k ≡ Some i
  next-before s f p i k li lk a b e =
      let h : i < k = over-before f i k li lk (omega arith) in
      let x = ends-from axis rows links i k linked lk h (side-ends s.0 i k li lk (omega (arith, a.level, b.level))) in
      let q : x.place ≡ i = elim (cases_lt i x.place) [
        | inr y ↦ omega (arith, x.from)
        | inl y ↦ absurd (let lj : x.place < length rows = omega (arith, x.before) in
            omega (arith, a.level, b.level, ends-side s.0 x.place k lj lk x.ends, level-deeper t (pre_at rows i) (pre_at rows x.place) (d.up f i x.place y lj) (omega (arith, d.up f x.place k x.before lk)) a.row))
      ] in
      next-to axis rows links k i (x.link ∙ ap (λ z. Some z) q)
      (s.1 (row_at rows i) (row_at rows k) ∙ ap (λ z. cond z (nat_eq (row_at rows i).level (row_at rows k).level && nat_eq (row_at rows i).pre ((row_at rows k).last + 1)) (nat_eq (row_at rows i).level (row_at rows k).level && nat_eq (row_at rows k).pre ((row_at rows i).last + 1))) f
      ∙ and_from (nat_eq (row_at rows i).level (row_at rows k).level) (nat_eq (row_at rows k).pre ((row_at rows i).last + 1)) (eq-eqb (row_at rows i).level (row_at rows k).level (omega (arith, a.level, b.level, (d.stood i li).level, (d.stood k lk).level))) (eq-eqb (row_at rows k).pre ((row_at rows i).last + 1) (omega (arith, e, (d.stood i li).last))))

  -- with the chains that lead to later rows
  next-after : IsSiblingAxis → leads_on axis ≡ true → (p i k : ℕ) → i < length rows → k < length rows → IsChild t p (pre_at rows i) → IsChild t p (pre_at rows k) → pre_at rows k ≡ suc (pre_at rows i + (line_in (enc t) (pre_at rows i)).size) → next_of axis rows links i ≡ Some k
  next-after s f p i k li lk a b e =
      let h : k < i = elim (cases_order k i) [
        | inl q ↦ absurd (let z : pre_at rows k ≡ pre_at rows i = ap (pre_at rows) q in omega arith)
        | inr o ↦ elim o [ inl y ↦ y | inr z ↦ absurd (omega (arith, d.down f i k z lk)) ]
      ] in
      let x = ends-from axis rows links k i linked li h (side-ends s.0 k i lk li (omega (arith, a.level, b.level))) in
      let q : x.place ≡ k = elim (cases_lt k x.place) [
        | inr y ↦ omega (arith, x.from)
        | inl y ↦ absurd (let lj : x.place < length rows = omega (arith, x.before) in
            omega (arith, a.level, b.level, ends-side s.0 x.place i lj li x.ends, level-deeper t (pre_at rows i) (pre_at rows x.place) (d.down f x.place i x.before li) (omega (arith, d.down f k x.place y lj)) a.row))
      ] in
      next-to axis rows links i k (x.link ∙ ap (λ z. Some z) q)
      (s.1 (row_at rows k) (row_at rows i) ∙ ap (λ z. cond z (nat_eq (row_at rows k).level (row_at rows i).level && nat_eq (row_at rows k).pre ((row_at rows i).last + 1)) (nat_eq (row_at rows k).level (row_at rows i).level && nat_eq (row_at rows i).pre ((row_at rows k).last + 1))) f
      ∙ and_from (nat_eq (row_at rows k).level (row_at rows i).level) (nat_eq (row_at rows k).pre ((row_at rows i).last + 1)) (eq-eqb (row_at rows k).level (row_at rows i).level (omega (arith, a.level, b.level, (d.stood i li).level, (d.stood k lk).level))) (eq-eqb (row_at rows k).pre ((row_at rows i).last + 1) (omega (arith, e, (d.stood i li).last))))

  -- one place has a row
  pub same-place : (i k : ℕ) → i < length rows → k < length rows → pre_at rows i ≡ pre_at rows k → i ≡ k
  same-place i k li lk e = go (leads_on axis) refl
    where
      go : (z : Bool) → leads_on axis ≡ z → i ≡ k
      go true f = elim (cases_order i k) [ inl q ↦ q | inr o ↦ elim o [ inl y ↦ absurd (omega (arith, d.down f i k y lk)) | inr y ↦ absurd (omega (arith, d.down f k i y li)) ] ]
      go false f = elim (cases_order i k) [ inl q ↦ q | inr o ↦ elim o [ inl y ↦ absurd (omega (arith, d.up f i k y lk)) | inr y ↦ absurd (omega (arith, d.up f k i y li)) ] ]

  -- a row between two numbers that is a child of row p was read
  abbrev pub ReadBetween : ℕ → ℕ → ℕ → Type 0
  ReadBetween p low high = (x : ℕ) → low ≤ x → x ≤ high → IsChild t p x → (k : ℕ) × (k < length rows) × (pre_at rows k ≡ x)

  -- the chain leads from a later sibling to an earlier one
  abbrev Back : ℕ → ℕ → Type 0
  Back u v = (i k : ℕ) → i < length rows → k < length rows → pre_at rows i ≡ u → pre_at rows k ≡ v → Leads (next_of axis rows links) k i

  pub siblings-lead : IsSiblingAxis → leads_on axis ≡ false → (p i k : ℕ) → i < length rows → k < length rows → IsChild t p (pre_at rows i) → IsChild t p (pre_at rows k) → pre_at rows i < pre_at rows k → ReadBetween p (pre_at rows i) (pre_at rows k) → Leads (next_of axis rows links) k i
  siblings-lead s f p i k li lk a b l r = by-next t p (pre_at rows i) (pre_at rows k) Back one join (pre_at rows k) (pre_at rows i) (pre_at rows k) (omega arith) l (omega arith) (omega arith) a b i k li lk refl refl
    where
      step : (u x i k : ℕ) → i < length rows → k < length rows → IsChild t p u → IsChild t p x → x ≡ suc (u + (line_in (enc t) u).size) → pre_at rows i ≡ u → pre_at rows k ≡ x → next_of axis rows links k ≡ Some i
      step u x i k li lk a b e g h = next-before s f p i k li lk (subst (λ z. IsChild t p z) (sym g) a) (subst (λ z. IsChild t p z) (sym h) b) (h ∙ e ∙ ap (λ z. suc (z + (line_in (enc t) z).size)) (sym g))

      one : (u x : ℕ) → pre_at rows i ≤ u → x ≤ pre_at rows k → IsChild t p u → IsChild t p x → x ≡ suc (u + (line_in (enc t) u).size) → Back u x
      one u x m n a b e = λ i k li lk g h. leads_more (step u x i k li lk a b e g h) leads_here

      join : (u x v : ℕ) → pre_at rows i ≤ u → v ≤ pre_at rows k → x < v → IsChild t p u → IsChild t p x → x ≡ suc (u + (line_in (enc t) u).size) → Back x v → Back u v
      join u x v m n o a b e w = λ i k li lk g h. (let y = r x (omega arith) (omega arith) b in leads-on {step = next_of axis rows links} (w y.0 k y.1 lk y.2 h) (step u x i y.0 li y.1 a b e g y.2))

  -- and from an earlier one to a later one
  abbrev On : ℕ → ℕ → Type 0
  On u v = (i k : ℕ) → i < length rows → k < length rows → pre_at rows i ≡ u → pre_at rows k ≡ v → Leads (next_of axis rows links) i k

  pub siblings-lead_on : IsSiblingAxis → leads_on axis ≡ true → (p i k : ℕ) → i < length rows → k < length rows → IsChild t p (pre_at rows i) → IsChild t p (pre_at rows k) → pre_at rows i < pre_at rows k → ReadBetween p (pre_at rows i) (pre_at rows k) → Leads (next_of axis rows links) i k
  siblings-lead_on s f p i k li lk a b l r = by-next t p (pre_at rows i) (pre_at rows k) On one join (pre_at rows k) (pre_at rows i) (pre_at rows k) (omega arith) l (omega arith) (omega arith) a b i k li lk refl refl
    where
      step : (u x i k : ℕ) → i < length rows → k < length rows → IsChild t p u → IsChild t p x → x ≡ suc (u + (line_in (enc t) u).size) → pre_at rows i ≡ u → pre_at rows k ≡ x → next_of axis rows links i ≡ Some k
      step u x i k li lk a b e g h = next-after s f p i k li lk (subst (λ z. IsChild t p z) (sym g) a) (subst (λ z. IsChild t p z) (sym h) b) (h ∙ e ∙ ap (λ z. suc (z + (line_in (enc t) z).size)) (sym g))

      one : (u x : ℕ) → pre_at rows i ≤ u → x ≤ pre_at rows k → IsChild t p u → IsChild t p x → x ≡ suc (u + (line_in (enc t) u).size) → On u x
      one u x m n a b e = λ i k li lk g h. leads_more (step u x i k li lk a b e g h) leads_here

      join : (u x v : ℕ) → pre_at rows i ≤ u → v ≤ pre_at rows k → x < v → IsChild t p u → IsChild t p x → x ≡ suc (u + (line_in (enc t) u).size) → On x v → On u v
      join u x v m n o a b e w = λ i k li lk g h. (let y = r x (omega arith) (omega arith) b in leads_more (step u x i y.0 li y.1 a b e g y.2) (w y.0 k y.1 lk y.2 h))
