-- The rows on the chain of a node are those on its axis.
use Rattle.std.proofs.Common.{inl, inr, ◌≡◌, ℕ, zero, suc, ◌+◌, ◌<◌, ◌≤◌, true, false, List, length, refl, sym, ap, ◌∙◌, subst, arith, Option, Some, None}
use Rattle.std.specs.Prelude.{nat_eq, nat_lt, nat_le}
use Rattle.std.proofs.lemmas.Bool.{eq-eqb, ne_eqb, eqb-true, lt-ltb, le-leb, leb-true, ltb-true, cases_order, cases_lt, and_parts, and_from, or_left, or_cases, false≢true}
use Rattle.xq_base.specs.declared.item.TextId.{TextId}
use Rattle.xq_base.specs.declared.axis.Axis.{Axis}
use Rattle.xq_base.specs.declared.axis.Axis.TheVariants as a
use Rattle.xq_base.specs.declared.axis.NodeTest.{NodeTest}
use Rattle.doc_table.specs.Tree.{Tree}
use Rattle.doc_table.specs.Enc.{enc, line_in}
use Rattle.doc_table.specs.Paths.{is_prefix, is_same}
use Rattle.doc_table.specs.Axes.{on_axis, on_ancestor, on_self}
use Rattle.doc_table.specs.Places.{path_at, row_path, within, child}
use Rattle.doc_table.proofs.ByRows.{same, by-ancestor, by-child}
use Rattle.doc_table.proofs.Kids.{children_stand}
use Rattle.doc_table.proofs.Marks.{bridge}
use Rattle.staircase.specs.declared.seen.Seen.{Seen}
use Rattle.staircase.specs.Chains.{first_child, is_sibling, leads_on, row_at, start_of, next_of, onward, Leads, leads_here, leads_more, Linked}
use Rattle.staircase.specs.Joins.{is_chained, path_with}
use Rattle.staircase.proofs.ByWay.{by-ancestor_or_self}
use Rattle.staircase.proofs.ChainLaws.{pre_at, Laid, Over, over-before, over-leads, leads-over, next-over, leads-past, parent-next, next-parent, leads-siblings, same-place, IsSiblingAxis, siblings-lead, siblings-lead_on}
use Rattle.staircase.proofs.Siblings.{IsChild, Twins, one-row, child-from, child-to, twins-turned, before-from, before-to, after-from, after-to}
use Rattle.staircase.proofs.LinkLaws.{first-child_from, first-child_to, next-falls}

no_zero : (k : ℕ) → nat_eq (suc k) 0 ≡ false
no_zero k = ne_eqb (suc k) 0 (λ e. omega arith)

-- a chain that doesn't go on
lone-leads : {step : ℕ → Option ℕ} {k m : ℕ} → ((i : ℕ) → step i ≡ None) → Leads step k m → m ≡ k
lone-leads f leads_here = refl
lone-leads {k = k} f (leads_more e r) = (let q = f k in cc)

-- one step, and then the chain
leads-split : {step : ℕ → Option ℕ} {k m : ℕ} → Leads step k m → m < k → (s : ℕ) × (step k ≡ Some s) × Leads step s m
leads-split leads_here l = absurd (omega arith)
leads-split (leads_more {j = j} e r) l = (j, e, r)

-- a chain that begins at this place leads there
pub record Begun (axis : Axis) (rows : List Seen) (links : List (Option ℕ)) (attr k m : ℕ) : Type 0 where
  pub start : ℕ
  pub begins : start_of axis rows links attr k ≡ Some start
  pub leads : Leads (onward axis rows links) start m

module _ (axis : Axis) (tested : NodeTest) (t : Tree TextId) (rows : List Seen) (links : List (Option ℕ)) (d : Laid axis tested t rows) (linked : Linked axis rows links (length rows)) where
  -- a row above another one, and not this one
  above-next : is_sibling axis ≡ false → leads_on axis ≡ false → (k s m : ℕ) → k < length rows → next_of axis rows links k ≡ Some s → Leads (next_of axis rows links) s m → Over axis tested t rows links d linked m k × (m < k)
  above-next f g k s m l e r =
      let x = next-over axis tested t rows links d linked f g k s l e in
      let p = leads-past {step = next_of axis rows links} {n = length rows} {k = s} {m = m} (next-falls axis rows links (length rows) linked) (omega (arith, x.0)) r in
      (leads-over axis tested t rows links d linked f g {k = k} {m = m} l (leads_more e r), omega (arith, x.0))

  within-over : (m k : ℕ) → Over axis tested t rows links d linked m k → within (enc t) (pre_at rows m) (pre_at rows k) ≡ true
  within-over m k o = and_from (nat_le (pre_at rows m) (pre_at rows k)) (nat_le (pre_at rows k) (pre_at rows m + (line_in (enc t) (pre_at rows m)).size)) (le-leb (pre_at rows m) (pre_at rows k) o.from) (le-leb (pre_at rows k) (pre_at rows m + (line_in (enc t) (pre_at rows m)).size) o.to)

  over-within : (m k : ℕ) → within (enc t) (pre_at rows m) (pre_at rows k) ≡ true → Over axis tested t rows links d linked m k
  over-within m k e =
      let p = and_parts (nat_le (pre_at rows m) (pre_at rows k)) (nat_le (pre_at rows k) (pre_at rows m + (line_in (enc t) (pre_at rows m)).size)) e in
      record { from = leb-true (pre_at rows m) (pre_at rows k) p.0; to = leb-true (pre_at rows k) (pre_at rows m + (line_in (enc t) (pre_at rows m)).size) p.1 }

  -- the place of a row above another one is no later
  over-place : leads_on axis ≡ false → (m k : ℕ) → m < length rows → k < length rows → Over axis tested t rows links d linked m k → m ≤ k
  over-place g m k l h o = elim (cases_lt k m) [ inr y ↦ y | inl y ↦ absurd (omega (arith, o.from, d.up g k m y l)) ]

-- ---- what a chain leads to is on the axis

module _ (tested : NodeTest) (t : Tree TextId) (rows : List Seen) (links : List (Option ℕ)) where
  abbrev Starts : Axis → Type 0
  Starts axis = (attr k s m : ℕ) → k < length rows → start_of axis rows links attr k ≡ Some s → Leads (onward axis rows links) s m → on_axis axis (path_with t (pre_at rows k) attr) (row_path t (pre_at rows m)) ≡ true

  parent-on : Laid a.Parent tested t rows → Linked a.Parent rows links (length rows) → Starts a.Parent
  parent-on d linked zero k s m l e r =
      let q : m ≡ s = lone-leads (λ i. refl) r in
      let c : IsChild t (pre_at rows s) (pre_at rows k) = parent-next a.Parent tested t rows links d linked refl refl (λ s r. refl) k s l e in
      subst (λ z. on_axis a.Parent (row_path t (pre_at rows k)) (row_path t (pre_at rows z)) ≡ true) (sym q) (by-child t (pre_at rows s) (pre_at rows k) (bridge t) c.parent c.row ∙ child-to t (pre_at rows s) (pre_at rows k) c)
  parent-on d linked (suc i) k s m l e r =
      let q : m ≡ s = lone-leads (λ i. refl) r in
      let f : Some k ≡ Some s = rw (no_zero i) at e in
      let g : k ≡ s = cc in
      let w = (d.stood k l).within in
      subst (λ z. on_axis a.Parent (path_with t (pre_at rows k) (suc i)) (row_path t (pre_at rows z)) ≡ true) (g ∙ sym q) (rw (no_zero i) (same t (pre_at rows k) (pre_at rows k) (bridge t) w w ∙ eq-eqb (pre_at rows k) (pre_at rows k) refl))

  ancestor-on : Laid a.Ancestor tested t rows → Linked a.Ancestor rows links (length rows) → Starts a.Ancestor
  ancestor-on d linked zero k s m l e r =
      let x = above-next a.Ancestor tested t rows links d linked refl refl k s m l e r in
      let lm : m < length rows = omega (arith, x.1) in
      by-ancestor t (pre_at rows k) (pre_at rows m) (bridge t) (d.stood k l).within (d.stood m lm).within
      ∙ and_from (nat_lt (pre_at rows m) (pre_at rows k)) (nat_le (pre_at rows k) (pre_at rows m + (line_in (enc t) (pre_at rows m)).size)) (lt-ltb (pre_at rows m) (pre_at rows k) (d.up refl m k x.1 l)) (le-leb (pre_at rows k) (pre_at rows m + (line_in (enc t) (pre_at rows m)).size) x.0.to)
  ancestor-on d linked (suc i) k s m l e r =
      let f : Some k ≡ Some s = rw (no_zero i) at e in
      let g : k ≡ s = cc in
      let o : Over a.Ancestor tested t rows links d linked m k = leads-over a.Ancestor tested t rows links d linked refl refl {k = k} {m = m} l (subst (λ z. Leads (next_of a.Ancestor rows links) z m) (sym g) r) in
      let p = leads-past {step = next_of a.Ancestor rows links} {n = length rows} {k = k} {m = m} (next-falls a.Ancestor rows links (length rows) linked) l (subst (λ z. Leads (next_of a.Ancestor rows links) z m) (sym g) r) in
      let pre : is_prefix (path_at t (pre_at rows m)) (path_at t (pre_at rows k)) ≡ true = (bridge t).prefix (pre_at rows m) (pre_at rows k) (d.stood m (omega arith)).within (d.stood k l).within ∙ within-over a.Ancestor tested t rows links d linked m k o in
      rw (no_zero i, pre) refl

  self-on : Laid a.AncestorOrSelf tested t rows → Linked a.AncestorOrSelf rows links (length rows) → Starts a.AncestorOrSelf
  self-on d linked attr k s m l e r = go attr e
    where
      go : (attr : ℕ) → start_of a.AncestorOrSelf rows links attr k ≡ Some s → on_axis a.AncestorOrSelf (path_with t (pre_at rows k) attr) (row_path t (pre_at rows m)) ≡ true
      go attr e =
          let g : k ≡ s = cc in
          let x : Leads (next_of a.AncestorOrSelf rows links) k m = subst (λ z. Leads (next_of a.AncestorOrSelf rows links) z m) (sym g) r in
          let o : Over a.AncestorOrSelf tested t rows links d linked m k = leads-over a.AncestorOrSelf tested t rows links d linked refl refl {k = k} {m = m} l x in
          let p = leads-past {step = next_of a.AncestorOrSelf rows links} {n = length rows} {k = k} {m = m} (next-falls a.AncestorOrSelf rows links (length rows) linked) l x in
          let w : within (enc t) (pre_at rows m) (pre_at rows k) ≡ true = within-over a.AncestorOrSelf tested t rows links d linked m k o in
          at attr w (d.stood m (omega arith)).within (d.stood k l).within
        where
          at : (attr : ℕ) → within (enc t) (pre_at rows m) (pre_at rows k) ≡ true → pre_at rows m < length (enc t) → pre_at rows k < length (enc t) → on_axis a.AncestorOrSelf (path_with t (pre_at rows k) attr) (row_path t (pre_at rows m)) ≡ true
          at zero w lm lk = by-ancestor_or_self t (pre_at rows k) (pre_at rows m) (bridge t) lk lm ∙ w
          at (suc i) w lm lk =
              let pre : is_prefix (path_at t (pre_at rows m)) (path_at t (pre_at rows k)) ≡ true = (bridge t).prefix (pre_at rows m) (pre_at rows k) lm lk ∙ w in
              or_left (on_ancestor (path_with t (pre_at rows k) (suc i)) (row_path t (pre_at rows m))) (on_self (path_with t (pre_at rows k) (suc i)) (row_path t (pre_at rows m))) (rw (no_zero i, pre) refl)

  sibling-past : (axis : Axis) (d : Laid axis tested t rows) (linked : Linked axis rows links (length rows)) → IsSiblingAxis axis tested t rows links d linked → (k s m : ℕ) → k < length rows → next_of axis rows links k ≡ Some s → Leads (next_of axis rows links) s m → (m < k) × Twins t (pre_at rows m) (pre_at rows k)
  sibling-past axis d linked f k s m l e r = elim (leads-siblings axis tested t rows links d linked f {k = k} {m = m} l (leads_more e r)) [
    | inr x ↦ x
    | inl q ↦ absurd (let b = next-falls axis rows links (length rows) linked k s l e in
        let p = leads-past {step = next_of axis rows links} {n = length rows} {k = s} {m = m} (next-falls axis rows links (length rows) linked) (omega arith) r in omega arith)
  ]

  preceding-on : Laid a.PrecedingSibling tested t rows → Linked a.PrecedingSibling rows links (length rows) → Starts a.PrecedingSibling
  preceding-on d linked zero k s m l e r =
      let x = sibling-past a.PrecedingSibling d linked (refl, λ s r. refl) k s m l e r in
      before-to t (pre_at rows k) (pre_at rows m) (twins-turned t (pre_at rows m) (pre_at rows k) x.1) (d.up refl m k x.0 l)
  preceding-on d linked (suc i) k s m l e r = (let f : None ≡ Some s = rw (no_zero i) at e in cc)

  following-on : Laid a.FollowingSibling tested t rows → Linked a.FollowingSibling rows links (length rows) → Starts a.FollowingSibling
  following-on d linked zero k s m l e r =
      let x = sibling-past a.FollowingSibling d linked (refl, λ s r. refl) k s m l e r in
      after-to t (pre_at rows k) (pre_at rows m) (twins-turned t (pre_at rows m) (pre_at rows k) x.1) (d.down refl m k x.0 l)
  following-on d linked (suc i) k s m l e r = (let f : None ≡ Some s = rw (no_zero i) at e in cc)

  child-on : Laid a.Child tested t rows → Linked a.Child rows links (length rows) → Starts a.Child
  child-on d linked zero k s m l e r =
      let f = first-child_from rows k s e in
      let ls : s < length rows = omega (arith, f.before) in
      let inner : 0 < (line_in (enc t) (pre_at rows k)).size = omega (arith, f.inner, (d.stood k l).last) in
      let next : pre_at rows s ≡ suc (pre_at rows k) = omega (arith, f.pre) in
      let c : IsChild t (pre_at rows k) (pre_at rows s) = child-from t (pre_at rows k) (pre_at rows s) (d.stood k l).within (d.stood s ls).within (ap (child (enc t) (pre_at rows k)) next ∙ (children_stand t).first (pre_at rows k) (d.stood k l).within inner) in
      let is : IsChild t (pre_at rows k) (pre_at rows m) = elim (leads-siblings a.Child tested t rows links d linked (refl, λ s r. refl) {k = s} {m = m} ls r) [
        | inl q ↦ subst (λ z. IsChild t (pre_at rows k) (pre_at rows z)) (sym q) c
        | inr x ↦ subst (λ z. IsChild t z (pre_at rows m)) (one-row t x.1.0 (pre_at rows k) (pre_at rows s) x.1.2 c) x.1.1
      ] in
      by-child t (pre_at rows k) (pre_at rows m) (bridge t) is.parent is.row ∙ child-to t (pre_at rows k) (pre_at rows m) is
  child-on d linked (suc i) k s m l e r = (let f : None ≡ Some s = rw (no_zero i) at e in cc)

  pub chain-on : (axis : Axis) → is_chained axis ≡ true → Laid axis tested t rows → Linked axis rows links (length rows) → (attr k s m : ℕ) → k < length rows → start_of axis rows links attr k ≡ Some s → Leads (onward axis rows links) s m → on_axis axis (path_with t (pre_at rows k) attr) (row_path t (pre_at rows m)) ≡ true
  chain-on a.Parent n d linked = parent-on d linked
  chain-on a.Ancestor n d linked = ancestor-on d linked
  chain-on a.AncestorOrSelf n d linked = self-on d linked
  chain-on a.PrecedingSibling n d linked = preceding-on d linked
  chain-on a.FollowingSibling n d linked = following-on d linked
  chain-on a.SelfNode n d linked = absurd (false≢true n)
  chain-on a.Child n d linked = child-on d linked
  chain-on a.Attribute n d linked = absurd (false≢true n)
  chain-on a.Descendant n d linked = absurd (false≢true n)
  chain-on a.DescendantOrSelf n d linked = absurd (false≢true n)
  chain-on a.Following n d linked = absurd (false≢true n)
  chain-on a.Preceding n d linked = absurd (false≢true n)

  -- ---- what is on the axis is on the chain

  -- the rows on the axis of a row, or of an attribute of it, were read
  abbrev pub WereRead : Axis → ℕ → ℕ → Type 0
  WereRead axis attr c = (x : ℕ) → x < length (enc t) → on_axis axis (path_with t c attr) (row_path t x) ≡ true → (k : ℕ) × (k < length rows) × (pre_at rows k ≡ x)

  abbrev On : Axis → Type 0
  On axis = (attr k m : ℕ) → k < length rows → m < length rows → WereRead axis attr (pre_at rows k) → on_axis axis (path_with t (pre_at rows k) attr) (row_path t (pre_at rows m)) ≡ true → Begun axis rows links attr k m

  on-parent : Laid a.Parent tested t rows → Linked a.Parent rows links (length rows) → On a.Parent
  on-parent d linked zero k m l h b e =
      let c : IsChild t (pre_at rows m) (pre_at rows k) = child-from t (pre_at rows m) (pre_at rows k) (d.stood m h).within (d.stood k l).within (sym (by-child t (pre_at rows m) (pre_at rows k) (bridge t) (d.stood m h).within (d.stood k l).within) ∙ e) in
      record { start = m; begins = next-parent a.Parent tested t rows links d linked refl refl (λ s r. refl) m k h l c; leads = leads_here }
  on-parent d linked (suc i) k m l h b e =
      let f : is_same (path_at t (pre_at rows m)) (path_at t (pre_at rows k)) ≡ true = rw (no_zero i) at e in
      let q : pre_at rows m ≡ pre_at rows k = eqb-true (pre_at rows m) (pre_at rows k) (sym (same t (pre_at rows m) (pre_at rows k) (bridge t) (d.stood m h).within (d.stood k l).within) ∙ f) in
      let p : m ≡ k = same-place a.Parent tested t rows links d linked m k h l q in
      record { start = k; begins = rw (no_zero i) refl; leads = subst (λ z. Leads (onward a.Parent rows links) k z) (sym p) leads_here }

  on-ancestor : Laid a.Ancestor tested t rows → Linked a.Ancestor rows links (length rows) → On a.Ancestor
  on-ancestor d linked zero k m l h b e =
      let p = and_parts (nat_lt (pre_at rows m) (pre_at rows k)) (nat_le (pre_at rows k) (pre_at rows m + (line_in (enc t) (pre_at rows m)).size)) (sym (by-ancestor t (pre_at rows k) (pre_at rows m) (bridge t) (d.stood k l).within (d.stood m h).within) ∙ e) in
      let lt : pre_at rows m < pre_at rows k = ltb-true (pre_at rows m) (pre_at rows k) p.0 in
      let o : Over a.Ancestor tested t rows links d linked m k = record { from = omega arith; to = leb-true (pre_at rows k) (pre_at rows m + (line_in (enc t) (pre_at rows m)).size) p.1 } in
      let mk : m < k = over-before a.Ancestor tested t rows links d linked refl m k h l lt in
      let x = leads-split (over-leads a.Ancestor tested t rows links d linked refl refl (λ s r. refl) (suc k) m k (omega arith) l (omega arith) o) mk in
      record { start = x.0; begins = x.1; leads = x.2 }
  on-ancestor d linked (suc i) k m l h b e =
      let p = and_parts (is_prefix (path_at t (pre_at rows m)) (path_at t (pre_at rows k))) _ e in
      let o : Over a.Ancestor tested t rows links d linked m k = over-within a.Ancestor tested t rows links d linked m k (sym ((bridge t).prefix (pre_at rows m) (pre_at rows k) (d.stood m h).within (d.stood k l).within) ∙ p.0) in
      record { start = k; begins = rw (no_zero i) refl; leads = over-leads a.Ancestor tested t rows links d linked refl refl (λ s r. refl) (suc k) m k (omega arith) l (over-place a.Ancestor tested t rows links d linked refl m k h l o) o }

  on-self : Laid a.AncestorOrSelf tested t rows → Linked a.AncestorOrSelf rows links (length rows) → On a.AncestorOrSelf
  on-self d linked attr k m l h b e =
      let o : Over a.AncestorOrSelf tested t rows links d linked m k = over-within a.AncestorOrSelf tested t rows links d linked m k (at attr e) in
      record { start = k; begins = refl; leads = over-leads a.AncestorOrSelf tested t rows links d linked refl refl (λ s r. refl) (suc k) m k (omega arith) l (over-place a.AncestorOrSelf tested t rows links d linked refl m k h l o) o }
    where
      at : (attr : ℕ) → on_axis a.AncestorOrSelf (path_with t (pre_at rows k) attr) (row_path t (pre_at rows m)) ≡ true → within (enc t) (pre_at rows m) (pre_at rows k) ≡ true
      at zero e = sym (by-ancestor_or_self t (pre_at rows k) (pre_at rows m) (bridge t) (d.stood k l).within (d.stood m h).within) ∙ e
      at (suc i) e =
          let pre : is_prefix (path_at t (pre_at rows m)) (path_at t (pre_at rows k)) ≡ true = elim (or_cases (on_ancestor (path_with t (pre_at rows k) (suc i)) (row_path t (pre_at rows m))) (on_self (path_with t (pre_at rows k) (suc i)) (row_path t (pre_at rows m))) e) [
            | inl x ↦ (and_parts (is_prefix (path_at t (pre_at rows m)) (path_at t (pre_at rows k))) _ x).0
            | inr x ↦ absurd (let z = and_parts (is_same (path_at t (pre_at rows k)) (path_at t (pre_at rows m))) (nat_eq (suc i) 0) x in omega (arith, eqb-true (suc i) 0 z.1))
          ] in
          sym ((bridge t).prefix (pre_at rows m) (pre_at rows k) (d.stood m h).within (d.stood k l).within) ∙ pre

  on-preceding : Laid a.PrecedingSibling tested t rows → Linked a.PrecedingSibling rows links (length rows) → On a.PrecedingSibling
  on-preceding d linked zero k m l h b e =
      let x = before-from t (pre_at rows k) (pre_at rows m) (d.stood k l).within (d.stood m h).within e in
      let mk : m < k = over-before a.PrecedingSibling tested t rows links d linked refl m k h l x.1 in
      let y = leads-split (siblings-lead a.PrecedingSibling tested t rows links d linked (refl, λ s r. refl) refl x.0.0 m k h l x.0.2 x.0.1 x.1
      (λ v lo hi c. elim (cases_lt v (pre_at rows k)) [
        | inl less ↦ b v c.row (before-to t (pre_at rows k) v (x.0.0, x.0.1, c) less)
        | inr more ↦ (k, l, omega arith)
      ])) mk in
      record { start = y.0; begins = y.1; leads = y.2 }
  on-preceding d linked (suc i) k m l h b e = absurd (false≢true (rw (no_zero i) at e))

  on-following : Laid a.FollowingSibling tested t rows → Linked a.FollowingSibling rows links (length rows) → On a.FollowingSibling
  on-following d linked zero k m l h b e =
      let x = after-from t (pre_at rows k) (pre_at rows m) (d.stood k l).within (d.stood m h).within e in
      let mk : m < k = elim (cases_order m k) [
        | inl q ↦ absurd (let z : pre_at rows m ≡ pre_at rows k = ap (pre_at rows) q in omega (arith, x.1))
        | inr o ↦ elim o [ inl y ↦ y | inr y ↦ absurd (omega (arith, x.1, d.down refl k m y h)) ]
      ] in
      let y = leads-split (siblings-lead_on a.FollowingSibling tested t rows links d linked (refl, λ s r. refl) refl x.0.0 k m l h x.0.1 x.0.2 x.1
      (λ v lo hi c. elim (cases_lt (pre_at rows k) v) [
        | inl more ↦ b v c.row (after-to t (pre_at rows k) v (x.0.0, x.0.1, c) more)
        | inr less ↦ (k, l, omega arith)
      ])) mk in
      record { start = y.0; begins = y.1; leads = y.2 }
  on-following d linked (suc i) k m l h b e = absurd (false≢true (rw (no_zero i) at e))

  on-child : Laid a.Child tested t rows → Linked a.Child rows links (length rows) → On a.Child
  on-child d linked zero k m l h b e =
      let c : IsChild t (pre_at rows k) (pre_at rows m) = child-from t (pre_at rows k) (pre_at rows m) (d.stood k l).within (d.stood m h).within (sym (by-child t (pre_at rows k) (pre_at rows m) (bridge t) (d.stood k l).within (d.stood m h).within) ∙ e) in
      let inner : 0 < (line_in (enc t) (pre_at rows k)).size = omega (arith, c.after, c.inside) in
      let x : ℕ = suc (pre_at rows k) in
      let f : IsChild t (pre_at rows k) x = child-from t (pre_at rows k) x (d.stood k l).within (omega (arith, c.row, c.after)) ((children_stand t).first (pre_at rows k) (d.stood k l).within inner) in
      let i = read x f in
      let before : k ≡ suc i.0 = next-place i.0 i.1 i.2 in
      let begins : first_child rows k ≡ Some i.0 = ap (first_child rows) before ∙ first-child_to rows i.0 (i.2 ∙ ap (λ z. suc (pre_at rows z)) before ∙ plus (pre_at rows (suc i.0))) (subst (λ z. pre_at rows z < (row_at rows z).last) before (omega (arith, inner, (d.stood k l).last))) in
      record {
        start = i.0;
        begins = begins;
        leads = elim (cases_lt (pre_at rows i.0) (pre_at rows m)) [
          | inl less ↦ siblings-lead_on a.Child tested t rows links d linked (refl, λ s r. refl) refl (pre_at rows k) i.0 m i.1 h (subst (λ z. IsChild t (pre_at rows k) z) (sym i.2) f) c less (λ v lo hi y. read v y)
          | inr more ↦ (let q : i.0 ≡ m = same-place a.Child tested t rows links d linked i.0 m i.1 h (omega (arith, i.2, c.after)) in subst (λ z. Leads (onward a.Child rows links) i.0 z) q leads_here)
        ];
      }
    where
      read : (v : ℕ) → IsChild t (pre_at rows k) v → (i : ℕ) × (i < length rows) × (pre_at rows i ≡ v)
      read v y = b v y.row (by-child t (pre_at rows k) v (bridge t) y.parent y.row ∙ child-to t (pre_at rows k) v y)

      plus : (z : ℕ) → suc z ≡ z + 1
      plus z = omega arith

      next-place : (i : ℕ) → i < length rows → pre_at rows i ≡ suc (pre_at rows k) → k ≡ suc i
      next-place i li e = elim (cases_order k (suc i)) [
        | inl q ↦ q
        | inr o ↦ elim o [
          | inl less ↦ elim (cases_order k i) [
            | inl q ↦ absurd (let z : pre_at rows k ≡ pre_at rows i = ap (pre_at rows) q in omega arith)
            | inr p ↦ elim p [ inl y ↦ absurd (omega (arith, d.down refl k i y li)) | inr y ↦ absurd (omega arith) ]
          ]
          | inr more ↦ absurd (omega (arith, d.down refl i (suc i) (omega arith) (omega arith), d.down refl (suc i) k more l))
        ]
      ]
  on-child d linked (suc i) k m l h b e = absurd (false≢true (rw (no_zero i) at e))

  pub on-chain : (axis : Axis) → is_chained axis ≡ true → Laid axis tested t rows → Linked axis rows links (length rows) → (attr k m : ℕ) → k < length rows → m < length rows → WereRead axis attr (pre_at rows k) → on_axis axis (path_with t (pre_at rows k) attr) (row_path t (pre_at rows m)) ≡ true → Begun axis rows links attr k m
  on-chain a.Parent n d linked = on-parent d linked
  on-chain a.Ancestor n d linked = on-ancestor d linked
  on-chain a.AncestorOrSelf n d linked = on-self d linked
  on-chain a.PrecedingSibling n d linked = on-preceding d linked
  on-chain a.FollowingSibling n d linked = on-following d linked
  on-chain a.SelfNode n d linked = absurd (false≢true n)
  on-chain a.Child n d linked = on-child d linked
  on-chain a.Attribute n d linked = absurd (false≢true n)
  on-chain a.Descendant n d linked = absurd (false≢true n)
  on-chain a.DescendantOrSelf n d linked = absurd (false≢true n)
  on-chain a.Following n d linked = absurd (false≢true n)
  on-chain a.Preceding n d linked = absurd (false≢true n)
