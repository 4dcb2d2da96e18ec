-- The rows that were read, as a list.
use Rattle.std.proofs.Common.{inl, inr, ◌⊎◌, ◌≡◌, ℕ, zero, suc, ◌+◌, ◌-◌, ◌<◌, ◌≤◌, Bool, true, false, cond, List, [], ◌∷◌, ◌++◌, length, map, refl, sym, ap, ◌∙◌, subst, arith, Some, length-append}
use Rattle.std.specs.Prelude.{nat_eq, slice_index_or}
use Rattle.std.proofs.lemmas.Bool.{cases_lt, eqb-true}
use Rattle.std.proofs.lemmas.List.{append-nil, map-append, get_or_append_left, get_or-append-add}
use Rattle.xq_base.specs.declared.item.TextId.{TextId}
use Rattle.xq_base.specs.declared.axis.Axis.{Axis}
use Rattle.xq_base.specs.declared.axis.NodeTest.{NodeTest}
use Rattle.doc_table.specs.Tree.{Tree, Forest, Branch, no_more, one_more}
use Rattle.doc_table.specs.Enc.{enc, enc_at, encs_at, line_in, no_line}
use Rattle.doc_table.specs.Places.{RowsTell}
use Rattle.doc_table.specs.Touched.{picked}
use Rattle.staircase.specs.declared.seen.Seen.{Seen}
use Rattle.staircase.specs.Made.{row_found}
use Rattle.staircase.specs.Parts.{In, IsRising, IsSmall, AreRows}
use Rattle.staircase.specs.Seen.{seen_of}
use Rattle.staircase.proofs.PartLaws.{in-at, place-in}
use Rattle.staircase.proofs.SomeTests.{in-picked, picked-in}
use Rattle.staircase.proofs.TaskLaws.{row-found_at}

-- ---- a row is no deeper than its number

mutual
  level-tree : (l : ℕ) (t : Tree TextId) (k : ℕ) → k < length (enc_at l t) → (slice_index_or (enc_at l t) k no_line).level ≤ l + k
  level-tree l (Branch x f) zero h = omega arith
  level-tree l (Branch x f) (suc k) h = (let r = level-forest (l + 1) f k (omega arith) in omega arith)

  level-forest : (l : ℕ) (f : Forest TextId) (k : ℕ) → k < length (encs_at l f) → (slice_index_or (encs_at l f) k no_line).level ≤ l + k
  level-forest l no_more k h = absurd (omega arith)
  level-forest l (one_more t ts) k h =
      let whole : length (encs_at l (one_more t ts)) ≡ length (enc_at l t) + length (encs_at l ts) = length-append (enc_at l t) (encs_at l ts) in
      elim (cases_lt k (length (enc_at l t))) [
        | inl a ↦ (let e : (slice_index_or (encs_at l (one_more t ts)) k no_line).level ≡ (slice_index_or (enc_at l t) k no_line).level = ap (λ z. z.level) (get_or_append_left (enc_at l t) (encs_at l ts) no_line k a) in
            let r = level-tree l t k a in omega arith)
        | inr g ↦ (let m : ℕ = k - length (enc_at l t) in
            let place : k ≡ length (enc_at l t) + m = omega arith in
            let e : (slice_index_or (encs_at l (one_more t ts)) k no_line).level ≡ (slice_index_or (encs_at l ts) m no_line).level = ap (λ z. (slice_index_or (encs_at l (one_more t ts)) z no_line).level) place ∙ ap (λ z. z.level) (get_or-append-add (enc_at l t) (encs_at l ts) m no_line) in
            let r = level-forest l ts m (omega (arith, whole)) in omega arith)
      ]

-- ---- elements of the list

in-lined : (axis : Axis) (tested : NodeTest) (t : Tree TextId) (v : ℕ) (rows : List ℕ) → In v rows → In (seen_of axis tested t v) (map (seen_of axis tested t) rows)
in-lined axis tested t v [] h = absurd h
in-lined axis tested t v (x ∷ rows) h = elim h [ inl e ↦ inl (ap (seen_of axis tested t) e) | inr r ↦ inr (in-lined axis tested t v rows r) ]

lined-in : (axis : Axis) (tested : NodeTest) (t : Tree TextId) (s : Seen) (rows : List ℕ) → In s (map (seen_of axis tested t) rows) → (v : ℕ) × In v rows × (s ≡ seen_of axis tested t v)
lined-in axis tested t s [] h = absurd h
lined-in axis tested t s (x ∷ rows) h = elim h [ inl e ↦ (x, inl refl, e) | inr r ↦ (let k = lined-in axis tested t s rows r in (k.0, inr k.1, k.2)) ]

-- the rows below n that pass
abbrev pub rows_read : Axis → NodeTest → Tree TextId → (ℕ → Bool) → ℕ → List Seen
rows_read axis tested t wants n = map (seen_of axis tested t) (picked wants n)

pub read-in : (axis : Axis) (tested : NodeTest) (t : Tree TextId) (wants : ℕ → Bool) (n v : ℕ) → v < n → wants v ≡ true → In (seen_of axis tested t v) (rows_read axis tested t wants n)
read-in axis tested t wants n v l e = in-lined axis tested t v (picked wants n) (in-picked wants n v l e)

pub in-read : (axis : Axis) (tested : NodeTest) (t : Tree TextId) (wants : ℕ → Bool) (n : ℕ) (s : Seen) → In s (rows_read axis tested t wants n) → (v : ℕ) × (v < n) × (wants v ≡ true) × (s ≡ seen_of axis tested t v)
in-read axis tested t wants n s h =
    let r = lined-in axis tested t s (picked wants n) h in
    let p = picked-in wants n r.0 r.1 in
    (r.0, p.0, p.1, r.2)

read-more : (axis : Axis) (tested : NodeTest) (t : Tree TextId) (wants : ℕ → Bool) (n : ℕ) → rows_read axis tested t wants (suc n) ≡ rows_read axis tested t wants n ++ map (seen_of axis tested t) (cond (wants n) (n ∷ []) [])
read-more axis tested t wants n = map-append (seen_of axis tested t) (picked wants n) (cond (wants n) (n ∷ []) [])

pre-below : (axis : Axis) (tested : NodeTest) (t : Tree TextId) (wants : ℕ → Bool) (n k : ℕ) (d : Seen) → k < length (rows_read axis tested t wants n) → (slice_index_or (rows_read axis tested t wants n) k d).pre < n
pre-below axis tested t wants n k d l =
    let r = in-read axis tested t wants n (slice_index_or (rows_read axis tested t wants n) k d) (in-at (rows_read axis tested t wants n) k d l) in
    let e : (slice_index_or (rows_read axis tested t wants n) k d).pre ≡ r.0 = ap (λ (z : Seen). z.pre) r.3 in
    omega (arith, r.1)

rising-more : (xs : List Seen) (s : Seen) → IsRising xs → ((k : ℕ) (d : Seen) → k < length xs → (slice_index_or xs k d).pre < s.pre) → IsRising (xs ++ s ∷ [])
rising-more xs s r f = λ i j d h l. here i j d h l (cases_lt j (length xs))
  where
    long : length (xs ++ s ∷ []) ≡ length xs + 1
    long = length-append xs (s ∷ [])

    here : (i j : ℕ) (d : Seen) → i < j → j < length (xs ++ s ∷ []) → (j < length xs) ⊎ (length xs ≤ j) → (slice_index_or (xs ++ s ∷ []) i d).pre < (slice_index_or (xs ++ s ∷ []) j d).pre
    here i j d h l (inl m) =
        let ei : (slice_index_or (xs ++ s ∷ []) i d).pre ≡ (slice_index_or xs i d).pre = ap (λ (z : Seen). z.pre) (get_or_append_left xs (s ∷ []) d i (omega arith)) in
        let ej : (slice_index_or (xs ++ s ∷ []) j d).pre ≡ (slice_index_or xs j d).pre = ap (λ (z : Seen). z.pre) (get_or_append_left xs (s ∷ []) d j m) in
        let less = r i j d h m in omega arith
    here i j d h l (inr g) =
        let last : j ≡ length xs + 0 = omega (arith, long) in
        let ei : (slice_index_or (xs ++ s ∷ []) i d).pre ≡ (slice_index_or xs i d).pre = ap (λ (z : Seen). z.pre) (get_or_append_left xs (s ∷ []) d i (omega (arith, long))) in
        let ej : (slice_index_or (xs ++ s ∷ []) j d).pre ≡ s.pre = ap (λ z. (slice_index_or (xs ++ s ∷ []) z d).pre) last ∙ ap (λ (z : Seen). z.pre) (get_or-append-add xs (s ∷ []) 0 d) in
        let less = f i d (omega (arith, long)) in omega arith

read-rises : (axis : Axis) (tested : NodeTest) (t : Tree TextId) (wants : ℕ → Bool) (n : ℕ) → IsRising (rows_read axis tested t wants n)
read-rises axis tested t wants zero = λ i j d h l. absurd (omega arith)
read-rises axis tested t wants (suc n) = subst IsRising (sym (read-more axis tested t wants n)) (here (wants n) (read-rises axis tested t wants n))
  where
    here : (b : Bool) → IsRising (rows_read axis tested t wants n) → IsRising (rows_read axis tested t wants n ++ map (seen_of axis tested t) (cond b (n ∷ []) []))
    here true r = rising-more (rows_read axis tested t wants n) (seen_of axis tested t n) r (λ k d l. pre-below axis tested t wants n k d l)
    here false r = subst IsRising (sym (append-nil (rows_read axis tested t wants n))) r

pub read-ordered : (axis : Axis) (tested : NodeTest) (t : Tree TextId) (wants : ℕ → Bool) → RowsTell t → length (enc t) < 4294967296 → AreRows (rows_read axis tested t wants (length (enc t)))
read-ordered axis tested t wants b n = record {
  rising = read-rises axis tested t wants (length (enc t));
  small = λ s h.
      let r = in-read axis tested t wants (length (enc t)) s h in
      let v : ℕ = r.0 in
      let ends = b.ends v r.1 in
      let deep = level-tree 0 t v r.1 in
      let small : IsSmall (seen_of axis tested t v) = record { pre = omega (arith, r.1); last = omega arith; level = omega (arith, r.1) } in
      subst IsSmall (sym r.3) small;
  order = λ s h. (let r = in-read axis tested t wants (length (enc t)) s h in
      subst (λ (z : Seen). z.pre ≤ z.last) (sym r.3) (let o : r.0 ≤ r.0 + (line_in (enc t) r.0).size = omega arith in o));
}

-- the row of a node that was read
pub read-found : (axis : Axis) (tested : NodeTest) (t : Tree TextId) (wants : ℕ → Bool) (n v : ℕ) → v < n → wants v ≡ true → row_found (rows_read axis tested t wants n) v ≡ Some (seen_of axis tested t v)
read-found axis tested t wants n v l e =
    let xs : List Seen = rows_read axis tested t wants n in
    let p = place-in (seen_of axis tested t v) xs (read-in axis tested t wants n v l e) in
    row-found_at xs p.0 v (seen_of axis tested t v) (read-rises axis tested t wants n) p.1 (ap (λ (z : Seen). z.pre) p.2) ∙ ap (λ z. Some z) p.2

-- a row that is found is the row with this number
pub found-read : (axis : Axis) (tested : NodeTest) (t : Tree TextId) (wants : ℕ → Bool) (n v : ℕ) (s : Seen) → row_found (rows_read axis tested t wants n) v ≡ Some s → s ≡ seen_of axis tested t v
found-read axis tested t wants n v s e = go (rows_read axis tested t wants n) e (λ r i. in-read axis tested t wants n r i)
  where
    go : (xs : List Seen) → row_found xs v ≡ Some s → ((r : Seen) → In r xs → (w : ℕ) × (w < n) × (wants w ≡ true) × (r ≡ seen_of axis tested t w)) → s ≡ seen_of axis tested t v
    go [] e f = cc
    go (x ∷ xs) e f = at (nat_eq x.pre v) refl e (λ q. go xs q (λ r i. f r (inr i)))
      where
        at : (b : Bool) → nat_eq x.pre v ≡ b → cond b (Some x) (row_found xs v) ≡ Some s → (row_found xs v ≡ Some s → s ≡ seen_of axis tested t v) → s ≡ seen_of axis tested t v
        at true g e k =
            let r = f x (inl refl) in
            let q : s ≡ x = cc in
            let w : r.0 ≡ v = sym (ap (λ (z : Seen). z.pre) r.3) ∙ eqb-true x.pre v g in
            q ∙ r.3 ∙ ap (seen_of axis tested t) w
        at false g e k = k e
