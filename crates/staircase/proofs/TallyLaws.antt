-- The counts of a join are those of the step.
use Rattle.std.proofs.Common.{inl, inr, ◌⊎◌, ◌≡◌, ℕ, suc, ◌-◌, ◌<◌, Bool, true, false, not, ◌&&◌, ◌||◌, List, [], ◌∷◌, ◌++◌, length, map, refl, sym, ap, ◌∙◌, subst, arith}
use Rattle.std.specs.Prelude.{nat_lt}
use Rattle.std.proofs.lemmas.Bool.{lt-ltb, and_parts, and_from, or_left, or_right, or_cases, false≢true}
use Rattle.std.proofs.lemmas.List.{length-map}
use Rattle.xq_base.specs.declared.item.TextId.{TextId}
use Rattle.xq_base.specs.declared.axis.Axis.{Axis}
use Rattle.xq_base.specs.declared.axis.NodeTest.{NodeTest}
use Rattle.doc_table.specs.Tree.{Tree}
use Rattle.doc_table.specs.Enc.{enc}
use Rattle.doc_table.specs.Axes.{on_axis}
use Rattle.doc_table.specs.Places.{Place, names_node, node_at, is_lone, row_path}
use Rattle.doc_table.specs.Attributes.{attributes_apart}
use Rattle.doc_table.specs.Touched.{count, counts, is_context, is_result, touched, touched_rows, some_place}
use Rattle.doc_table.proofs.Marks.{bridge}
use Rattle.doc_table.proofs.RowNodes.{row_named, row_not_named, row_node}
use Rattle.staircase.specs.declared.hits.Hit.{Hit}
use Rattle.staircase.specs.declared.kinds.Ctx.{Ctx}
use Rattle.staircase.specs.declared.seen.Seen.{Seen}
use Rattle.staircase.specs.Ahead.{has, UpFrom}
use Rattle.staircase.specs.Hits.{Ascending, all_after, ctx_of}
use Rattle.staircase.specs.Joins.{IsCount, Ready, Stands, path_with, place_of, places, row_hit, tally_of}
use Rattle.staircase.specs.Parts.{In}
use Rattle.staircase.specs.Seen.{seen_of}
use Rattle.staircase.specs.Tasks.{Gains, lets}
use Rattle.staircase.proofs.RowsAhead.{has-below}
use Rattle.staircase.proofs.CountLaws.{count-hits, count-parts, row_ctx}
use Rattle.staircase.proofs.Elements.{in-contains, contains-in}
use Rattle.staircase.proofs.GatherLaws.{axis-touched, own-touched, row-of}
use Rattle.staircase.proofs.RowTests.{is-node, lone-none}
use Rattle.staircase.proofs.SomeTests.{has-in, in-has, place-in_some, some-place_in}
use Rattle.staircase.proofs.TouchedRows.{own-is, own-up}

-- ---- results

-- a row on the axis of a node of the context
abbrev pub OnAxis : Axis → Tree TextId → List Ctx → ℕ → Type 0
OnAxis axis t cs v = (c : Ctx) × In c cs × (on_axis axis (path_with t c.pre c.attr) (row_path t v) ≡ true)

pub result-from : (axis : Axis) (t : Tree TextId) (cs : List Ctx) (v : ℕ) → is_lone t ≡ false → v < length (enc t) → OnAxis axis t cs v → is_result axis t (places cs) v ≡ true
result-from axis t cs v l m o =
    let q : Place = record { pre = v; attr = 0 } in
    let on : on_axis axis (node_at t (place_of o.0)) (node_at t q) ≡ true = rw l o.2 in
    and_from (names_node t q) (some_place (λ c. on_axis axis (node_at t c) (node_at t q)) (places cs)) (row_named t v l m) (place-in_some (λ c. on_axis axis (node_at t c) (node_at t q)) o.0 cs o.1 on)

pub result-to : (axis : Axis) (t : Tree TextId) (cs : List Ctx) (v : ℕ) → is_result axis t (places cs) v ≡ true → (is_lone t ≡ false) × OnAxis axis t cs v
result-to axis t cs v e =
    let q : Place = record { pre = v; attr = 0 } in
    let p = and_parts (names_node t q) (some_place (λ c. on_axis axis (node_at t c) (node_at t q)) (places cs)) e in
    let r = some-place_in (λ c. on_axis axis (node_at t c) (node_at t q)) cs p.1 in
    go (is_lone t) refl p.0 r
  where
    go : (d : Bool) → is_lone t ≡ d → names_node t (record { pre = v; attr = 0 }) ≡ true → (c : Ctx) × In c cs × (on_axis axis (node_at t (place_of c)) (node_at t (record { pre = v; attr = 0 })) ≡ true) → (is_lone t ≡ false) × OnAxis axis t cs v
    go true l n r = absurd (row_not_named t v l n)
    go false l n r = (l, (r.0, r.1, rw l at r.2))

-- ---- what the gathered rows are

pub not-lone : (axis : Axis) (test : NodeTest) (t : Tree TextId) (v : ℕ) → attributes_apart t ≡ true → v < length (enc t) → (counting : Bool) → lets counting (seen_of axis test t v) ≡ true → is_lone t ≡ false
not-lone axis test t v s l counting e = go (is_lone t) refl counting e
  where
    go : (d : Bool) → is_lone t ≡ d → (b : Bool) → lets b (seen_of axis test t v) ≡ true → d ≡ false
    go false q b e = refl
    go true q true e = absurd (false≢true (sym (lone-none axis test t v s q l).1 ∙ e))
    go true q false e = absurd (false≢true (sym (lone-none axis test t v s q l).0 ∙ e))

-- a counted row that is gathered
counted-from : (axis : Axis) (test : NodeTest) (t : Tree TextId) (cs : List Ctx) (rows : List ℕ) (seen : List Seen) → Ready axis test t cs rows seen → (old new : List Hit) → Gains (Stands axis test t cs true) old new → (h : Hit) → In h new → In h old ⊎ ((v : ℕ) × (v < length (enc t)) × (is_result axis t (places cs) v ≡ true) × (h ≡ row_hit v))
counted-from axis test t cs rows seen r old new a h i = elim (a.sound h i) [
  | inl o ↦ inl o
  | inr s ↦ (let l = not-lone axis test t s.row r.apart s.within true s.lets_in in
      inr (s.row, s.within, result-from axis t cs s.row l s.within (s.ctx, s.there, s.on), s.is))
]

counted-to : (axis : Axis) (test : NodeTest) (t : Tree TextId) (cs : List Ctx) (rows : List ℕ) (seen : List Seen) → Ready axis test t cs rows seen → (old new : List Hit) → Gains (Stands axis test t cs true) old new → (v : ℕ) → v < length (enc t) → is_result axis t (places cs) v ≡ true → In (row_hit v) new
counted-to axis test t cs rows seen r old new a v l e =
    let o = result-to axis t cs v e in
    a.complete (row_hit v) (record { ctx = o.1.0; there = o.1.1; row = v; within = l; lets_in = is-node axis test t v (row_node t v r.apart o.0 l); on = o.1.2; is = refl })

-- ---- counts

nil-append : (xs : List Ctx) → [] ++ xs ≡ xs
nil-append xs = refl

count-of : (p : ℕ → Bool) (m : ℕ) (hits : List Hit) (k : ℕ) → IsCount hits k → ((h : Hit) → In h hits → (v : ℕ) × (v < m) × (p v ≡ true) × (h ≡ row_hit v)) → ((v : ℕ) → v < m → p v ≡ true → In (row_hit v) hits) → k ≡ count p m
count-of p m hits k c f g =
    let more : List Ctx = c.appends.more in
    c.count ∙ ap length c.appends.appended ∙ count-hits p m more c.appends.ascending
    (λ x i. let h = c.appends.sound x (in-contains x more i) in let w = f h.0 (contains-in h.0 hits h.1) in (w.0, w.1, w.2, sym h.2 ∙ ap ctx_of w.3))
    (λ v l e. contains-in (row_ctx v) more (c.appends.complete (row_hit v) (in-contains (row_hit v) hits (g v l e))))

up-after : (c : Ctx) (a m : ℕ) (xs : List ℕ) → UpFrom a m xs → c.pre < a → all_after c (map row_ctx xs)
up-after c a m [] u l = tt
up-after c a m (x ∷ xs) u l = (or_left (nat_lt c.pre x) _ (lt-ltb c.pre x (omega (arith, u.0))), up-after c (suc x) m xs u.2 (omega (arith, u.0)))

up-ascends : (a m : ℕ) (xs : List ℕ) → UpFrom a m xs → Ascending (map row_ctx xs)
up-ascends a m [] u = tt
up-ascends a m (x ∷ xs) u = (up-after (row_ctx x) (suc x) m xs u.2 (omega arith), up-ascends (suc x) m xs u.2)

rows-from : (c : Ctx) (xs : List ℕ) → In c (map row_ctx xs) → (v : ℕ) × In v xs × (c ≡ row_ctx v)
rows-from c [] h = absurd h
rows-from c (x ∷ xs) h = elim h [ inl e ↦ (x, inl refl, e) | inr y ↦ (let k = rows-from c xs y in (k.0, inr k.1, k.2)) ]

rows-to : (v : ℕ) (xs : List ℕ) → In v xs → In (row_ctx v) (map row_ctx xs)
rows-to v [] h = absurd h
rows-to v (x ∷ xs) h = elim h [ inl e ↦ inl (ap row_ctx e) | inr y ↦ inr (rows-to v xs y) ]

count-up : (p : ℕ → Bool) (m : ℕ) (xs : List ℕ) → UpFrom 0 m xs → ((v : ℕ) → has v xs ≡ p v) → length xs ≡ count p m
count-up p m xs u f = sym (length-map xs row_ctx) ∙ count-hits p m (map row_ctx xs) (up-ascends 0 m xs u)
    (λ c i. let w = rows-from c xs i in let h = has-in w.0 xs w.1 in (w.0, (has-below 0 m w.0 xs u h).1, sym (f w.0) ∙ h, w.2))
    (λ v l e. rows-to v xs (in-has v xs (f v ∙ e)))

hit-rows : (h : Hit) (xs : List ℕ) → In h (map row_hit xs) → (v : ℕ) × In v xs × (h ≡ row_hit v)
hit-rows h [] i = absurd i
hit-rows h (x ∷ xs) i = elim i [ inl e ↦ (x, inl refl, e) | inr y ↦ (let k = hit-rows h xs y in (k.0, inr k.1, k.2)) ]

rows-hit : (v : ℕ) (xs : List ℕ) → In v xs → In (row_hit v) (map row_hit xs)
rows-hit v [] i = absurd i
rows-hit v (x ∷ xs) i = elim i [ inl e ↦ inl (ap row_hit e) | inr y ↦ inr (rows-hit v xs y) ]

pub tally-is : (axis : Axis) (test : NodeTest) (t : Tree TextId) (cs : List Ctx) (rows : List ℕ) (seen : List Seen) (found before both : List Hit) (result other skipped : ℕ) → Ready axis test t cs rows seen
    → Gains (Stands axis test t cs true) [] found → IsCount found result → before ≡ [] ++ map row_hit rows → Gains (Stands axis test t cs true) before both → IsCount both other → skipped ≡ length seen - other
    → record { context = length rows; result = result; skipped = skipped; read = length seen } ≡ tally_of (counts axis t (places cs))
tally-is axis test t cs rows seen found before both result other skipped r a c e d f g =
    let b = bridge t in
    let m : ℕ = length (enc t) in
    let up : UpFrom 0 m rows = subst (λ z. UpFrom 0 m z) (sym r.rows_are) (own-up axis t cs b r.ascending r.nodes) in
    let is : (v : ℕ) → has v rows ≡ is_context axis (places cs) v = λ v. ap (has v) r.rows_are ∙ own-is axis cs v in
    let context : length rows ≡ count (is_context axis (places cs)) m = count-up (is_context axis (places cs)) m rows up is in
    let res : result ≡ count (is_result axis t (places cs)) m = count-of (is_result axis t (places cs)) m found result c
    (λ h i. elim (counted-from axis test t cs rows seen r [] found a h i) [ inl o ↦ absurd o | inr w ↦ w ])
    (λ v l q. counted-to axis test t cs rows seen r [] found a v l q) in
    let p : ℕ → Bool = λ v. is_context axis (places cs) v || is_result axis t (places cs) v in
    let oth : other ≡ count p m = count-of p m both other f
    (λ h i. elim (counted-from axis test t cs rows seen r before both d h i) [
      | inl o ↦ (let w = hit-rows h rows (subst (λ z. In h z) e o) in let k = has-in w.0 rows w.1 in (w.0, (has-below 0 m w.0 rows up k).1, or_left (is_context axis (places cs) w.0) (is_result axis t (places cs) w.0) (sym (is w.0) ∙ k), w.2))
      | inr w ↦ (w.0, w.1, or_right (is_context axis (places cs) w.0) (is_result axis t (places cs) w.0) w.2, w.3)
    ])
    (λ v l q. elim (or_cases (is_context axis (places cs) v) (is_result axis t (places cs) v) q) [
      | inl x ↦ d.kept (row_hit v) (subst (λ z. In (row_hit v) z) (sym e) (rows-hit v rows (in-has v rows (is v ∙ x))))
      | inr x ↦ counted-to axis test t cs rows seen r before both d v l x
    ]) in
    let read : length seen ≡ count (touched axis t (places cs)) m = ap length r.seen_are ∙ length-map (touched_rows axis t (places cs)) (seen_of axis test t) in
    let parts = count-parts (touched axis t (places cs)) p m (λ v l q. elim (or_cases (is_context axis (places cs) v) (is_result axis t (places cs) v) q) [
      | inl x ↦ own-touched axis t cs v l x
      | inr x ↦ (let o = result-to axis t cs v x in axis-touched axis t cs o.1.0 v o.1.1 (row-of axis t cs b r.nodes o.1.0 o.1.1) l o.1.2)
    ]) in
    let skip : skipped ≡ count (λ v. touched axis t (places cs) v && not (p v)) m = omega (arith, g, read, oth, parts) in
    ap (λ z. record { context = z; result = result; skipped = skipped; read = length seen }) context
    ∙ ap (λ z. record { context = count (is_context axis (places cs)) m; result = z; skipped = skipped; read = length seen }) res
    ∙ ap (λ z. record { context = count (is_context axis (places cs)) m; result = count (is_result axis t (places cs)) m; skipped = z; read = length seen }) skip
    ∙ ap (λ z. record { context = count (is_context axis (places cs)) m; result = count (is_result axis t (places cs)) m; skipped = count (λ v. touched axis t (places cs) v && not (p v)) m; read = z }) read
