-- What a step appends is what it has.
use Rattle.std.proofs.Common.{inl, inr, ◌≡◌, ℕ, ◌<◌, Bool, true, false, ◌||◌, cond, List, [], ◌++◌, length, refl, sym, ap, ◌∙◌, subst, arith, Some}
use Rattle.std.specs.Prelude.{nat_eq}
use Rattle.std.proofs.lemmas.Bool.{eqb-true, eqb-false, and_parts, and_from, false≢true}
use Rattle.xq_base.specs.declared.item.TextId.{TextId}
use Rattle.xq_base.specs.declared.axis.Axis.{Axis}
use Rattle.xq_base.specs.declared.axis.Axis.TheVariants as a
use Rattle.xq_base.specs.declared.axis.NodeTest.{NodeTest}
use Rattle.doc_table.specs.Tree.{Tree}
use Rattle.doc_table.specs.Enc.{enc}
use Rattle.doc_table.specs.Paths.{label_at}
use Rattle.doc_table.specs.Axes.{id_eq, on_axis, selects_label, test_of, steps_to}
use Rattle.doc_table.specs.Places.{Place, names_node, node_at, is_lone, row_path}
use Rattle.doc_table.specs.Touched.{touched}
use Rattle.doc_table.proofs.Marks.{bridge}
use Rattle.doc_table.proofs.RowNodes.{row_named, row_not_named, named_row, row_node}
use Rattle.staircase.specs.declared.hits.Hit.{Hit}
use Rattle.staircase.specs.declared.kinds.Ctx.{Ctx}
use Rattle.staircase.specs.declared.seen.Seen.{Seen}
use Rattle.staircase.specs.Attributes.{attribute_parts}
use Rattle.staircase.specs.Hits.{AppendsHits, ctx_of}
use Rattle.staircase.specs.Joins.{Joins, Reaches, Ready, Stands, place_of, places}
use Rattle.staircase.specs.Made.{row_found}
use Rattle.staircase.specs.Parts.{In}
use Rattle.staircase.specs.Seen.{seen_of}
use Rattle.staircase.specs.Tasks.{Gains}
use Rattle.staircase.proofs.AttributesComplete.{attributes-complete}
use Rattle.staircase.proofs.RowsRead.{read-found}
use Rattle.staircase.proofs.Elements.{in-left, in-right, in-parts, in-contains, contains-in}
use Rattle.staircase.proofs.GatherLaws.{own-touched, row-of, wanted}
use Rattle.staircase.proofs.RowTests.{passes-is}
use Rattle.staircase.proofs.AttributesSound.{Reached, attributes-sound}
use Rattle.staircase.proofs.RowHits.{context-row}
use Rattle.staircase.proofs.TallyLaws.{not-lone}

-- ---- rows

row-reached : (axis : Axis) (test : NodeTest) (t : Tree TextId) (cs : List Ctx) (rows : List ℕ) (seen : List Seen) → Ready axis test t cs rows seen → (h : Hit) → Stands axis test t cs false h → Reached axis test t cs (ctx_of h)
row-reached axis test t cs rows seen r h s =
    let v : ℕ = s.row in
    let q : Place = record { pre = v; attr = 0 } in
    let l : is_lone t ≡ false = not-lone axis test t v r.apart s.within false s.lets_in in
    let on : on_axis axis (node_at t (place_of s.ctx)) (node_at t q) ≡ true = rw l s.on in
    let label : selects_label id_eq axis (test_of test) (label_at t (node_at t q)) ≡ true = ap (λ z. selects_label id_eq axis (test_of test) (label_at t (cond z (record { steps = []; attr = 0 }) (row_path t v)))) l ∙ sym (passes-is axis test t v (row_node t v r.apart l s.within)) ∙ s.lets_in in
    let there : Reached axis test t cs (record { iter = s.ctx.iter; pre = v; attr = 0 }) = record {
      named = row_named t v l s.within;
      reaches = (s.ctx, s.there, refl, and_from (on_axis axis (node_at t (place_of s.ctx)) (node_at t q)) (selects_label id_eq axis (test_of test) (label_at t (node_at t q))) on label);
    } in
    subst (λ (z : Hit). Reached axis test t cs (ctx_of z)) (sym s.is) there

row-stands : (axis : Axis) (test : NodeTest) (t : Tree TextId) (cs : List Ctx) (rows : List ℕ) (seen : List Seen) → Ready axis test t cs rows seen → (h : Ctx) → h.attr ≡ 0 → names_node t (place_of h) ≡ true → Reaches axis test t cs h → Stands axis test t cs false (record { pre = h.pre; attr = h.attr; iter = h.iter })
row-stands axis test t cs rows seen r h z name x =
    let name0 : names_node t (record { pre = h.pre; attr = 0 }) ≡ true = subst (λ y. names_node t (record { pre = h.pre; attr = y }) ≡ true) z name in
    go (is_lone t) refl name0 (subst (λ y. steps_to id_eq axis (test_of test) t (node_at t (place_of x.0)) (node_at t (record { pre = h.pre; attr = y })) ≡ true) z x.3)
  where
    go : (d : Bool) → is_lone t ≡ d → names_node t (record { pre = h.pre; attr = 0 }) ≡ true → steps_to id_eq axis (test_of test) t (node_at t (place_of x.0)) (node_at t (record { pre = h.pre; attr = 0 })) ≡ true → Stands axis test t cs false (record { pre = h.pre; attr = h.attr; iter = h.iter })
    go true l n s = absurd (row_not_named t h.pre l n)
    go false l n s =
        let q : Place = record { pre = h.pre; attr = 0 } in
        let within : h.pre < length (enc t) = named_row t q (bridge t) n in
        let p = and_parts (on_axis axis (node_at t (place_of x.0)) (node_at t q)) (selects_label id_eq axis (test_of test) (label_at t (node_at t q))) s in
        record {
          ctx = x.0;
          there = x.1;
          row = h.pre;
          within = within;
          lets_in = passes-is axis test t h.pre (row_node t h.pre r.apart l within) ∙ sym (ap (λ y. selects_label id_eq axis (test_of test) (label_at t (cond y (record { steps = []; attr = 0 }) (row_path t h.pre)))) l) ∙ p.1;
          on = rw l at p.0;
          is = ap (λ y. record { pre = h.pre; attr = y; iter = h.iter }) z ∙ ap (λ y. record { pre = h.pre; attr = 0; iter = y }) (sym x.2);
        }

-- ---- all hits

hit-reached : (axis : Axis) (test : NodeTest) (t : Tree TextId) (cs : List Ctx) (rows : List ℕ) (seen : List Seen) (first : List Hit) → Ready axis test t cs rows seen → Gains (Stands axis test t cs false) [] first → (h : Hit) → In h (first ++ attribute_parts axis test t seen cs) → Reached axis test t cs (ctx_of h)
hit-reached axis test t cs rows seen first r a h i = elim (in-parts h first (attribute_parts axis test t seen cs) i) [
  | inl x ↦ elim (a.sound h x) [
    | inl o ↦ absurd o
    | inr f ↦ row-reached axis test t cs rows seen r h f
  ]
  | inr y ↦ attributes-sound axis test t seen cs h (bridge t) r.apart r.nodes y
]

own-found : (axis : Axis) (test : NodeTest) (t : Tree TextId) (cs : List Ctx) (rows : List ℕ) (seen : List Seen) → Ready axis test t cs rows seen → (c : Ctx) → In c cs → axis ≡ a.Attribute → c.attr ≡ 0 → row_found seen c.pre ≡ Some (seen_of axis test t c.pre)
own-found axis test t cs rows seen r c i e z =
    let l = row-of axis t cs (bridge t) r.nodes c i in
    let zero : nat_eq c.attr 0 ≡ true = ap (λ y. nat_eq y 0) z in
    let on : touched axis t (places cs) c.pre ≡ true = own-touched axis t cs c.pre l (context-row axis cs c i (or-first (nat_eq c.attr 0) _ zero)) in
    ap (λ y. row_found y c.pre) r.seen_are ∙ read-found axis test t (wanted axis t cs) (length (enc t)) c.pre l on
  where
    or-first : (x y : Bool) → x ≡ true → (x || y) ≡ true
    or-first true y e = refl
    or-first false y e = absurd (false≢true e)

reached-hit : (axis : Axis) (test : NodeTest) (t : Tree TextId) (cs : List Ctx) (rows : List ℕ) (seen : List Seen) (first : List Hit) → Ready axis test t cs rows seen → Gains (Stands axis test t cs false) [] first → (h : Ctx) → names_node t (place_of h) ≡ true → Reaches axis test t cs h → In (record { pre = h.pre; attr = h.attr; iter = h.iter }) (first ++ attribute_parts axis test t seen cs)
reached-hit axis test t cs rows seen first r a h name x = go (nat_eq h.attr 0) refl
  where
    go : (b : Bool) → nat_eq h.attr 0 ≡ b → In (record { pre = h.pre; attr = h.attr; iter = h.iter }) (first ++ attribute_parts axis test t seen cs)
    go true e =
        let hit : Hit = record { pre = h.pre; attr = h.attr; iter = h.iter } in
        in-left hit first (attribute_parts axis test t seen cs) (a.complete hit (row-stands axis test t cs rows seen r h (eqb-true h.attr 0 e) name x))
    go false e =
        let hit : Hit = record { pre = h.pre; attr = h.attr; iter = h.iter } in
        let ne : h.attr ≡ 0 → ⊥ = eqb-false h.attr 0 e in
        in-right hit first (attribute_parts axis test t seen cs) (attributes-complete axis test t seen cs h (bridge t) r.apart r.nodes (λ c i g z. own-found axis test t cs rows seen r c i g z) name (omega (arith, ne)) x)

pub joined : (axis : Axis) (test : NodeTest) (t : Tree TextId) (cs : List Ctx) (rows : List ℕ) (seen : List Seen) (first hits : List Hit) (old new : List Ctx) → Ready axis test t cs rows seen → Gains (Stands axis test t cs false) [] first → hits ≡ first ++ attribute_parts axis test t seen cs → AppendsHits hits old new → Joins axis test t cs old new
joined axis test t cs rows seen first hits old new r a e p =
    let more : List Ctx = p.more in
    let from : (c : Ctx) → In c more → Reached axis test t cs c = λ c i.
    let h = p.sound c (in-contains c more i) in
    subst (λ (z : Ctx). Reached axis test t cs z) h.2 (hit-reached axis test t cs rows seen first r a h.0 (subst (λ z. In h.0 z) e (contains-in h.0 hits h.1))) in
    record {
      hits = more;
      appended = p.appended;
      are_hits = record {
        ascending = p.ascending;
        nodes = λ c i. (from c i).named;
        sound = λ c i. (from c i).reaches;
        complete = λ c n x. contains-in c more (p.complete (record { pre = c.pre; attr = c.attr; iter = c.iter }) (in-contains (record { pre = c.pre; attr = c.attr; iter = c.iter }) hits (subst (λ z. In (record { pre = c.pre; attr = c.attr; iter = c.iter }) z) (sym e) (reached-hit axis test t cs rows seen first r a c n x))));
      };
    }
