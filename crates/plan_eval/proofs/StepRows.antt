-- What a step finds in all documents of a store is the rows of its operator.
use Rattle.std.proofs.Common.{inl, inr, ◌≡◌, ℕ, zero, suc, ◌<◌, Bool, true, false, cond, ◌&&◌, ◌||◌, List, [], ◌∷◌, ◌++◌, length, map, refl, sym, ap, ◌∙◌, subst, arith, pos, negsuc}
use Rattle.std.specs.Prelude.{nat_eq, nat_lt}
use Rattle.std.specs.List.{filter, flat_map}
use Rattle.std.specs.Ordering.{int_eq}
use Rattle.std.proofs.Common.{Less, Equal, Greater, is_eq}
use Rattle.std.proofs.lemmas.Bool.Decides.{nat_tests}
use Rattle.std.proofs.lemmas.Bool.{false≢true, eqb-true, eq-eqb, and_parts}
use Rattle.xq_base.specs.declared.axis.Axis.{Axis}
use Rattle.xq_base.specs.declared.axis.NodeTest.{NodeTest}
use Rattle.xq_base.specs.declared.item.FragKey.{FragKey}
use Rattle.xq_base.specs.declared.item.FragKey.TheVariants as f
use Rattle.xq_base.specs.declared.item.Item.{Item}
use Rattle.xq_base.specs.declared.item.Item.TheVariants as i
use Rattle.xq_base.specs.declared.item.NodeRef.{NodeRef}
use Rattle.xq_base.specs.Pool.{NoRepeats}
use Rattle.xq_base.specs.Texts.{Text, text_eq}
use Rattle.doc_table.specs.Ascending.{In, Ascends, IsOrder}
use Rattle.doc_table.specs.Attributes.{attributes_apart}
use Rattle.doc_table.specs.Axes.{Test, id_eq, test_of, steps_to}
use Rattle.doc_table.specs.Given.{tree_given}
use Rattle.doc_table.specs.Identity.{Node, node_eq, node_less, node_of, id_of_key, place_of, ref_eq, ref_less, tree_id_eq}
use Rattle.doc_table.specs.Items.{IntItem, NodeItem, item_of}
use Rattle.doc_table.specs.Orders.{has, once}
use Rattle.doc_table.specs.Paths.{Path, is_same, path_eq}
use Rattle.doc_table.specs.Places.{names_node, node_at}
use Rattle.doc_table.specs.Nodes.{node_paths, node_in_tree}
use Rattle.doc_table.specs.StepLaws.{AreReached, Reaches}
use Rattle.doc_table.specs.Steps.{found, test_with, in_document_order}
use Rattle.doc_table.specs.StoredItems.{trees_of, meanings}
use Rattle.doc_table.specs.Stores.{Holdings}
use Rattle.doc_table.specs.TestTexts.{test_given}
use Rattle.doc_table.specs.Tree.{Tree, text_in, with_texts}
use Rattle.doc_table.proofs.Ascending.{after-at, after-all, in-map, in-unmap, has-in, one_ascending, ascends-map, once-ascends, once-from, once-all}
use Rattle.doc_table.proofs.ByTexts.{alike_by_text}
use Rattle.doc_table.proofs.NodeLaws.{same-ref}
use Rattle.doc_table.proofs.Orders.{same-key, references_in_order}
use Rattle.doc_table.proofs.StepLaws.{ordered_once, step_by_numbers}
use Rattle.doc_table.proofs.StrictOrders.{nodes_order, numbers_order, order_by, same-ids, same-lists}
use Rattle.plan_dag.specs.declared.cols.Col.{Col}
use Rattle.plan_dag.specs.Cells.{Rules}
use Rattle.plan_dag.specs.ItemRules.{Cell}
use Rattle.plan_dag.specs.Meaning.{cell, cell_or}
use Rattle.plan_dag.specs.Rows.{steps_from, step_rows, step_less, step_same}
use Rattle.table_ops.specs.Columns.{cells_at, no_cell}
use Rattle.table_ops.specs.Demands.{rules_in}
use Rattle.table_ops.proofs.CellMoves.{cell_moves}
use Rattle.plan_eval.specs.declared.entries.Reached.{Reached}
use Rattle.plan_eval.specs.Entries.{entry_of, entries_of, reached_less, Leads, AreFound}
use Rattle.plan_eval.proofs.OnceMaps.{once-map, turned-order, to-none, map-append, map-map, flat-append, in-flat, from-flat}

-- ---- the entries of one iteration

not-less : (n : ℕ) → nat_lt n n ≡ false
not-less n = grind (arith, nat_tests)

module _ (iter : ℕ) where
  abbrev pub refs_in : List Reached → List NodeRef
  refs_in [] = []
  refs_in (r ∷ rs) = cond (nat_eq r.iter iter) (r.node ∷ refs_in rs) (refs_in rs)

  record OfTurn (rs : List Reached) (n : NodeRef) : Type 0 where
    pub entry : Reached
    pub there : In entry rs
    pub now : entry.iter ≡ iter
    pub is : n ≡ entry.node

  from-refs : (rs : List Reached) (n : NodeRef) → In n (refs_in rs) → OfTurn rs n
  from-refs [] n h = absurd h
  from-refs (r ∷ rs) n h = at (nat_eq r.iter iter) refl h (λ k. more (from-refs rs n k))
    where
      more : OfTurn rs n → OfTurn (r ∷ rs) n
      more o = record { entry = o.entry; there = inr o.there; now = o.now; is = o.is }

      at : (b : Bool) → nat_eq r.iter iter ≡ b → In n (cond b (r.node ∷ refs_in rs) (refs_in rs)) → (In n (refs_in rs) → OfTurn (r ∷ rs) n) → OfTurn (r ∷ rs) n
      at true e k go = elim k [ inl s ↦ record { entry = r; there = inl refl; now = eqb-true r.iter iter e; is = s } | inr l ↦ go l ]
      at false e k go = go k

  to-refs : (rs : List Reached) (r : Reached) → In r rs → r.iter ≡ iter → In r.node (refs_in rs)
  to-refs [] r h e = absurd h
  to-refs (x ∷ rs) r h e = at (nat_eq x.iter iter) refl (λ k. to-refs rs r k e)
    where
      at : (b : Bool) → nat_eq x.iter iter ≡ b → (In r rs → In r.node (refs_in rs)) → In r.node (cond b (x.node ∷ refs_in rs) (refs_in rs))
      at true q go = elim h [ inl s ↦ inl (ap (λ z. z.node) s) | inr k ↦ inr (go k) ]
      at false q go = elim h [ inl s ↦ (let t : nat_eq x.iter iter ≡ true = eq-eqb x.iter iter (ap (λ z. z.iter) (sym s) ∙ e) in absurd (false≢true (sym q ∙ t))) | inr k ↦ go k ]

  -- in one iteration the order is that of the nodes
  less-refs : (a b : Reached) → a.iter ≡ iter → b.iter ≡ iter → reached_less a b ≡ true → ref_less a.node b.node ≡ true
  less-refs a b e g h = at (ref_less a.node b.node) (ref_eq a.node b.node) h
    where
      same : nat_lt a.iter b.iter ≡ false
      same = ap (λ z. nat_lt z b.iter) e ∙ ap (nat_lt iter) g ∙ not-less iter

      at : (l q : Bool) → l || (q && nat_lt a.iter b.iter) ≡ true → l ≡ true
      at true q k = refl
      at false true k = absurd (false≢true (sym same ∙ k))
      at false false k = absurd (false≢true k)

  refs-ascend : (rs : List Reached) → Ascends reached_less rs → Ascends ref_less (refs_in rs)
  refs-ascend [] a = tt
  refs-ascend (r ∷ rs) a = at (nat_eq r.iter iter) refl (refs-ascend rs a.1)
    where
      at : (b : Bool) → nat_eq r.iter iter ≡ b → Ascends ref_less (refs_in rs) → Ascends ref_less (cond b (r.node ∷ refs_in rs) (refs_in rs))
      at true e s = (after-all ref_less r.node (refs_in rs) (λ n h. let o = from-refs rs n h in ap (ref_less r.node) o.is ∙ less-refs r o.entry (eqb-true r.iter iter e) o.now (after-at reached_less r o.entry rs a.0 o.there)), s)
      at false e s = s

-- ---- pairs of iteration and node

abbrev Pair : Type 0
Pair = ℕ × Node Text

abbrev pair_less : Pair → Pair → Bool
pair_less p q = node_less p.1 q.1 || (node_eq p.1 q.1 && nat_lt p.0 q.0)

abbrev pair_eq : Pair → Pair → Bool
pair_eq p q = nat_eq p.0 q.0 && node_eq p.1 q.1

and-turned : (a b : Bool) → a && b ≡ b && a
and-turned true true = refl
and-turned true false = refl
and-turned false true = refl
and-turned false false = refl

pairs_order : IsOrder pair_less pair_eq
pairs_order = turned-order pair_less (λ p q. node_eq p.1 q.1 && nat_eq p.0 q.0) pair_eq (λ p q. and-turned (nat_eq p.0 q.0) (node_eq p.1 q.1)) (order_by (λ (p : Pair). p.1) (λ (p : Pair). p.0) nodes_order numbers_order)

-- numbers as integers
ints-same : (m n : ℕ) → int_eq (pos m) (pos n) ≡ nat_eq m n
ints-same m n = at (nat_lt m n) refl (nat_lt n m) refl
  where
    less : nat_lt m n ≡ true → nat_eq m n ≡ false
    less h = grind (arith, nat_tests)

    more : nat_lt n m ≡ true → nat_eq m n ≡ false
    more h = grind (arith, nat_tests)

    even : nat_lt m n ≡ false → nat_lt n m ≡ false → nat_eq m n ≡ true
    even h k = grind (arith, nat_tests)

    at : (a : Bool) → nat_lt m n ≡ a → (b : Bool) → nat_lt n m ≡ b → int_eq (pos m) (pos n) ≡ nat_eq m n
    at true e b f = ap (λ x. is_eq (cond x Less (cond (nat_lt n m) Greater Equal))) e ∙ sym (less e)
    at false e true f = ap (λ x. is_eq (cond x Less (cond (nat_lt n m) Greater Equal))) e ∙ ap (λ x. is_eq (cond x Greater Equal)) f ∙ sym (more f)
    at false e false f = ap (λ x. is_eq (cond x Less (cond (nat_lt n m) Greater Equal))) e ∙ ap (λ x. is_eq (cond x Greater Equal)) f ∙ sym (even e f)

-- the cells of a pair
abbrev pub cells_of_pair : Pair → Cell × Cell
cells_of_pair p = (IntItem (pos p.0), NodeItem p.1)

-- the row of a pair
abbrev pub row_of_pair : Pair → List Cell
row_of_pair p = IntItem (pos p.0) ∷ NodeItem p.1 ∷ []

-- a node of one of some trees, each under its key
record Known (trees : FragKey → Tree Text) (n : Node Text) : Type 0 where
  pub key : FragKey
  pub id : n.id ≡ id_of_key key
  pub tree : n.tree ≡ trees key

pub same-path : (p q : Path) → path_eq p q ≡ true → p ≡ q
same-path p q k =
    let r = and_parts (is_same p.steps q.steps) (nat_eq p.attr q.attr) k in
    ap (λ s. record { steps = s; attr = p.attr }) (same-lists p.steps q.steps r.0)
    ∙ ap (λ k. record { steps = q.steps; attr = k }) (eqb-true p.attr q.attr r.1)

same-known : (trees : FragKey → Tree Text) (m n : Node Text) → Known trees m → Known trees n → node_eq m n ≡ true → m ≡ n
same-known trees m n a b h =
    let p = and_parts (tree_id_eq m.id n.id) (path_eq m.path n.path) h in
    let keys : a.key ≡ b.key = same-key a.key b.key (ap (λ z. tree_id_eq z (id_of_key b.key)) (sym a.id) ∙ ap (tree_id_eq m.id) (sym b.id) ∙ p.0) in
    ap (λ i. record { id = i; tree = m.tree; path = m.path }) (same-ids m.id n.id p.0)
    ∙ ap (λ t. record { id = n.id; tree = t; path = m.path }) (a.tree ∙ ap trees keys ∙ sym b.tree)
    ∙ ap (λ w. record { id = n.id; tree = n.tree; path = w }) (same-path m.path n.path p.1)

same-pair : (trees : FragKey → Tree Text) (p q : Pair) → Known trees p.1 → Known trees q.1 → pair_eq p q ≡ true → p ≡ q
same-pair trees p q a b h =
    let r = and_parts (nat_eq p.0 q.0) (node_eq p.1 q.1) h in
    ap (λ z. (z, p.1)) (eqb-true p.0 q.0 r.0) ∙ ap (λ z. (q.0, z)) (same-known trees p.1 q.1 a b r.1)

-- what is known of the entries of a step over a store
pub record StepOver (texts : List Text) (h : Holdings) (wanted : NodeTest) (es : List Reached) : Type 0 where
  pub different : NoRepeats texts
  pub test : test_given (length texts) (test_of wanted) ≡ true
  pub docs : (e : Reached) → In e es → (n : ℕ) × (n < length h.docs) × (e.node.frag ≡ f.Doc n)
  pub trees : (e : Reached) → In e es → tree_given (length texts) (trees_of h e.node.frag) ≡ true
  pub apart : (e : Reached) → In e es → attributes_apart (trees_of h e.node.frag) ≡ true

module _ (texts : List Text) (h : Holdings) (axis : Axis) (wanted : NodeTest) (es rows : List Reached) (over : StepOver texts h wanted es) (are : AreFound axis wanted (trees_of h) es (length h.docs) rows) where
  abbrev T : FragKey → Tree Text
  T key = with_texts texts (trees_of h key)

  abbrev wanted' : Test Text
  wanted' = test_with (text_in texts) (test_of wanted)

  abbrev pair_of : Reached → Pair
  pair_of r = (r.iter, node_of T r.node)

  abbrev goes_from : Reached → List Pair
  goes_from e = map (λ m. (e.iter, m)) (found axis wanted' (node_of T e.node))

  abbrev pub all_pairs : List Pair
  all_pairs = flat_map goes_from es

  reached : (iter : ℕ) → AreReached id_eq axis (test_of wanted) (trees_of h) (refs_in iter es) (refs_in iter rows)
  reached iter = record {
    ascends = refs-ascend iter rows are.ascends;
    named = λ n k. let o = from-refs iter rows n k in ap (λ z. names_node (trees_of h z.frag) (place_of z)) o.is ∙ are.named o.entry o.there;
    sound = λ n k. let o = from-refs iter rows n k in subst (Reaches id_eq axis (test_of wanted) (trees_of h) (refs_in iter es)) (sym o.is) (from-lead o.entry o.now (are.sound o.entry o.there));
    complete = λ n named s. to-row n named s (from-refs iter es s.0 s.1);
  }
    where
      from-lead : (r : Reached) → r.iter ≡ iter → Leads axis wanted (trees_of h) es r → Reaches id_eq axis (test_of wanted) (trees_of h) (refs_in iter es) r.node
      from-lead r e l = ((l.0).node, to-refs iter es l.0 l.1 (l.2 ∙ e), l.3, l.4)

      to-row : (n : NodeRef) → names_node (trees_of h n.frag) (place_of n) ≡ true → (s : Reaches id_eq axis (test_of wanted) (trees_of h) (refs_in iter es) n) → OfTurn iter es s.0 → In n (refs_in iter rows)
      to-row n named s o =
          let r : Reached = record { iter = iter; node = n } in
          let frag : (o.entry).node.frag ≡ n.frag = ap (λ z. z.frag) (sym o.is) ∙ s.2 in
          let d = over.docs o.entry o.there in
          let goes : steps_to id_eq axis (test_of wanted) (trees_of h n.frag) (node_at (trees_of h n.frag) (place_of (o.entry).node)) (node_at (trees_of h n.frag) (place_of n)) ≡ true =
          ap (λ z. steps_to id_eq axis (test_of wanted) (trees_of h n.frag) (node_at (trees_of h n.frag) (place_of z)) (node_at (trees_of h n.frag) (place_of n))) (sym o.is) ∙ s.3 in
          to-refs iter rows r (are.complete r d.0 d.1 (sym frag ∙ d.2) named (o.entry, o.there, o.now, frag, goes)) refl

  in-turn : (iter : ℕ) → map (node_of T) (refs_in iter rows) ≡ in_document_order (flat_map (found axis wanted') (map (node_of T) (refs_in iter es)))
  in-turn iter = step_by_numbers texts axis (test_of wanted) (trees_of h) (refs_in iter es) (refs_in iter rows) (record {
    different = over.different;
    given = λ c k. let o = from-refs iter es c k in ap (λ z. tree_given (length texts) (trees_of h z.frag)) o.is ∙ over.trees o.entry o.there;
    apart = λ c k. let o = from-refs iter es c k in ap (λ z. attributes_apart (trees_of h z.frag)) o.is ∙ over.apart o.entry o.there;
  }) over.test (reached iter)

  known-ref : (r : NodeRef) → Known T (node_of T r)
  known-ref r = record { key = r.frag; id = refl; tree = refl }

  known-found : (p : Pair) → In p all_pairs → Known T p.1
  known-found p k =
      let x = from-flat goes_from p es k in
      let m = in-unmap (λ m. ((x.0).iter, m)) p (found axis wanted' (node_of T (x.0).node)) x.2 in
      let w = in-unmap (node_in_tree (node_of T (x.0).node)) m.0 (filter (steps_to text_eq axis wanted' (T (x.0).node.frag) (node_of T (x.0).node).path) (node_paths (T (x.0).node.frag))) m.1 in
      let is : p.1 ≡ node_in_tree (node_of T (x.0).node) w.0 = ap (λ z. z.1) m.2 ∙ w.2 in
      record { key = (x.0).node.frag; id = ap (λ z. z.id) is; tree = ap (λ z. z.tree) is }

  to-pairs : (r : Reached) → In r rows → In (pair_of r) all_pairs
  to-pairs r k =
      let here = in-map (node_of T) r.node (refs_in r.iter rows) (to-refs r.iter rows r k refl) in
      let ordered = subst (λ z. In (node_of T r.node) z) (in-turn r.iter) here in
      let s = (ordered_once (flat_map (found axis wanted') (map (node_of T) (refs_in r.iter es)))).from (node_of T r.node) ordered in
      let x = from-flat (found axis wanted') (node_of T r.node) (map (node_of T) (refs_in r.iter es)) s in
      let c = in-unmap (node_of T) x.0 (refs_in r.iter es) x.1 in
      let o = from-refs r.iter es c.0 c.1 in
      let there : In (node_of T r.node) (found axis wanted' (node_of T (o.entry).node)) = subst (λ z. In (node_of T r.node) (found axis wanted' z)) (c.2 ∙ ap (node_of T) o.is) x.2 in
      let pair : In ((o.entry).iter, node_of T r.node) (goes_from o.entry) = in-map (λ m. ((o.entry).iter, m)) (node_of T r.node) (found axis wanted' (node_of T (o.entry).node)) there in
      subst (λ z. In (z, node_of T r.node) all_pairs) o.now (in-flat goes_from o.entry ((o.entry).iter, node_of T r.node) es o.there pair)

  from-pairs : (p : Pair) → In p all_pairs → In p (map pair_of rows)
  from-pairs p k =
      let x = from-flat goes_from p es k in
      let iter = (x.0).iter in
      let m = in-unmap (λ m. (iter, m)) p (found axis wanted' (node_of T (x.0).node)) x.2 in
      let there = in-flat (found axis wanted') (node_of T (x.0).node) m.0 (map (node_of T) (refs_in iter es)) (in-map (node_of T) (x.0).node (refs_in iter es) (to-refs iter es x.0 x.1 refl)) m.1 in
      let listed = (ordered_once (flat_map (found axis wanted') (map (node_of T) (refs_in iter es)))).all m.0 there in
      let y = has-in node_less node_eq m.0 (map (node_of T) (refs_in iter rows)) (ap (has node_eq m.0) (in-turn iter) ∙ listed) in
      let n = in-unmap (node_of T) y.0 (refs_in iter rows) y.1 in
      let o = from-refs iter rows n.0 n.1 in
      let second : p.1 ≡ m.0 = ap (λ z. z.1) m.2 in
      let known : Known T m.0 = subst (Known T) second (known-found p k) in
      let same : m.0 ≡ node_of T (o.entry).node = same-known T m.0 (node_of T (o.entry).node) known (known-ref (o.entry).node) (ap (node_eq m.0) (sym (n.2 ∙ ap (node_of T) o.is)) ∙ y.2) in
      let whole : p ≡ pair_of o.entry = m.2 ∙ ap (λ z. (iter, z)) same ∙ ap (λ z. (z, node_of T (o.entry).node)) (sym o.now) in
      subst (λ z. In z (map pair_of rows)) (sym whole) (in-map pair_of o.entry rows o.there)

  named-text : (r : Reached) → In r rows → names_node (T r.node.frag) (place_of r.node) ≡ true
  named-text r k = (alike_by_text texts (trees_of h r.node.frag)).named (place_of r.node) ∙ are.named r k

  less-pairs : (r s : Reached) → In r rows → In s rows → reached_less r s ≡ true → pair_less (pair_of r) (pair_of s) ≡ true
  less-pairs r s i j e = at (ref_less r.node s.node) refl (ref_eq r.node s.node) refl e
    where
      nodes : node_less (node_of T r.node) (node_of T s.node) ≡ ref_less r.node s.node
      nodes = references_in_order T r.node s.node (named-text r i) (named-text s j)

      or-second : (a b : Bool) → b ≡ true → a || b ≡ true
      or-second true b q = refl
      or-second false b q = q

      at : (l : Bool) → ref_less r.node s.node ≡ l → (q : Bool) → ref_eq r.node s.node ≡ q → l || (q && nat_lt r.iter s.iter) ≡ true → pair_less (pair_of r) (pair_of s) ≡ true
      at true a q b k = ap (λ z. z || (node_eq (node_of T r.node) (node_of T s.node) && nat_lt r.iter s.iter)) (nodes ∙ a)
      at false a true b k =
          let one : node_eq (node_of T r.node) (node_of T s.node) ≡ true = ap (λ z. node_eq (node_of T r.node) (node_of T z)) (sym (same-ref r.node s.node b)) ∙ (nodes_order {T = Text}).eq_self (node_of T r.node) in
          or-second (node_less (node_of T r.node) (node_of T s.node)) (node_eq (node_of T r.node) (node_of T s.node) && nat_lt r.iter s.iter) (ap (λ z. z && nat_lt r.iter s.iter) one ∙ k)
      at false a false b k = absurd (false≢true k)

  pub pairs-are : map pair_of rows ≡ once pair_less pair_eq all_pairs
  pairs-are = one_ascending pair_less pairs_order.less_turn (map pair_of rows) (once pair_less pair_eq all_pairs)
      (ascends-map reached_less pair_less pair_of rows less-pairs are.ascends)
      (once-ascends pair_less pair_eq pairs_order all_pairs)
      (λ p k.
      let r = in-unmap pair_of p rows k in
      let there : In p all_pairs = subst (λ z. In z all_pairs) (sym r.2) (to-pairs r.0 r.1) in
      let q = has-in pair_less pair_eq p (once pair_less pair_eq all_pairs) (once-all pair_less pair_eq pairs_order all_pairs p there) in
      let same : p ≡ q.0 = same-pair T p q.0 (known-found p there) (known-found q.0 (once-from pair_less pair_eq pairs_order all_pairs q.0 q.1)) q.2 in
      subst (λ z. In z (once pair_less pair_eq all_pairs)) (sym same) q.1)
      (λ p k. from-pairs p (once-from pair_less pair_eq pairs_order all_pairs p k))

  -- ---- over the rows of a table

  abbrev R : Rules Cell
  R = rules_in texts h

  cell-steps : (v n : Item) → steps_from R axis wanted (item_of texts (trees_of h) v) (item_of texts (trees_of h) n) ≡ map cells_of_pair (flat_map goes_from (entry_of v n))
  cell-steps (i.Int (pos zero)) (i.Int y) = refl
  cell-steps (i.Int (pos zero)) (i.Str y) = refl
  cell-steps (i.Int (pos zero)) (i.Untyped y) = refl
  cell-steps (i.Int (pos zero)) (i.Bool y) = refl
  cell-steps (i.Int (pos zero)) (i.Node r) = refl
  cell-steps (i.Int (negsuc k)) (i.Int y) = refl
  cell-steps (i.Int (negsuc k)) (i.Str y) = refl
  cell-steps (i.Int (negsuc k)) (i.Untyped y) = refl
  cell-steps (i.Int (negsuc k)) (i.Bool y) = refl
  cell-steps (i.Int (negsuc k)) (i.Node r) = refl
  cell-steps (i.Int (pos (suc k))) (i.Int y) = refl
  cell-steps (i.Int (pos (suc k))) (i.Str y) = refl
  cell-steps (i.Int (pos (suc k))) (i.Untyped y) = refl
  cell-steps (i.Int (pos (suc k))) (i.Bool y) = refl
  cell-steps (i.Int (pos (suc k))) (i.Node r) =
      let fs = found axis wanted' (node_of T r) in
      to-none (map (λ m. (IntItem (pos (suc k)), m)) (map NodeItem fs))
      ∙ map-map (λ m. (IntItem (pos (suc k)), m)) NodeItem fs
      ∙ sym (map-map cells_of_pair (λ m. (suc k, m)) fs)
      ∙ ap (map cells_of_pair) (sym (to-none (map (λ m. (suc k, m)) fs)))
  cell-steps (i.Str v) n = refl
  cell-steps (i.Untyped v) n = refl
  cell-steps (i.Bool v) n = refl
  cell-steps (i.Node v) n = refl

module _ (texts : List Text) (h : Holdings) (axis : Axis) (wanted : NodeTest) (cols : List Col) (it n : Col) (table : List (List Item)) (rows : List Reached) where
  abbrev pub entries_in : List (List Item) → List Reached
  entries_in rs = entries_of (cells_at cols it rs) (cells_at cols n rs)

  module _ (over : StepOver texts h wanted (entries_in table)) (are : AreFound axis wanted (trees_of h) (entries_in table) (length h.docs) rows) where
    abbrev T' : FragKey → Tree Text
    T' key = with_texts texts (trees_of h key)

    abbrev goes : Reached → List Pair
    goes e = map (λ m. (e.iter, m)) (found axis (test_with (text_in texts) (test_of wanted)) (node_of T' e.node))

    abbrev R' : Rules Cell
    R' = rules_in texts h

    row-steps : (rs : List (List Item)) → flat_map (λ r. steps_from R' axis wanted (cell R' cols it r) (cell R' cols n r)) (map (meanings texts h) rs) ≡ map cells_of_pair (flat_map goes (entries_in rs))
    row-steps [] = refl
    row-steps (r ∷ rs) =
        let v = cell_or no_cell cols it r in
        let w = cell_or no_cell cols n r in
        let first : steps_from R' axis wanted (cell R' cols it (meanings texts h r)) (cell R' cols n (meanings texts h r)) ≡ map cells_of_pair (flat_map goes (entry_of v w)) =
        ap (λ z. steps_from R' axis wanted z (cell R' cols n (meanings texts h r))) (cell_moves texts h cols it r)
        ∙ ap (steps_from R' axis wanted (item_of texts (trees_of h) v)) (cell_moves texts h cols n r)
        ∙ cell-steps texts h axis wanted (entries_in table) rows over are v w in
        ap (λ z. z ++ flat_map (λ r. steps_from R' axis wanted (cell R' cols it r) (cell R' cols n r)) (map (meanings texts h) rs)) first
        ∙ ap (λ z. map cells_of_pair (flat_map goes (entry_of v w)) ++ z) (row-steps rs)
        ∙ sym (map-append cells_of_pair (flat_map goes (entry_of v w)) (flat_map goes (entries_in rs)))
        ∙ ap (map cells_of_pair) (sym (flat-append goes (entry_of v w) (entries_in rs)))

    -- the rows that were found are those of the operator
    pub rows-are : step_rows R' axis wanted (cell R' cols it) (cell R' cols n) (map (meanings texts h) table) ≡ map (λ r. row_of_pair (r.iter, node_of T' r.node)) rows
    rows-are =
        ap (λ z. map (λ (p : Cell × Cell). p.0 ∷ p.1 ∷ []) (once (step_less R') (step_same R') z)) (row-steps table)
        ∙ ap (map (λ (p : Cell × Cell). p.0 ∷ p.1 ∷ [])) (once-map cells_of_pair (step_less R') (step_same R') pair_less pair_eq (λ x y. refl) (λ x y. ap (λ b. b && node_eq x.1 y.1) (ints-same x.0 y.0)) (flat_map goes (entries_in table)))
        ∙ map-map (λ (p : Cell × Cell). p.0 ∷ p.1 ∷ []) cells_of_pair (once pair_less pair_eq (flat_map goes (entries_in table)))
        ∙ ap (map row_of_pair) (sym (pairs-are texts h axis wanted (entries_in table) rows over are))
        ∙ map-map row_of_pair (λ (r : Reached). (r.iter, node_of T' r.node)) rows
