-- A step over a kept table: its table, its notes and its tally are those of its operator.
use Rattle.std.proofs.Common.{inl, inr, ◌≡◌, ℕ, zero, suc, ◌<◌, ◌≤◌, true, List, [], ◌∷◌, length, map, take, refl, sym, ap, ◌∙◌, subst, arith, Option, Some, None}
use Rattle.std.proofs.lemmas.Option.{slice_get_within}
use Rattle.std.specs.Prelude.{nat_lt, slice_get}
use Rattle.std.proofs.lemmas.Bool.{and_parts}
use Rattle.xq_base.specs.declared.axis.Axis.{Axis}
use Rattle.xq_base.specs.declared.axis.NodeTest.{NodeTest}
use Rattle.xq_base.specs.declared.item.FragKey.{FragKey}
use Rattle.xq_base.specs.declared.item.FragKey.TheVariants as f
use Rattle.xq_base.specs.declared.item.Item.{Item}
use Rattle.xq_base.specs.declared.item.Item.TheVariants as i
use Rattle.xq_base.specs.declared.item.NodeRef.{NodeRef}
use Rattle.xq_base.specs.declared.item.TextId.{TextId}
use Rattle.xq_base.specs.Pool.{NoRepeats}
use Rattle.xq_base.specs.Texts.{Text}
use Rattle.doc_table.specs.Ascending.{In}
use Rattle.doc_table.specs.Attributes.{attributes_apart}
use Rattle.doc_table.specs.Axes.{id_eq, test_of}
use Rattle.doc_table.specs.Documents.{documents_in}
use Rattle.doc_table.specs.Enc.{enc}
use Rattle.doc_table.specs.Given.{tree_given, trees_given}
use Rattle.doc_table.specs.Identity.{place_of}
use Rattle.doc_table.specs.Kept.{root_or}
use Rattle.doc_table.specs.Limits.{size_limit}
use Rattle.doc_table.specs.Places.{names_node}
use Rattle.doc_table.specs.Sound.{is_sound}
use Rattle.doc_table.specs.Spine.{is_empty_id}
use Rattle.doc_table.specs.StoredItems.{IsNodeOf, ItemGiven, ItemsGiven, meanings, trees_of}
use Rattle.doc_table.specs.Stores.{Holdings, AreGiven, AllKept, tree_at, tree_of_doc, built_at}
use Rattle.doc_table.specs.TestTexts.{test_given}
use Rattle.doc_table.specs.Tree.{Tree}
use Rattle.doc_table.proofs.Attributes.{sound_apart}
use Rattle.doc_table.proofs.Ascending.{in-parts}
use Rattle.doc_table.proofs.GrownPools.{grown_pool_keeps}
use Rattle.xq_funs.proofs.Later.{trees_given_later}
use Rattle.xq_funs.proofs.NodeLaws.{tree_given_under}
use Rattle.plan_dag.specs.declared.cols.Col.{Col}
use Rattle.plan_dag.specs.declared.op.Op.{Op}
use Rattle.plan_dag.specs.declared.op.Op.TheVariants as o
use Rattle.plan_dag.specs.declared.op.OpId.{OpId}
use Rattle.plan_dag.specs.Meaning.{Table, cell_or}
use Rattle.table_ops.specs.Columns.{cells_at, no_cell}
use Rattle.table_ops.proofs.CellMoves.{cell_held}
use Rattle.table_ops.specs.Results.{op_table}
use Rattle.table_ops.specs.Standing.{standing, RowsGiven}
use Rattle.plan_eval.specs.declared.entries.Reached.{Reached}
use Rattle.plan_eval.specs.Contexts.{context_nodes, op_notes, context_notes, context_tally}
use Rattle.plan_eval.specs.Entries.{entry_at, entry_of, entries_of, positive, kept_notes, kept_tally, AllNamed, AreFound}
use Rattle.plan_eval.specs.Evaluating.{row_limit}
use Rattle.plan_eval.specs.Making.{Made, demand_in, row_of}
use Rattle.plan_eval.proofs.ContextLaws.{AllKnown, nodes-are, notes-are, tally-is}
use Rattle.plan_eval.proofs.GrownRules.{op_table-later}
use Rattle.plan_eval.proofs.OnceMaps.{map-map}
use Rattle.plan_eval.proofs.StepRows.{StepOver, rows-are}
use Rattle.plan_eval.proofs.TurnLaws.{map-length}
use Rattle.plan_eval.proofs.RunLaws.{more-test}

-- ---- the entries

none-named : (h : Holdings) → AllNamed h []
none-named h e there = absurd there

entry-named : (texts : List Text) (h : Holdings) (x n : Item) → ItemGiven texts h n → AllNamed h (entry_of x n)
entry-named texts h (i.Int z) (i.Node r) g = at (positive z)
  where
    at : (k : Option ℕ) → AllNamed h (entry_at k r)
    at None = none-named h
    at (Some k) = λ e there. elim there [ inl s ↦ subst (λ y. IsNodeOf h y.node (tree_at h y.node.frag)) (sym s) g | inr t ↦ absurd t ]
entry-named texts h (i.Int z) (i.Int y) g = none-named h
entry-named texts h (i.Int z) (i.Str y) g = none-named h
entry-named texts h (i.Int z) (i.Untyped y) g = none-named h
entry-named texts h (i.Int z) (i.Bool y) g = none-named h
entry-named texts h (i.Str z) n g = none-named h
entry-named texts h (i.Untyped z) n g = none-named h
entry-named texts h (i.Bool z) n g = none-named h
entry-named texts h (i.Node z) n g = none-named h

pub entries-named : (texts : List Text) (h : Holdings) (cols : List Col) (it n : Col) (rows : List (List Item)) → RowsGiven texts h rows → AllNamed h (entries_of (cells_at cols it rows) (cells_at cols n rows))
entries-named texts h cols it n [] g = none-named h
entries-named texts h cols it n (row ∷ rows) g = λ e there.
    elim (in-parts e (entry_of (cell_or no_cell cols it row) (cell_or no_cell cols n row)) (entries_of (cells_at cols it rows) (cells_at cols n rows)) there) [
      | inl a ↦ entry-named texts h (cell_or no_cell cols it row) (cell_or no_cell cols n row) (cell_held texts h cols n row g.0) e a
      | inr b ↦ entries-named texts h cols it n rows g.1 e b
    ]

-- the tree of an entry
record InTree (h : Holdings) (r : NodeRef) : Type 0 where
  pub tree : Tree TextId
  pub is : tree_at h r.frag ≡ Some tree
  pub named : names_node tree (place_of r) ≡ true
  pub rank : ℕ
  pub small : rank < length h.docs
  pub key : r.frag ≡ f.Doc rank

in-tree : (h : Holdings) (r : NodeRef) → h.built ≡ [] → IsNodeOf h r (tree_at h r.frag) → InTree h r
in-tree h r none g = by r.frag refl
  where
    by : (k : FragKey) → r.frag ≡ k → InTree h r
    by (f.Doc n) e = two (slice_get h.docs n) refl (subst (λ k. IsNodeOf h r (tree_at h k)) e g)
      where
        two : (d : Option (TextId × Tree TextId)) → slice_get h.docs n ≡ d → IsNodeOf h r (tree_of_doc d) → InTree h r
        two None q k = absurd k
        two (Some d) q k = record { tree = d.1; is = ap (tree_at h) e ∙ ap tree_of_doc q; named = k; rank = n; small = slice_get_within h.docs n d q; key = e }
    by (f.Built site iter) e = absurd (subst (λ bs. IsNodeOf h r (built_at site iter bs)) none (subst (λ k. IsNodeOf h r (tree_at h k)) e g))

-- what a fragment keeps
apart-of : (h : Holdings) (key : FragKey) (t : Tree TextId) → AllKept h → tree_at h key ≡ Some t → attributes_apart t ≡ true
apart-of h key t kept e = sound_apart id_eq is_empty_id t (and_parts (is_sound id_eq is_empty_id t) (nat_lt (length (enc t)) size_limit) (kept key t e)).0

module _ (old mid : List Text) (h : Holdings) (grown : take (length old) mid ≡ old) (different : NoRepeats mid) (kept : AllKept h) (none : h.built ≡ []) (trees : trees_given (length old) h ≡ true) (names : AreGiven old h.docs)
    (input : OpId) (axis : Axis) (wanted : NodeTest) (site offset : ℕ) (it n : Col) (l r : Table Item) (given : test_given (length old) (test_of wanted) ≡ true) (held : RowsGiven old h l.rows) (held' : RowsGiven old h r.rows) where
  abbrev pub op : Op
  op = o.Step input axis wanted site offset it n

  abbrev pub es : List Reached
  es = entries_of (cells_at l.cols it l.rows) (cells_at l.cols n l.rows)

  tree-in : (e : Reached) → In e es → InTree h e.node
  tree-in e there = in-tree h e.node none (entries-named old h l.cols it n l.rows held e there)

  longer : length old ≤ length mid
  longer = (grown_pool_keeps old mid grown).longer

  over : StepOver mid h wanted es
  over = record {
    different = different;
    test = more-test (length old) (length mid) wanted longer given;
    docs = λ e there. let t = tree-in e there in (t.rank, t.small, t.key);
    trees = λ e there. let t = tree-in e there in ap (λ z. tree_given (length mid) (root_or z)) t.is ∙ tree_given_under (length mid) h e.node.frag t.tree (trees_given_later old mid grown h trees) t.is;
    apart = λ e there. let t = tree-in e there in ap (λ z. attributes_apart (root_or z)) t.is ∙ apart-of h e.node.frag t.tree kept t.is;
  }

  known : AllKnown old h es
  known = record {
    named = λ e there. let t = tree-in e there in ap (λ z. names_node (root_or z) (place_of e.node)) t.is ∙ t.named;
    apart = over.apart;
  }

  pub notes-of-step : kept_notes site axis 0 h.docs es ≡ op_notes (documents_in old h) op (standing old h l)
  notes-of-step = notes-are old h site axis es known ∙ ap (context_notes site axis 0 (documents_in old h)) (sym (nodes-are old h l.cols it n l.rows))

  pub tally-of-step : kept_tally axis 0 h.docs es ≡ context_tally axis 0 (documents_in old h) (context_nodes (standing old h l) it n)
  tally-of-step = tally-is old h axis es known ∙ ap (context_tally axis 0 (documents_in old h)) (sym (nodes-are old h l.cols it n l.rows))

  module _ (rows : List Reached) (are : AreFound axis wanted (trees_of h) es (length h.docs) rows) where
    abbrev pub found_table : Table Item
    found_table = record { cols = it ∷ n ∷ []; rows = map row_of rows }

    table-of-step : standing mid h found_table ≡ op_table old h op l r
    table-of-step =
        ap (λ z. record { cols = it ∷ n ∷ []; rows = z }) (map-map (meanings mid h) row_of rows ∙ sym (rows-are mid h axis wanted l.cols it n l.rows rows over are))
        ∙ op_table-later old mid h op l r grown trees names given held held'

    reached-given : (x : Reached) → In x rows → ItemsGiven mid h (row_of x)
    reached-given x there = (tt, (named x there, tt))
      where
        named : (x : Reached) → In x rows → IsNodeOf h x.node (tree_at h x.node.frag)
        named x there =
            let d = are.docs x there in
            subst (λ k. IsNodeOf h x.node (tree_at h k)) (sym d.2) (two (slice_get h.docs d.0) refl d.1 (ap (λ k. names_node (trees_of h k) (place_of x.node)) (sym d.2) ∙ are.named x there))
          where
            two : {k : ℕ} → (o : Option (TextId × Tree TextId)) → slice_get h.docs k ≡ o → k < length h.docs → names_node (root_or (tree_of_doc (slice_get h.docs k))) (place_of x.node) ≡ true → IsNodeOf h x.node (tree_of_doc (slice_get h.docs k))
            two {k} None q w m = absurd (missing h.docs k q w)
              where
                missing : {X : Type 0} (xs : List X) (k : ℕ) → slice_get xs k ≡ None → k < length xs → ⊥
                missing [] k q w = omega (arith, w)
                missing (y ∷ xs) zero q w = cc
                missing (y ∷ xs) (suc k) q w = missing xs k q (omega (arith, w))
            two {k} (Some t) q w m = subst (λ z. IsNodeOf h x.node (tree_of_doc z)) (sym q) (subst (λ z. names_node (root_or (tree_of_doc z)) (place_of x.node) ≡ true) q m)

    all-given : (xs : List Reached) → ((x : Reached) → In x xs → ItemsGiven mid h (row_of x)) → RowsGiven mid h (map row_of xs)
    all-given [] g = tt
    all-given (x ∷ xs) g = (g x (inl refl), all-given xs (λ y there. g y (inr there)))

    pub demand-of-step : demand_in old h op l r ≡ length rows
    demand-of-step =
        let many : length (op_table old h op l r).rows ≡ length rows = ap (λ t. length t.rows) (sym table-of-step) ∙ map-length (meanings mid h) (map row_of rows) ∙ map-length row_of rows in
        omega (arith, many)

    pub made-of-step : (t : Table Item) → t ≡ found_table → length rows ≤ row_limit → Made old mid h op l r t
    made-of-step t e few =
        let d = demand-of-step in
        let k = map-length row_of rows in
        let q : length t.rows ≡ length (map row_of rows) = ap (λ z. length z.rows) e in
        record {
          table = ap (standing mid h) e ∙ table-of-step;
          given = subst (λ z. RowsGiven mid h z.rows) (sym e) (all-given rows reached-given);
          few = omega (arith, d, few);
          rows_few = omega (arith, q, k, few);
        }
