-- The context of a step as it is kept is that of its input.
use Rattle.std.proofs.Common.{inl, inr, ◌≡◌, ℕ, zero, suc, ◌+◌, Bool, true, false, cond, List, [], ◌∷◌, ◌++◌, map, refl, sym, ap, ◌∙◌, subst, arith, pos, negsuc, Some}
use Rattle.std.specs.Prelude.{slice_get}
use Rattle.std.specs.List.{filter, flat_map}
use Rattle.std.proofs.lemmas.Bool.{false≢true, and_parts}
use Rattle.xq_base.specs.declared.axis.Axis.{Axis}
use Rattle.xq_base.specs.declared.item.FragKey.{FragKey}
use Rattle.xq_base.specs.declared.item.FragKey.TheVariants as f
use Rattle.xq_base.specs.declared.item.Item.{Item}
use Rattle.xq_base.specs.declared.item.Item.TheVariants as i
use Rattle.xq_base.specs.declared.item.TextId.{TextId}
use Rattle.xq_base.specs.Texts.{Text}
use Rattle.doc_table.specs.Ascending.{In}
use Rattle.doc_table.specs.Attributes.{attributes_apart}
use Rattle.doc_table.specs.Documents.{document_in, documents_in}
use Rattle.doc_table.specs.Identity.{Node, DocTree, node_eq, node_less, node_of, id_of_key, place_of, tree_id_eq}
use Rattle.doc_table.specs.Items.{item_of}
use Rattle.doc_table.specs.Notes.{notes_of}
use Rattle.doc_table.specs.Orders.{has}
use Rattle.doc_table.specs.NodeRows.{places_of}
use Rattle.doc_table.specs.Places.{Place, names_node, node_at}
use Rattle.doc_table.specs.Paths.{path_eq}
use Rattle.doc_table.specs.StoredItems.{meanings, trees_of}
use Rattle.doc_table.specs.Stores.{Holdings, tree_of_doc}
use Rattle.doc_table.specs.Kept.{root_or}
use Rattle.doc_table.specs.Touched.{touched_rows, counts}
use Rattle.doc_table.specs.Tree.{Tree, with_texts}
use Rattle.doc_table.proofs.Ascending.{in-map, in-unmap, has-in, in-has}
use Rattle.doc_table.proofs.ByTexts.{alike_by_text}
use Rattle.doc_table.proofs.Orders.{same-key}
use Rattle.doc_table.proofs.PlaceLists.{lists_places, one_place}
use Rattle.doc_table.proofs.StrictOrders.{nodes_order}
use Rattle.plan_dag.specs.declared.cols.Col.{Col}
use Rattle.plan_dag.specs.Meaning.{cell_or}
use Rattle.table_ops.specs.Columns.{cells_at, no_cell}
use Rattle.table_ops.proofs.CellMoves.{cell_moves}
use Rattle.staircase.specs.Joins.{tally_of}
use Rattle.plan_eval.specs.declared.entries.Reached.{Reached}
use Rattle.plan_eval.specs.Contexts.{node_in_row, cell_at, doc_node, context_places, context_notes, context_tally, sum_tally}
use Rattle.plan_eval.specs.Entries.{entry_of, entries_of, hit_of, hit_place, hits_at, doc_places, kept_notes, kept_tally}
use Rattle.plan_eval.proofs.DocumentHits.{doc-is, is-doc, from-hits, to-hits}
use Rattle.plan_eval.proofs.OnceMaps.{map-append}
use Rattle.plan_eval.proofs.StepRows.{same-path}
use Rattle.plan_eval.proofs.TouchedSets.{touched-by-places, counts-by-places}

in-filter : {A : Type 0} (p : A → Bool) (x : A) (xs : List A) → In x xs → p x ≡ true → In x (filter p xs)
in-filter p x [] h e = absurd h
in-filter p x (y ∷ xs) h e = at (p y) refl (λ k. in-filter p x xs k e)
  where
    at : (b : Bool) → p y ≡ b → (In x xs → In x (filter p xs)) → In x (cond b (y ∷ filter p xs) (filter p xs))
    at true q go = elim h [ inl s ↦ inl s | inr k ↦ inr (go k) ]
    at false q go = elim h [ inl s ↦ absurd (false≢true (sym q ∙ ap p (sym s) ∙ e)) | inr k ↦ go k ]

from-filter : {A : Type 0} (p : A → Bool) (x : A) (xs : List A) → In x (filter p xs) → In x xs × (p x ≡ true)
from-filter p x [] h = absurd h
from-filter p x (y ∷ xs) h = at (p y) refl h (λ k. from-filter p x xs k)
  where
    at : (b : Bool) → p y ≡ b → In x (cond b (y ∷ filter p xs) (filter p xs)) → (In x (filter p xs) → In x xs × (p x ≡ true)) → In x (y ∷ xs) × (p x ≡ true)
    at true q k go = elim k [ inl s ↦ (inl s, ap p s ∙ q) | inr l ↦ (let r = go l in (inr r.0, r.1)) ]
    at false q k go = let r = go k in (inr r.0, r.1)

module _ (texts : List Text) (h : Holdings) where
  abbrev pub T : FragKey → Tree Text
  T key = with_texts texts (trees_of h key)

  abbrev pub node_at_entry : Reached → Node Text
  node_at_entry e = node_of T e.node

  -- ---- the nodes

  row-nodes : (v n : Item) → node_in_row (item_of texts (trees_of h) v) (item_of texts (trees_of h) n) ≡ map node_at_entry (entry_of v n)
  row-nodes (i.Int (pos zero)) (i.Int y) = refl
  row-nodes (i.Int (pos zero)) (i.Str y) = refl
  row-nodes (i.Int (pos zero)) (i.Untyped y) = refl
  row-nodes (i.Int (pos zero)) (i.Bool y) = refl
  row-nodes (i.Int (pos zero)) (i.Node r) = refl
  row-nodes (i.Int (negsuc k)) (i.Int y) = refl
  row-nodes (i.Int (negsuc k)) (i.Str y) = refl
  row-nodes (i.Int (negsuc k)) (i.Untyped y) = refl
  row-nodes (i.Int (negsuc k)) (i.Bool y) = refl
  row-nodes (i.Int (negsuc k)) (i.Node r) = refl
  row-nodes (i.Int (pos (suc k))) (i.Int y) = refl
  row-nodes (i.Int (pos (suc k))) (i.Str y) = refl
  row-nodes (i.Int (pos (suc k))) (i.Untyped y) = refl
  row-nodes (i.Int (pos (suc k))) (i.Bool y) = refl
  row-nodes (i.Int (pos (suc k))) (i.Node r) = refl
  row-nodes (i.Str v) n = refl
  row-nodes (i.Untyped v) n = refl
  row-nodes (i.Bool v) n = refl
  row-nodes (i.Node v) n = refl

  pub nodes-are : (cols : List Col) (it n : Col) (rows : List (List Item))
      → flat_map (λ row. node_in_row (cell_at cols it row) (cell_at cols n row)) (map (meanings texts h) rows) ≡ map node_at_entry (entries_of (cells_at cols it rows) (cells_at cols n rows))
  nodes-are cols it n [] = refl
  nodes-are cols it n (row ∷ rows) =
      let v = cell_or no_cell cols it row in
      let u = cell_or no_cell cols n row in
      let rest = flat_map (λ row. node_in_row (cell_at cols it row) (cell_at cols n row)) (map (meanings texts h) rows) in
      ap (λ z. node_in_row z (cell_at cols n (meanings texts h row)) ++ rest) (cell_moves texts h cols it row)
      ∙ ap (λ z. node_in_row (item_of texts (trees_of h) v) z ++ rest) (cell_moves texts h cols n row)
      ∙ ap (λ z. z ++ rest) (row-nodes v u)
      ∙ ap (λ z. map node_at_entry (entry_of v u) ++ z) (nodes-are cols it n rows)
      ∙ sym (map-append node_at_entry (entry_of v u) (entries_of (cells_at cols it rows) (cells_at cols n rows)))

  -- ---- the places

  -- the entries name nodes of their trees, and no attribute of these is a child
  pub record AllKnown (es : List Reached) : Type 0 where
    pub named : (e : Reached) → In e es → names_node (trees_of h e.node.frag) (place_of e.node) ≡ true
    pub apart : (e : Reached) → In e es → attributes_apart (trees_of h e.node.frag) ≡ true

  module _ (es : List Reached) (known : AllKnown es) (rank : ℕ) where
    abbrev t : Tree Text
    t = T (f.Doc rank)

    abbrev is_there : Place → Bool
    is_there p = has node_eq (doc_node rank t p) (map node_at_entry es)

    to-places : (p : Place) → In p (doc_places rank es) → In p (context_places rank t (map node_at_entry es))
    to-places p k =
        let x = in-unmap hit_place p (hits_at rank es) k in
        let o = from-hits rank es x.0 x.1 in
        let key : (o.entry).node.frag ≡ f.Doc rank = doc-is rank (o.entry).node.frag o.doc in
        let is : p ≡ place_of (o.entry).node = x.2 ∙ ap hit_place o.is in
        let name : names_node t p ≡ true = ap (names_node t) is ∙ ap (λ z. names_node (T z) (place_of (o.entry).node)) (sym key) ∙ (alike_by_text texts (trees_of h (o.entry).node.frag)).named (place_of (o.entry).node) ∙ known.named o.entry o.there in
        let same : doc_node rank t p ≡ node_at_entry o.entry = ap (doc_node rank t) is ∙ ap (λ z. record { id = id_of_key z; tree = T z; path = node_at (T z) (place_of (o.entry).node) }) (sym key) in
        let eq : node_eq (doc_node rank t p) (node_at_entry o.entry) ≡ true = ap (λ z. node_eq z (node_at_entry o.entry)) same ∙ (nodes_order {T = Text}).eq_self (node_at_entry o.entry) in
        in-filter is_there p (places_of t) ((lists_places t).all p name) (in-has node_less node_eq (doc_node rank t p) (node_at_entry o.entry) (map node_at_entry es) (in-map node_at_entry o.entry es o.there) eq)

    from-places : (p : Place) → In p (context_places rank t (map node_at_entry es)) → In p (doc_places rank es)
    from-places p k =
        let x = from-filter is_there p (places_of t) k in
        let y = has-in node_less node_eq (doc_node rank t p) (map node_at_entry es) x.1 in
        let e = in-unmap node_at_entry y.0 es y.1 in
        let both = and_parts (tree_id_eq (DocTree rank) (y.0).id) (path_eq (node_at t p) (y.0).path) y.2 in
        let key : f.Doc rank ≡ (e.0).node.frag = same-key (f.Doc rank) (e.0).node.frag (ap (λ z. tree_id_eq (DocTree rank) z.id) (sym e.2) ∙ both.0) in
        let path : node_at t p ≡ node_at t (place_of (e.0).node) = same-path (node_at t p) (y.0).path both.1 ∙ ap (λ z. z.path) e.2 ∙ ap (λ z. node_at (T z) (place_of (e.0).node)) (sym key) in
        let apart : attributes_apart t ≡ true = ap (λ z. attributes_apart (T z)) key ∙ (alike_by_text texts (trees_of h (e.0).node.frag)).apart ∙ known.apart e.0 e.1 in
        let name : names_node t (place_of (e.0).node) ≡ true = ap (λ z. names_node (T z) (place_of (e.0).node)) key ∙ (alike_by_text texts (trees_of h (e.0).node.frag)).named (place_of (e.0).node) ∙ known.named e.0 e.1 in
        let one : p ≡ place_of (e.0).node = (one_place t apart).apart p (place_of (e.0).node) ((lists_places t).named p x.0) name path in
        subst (λ z. In z (doc_places rank es)) (sym one) (in-map hit_place (hit_of e.0) (hits_at rank es) (to-hits rank es e.0 e.1 (is-doc rank (e.0).node.frag (sym key))))

    pub touched-is : (axis : Axis) → touched_rows axis (trees_of h (f.Doc rank)) (doc_places rank es) ≡ touched_rows axis t (context_places rank t (map node_at_entry es))
    touched-is axis =
        sym ((alike_by_text texts (trees_of h (f.Doc rank))).touched axis (doc_places rank es))
        ∙ touched-by-places t axis (doc_places rank es) (context_places rank t (map node_at_entry es)) to-places from-places

    pub counted-is : (axis : Axis) → counts axis (trees_of h (f.Doc rank)) (doc_places rank es) ≡ counts axis t (context_places rank t (map node_at_entry es))
    counted-is axis =
        sym ((alike_by_text texts (trees_of h (f.Doc rank))).counted axis (doc_places rank es))
        ∙ counts-by-places t axis (doc_places rank es) (context_places rank t (map node_at_entry es)) to-places from-places

  -- ---- over the documents from a rank on

  abbrev pub StandFrom : ℕ → List (TextId × Tree TextId) → Type 0
  StandFrom rank docs = (n : ℕ) (d : TextId × Tree TextId) → slice_get docs n ≡ Some d → trees_of h (f.Doc (rank + n)) ≡ d.1

  first-stands : (rank : ℕ) (d : TextId × Tree TextId) (docs : List (TextId × Tree TextId)) → StandFrom rank (d ∷ docs) → d.1 ≡ trees_of h (f.Doc rank)
  first-stands rank d docs s = let e : rank + 0 ≡ rank = omega arith in sym (s 0 d refl) ∙ ap (λ z. trees_of h (f.Doc z)) e

  rest-stands : (rank : ℕ) (d : TextId × Tree TextId) (docs : List (TextId × Tree TextId)) → StandFrom rank (d ∷ docs) → StandFrom (suc rank) docs
  rest-stands rank d docs s n x e = let k : suc rank + n ≡ rank + suc n = omega arith in ap (λ z. trees_of h (f.Doc z)) k ∙ s (suc n) x e

  notes-from : (site : ℕ) (axis : Axis) (rank : ℕ) (docs : List (TextId × Tree TextId)) (es : List Reached) → AllKnown es → StandFrom rank docs
      → kept_notes site axis rank docs es ≡ context_notes site axis rank (map (document_in texts) docs) (map node_at_entry es)
  notes-from site axis rank [] es known s = refl
  notes-from site axis rank (d ∷ docs) es known s =
      let tree = first-stands rank d docs s in
      let here : touched_rows axis d.1 (doc_places rank es) ≡ touched_rows axis (with_texts texts d.1) (context_places rank (with_texts texts d.1) (map node_at_entry es)) =
      subst (λ x. touched_rows axis x (doc_places rank es) ≡ touched_rows axis (with_texts texts x) (context_places rank (with_texts texts x) (map node_at_entry es))) (sym tree) (touched-is es known rank axis) in
      ap (λ z. notes_of site (f.Doc rank) z ++ kept_notes site axis (suc rank) docs es) here
      ∙ ap (λ z. notes_of site (f.Doc rank) (touched_rows axis (with_texts texts d.1) (context_places rank (with_texts texts d.1) (map node_at_entry es))) ++ z) (notes-from site axis (suc rank) docs es known (rest-stands rank d docs s))

  tally-from : (axis : Axis) (rank : ℕ) (docs : List (TextId × Tree TextId)) (es : List Reached) → AllKnown es → StandFrom rank docs
      → kept_tally axis rank docs es ≡ context_tally axis rank (map (document_in texts) docs) (map node_at_entry es)
  tally-from axis rank [] es known s = refl
  tally-from axis rank (d ∷ docs) es known s =
      let tree = first-stands rank d docs s in
      let here : counts axis d.1 (doc_places rank es) ≡ counts axis (with_texts texts d.1) (context_places rank (with_texts texts d.1) (map node_at_entry es)) =
      subst (λ x. counts axis x (doc_places rank es) ≡ counts axis (with_texts texts x) (context_places rank (with_texts texts x) (map node_at_entry es))) (sym tree) (counted-is es known rank axis) in
      ap (λ z. sum_tally (tally_of z) (kept_tally axis (suc rank) docs es)) here
      ∙ ap (λ z. sum_tally (tally_of (counts axis (with_texts texts d.1) (context_places rank (with_texts texts d.1) (map node_at_entry es)))) z) (tally-from axis (suc rank) docs es known (rest-stands rank d docs s))

  docs-stand : StandFrom 0 h.docs
  docs-stand n d e = let k : 0 + n ≡ n = omega arith in ap (λ z. trees_of h (f.Doc z)) k ∙ ap (λ z. root_or (tree_of_doc z)) e

  pub notes-are : (site : ℕ) (axis : Axis) (es : List Reached) → AllKnown es → kept_notes site axis 0 h.docs es ≡ context_notes site axis 0 (documents_in texts h) (map node_at_entry es)
  notes-are site axis es known = notes-from site axis 0 h.docs es known docs-stand

  pub tally-is : (axis : Axis) (es : List Reached) → AllKnown es → kept_tally axis 0 h.docs es ≡ context_tally axis 0 (documents_in texts h) (map node_at_entry es)
  tally-is axis es known = tally-from axis 0 h.docs es known docs-stand
