-- What a step finds, by references.
use Rattle.std.proofs.Common.{inl, inr, ◌≡◌, Bool, true, false, cond, List, [], ◌∷◌, length, map, refl, sym, ap, ◌∙◌, subst}
use Rattle.std.specs.Prelude.{nat_eq, flat_map}
use Rattle.std.specs.List.{filter}
use Rattle.std.proofs.lemmas.Bool.{false≢true, eqb-true, and_parts}
use Rattle.xq_base.specs.declared.axis.Axis.{Axis}
use Rattle.xq_base.specs.declared.item.FragKey.{FragKey}
use Rattle.xq_base.specs.declared.item.NodeRef.{NodeRef}
use Rattle.xq_base.specs.Texts.{Text, text_eq}
use Rattle.doc_table.specs.Tree.{Tree, text_in, with_texts}
use Rattle.doc_table.specs.Paths.{Path, is_same, path_eq, label_at}
use Rattle.doc_table.specs.Given.{tree_given}
use Rattle.doc_table.specs.Axes.{Test, id_eq, selects_label, steps_to}
use Rattle.doc_table.specs.Places.{names_node, node_at}
use Rattle.doc_table.specs.Identity.{tree_id_eq, tree_id_less, Node, node_eq, node_less, node_of, id_of_key, place_of, ref_less}
use Rattle.doc_table.specs.Nodes.{node_paths, node_in_tree}
use Rattle.doc_table.specs.Attributes.{attributes_apart}
use Rattle.doc_table.specs.Ascending.{In}
use Rattle.doc_table.specs.Steps.{test_with, found, in_document_order}
use Rattle.doc_table.specs.NodeLaws.{TestsIgnoreIdentity, StepsIgnoreIdentity, with_id}
use Rattle.doc_table.specs.StepLaws.{OrderedOnce, OneTreeEach, SameSets, Reaches, AreReached, ReachedTogether, StepByReferences, StepByNumbers}
use Rattle.doc_table.proofs.Orders.{same-key, references_in_order}
use Rattle.doc_table.proofs.StrictOrders.{nodes_order, same-ids, same-lists}
use Rattle.doc_table.proofs.Ascending.{in-left, in-right, in-parts, in-map, in-unmap, has-in, one_ascending, ascends-append, ascends-map, stands_once}
use Rattle.doc_table.proofs.NodeLists.{lists_nodes}
use Rattle.doc_table.proofs.PlaceLists.{one_place}
use Rattle.doc_table.proofs.ByTexts.{alike_by_text, steps_by_text}

-- ---- lists

in-filter : {A : Type 0} (p : A → Bool) (x : A) (xs : List A) → In x xs → p x ≡ true → In x (filter p xs)
in-filter p x [] h e = absurd h
in-filter p x (y ∷ xs) h e = at (p y) refl (λ k. in-filter p x xs k e)
  where
    at : (b : Bool) → p y ≡ b → (In x xs → In x (filter p xs)) → In x (cond b (y ∷ filter p xs) (filter p xs))
    at true q go = elim h [ inl s ↦ inl s | inr k ↦ inr (go k) ]
    at false q go = elim h [ inl s ↦ absurd (false≢true (sym q ∙ ap p (sym s) ∙ e)) | inr k ↦ go k ]

from-filter : {A : Type 0} (p : A → Bool) (x : A) (xs : List A) → In x (filter p xs) → In x xs × (p x ≡ true)
from-filter p x [] h = absurd h
from-filter p x (y ∷ xs) h = at (p y) refl h (λ k. from-filter p x xs k)
  where
    at : (b : Bool) → p y ≡ b → In x (cond b (y ∷ filter p xs) (filter p xs)) → (In x (filter p xs) → In x xs × (p x ≡ true)) → In x (y ∷ xs) × (p x ≡ true)
    at true q k go = elim k [ inl s ↦ (inl s, ap p s ∙ q) | inr l ↦ (let r = go l in (inr r.0, r.1)) ]
    at false q k go = let r = go k in (inr r.0, r.1)

in-flat : {A B : Type 0} (f : A → List B) (x : A) (z : B) (xs : List A) → In x xs → In z (f x) → In z (flat_map f xs)
in-flat f x z [] h k = absurd h
in-flat f x z (y ∷ xs) h k = elim h [
  | inl s ↦ in-left z (f y) (flat_map f xs) (subst (λ w. In z (f w)) s k)
  | inr l ↦ in-right z (f y) (flat_map f xs) (in-flat f x z xs l k)
]

from-flat : {A B : Type 0} (f : A → List B) (z : B) (xs : List A) → In z (flat_map f xs) → (x : A) × In x xs × In z (f x)
from-flat f z [] h = absurd h
from-flat f z (y ∷ xs) h = elim (in-parts z (f y) (flat_map f xs) h) [
  | inl a ↦ (y, inl refl, a)
  | inr b ↦ (let r = from-flat f z xs b in (r.0, inr r.1, r.2))
]

-- ---- nodes that are equal

same-node : (m n : Node Text) → node_eq m n ≡ true → m.tree ≡ n.tree → m ≡ n
same-node m n h e =
    let p = and_parts (tree_id_eq m.id n.id) (path_eq m.path n.path) h in
    let q = same-path m.path n.path p.1 in
    ap (λ i. record { id = i; tree = m.tree; path = m.path }) (same-ids m.id n.id p.0)
    ∙ ap (λ t. record { id = n.id; tree = t; path = m.path }) e
    ∙ ap (λ w. record { id = n.id; tree = n.tree; path = w }) q
  where
    same-path : (p q : Path) → path_eq p q ≡ true → p ≡ q
    same-path p q k =
        let r = and_parts (is_same p.steps q.steps) (nat_eq p.attr q.attr) k in
        ap (λ s. record { steps = s; attr = p.attr }) (same-lists p.steps q.steps r.0)
        ∙ ap (λ k. record { steps = q.steps; attr = k }) (eqb-true p.attr q.attr r.1)

pub ordered_once : OrderedOnce
ordered_once ns = stands_once node_less node_eq nodes_order ns

-- an element of the nodes in document order, where one identity has one tree
pub in-order : (ns : List (Node Text)) → OneTreeEach ns → (n : Node Text) → In n ns → In n (in_document_order ns)
in-order ns one n h =
    let s = ordered_once ns in
    let r = has-in node_less node_eq n (in_document_order ns) (s.all n h) in
    let ids = (and_parts (tree_id_eq n.id r.0.id) (path_eq n.path r.0.path) r.2).0 in
    subst (λ z. In z (in_document_order ns)) (sym (same-node n r.0 r.2 (one n r.0 h (s.from r.0 r.1) ids))) r.1

pub same_sets : SameSets
same_sets ms ns one f g =
    let a = ordered_once ms in
    let b = ordered_once ns in
    one_ascending node_less nodes_order.less_turn (in_document_order ms) (in_document_order ns) a.ascends b.ascends
    (λ n h. in-order ns (λ x y h k e. one x y (g x h) (g y k) e) n (f n (a.from n h)))
    (λ n h. in-order ms one n (g n (b.from n h)))

-- ---- from several trees

pub reached_together : {T : Type 0} → ReachedTogether T
reached_together {T} eq axis test trees cs ds hs ks before a b = record {
  ascends = ascends-append ref_less hs ks a.ascends b.ascends (λ r s h k. later r s (a.sound r h) (b.sound s k));
  named = λ r h. elim (in-parts r hs ks h) [ inl k ↦ a.named r k | inr k ↦ b.named r k ];
  sound = λ r h. elim (in-parts r hs ks h) [
    | inl k ↦ (let s = a.sound r k in (s.0, in-left s.0 cs ds s.1, s.2, s.3))
    | inr k ↦ (let s = b.sound r k in (s.0, in-right s.0 cs ds s.1, s.2, s.3))
  ];
  complete = λ r h s. elim (in-parts s.0 cs ds s.1) [
    | inl k ↦ in-left r hs ks (a.complete r h (s.0, k, s.2, s.3))
    | inr k ↦ in-right r hs ks (b.complete r h (s.0, k, s.2, s.3))
  ];
}
  where
    later : (r s : NodeRef) → Reaches eq axis test trees cs r → Reaches eq axis test trees ds s → ref_less r s ≡ true
    later r s h k =
        let less : tree_id_less (id_of_key r.frag) (id_of_key s.frag) ≡ true = ap (λ z. tree_id_less (id_of_key z) (id_of_key s.frag)) (sym h.2) ∙ ap (λ z. tree_id_less (id_of_key h.0.frag) (id_of_key z)) (sym k.2) ∙ before h.0 k.0 h.1 k.1 in
        rw less refl

-- ---- steps by references

module _ (axis : Axis) (test : Test Text) (trees : FragKey → Tree Text) (context hits : List NodeRef)
    (sound : (c : NodeRef) → In c context → attributes_apart (trees c.frag) ≡ true) (reached : AreReached text_eq axis test trees context hits) where
  abbrev goes_from : NodeRef → Path → Bool
  goes_from c q = steps_to text_eq axis test (trees c.frag) (node_at (trees c.frag) (place_of c)) q

  abbrev all_found : List (Node Text)
  all_found = flat_map (found axis test) (map (node_of trees) context)

  -- a node that was found, by the reference from which it was
  record Comes (n : Node Text) : Type 0 where
    pub from : NodeRef
    pub there : In from context
    pub path : Path
    pub listed : In path (node_paths (trees from.frag))
    pub goes : goes_from from path ≡ true
    pub is : n ≡ node_in_tree (node_of trees from) path

  comes : (n : Node Text) → In n all_found → Comes n
  comes n h =
      let r = from-flat (found axis test) n (map (node_of trees) context) h in
      let c = in-unmap (node_of trees) r.0 context r.1 in
      let k : In n (found axis test (node_of trees c.0)) = subst (λ z. In n (found axis test z)) c.2 r.2 in
      let q = in-unmap (node_in_tree (node_of trees c.0)) n (filter (goes_from c.0) (node_paths (trees c.0.frag))) k in
      let p = from-filter (goes_from c.0) q.0 (node_paths (trees c.0.frag)) q.1 in
      record { from = c.0; there = c.1; path = q.0; listed = p.0; goes = p.1; is = q.2 }

  -- one identity has one tree
  one-tree : OneTreeEach all_found
  one-tree m n h k e =
      let a = comes m h in
      let b = comes n k in
      let ids : tree_id_eq (id_of_key a.from.frag) (id_of_key b.from.frag) ≡ true = ap (λ z. tree_id_eq z.id (id_of_key b.from.frag)) (sym a.is) ∙ ap (λ z. tree_id_eq m.id z.id) (sym b.is) ∙ e in
      ap (λ z. z.tree) a.is ∙ ap trees (same-key a.from.frag b.from.frag ids) ∙ ap (λ z. z.tree) (sym b.is)

  to-found : (r : NodeRef) → In r hits → In (node_of trees r) all_found
  to-found r h =
      let s = reached.sound r h in
      let c : NodeRef = s.0 in
      let key : c.frag ≡ r.frag = s.2 in
      let q : Path = node_at (trees r.frag) (place_of r) in
      let ok : attributes_apart (trees r.frag) ≡ true = subst (λ k. attributes_apart (trees k) ≡ true) key (sound c s.1) in
      let there : In q (node_paths (trees r.frag)) = (lists_nodes (trees r.frag)).all q ((one_place (trees r.frag) ok).node (place_of r) (reached.named r h)) in
      let listed : In q (node_paths (trees c.frag)) = subst (λ k. In q (node_paths (trees k))) (sym key) there in
      let goes : goes_from c q ≡ true = subst (λ k. steps_to text_eq axis test (trees k) (node_at (trees k) (place_of c)) q ≡ true) (sym key) s.3 in
      let inner = in-map (node_in_tree (node_of trees c)) q (filter (goes_from c) (node_paths (trees c.frag))) (in-filter (goes_from c) q (node_paths (trees c.frag)) listed goes) in
      let is : node_in_tree (node_of trees c) q ≡ node_of trees r = ap (λ k. record { id = id_of_key k; tree = trees k; path = q }) key in
      subst (λ n. In n all_found) is (in-flat (found axis test) (node_of trees c) (node_in_tree (node_of trees c) q) (map (node_of trees) context) (in-map (node_of trees) c context s.1) inner)

  from-found : (n : Node Text) → In n all_found → In n (map (node_of trees) hits)
  from-found n h =
      let a = comes n h in
      let t : Tree Text = trees a.from.frag in
      let place = (one_place t (sound a.from a.there)).placed a.path ((lists_nodes t).nodes a.path a.listed) in
      let r : NodeRef = record { frag = a.from.frag; pre = place.0.pre; attr = place.0.attr } in
      let goes : goes_from a.from (node_at t (place_of r)) ≡ true = ap (goes_from a.from) place.2 ∙ a.goes in
      let there : In r hits = reached.complete r place.1 (a.from, a.there, refl, goes) in
      let is : n ≡ node_of trees r = a.is ∙ ap (λ q. record { id = id_of_key a.from.frag; tree = t; path = q }) (sym place.2) in
      subst (λ z. In z (map (node_of trees) hits)) (sym is) (in-map (node_of trees) r hits there)

  pub by-references : map (node_of trees) hits ≡ in_document_order all_found
  by-references =
      let b = ordered_once all_found in
      one_ascending node_less nodes_order.less_turn (map (node_of trees) hits) (in_document_order all_found)
      (ascends-map ref_less node_less (node_of trees) hits (λ r s h k e. references_in_order trees r s (reached.named r h) (reached.named s k) ∙ e) reached.ascends)
      b.ascends
      (λ n h. let r = in-unmap (node_of trees) n hits h in in-order all_found one-tree n (subst (λ z. In z all_found) (sym r.2) (to-found r.0 r.1)))
      (λ n h. from-found n (b.from n h))

pub step_by_references : StepByReferences
step_by_references axis test trees context hits sound reached = by-references axis test trees context hits sound reached

-- ---- over text numbers

pub step_by_numbers : StepByNumbers
step_by_numbers texts axis test trees context hits kept given reached =
    step_by_references axis (test_with (text_in texts) test) with_them context hits
    (λ c h. (alike_by_text texts (trees c.frag)).apart ∙ kept.apart c h)
    (record {
      ascends = reached.ascends;
      named = λ r h. named r ∙ reached.named r h;
      sound = λ r h. let s = reached.sound r h in (s.0, s.1, s.2, sym (goes s.0 r (known s.0 r s.1 s.2)) ∙ s.3);
      complete = λ r h s. reached.complete r (sym (named r) ∙ h) (s.0, s.1, s.2, goes s.0 r (known s.0 r s.1 s.2) ∙ s.3);
    })
  where
    with_them : FragKey → Tree Text
    with_them key = with_texts texts (trees key)

    named : (r : NodeRef) → names_node (with_texts texts (trees r.frag)) (place_of r) ≡ names_node (trees r.frag) (place_of r)
    named r = (alike_by_text texts (trees r.frag)).named (place_of r)

    -- the tree of a node that is reached is that of a node of the context
    known : (c r : NodeRef) → In c context → c.frag ≡ r.frag → tree_given (length texts) (trees r.frag) ≡ true
    known c r h e = subst (λ k. tree_given (length texts) (trees k) ≡ true) e (kept.given c h)

    goes : (c r : NodeRef) → tree_given (length texts) (trees r.frag) ≡ true
        → steps_to id_eq axis test (trees r.frag) (node_at (trees r.frag) (place_of c)) (node_at (trees r.frag) (place_of r))
        ≡ steps_to text_eq axis (test_with (text_in texts) test) (with_texts texts (trees r.frag)) (node_at (with_texts texts (trees r.frag)) (place_of c)) (node_at (with_texts texts (trees r.frag)) (place_of r))
    goes c r k =
        let a = alike_by_text texts (trees r.frag) in
        steps_by_text texts axis test (trees r.frag) (node_at (trees r.frag) (place_of c)) (node_at (trees r.frag) (place_of r)) kept.different given k
        ∙ ap (λ p. steps_to text_eq axis (test_with (text_in texts) test) (with_texts texts (trees r.frag)) p (node_at (trees r.frag) (place_of r))) (sym (a.node (place_of c)))
        ∙ ap (steps_to text_eq axis (test_with (text_in texts) test) (with_texts texts (trees r.frag)) (node_at (with_texts texts (trees r.frag)) (place_of c))) (sym (a.node (place_of r)))

-- ---- identity

pub tests_ignore_identity : {T : Type 0} → TestsIgnoreIdentity T
tests_ignore_identity eq axis test m n e d =
    ap (λ t. selects_label eq axis test (label_at t m.path)) e ∙ ap (λ p. selects_label eq axis test (label_at n.tree p)) d

pub steps_ignore_identity : StepsIgnoreIdentity
steps_ignore_identity axis test n id = other (filter (steps_to text_eq axis test n.tree n.path) (node_paths n.tree))
  where
    other : (ps : List Path) → map (node_in_tree (with_id id n)) ps ≡ map (with_id id) (map (node_in_tree n) ps)
    other [] = refl
    other (p ∷ ps) = ap (λ z. node_in_tree (with_id id n) p ∷ z) (other ps)
