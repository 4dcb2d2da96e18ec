-- What a step finds, by references (XQuery 1.0, section 3.2.1).
use Rattle.std.specs.Prelude.{not, cond, ◌≡◌, Bool, true, List, ◌++◌, length, map, flat_map}
use Rattle.std.specs.List.{filter}
use Rattle.xq_base.specs.declared.axis.Axis.{Axis}
use Rattle.xq_base.specs.declared.item.FragKey.{FragKey}
use Rattle.xq_base.specs.declared.item.NodeRef.{NodeRef}
use Rattle.xq_base.specs.declared.item.TextId.{TextId}
use Rattle.xq_base.specs.Pool.{NoRepeats}
use Rattle.xq_base.specs.Texts.{Text, text_eq}
use Rattle.doc_table.specs.Tree.{Tree, text_in, with_texts}
use Rattle.doc_table.specs.Axes.{Test, id_eq, steps_to}
use Rattle.doc_table.specs.Places.{is_lone, names_node, node_at}
use Rattle.doc_table.specs.Identity.{Node, tree_id_eq, tree_id_less, node_eq, node_less, node_of, id_of_key, place_of, ref_eq, ref_less}
use Rattle.doc_table.specs.Attributes.{attributes_apart}
use Rattle.doc_table.specs.Given.{tree_given}
use Rattle.doc_table.specs.Orders.{has}
use Rattle.doc_table.specs.Nodes.{root_node}
use Rattle.doc_table.specs.NodeRules.{those_in, those_not_in}
use Rattle.doc_table.specs.Ascending.{In, Ascends, StandsOnce}
use Rattle.doc_table.specs.Steps.{test_with, found, in_document_order}
use Rattle.doc_table.specs.TestTexts.{test_given}

-- nodes in document order, each once
abbrev pub OrderedOnce : Type 0
OrderedOnce = (ns : List (Node Text)) → StandsOnce node_less node_eq ns

-- nodes with one identity stand in one tree
abbrev pub OneTreeEach : List (Node Text) → Type 0
OneTreeEach ns = (m n : Node Text) → In m ns → In n ns → tree_id_eq m.id n.id ≡ true → m.tree ≡ n.tree

-- the nodes in document order are determined by which nodes there are
abbrev pub SameSets : Type 0
SameSets = (ms ns : List (Node Text)) → OneTreeEach ms → ((n : Node Text) → In n ms → In n ns) → ((n : Node Text) → In n ns → In n ms) → in_document_order ms ≡ in_document_order ns

module _ {T : Type 0} where
  -- a step goes from a node of the context to this node
  abbrev pub Reaches : (T → T → Bool) → Axis → Test T → (FragKey → Tree T) → List NodeRef → NodeRef → Type 0
  Reaches eq axis test trees context r = (c : NodeRef) × In c context × (c.frag ≡ r.frag) × (steps_to eq axis test (trees r.frag) (node_at (trees r.frag) (place_of c)) (node_at (trees r.frag) (place_of r)) ≡ true)

  -- ascending, each once, and exactly the nodes that the step goes to
  pub record AreReached (eq : T → T → Bool) (axis : Axis) (test : Test T) (trees : FragKey → Tree T) (context hits : List NodeRef) : Type 0 where
    pub ascends : Ascends ref_less hits
    pub named : (r : NodeRef) → In r hits → names_node (trees r.frag) (place_of r) ≡ true
    pub sound : (r : NodeRef) → In r hits → Reaches eq axis test trees context r
    pub complete : (r : NodeRef) → names_node (trees r.frag) (place_of r) ≡ true → Reaches eq axis test trees context r → In r hits

-- what a step reaches from trees, and from later trees
abbrev pub ReachedTogether : Type 0 → Type 0
ReachedTogether T = (eq : T → T → Bool) (axis : Axis) (test : Test T) (trees : FragKey → Tree T) (cs ds hs ks : List NodeRef)
    → ((c d : NodeRef) → In c cs → In d ds → tree_id_less (id_of_key c.frag) (id_of_key d.frag) ≡ true)
    → AreReached eq axis test trees cs hs → AreReached eq axis test trees ds ks → AreReached eq axis test trees (cs ++ ds) (hs ++ ks)

-- references to exactly the nodes that a step goes to are, as nodes, what the step finds
abbrev pub StepByReferences : Type 0
StepByReferences = (axis : Axis) (test : Test Text) (trees : FragKey → Tree Text) (context hits : List NodeRef)
    → ((c : NodeRef) → In c context → attributes_apart (trees c.frag) ≡ true)
    → AreReached text_eq axis test trees context hits
    → map (node_of trees) hits ≡ in_document_order (flat_map (found axis test) (map (node_of trees) context))

-- what is known of the trees under the keys of a context: a pool gave their numbers, and their attributes stand apart
pub record AreKept (texts : List Text) (trees : FragKey → Tree TextId) (context : List NodeRef) : Type 0 where
  pub different : NoRepeats texts
  pub given : (c : NodeRef) → In c context → tree_given (length texts) (trees c.frag) ≡ true
  pub apart : (c : NodeRef) → In c context → attributes_apart (trees c.frag) ≡ true

-- the same over text numbers
abbrev pub StepByNumbers : Type 0
StepByNumbers = (texts : List Text) (axis : Axis) (test : Test TextId) (trees : FragKey → Tree TextId) (context hits : List NodeRef)
    → AreKept texts trees context → test_given (length texts) test ≡ true
    → AreReached id_eq axis test trees context hits
    → map (node_of (λ key. with_texts texts (trees key))) hits ≡ in_document_order (flat_map (found axis (test_with (text_in texts) test)) (map (node_of (λ key. with_texts texts (trees key))) context))

-- each names a node
abbrev pub AllNamed : {T : Type 0} → (FragKey → Tree T) → List NodeRef → Type 0
AllNamed trees rs = (r : NodeRef) → In r rs → names_node (trees r.frag) (place_of r) ≡ true

-- references in their order, each once, are nodes in document order
abbrev pub OrderedByReferences : Type 0
OrderedByReferences = (trees : FragKey → Tree Text) (rs sorted : List NodeRef) → AllNamed trees rs → Ascends ref_less sorted
    → ((r : NodeRef) → In r sorted → In r rs) → ((r : NodeRef) → In r rs → In r sorted)
    → map (node_of trees) sorted ≡ in_document_order (map (node_of trees) rs)

-- what two lists of references say of the nodes that they name
pub record NameSets (trees : FragKey → Tree Text) (rs ss : List NodeRef) : Type 0 where
  pub both : those_in (map (node_of trees) rs) (map (node_of trees) ss) ≡ map (node_of trees) (filter (λ r. has ref_eq r ss) rs)
  pub first : those_not_in (map (node_of trees) rs) (map (node_of trees) ss) ≡ map (node_of trees) (filter (λ r. not (has ref_eq r ss)) rs)

abbrev pub SetsByReferences : Type 0
SetsByReferences = (trees : FragKey → Tree Text) (rs ss : List NodeRef) → AllNamed trees rs → AllNamed trees ss → NameSets trees rs ss

-- the reference to the root of a tree
abbrev pub root_ref : {T : Type 0} → (FragKey → Tree T) → NodeRef → NodeRef
root_ref trees r = record { frag = r.frag; pre = 0; attr = cond (is_lone (trees r.frag)) 1 0 }

abbrev pub RootReference : Type 0 → Type 0
RootReference T = (trees : FragKey → Tree T) (r : NodeRef) → (names_node (trees r.frag) (place_of (root_ref trees r)) ≡ true) × (node_of trees (root_ref trees r) ≡ root_node (node_of trees r))
