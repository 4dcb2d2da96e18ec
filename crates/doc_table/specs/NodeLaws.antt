-- Laws of nodes, of their places and of references to them.
use Rattle.std.specs.Prelude.{◌≡◌, ◌↔◌, Bool, true, map}
use Rattle.xq_base.specs.declared.axis.Axis.{Axis}
use Rattle.xq_base.specs.declared.item.FragKey.{FragKey}
use Rattle.xq_base.specs.declared.item.NodeRef.{NodeRef}
use Rattle.xq_base.specs.Texts.{Text}
use Rattle.doc_table.specs.Tree.{Tree}
use Rattle.doc_table.specs.Paths.{Path, path_less, has_node}
use Rattle.doc_table.specs.Axes.{Test, selects_label}
use Rattle.doc_table.specs.Places.{Place, place_less, names_node, node_at}
use Rattle.doc_table.specs.NodeRows.{places_of}
use Rattle.doc_table.specs.Identity.{TreeId, Node, node_eq, node_less, node_of, place_of, ref_eq, ref_less}
use Rattle.doc_table.specs.Attributes.{attributes_apart}
use Rattle.doc_table.specs.Nodes.{node_paths, label_of_node}
use Rattle.doc_table.specs.Ascending.{In, Ascends, IsOrder}
use Rattle.doc_table.specs.Steps.{found}

-- document order is a strict order of nodes, and its equality is the one of identity and path
abbrev pub DocumentOrder : Type 0 → Type 0
DocumentOrder T = IsOrder (node_less {T = T}) node_eq

-- so is the order of references, and two with one key, row and attribute are one
pub record ReferenceOrder : Type 0 where
  pub order : IsOrder ref_less ref_eq
  pub exact : (r s : NodeRef) → ref_eq r s ≡ true → r ≡ s

-- two references to nodes are equal exactly where they name one node
abbrev pub OneReference : Type 0 → Type 0
OneReference T = (trees : FragKey → Tree T) (r s : NodeRef) → names_node (trees r.frag) (place_of r) ≡ true → names_node (trees s.frag) (place_of s) ≡ true → (node_eq (node_of trees r) (node_of trees s) ≡ true) ↔ (r ≡ s)

-- the list of a tree's nodes is in document order, has each once, and has exactly the nodes of the tree
pub record ListsNodes {T : Type 0} (t : Tree T) : Type 0 where
  pub ascends : Ascends path_less (node_paths t)
  pub nodes : (p : Path) → In p (node_paths t) → has_node t p ≡ true
  pub all : (p : Path) → has_node t p ≡ true → In p (node_paths t)

abbrev pub NodesListed : Type 0 → Type 0
NodesListed T = (t : Tree T) → ListsNodes t

-- the places of a tree's nodes are listed by row and attribute, each once
pub record ListsPlaces {T : Type 0} (t : Tree T) : Type 0 where
  pub ascends : Ascends place_less (places_of t)
  pub named : (p : Place) → In p (places_of t) → names_node t p ≡ true
  pub all : (p : Place) → names_node t p ≡ true → In p (places_of t)

abbrev pub PlacesListed : Type 0 → Type 0
PlacesListed T = (t : Tree T) → ListsPlaces t

-- each place is that of one node, and each node has one place
pub record OnePlace {T : Type 0} (t : Tree T) : Type 0 where
  pub node : (p : Place) → names_node t p ≡ true → has_node t (node_at t p) ≡ true
  pub apart : (a b : Place) → names_node t a ≡ true → names_node t b ≡ true → node_at t a ≡ node_at t b → a ≡ b
  pub placed : (q : Path) → has_node t q ≡ true → (p : Place) × (names_node t p ≡ true) × (node_at t p ≡ q)

abbrev pub PlacesOneToOne : Type 0 → Type 0
PlacesOneToOne T = (t : Tree T) → attributes_apart t ≡ true → OnePlace t

-- a node test sees the label alone
abbrev pub TestsIgnoreIdentity : Type 0 → Type 0
TestsIgnoreIdentity T = (eq : T → T → Bool) (axis : Axis) (test : Test T) (m n : Node T) → m.tree ≡ n.tree → m.path ≡ n.path → selects_label eq axis test (label_of_node m) ≡ selects_label eq axis test (label_of_node n)

abbrev pub with_id : {T : Type 0} → TreeId → Node T → Node T
with_id id n = record { id = id; tree = n.tree; path = n.path }

-- a step from a node finds the same paths whatever its identity
abbrev pub StepsIgnoreIdentity : Type 0
StepsIgnoreIdentity = (axis : Axis) (test : Test Text) (n : Node Text) (id : TreeId) → found axis test (with_id id n) ≡ map (with_id id) (found axis test n)
