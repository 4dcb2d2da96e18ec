-- Type tests of items (own rule): the iterations whose argument has another type.
use Rattle.std.specs.Prelude.{false, List, [], ◌∷◌, ◌++◌, Option, Some, None}
use Rattle.std.specs.List.{filter}
use Rattle.xq_base.specs.declared.code.Code.{Code}
use Rattle.xq_base.specs.declared.code.Code.TheVariants as c
use Rattle.xq_base.specs.declared.fun.Fun.TheVariants as f
use Rattle.xq_base.specs.declared.fun.AtomKind.{AtomKind}
use Rattle.xq_base.specs.declared.fun.ItemKind.{ItemKind}
use Rattle.xq_base.specs.declared.fun.ItemKind.TheVariants as k
use Rattle.xq_base.specs.Texts.{Text}
use Rattle.doc_table.specs.Axes.{Test, AnyNode, IsText, IsComment, IsInstruction, IsDocumentNode, IsElement, IsAttribute}
use Rattle.doc_table.specs.Items.{TextItem, BoolItem}
use Rattle.plan_dag.specs.declared.cols.Col.{Col}
use Rattle.plan_dag.specs.ItemRules.{is_true}
use Rattle.plan_dag.specs.Rows.{map_rows}
use Rattle.plan_dag.specs.Meaning.{cell, cells}
use Rattle.core_meaning.specs.declared.node.Occurs.{Occurs}
use Rattle.core_meaning.specs.declared.node.Occurs.TheVariants as o
use Rattle.core_meaning.specs.Types.{ItemTest, SequenceTest, AnyItem, AnyAtom, AtomOf, NodeOf, ItemsOf}
use Rattle.lift_laws.specs.Iterations.{Row}
use Rattle.lift_laws.specs.States.{column, three}
use Rattle.lift_laws.specs.Shapes.{bare, pair, columns, project, four, five, with_cell, less, second_rows, any_rows}
use Rattle.lift_laws.specs.Pairs.{gathered}
use Rattle.lift_laws.specs.Walks.{stray_rows, named_nodes}

-- the types of nodes, with a name where one is asked
pub data NodeType : Type 0 where
  AnyNodes : NodeType
  DocumentNodes : NodeType
  TextNodes : NodeType
  CommentNodes : NodeType
  InstructionNodes : Option Text → NodeType
  AttributeNodes : Option Text → NodeType
  ElementNodes : Option Text → NodeType

abbrev pub node_test : NodeType → Test Text
node_test AnyNodes = AnyNode
node_test DocumentNodes = IsDocumentNode
node_test TextNodes = IsText
node_test CommentNodes = IsComment
node_test (InstructionNodes name) = IsInstruction name
node_test (AttributeNodes name) = IsAttribute name
node_test (ElementNodes name) = IsElement name

-- one kind, or all
abbrev pub asked_kind : NodeType → Option ItemKind
asked_kind AnyNodes = None
asked_kind DocumentNodes = Some k.Document
asked_kind TextNodes = Some k.Text
asked_kind CommentNodes = Some k.Comment
asked_kind (InstructionNodes name) = Some k.Pi
asked_kind (AttributeNodes name) = Some k.Attribute
asked_kind (ElementNodes name) = Some k.Element

abbrev pub asked_name : NodeType → Option Text
asked_name AnyNodes = None
asked_name DocumentNodes = None
asked_name TextNodes = None
asked_name CommentNodes = None
asked_name (InstructionNodes name) = name
asked_name (AttributeNodes name) = name
asked_name (ElementNodes name) = name

-- any item, any atomic value, one of a kind, or a node of a type
pub data TypeTest : Type 0 where
  Anything : TypeTest
  Atomic : TypeTest
  OfKind : AtomKind → TypeTest
  OfNodes : NodeType → TypeTest

abbrev pub item_test : TypeTest → ItemTest
item_test Anything = AnyItem
item_test Atomic = AnyAtom
item_test (OfKind kind) = AtomOf kind
item_test (OfNodes q) = NodeOf (node_test q)

abbrev pub sequence_test : TypeTest → Occurs → SequenceTest
sequence_test q occurs = ItemsOf (item_test q) occurs

-- the iterations with an item of another kind
abbrev pub six : List Col
six = columns (0 ∷ 1 ∷ 2 ∷ 3 ∷ 4 ∷ 5 ∷ [])

abbrev pub other_kind_rows : ItemKind → List Row → List Row
other_kind_rows kind a =
    project six (pair 0 0 ∷ [])
    (filter (λ r. is_true (cell bare six (column 5) r)) (map_rows bare f.Eq (cells bare five (column 3 ∷ column 4 ∷ [])) (with_cell (BoolItem false) (map_rows bare (f.IsKind kind) (cells bare three (column 2 ∷ [])) a))))

-- the same of nodes, where the kind may be any
abbrev pub other_nodes : Option ItemKind → List Row → List Row
other_nodes None a = stray_rows a
other_nodes (Some kind) a = other_kind_rows kind a

-- the iterations with a node of another name
abbrev pub other_name_rows : Text → List Row → List Row
other_name_rows name a = project six (pair 0 0 ∷ []) (filter (λ r. is_true (cell bare six (column 5) r)) (map_rows bare f.Ne (cells bare five (column 4 ∷ column 3 ∷ [])) (with_cell (TextItem name) (named_nodes a))))

abbrev pub other_names : Option Text → List Row → List (List Row)
other_names None a = []
other_names (Some name) a = other_name_rows name a ∷ []

abbrev pub other_items : TypeTest → List Row → List (List Row)
other_items Anything a = []
other_items Atomic a = project four (pair 0 0 ∷ []) (named_nodes a) ∷ []
other_items (OfKind kind) a = other_kind_rows (k.Atom kind) a ∷ []
other_items (OfNodes q) a = other_nodes (asked_kind q) a ∷ other_names (asked_name q) a

-- those with another number of items
abbrev pub other_counts : Occurs → List Row → List Row → List (List Row)
other_counts o.One l a = second_rows a ∷ less l (any_rows a) ∷ []
other_counts o.Optional l a = second_rows a ∷ []
other_counts o.Many l a = []
other_counts o.AtLeastOne l a = less l (any_rows a) ∷ []

abbrev pub other_type_rows : TypeTest → Occurs → List Row → List Row → List Row
other_type_rows q occurs l a = gathered l (other_counts occurs l a ++ other_items q a)

-- conversion to any atomic values: another number of items is refused
abbrev pub count_marks_of : Occurs → List Row → List Row → List (Code × List Row)
count_marks_of occurs l a = (c.XPTY0004, gathered l (other_counts occurs l a)) ∷ []
