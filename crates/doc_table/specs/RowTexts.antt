-- What is known of a node (XQuery 1.0 and XPath 2.0 Data Model, section 5), by its row.
use Rattle.std.specs.Prelude.{ℕ, ◌≡◌, ◌+◌, true, cond, List, [], flat_map, nat_eq, slice_range, Option, Some, None}
use Rattle.xq_base.specs.declared.fun.ItemKind.{ItemKind}
use Rattle.xq_base.specs.declared.fun.ItemKind.TheVariants as i
use Rattle.xq_base.specs.Texts.{Text}
use Rattle.doc_table.specs.declared.rows.Kind.{Kind}
use Rattle.doc_table.specs.declared.rows.Kind.TheVariants as k
use Rattle.doc_table.specs.Tree.{Tree}
use Rattle.doc_table.specs.Paths.{nth_pair}
use Rattle.doc_table.specs.Enc.{Line, enc, line_in}
use Rattle.doc_table.specs.Places.{Place, names_node, node_at}
use Rattle.doc_table.specs.Identity.{TreeId, Node}
use Rattle.doc_table.specs.Attributes.{attributes_apart}
use Rattle.doc_table.specs.Nodes.{label_of_node, or_no_name, string_value, node_name, kind_of_label}
use Rattle.doc_table.specs.Steps.{option_with}

-- the text of a row that is a text
abbrev pub text_of_row : Kind → Option Text → Text
text_of_row k.Text value = or_no_name value
text_of_row _ value = []

-- the texts among rows, one after the other
abbrev pub texts_among : List (Line Text) → Text
texts_among lines = flat_map (λ line. text_of_row line.kind line.value) lines

-- row v and the rows below it
abbrev pub rows_from : {T : Type 0} → Tree T → ℕ → List (Line T)
rows_from t v = slice_range (enc t) v (v + (line_in (enc t) v).size + 1)

-- of a document and an element the texts below
abbrev pub string_of_row : Kind → Option Text → Text → Text
string_of_row k.Document value below = below
string_of_row k.Element value below = below
string_of_row _ value below = or_no_name value

abbrev pub pair_name : Option (Text × Text) → Text
pair_name None = []
pair_name (Some a) = a.0

abbrev pub pair_value : Option (Text × Text) → Text
pair_value None = []
pair_value (Some a) = a.1

abbrev pub item_kind : Kind → ItemKind
item_kind k.Document = i.Document
item_kind k.Element = i.Element
item_kind k.Text = i.Text
item_kind k.Comment = i.Comment
item_kind k.Pi = i.Pi

-- of the node at a place
abbrev pub string_at : Tree Text → Place → Text
string_at t p = cond (nat_eq p.attr 0)
    (string_of_row (line_in (enc t) p.pre).kind (line_in (enc t) p.pre).value (texts_among (rows_from t p.pre)))
    (pair_value (nth_pair (line_in (enc t) p.pre).attributes p.attr))

abbrev pub name_at : Tree Text → Place → Text
name_at t p = cond (nat_eq p.attr 0) (or_no_name (line_in (enc t) p.pre).name) (pair_name (nth_pair (line_in (enc t) p.pre).attributes p.attr))

abbrev pub kind_at : {T : Type 0} → Tree T → Place → ItemKind
kind_at t p = cond (nat_eq p.attr 0) (item_kind (line_in (enc t) p.pre).kind) i.Attribute

-- a node's string value, name and kind are those of its row
pub record KnownByRow (t : Tree Text) (n : Node Text) (p : Place) : Type 0 where
  pub string : string_value n ≡ string_at t p
  pub name : node_name n ≡ name_at t p
  pub kind : option_with kind_of_label (label_of_node n) ≡ Some (kind_at t p)

abbrev pub NodesKnownByRow : Type 0
NodesKnownByRow = (t : Tree Text) (id : TreeId) (p : Place) → attributes_apart t ≡ true → names_node t p ≡ true → KnownByRow t (record { id = id; tree = t; path = node_at t p }) p
