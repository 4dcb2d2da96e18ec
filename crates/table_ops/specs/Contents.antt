-- What items are in content, one after the other (XQuery 1.0, section 3.7.1.3).
use Rattle.std.specs.Prelude.{ℕ, Bool, true, false, not, ◌&&◌, ◌||◌, List, [], ◌∷◌, ◌++◌, nat_lt, Option, Some, None}
use Rattle.std.specs.List.{list_any}
use Rattle.xq_base.specs.declared.code.Code.{Code}
use Rattle.xq_base.specs.declared.item.Item.{Item as Held}
use Rattle.xq_base.specs.declared.item.Item.TheVariants as i
use Rattle.xq_base.specs.declared.item.TextId.{TextId}
use Rattle.xq_base.specs.Texts.{Text, is_empty_text}
use Rattle.doc_table.specs.declared.rows.Kind.{Kind}
use Rattle.doc_table.specs.declared.rows.Kind.TheVariants as k
use Rattle.doc_table.specs.Tree.{Label, OfAttribute, OfText, Tree, Branch, text_in}
use Rattle.doc_table.specs.Paths.{subtree, label_at}
use Rattle.doc_table.specs.Items.{Item, NodeItem}
use Rattle.doc_table.specs.Values.{Items, text_of_item}
use Rattle.doc_table.specs.Content.{copies_from, is_attribute_tree}
use Rattle.doc_table.specs.Stores.{Holdings, tree_at}
use Rattle.doc_table.specs.StoredItems.{IsNodeOf, meanings}
use Rattle.doc_table.specs.TextRows.{text_or_none}
use Rattle.plan_dag.specs.declared.cols.Col.{Col}
use Rattle.plan_dag.specs.declared.keys.Key.{Key}
use Rattle.plan_dag.specs.declared.op.Place.{Place}
use Rattle.plan_dag.specs.ItemRules.{content_fault}
use Rattle.plan_dag.specs.Meaning.{sort_keys}
use Rattle.plan_dag.specs.Orders.{in_order}
use Rattle.plan_dag.specs.Rows.{keys_less, is_code}
use Rattle.table_ops.specs.declared.parts.Part.{Part}
use Rattle.table_ops.specs.declared.parts.Part.TheVariants as t
use Rattle.table_ops.specs.Chains.{places_of}
use Rattle.table_ops.specs.Columns.{rows_at, cells_at}
use Rattle.table_ops.specs.Held.{held_rules}
use Rattle.table_ops.specs.Keys.{item_eq}

-- a tree that leaves nothing: a text that is empty
abbrev pub is_nothing : Tree Text → Bool
is_nothing (Branch (OfText t) f) = is_empty_text t
is_nothing _ = false

-- something that is no attribute and isn't nothing
abbrev pub some_other : List (Tree Text) → Bool
some_other [] = false
some_other (t ∷ ts) = not (is_attribute_tree t || is_nothing t) || some_other ts

-- what a node with this label and this tree is
abbrev pub node_part : Option (Label Text) → Option (Tree Text) → Part
node_part (Some (OfAttribute n v)) s = t.Attribute
node_part l s = t.Other (some_other (copies_from l s))

-- what an item is
abbrev pub part_of : Item Text → Part
part_of (NodeItem n) = node_part (label_at n.tree n.path) (subtree n.path.steps n.tree)
part_of v = t.Value (not (is_empty_text (text_of_item v)))

-- whether a row of this kind, with this value and so many rows below it, leaves something
abbrev pub leaves_as : List Text → Kind → Option TextId → ℕ → Bool
leaves_as texts k.Text value size = not (is_empty_text (text_or_none texts value))
leaves_as texts k.Document value size = nat_lt 0 size
leaves_as texts k.Element value size = true
leaves_as texts k.Comment value size = true
leaves_as texts k.Pi value size = true

abbrev pub is_attribute : Part → Bool
is_attribute (t.Value b) = false
is_attribute t.Attribute = true
is_attribute (t.Other b) = false

-- an attribute after another node: whether something stands before, whether a run of atomic values does, and whether
-- it has a text
abbrev pub late_after : Bool → Bool → Bool → List Part → Bool
late_after seen run text [] = false
late_after seen run text (t.Value b ∷ ps) = late_after seen true (run || b) ps
late_after seen run text (t.Attribute ∷ ps) = (seen || text) || late_after (seen || text) false false ps
late_after seen run text (t.Other b ∷ ps) = late_after ((seen || text) || b) false false ps

-- the names of attributes
abbrev pub name_from : Option (Label Text) → List Text
name_from (Some (OfAttribute n v)) = n ∷ []
name_from l = []

abbrev pub name_in : Item Text → List Text
name_in (NodeItem n) = name_from (label_at n.tree n.path)
name_in v = []

abbrev pub names_in : Items → List Text
names_in [] = []
names_in (v ∷ vs) = name_in v ++ names_in vs

-- the text of a number, where there is one
abbrev pub named : List Text → Option TextId → List Text
named texts None = []
named texts (Some id) = text_in texts id ∷ []

-- nodes are of the store
abbrev pub NodeGiven : Holdings → Held → Type 0
NodeGiven h (i.Int z) = Unit {0}
NodeGiven h (i.Str id) = Unit {0}
NodeGiven h (i.Untyped id) = Unit {0}
NodeGiven h (i.Bool b) = Unit {0}
NodeGiven h (i.Node r) = IsNodeOf h r (tree_at h r.frag)

abbrev pub NodesGiven : Holdings → List Held → Type 0
NodesGiven h [] = Unit {0}
NodesGiven h (v ∷ vs) = NodeGiven h v × NodesGiven h vs

-- no two are equal
abbrev pub are_apart : List Held → Bool
are_apart [] = true
are_apart (v ∷ vs) = not (list_any (item_eq v) vs) && are_apart vs

abbrev pub position_keys : Col → List Key
position_keys c = record { col = c; descending = false } ∷ []

-- the cells of a column in the rows at places, in the order of another column
abbrev pub content_cells : List Text → List Col → Col → Col → List (List Held) → List ℕ → List Held
content_cells texts cols pos item rows places = cells_at cols item (in_order (keys_less (held_rules texts) (sort_keys (held_rules texts) cols (position_keys pos))) (rows_at rows places))

-- the content of the rows with a cell fails with a code
abbrev pub content_fails_with : List Text → Holdings → Place → Code → List Col → Col → Col → List (List Held) → List Held → Held → Bool
content_fails_with texts h place code cols pos item rows index cell =
    is_code code (content_fault place (meanings texts h (content_cells texts cols pos item rows (places_of (item_eq cell) 0 index))))
