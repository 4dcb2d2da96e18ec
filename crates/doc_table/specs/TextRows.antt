-- The texts of the text nodes among rows, one after the other (own rule).
use Rattle.std.specs.Prelude.{List, [], ◌∷◌, ◌++◌, Option, Some, None}
use Rattle.xq_base.specs.declared.item.TextId.{TextId}
use Rattle.xq_base.specs.Texts.{Text}
use Rattle.doc_table.specs.declared.rows.Kind.{Kind}
use Rattle.doc_table.specs.declared.rows.Kind.TheVariants as k
use Rattle.doc_table.specs.Tree.{Tree, text_in, with_texts}
use Rattle.doc_table.specs.Paths.{Path, subtree, label_at}
use Rattle.doc_table.specs.Enc.{Line}
use Rattle.doc_table.specs.Places.{Place, node_at}
use Rattle.doc_table.specs.Nodes.{text_of_tree, string_from}

-- the text of a number, where there is one
abbrev pub text_or_none : List Text → Option TextId → Text
text_or_none texts None = []
text_or_none texts (Some id) = text_in texts id

-- what a row of this kind and value gives
abbrev pub row_text : List Text → Kind → Option TextId → Text
row_text texts k.Text value = text_or_none texts value
row_text texts k.Document value = []
row_text texts k.Element value = []
row_text texts k.Comment value = []
row_text texts k.Pi value = []

abbrev pub texts_of_rows : List Text → List (Line TextId) → Text
texts_of_rows texts [] = []
texts_of_rows texts (line ∷ lines) = row_text texts line.kind line.value ++ texts_of_rows texts lines

-- what a row of this kind and value gives as a node, where the rows from it down to its last one give this text
abbrev pub node_text : List Text → Kind → Option TextId → Text → Text
node_text texts k.Document value below = below
node_text texts k.Element value below = below
node_text texts k.Text value below = text_or_none texts value
node_text texts k.Comment value below = text_or_none texts value
node_text texts k.Pi value below = text_or_none texts value

-- the string value of the node at a path of a tree
abbrev pub string_in : Tree Text → Path → Text
string_in t p = string_from (label_at t p) (text_of_tree (subtree p.steps t))

-- the string value of the node at a place, over the texts of a pool
abbrev pub string_at : List Text → Tree TextId → Place → Text
string_at texts t p = string_in (with_texts texts t) (node_at (with_texts texts t) p)
