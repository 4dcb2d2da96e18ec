-- Node tests on rows (XPath 2.0, section 3.2.1.2).
use Rattle.doc_table.specs.Tree.{NodeKind, DocumentNode, ElementNode, TextNode, CommentNode, InstructionNode}
use Rattle.doc_table.specs.declared.rows.Kind.{Kind}
use Rattle.doc_table.specs.declared.rows.Kind.TheVariants as k

-- the kind of the node that a row holds
abbrev pub kind_of_row : Kind → NodeKind
kind_of_row k.Document = DocumentNode
kind_of_row k.Element = ElementNode
kind_of_row k.Text = TextNode
kind_of_row k.Comment = CommentNode
kind_of_row k.Pi = InstructionNode
