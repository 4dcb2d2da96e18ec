-- The tree of a document: one element among the children of a document node, and no text among them
-- (XML 1.0, section 2.1; XQuery 1.0 and XPath 2.0 Data Model, section 6.1).
use Rattle.std.specs.Prelude.{ℕ, ◌+◌, Bool, false, not, ◌&&◌, ◌||◌, if◌then◌else◌, nat_eq}
use Rattle.doc_table.specs.Tree.{DocumentNode, ElementNode, TextNode, Tree, Forest, no_more, one_more, root_of, children_of, kind_of}
use Rattle.doc_table.specs.Axes.{kind_eq}
use Rattle.doc_table.specs.Sound.{is_sound}

module _ {T : Type 0} where
  -- how many of these trees are elements
  abbrev pub elements_among : Forest T → ℕ
  elements_among no_more = 0
  elements_among (one_more t ts) = (if kind_eq ElementNode (kind_of (root_of t)) then 1 else 0) + elements_among ts

  -- some of these trees is a text
  abbrev pub text_among : Forest T → Bool
  text_among no_more = false
  text_among (one_more t ts) = kind_eq TextNode (kind_of (root_of t)) || text_among ts

  abbrev pub has_document_form : Tree T → Bool
  has_document_form t = kind_eq DocumentNode (kind_of (root_of t)) && nat_eq (elements_among (children_of t)) 1 && not (text_among (children_of t))

  abbrev pub is_document_tree : (T → T → Bool) → (T → Bool) → Tree T → Bool
  is_document_tree eq empty t = is_sound eq empty t && has_document_form t
