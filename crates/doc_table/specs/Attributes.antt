-- What a step needs of a tree: an attribute is no child and has no children (XQuery 1.0 and XPath 2.0
-- Data Model, sections 6.1.1, 6.2.1 and 6.3.1).
use Rattle.std.specs.Prelude.{Bool, true, not, ◌&&◌, ◌||◌}
use Rattle.doc_table.specs.Tree.{Tree, Forest, Branch, no_more, one_more}
use Rattle.doc_table.specs.Places.{is_lone}
use Rattle.doc_table.specs.Sound.{is_empty_forest}

module _ {T : Type 0} where
  abbrev mutual
    pub attributes_apart : Tree T → Bool
    attributes_apart (Branch l f) = (not (is_lone (Branch l f)) || is_empty_forest f) && children_apart f

    pub children_apart : Forest T → Bool
    children_apart no_more = true
    children_apart (one_more t ts) = not (is_lone t) && attributes_apart t && children_apart ts
