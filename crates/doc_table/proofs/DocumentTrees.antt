-- Other texts leave a tree the form of a document.
use Rattle.std.proofs.Common.{◌≡◌, refl}
use Rattle.doc_table.specs.Tree.{Tree, Forest, Branch, no_more, one_more, root_of, kind_of, tree_with, forest_with}
use Rattle.doc_table.specs.DocumentTrees.{elements_among, text_among, has_document_form}
use Rattle.doc_table.proofs.OtherTexts.{kind-with}

module _ {A B : Type 0} (f : A → B) where
  root_kind : (t : Tree A) → kind_of (root_of (tree_with f t)) ≡ kind_of (root_of t)
  root_kind (Branch l ts) = kind-with f l

  elements_with : (ts : Forest A) → elements_among (forest_with f ts) ≡ elements_among ts
  elements_with no_more = refl
  elements_with (one_more t ts) = rw (root_kind t, elements_with ts) refl

  text_with : (ts : Forest A) → text_among (forest_with f ts) ≡ text_among ts
  text_with no_more = refl
  text_with (one_more t ts) = rw (root_kind t, text_with ts) refl

  pub document_form_with : (t : Tree A) → has_document_form (tree_with f t) ≡ has_document_form t
  document_form_with (Branch l ts) = rw (kind-with f l, elements_with ts, text_with ts) refl
