-- The root of a document's tree is no attribute.
use Rattle.std.proofs.Common.{◌≡◌, ℕ, false, List, refl, ap}
use Rattle.xq_base.specs.declared.item.TextId.{TextId}
use Rattle.doc_table.specs.Tree.{OfDocument, OfElement, OfAttribute, OfText, OfComment, OfInstruction, Tree, Branch, root_of, with_texts}
use Rattle.doc_table.specs.Places.{is_lone}
use Rattle.doc_shred.specs.Document.{IsDocument}

not-lone : (texts : List (List ℕ)) (t : Tree TextId) → root_of (with_texts texts t) ≡ OfDocument → is_lone t ≡ false
not-lone texts (Branch OfDocument f) e = refl
not-lone texts (Branch (OfElement n as') f) e = refl
not-lone texts (Branch (OfAttribute n v) f) e = cc
not-lone texts (Branch (OfText v) f) e = refl
not-lone texts (Branch (OfComment v) f) e = refl
not-lone texts (Branch (OfInstruction n v) f) e = refl

pub document_not_lone : (bytes : List ℕ) (texts : List (List ℕ)) (t : Tree TextId) → IsDocument bytes (with_texts texts t) → is_lone t ≡ false
document_not_lone bytes texts t d = not-lone texts t (ap root_of d.1)
