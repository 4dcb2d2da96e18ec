-- The documents of a store as names and trees over texts, and their nodes (own rule).
use Rattle.std.specs.Prelude.{ℕ, ◌≡◌, List, map, slice_get, Some}
use Rattle.xq_base.specs.declared.item.TextId.{TextId}
use Rattle.xq_base.specs.Texts.{Text}
use Rattle.doc_table.specs.Tree.{Tree, OfDocument, root_of, text_in, with_texts}
use Rattle.doc_table.specs.Identity.{Node, DocTree}
use Rattle.doc_table.specs.Nodes.{root_path}
use Rattle.doc_table.specs.NodeRules.{Docs}
use Rattle.doc_table.specs.Stores.{Holdings}

-- a kept document, over the texts of a pool
abbrev pub document_in : List Text → TextId × Tree TextId → Text × Tree Text
document_in texts d = (text_in texts d.0, with_texts texts d.1)

abbrev pub documents_in : List Text → Holdings → Docs
documents_in texts h = map (document_in texts) h.docs

-- the node of the document with this number
abbrev pub document_node : ℕ → Tree Text → Node Text
document_node n t = record { id = DocTree n; tree = t; path = root_path }

-- the roots of documents are document nodes
abbrev pub HaveRoots : Holdings → Type 0
HaveRoots h = (n : ℕ) (d : TextId × Tree TextId) → slice_get h.docs n ≡ Some d → root_of d.1 ≡ OfDocument
