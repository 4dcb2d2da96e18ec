-- The limits of documents that are read (own rule).
use Rattle.std.specs.Prelude.{ℕ}

-- the most bytes of a document
abbrev pub document_limit : ℕ
document_limit = 67108864

-- the greatest level of a node, the document's being 0
abbrev pub level_limit : ℕ
level_limit = 65535
