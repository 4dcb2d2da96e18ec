-- The document that was read (own rule).
use Rattle.std.specs.Prelude.{ℕ, ◌≡◌, ◌≤◌, ◌<◌, List, length, Option, Some, None}
use Rattle.xq_base.specs.declared.item.TextId.{TextId}
use Rattle.doc_table.specs.Tree.{Tree, with_texts}
use Rattle.doc_shred.specs.Document.{IsDocument}
use Rattle.doc_shred.specs.Limits.{document_limit}

-- these are the bytes that the reader had, where it tells them
abbrev pub AreKnown : Option (List ℕ) → List ℕ → Type 0
AreKnown None bytes = Unit {0}
AreKnown (Some known) bytes = bytes ≡ known

-- all bytes of a reader, so many at most
pub record IsWhole (known : Option (List ℕ)) (bytes : List ℕ) : Type 0 where
  pub are_known : AreKnown known bytes
  pub few : length bytes ≤ document_limit

-- the reader had more bytes, where it tells them
abbrev pub IsLong : Option (List ℕ) → Type 0
IsLong None = Unit {0}
IsLong (Some known) = document_limit < length known

-- the tree of a document's bytes, by some texts
abbrev pub IsTreeOf : List ℕ → Tree TextId → Type 0
IsTreeOf bytes t = (texts : List (List ℕ)) × IsDocument bytes (with_texts texts t)
