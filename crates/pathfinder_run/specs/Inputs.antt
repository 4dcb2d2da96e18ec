-- What the files of a call give: the query's text and the documents (own rules).
use Rattle.std.specs.Prelude.{ℕ, ◌≡◌, ◌≢◌, ◌+◌, ◌≤◌, ◌<◌, true, List, [], ◌∷◌, take, length, get_or, slice_get, Option, Some, None, Result, Ok, Err}
use Rattle.std.specs.declared.vec.Vec.{Vec}
use Rattle.std.specs.declared.alloc.Global.{Global}
use Rattle.xq_base.specs.declared.item.TextId.{TextId}
use Rattle.io_edge.specs.Causes.{Rose}
use Rattle.io_edge.specs.Shelves.{Files}
use Rattle.doc_table.specs.Tree.{Tree, text_in, with_texts}
use Rattle.doc_table.specs.Given.{tree_given, trees_given}
use Rattle.doc_table.specs.Stores.{Holdings, AreGiven, with_doc}
use Rattle.doc_shred.specs.Document.{IsDocument, IsUnsupported, IsTooDeep}
use Rattle.doc_shred.specs.Limits.{document_limit}
use Rattle.doc_table.specs.Axes.{id_eq}
use Rattle.doc_table.specs.Spine.{is_empty_id}
use Rattle.doc_table.specs.DocumentTrees.{is_document_tree}
use Rattle.doc_table.specs.NodeRules.{Docs}
use Rattle.doc_table.specs.Documents.{documents_in}
use Rattle.pathfinder_run.specs.declared.status.Status.{Status}
use Rattle.pathfinder_run.specs.declared.status.Status.TheVariants as s
use Rattle.pathfinder_run.specs.declared.status.DocFault.{DocFault}
use Rattle.pathfinder_run.specs.declared.status.DocFault.TheVariants as d
use Rattle.pathfinder_run.specs.Words.{first_place}

-- the most bytes of a query
abbrev pub query_limit : ℕ
query_limit = 1048576

-- these bytes are a name's file, where the shelf tells its files; of another shelf nothing is known
abbrev pub IsFile : Option Files → List ℕ → List ℕ → Type 0
IsFile None name bytes = Unit {0}
IsFile (Some files) name bytes = files name ≡ Some bytes

-- so many bytes at most
pub record IsWithin (files : Option Files) (limit : ℕ) (name bytes : List ℕ) : Type 0 where
  pub file : IsFile files name bytes
  pub within : length bytes ≤ limit

-- the file has more bytes, where the shelf tells its files
abbrev pub IsLong : Option Files → ℕ → List ℕ → Type 0
IsLong None limit name = Unit {0}
IsLong (Some files) limit name = (bytes : List ℕ) × (files name ≡ Some bytes) × (limit < length bytes)

-- the bytes are a document with this tree, which can be kept
pub record IsGood (bytes : List ℕ) (tree : Tree (List ℕ)) : Type 0 where
  pub supported : ¬ IsUnsupported bytes
  pub document : IsDocument bytes tree
  pub level : ¬ IsTooDeep tree

-- why a document is refused
abbrev pub IsRefusedAs : List ℕ → DocFault → Type 0
IsRefusedAs bytes d.NotWellFormed = (¬ IsUnsupported bytes) × ((tree : Tree (List ℕ)) → ¬ IsDocument bytes tree)
IsRefusedAs bytes d.Unsupported = IsUnsupported bytes
IsRefusedAs bytes d.TooDeep = (¬ IsUnsupported bytes) × ((tree : Tree (List ℕ)) × IsDocument bytes tree × IsTooDeep tree)

-- the tree of the document in a name's file
pub record IsDocumentFile (files : Option Files) (name : List ℕ) (tree : Tree (List ℕ)) : Type 0 where
  pub bytes : List ℕ
  pub read : IsWithin files document_limit name bytes
  pub good : IsGood bytes tree

-- the documents of these names, in their order
abbrev pub AreDocuments : Option Files → List (List ℕ) → Docs → Type 0
AreDocuments files [] [] = Unit {0}
AreDocuments files (name ∷ names) (doc ∷ docs) = (doc.0 ≡ name) × IsDocumentFile files name doc.1 × AreDocuments files names docs
AreDocuments files [] (doc ∷ docs) = ⊥
AreDocuments files (name ∷ names) [] = ⊥

-- the file of this word isn't read: a fault, or it is too long
abbrev pub FileFails : Option Files → ℕ → List ℕ → ℕ → Status → Type 0
FileFails files limit name word (s.ReadFault k) = k ≡ word
FileFails files limit name word (s.TooLarge k) = (k ≡ Some word) × IsLong files limit name
FileFails files limit name word s.NoMemory = Unit {0}
FileFails files limit name word _ = ⊥

abbrev pub FileRead : Option Files → ℕ → List ℕ → ℕ → Result (Vec ℕ Global) Status → Type 0
FileRead files limit name word (Ok bytes) = IsWithin files limit name bytes.items
FileRead files limit name word (Err status) = FileFails files limit name word status

-- the document of this word is refused
abbrev pub ShredFails : List ℕ → ℕ → Status → Type 0
ShredFails bytes word (s.DocRefused k kind) = (k ≡ word) × IsRefusedAs bytes kind
ShredFails bytes word s.NoMemory = Unit {0}
ShredFails bytes word _ = ⊥

-- the tree of the document, whose texts the pool gave
pub record IsShredded (bytes : List ℕ) (texts : List (List ℕ)) (tree : Tree TextId) : Type 0 where
  pub good : IsGood bytes (with_texts texts tree)
  pub given : tree_given (length texts) tree ≡ true
  pub form : is_document_tree id_eq is_empty_id tree ≡ true

abbrev pub Shreds : List ℕ → ℕ → List (List ℕ) → Result (Tree TextId) Status → Type 0
Shreds bytes word texts (Ok tree) = IsShredded bytes texts tree
Shreds bytes word texts (Err status) = ShredFails bytes word status

-- the document of a name isn't kept
abbrev pub DocumentFails : Option Files → List ℕ → ℕ → Status → Type 0
DocumentFails files name word (s.DocRefused k kind) = (k ≡ word) × ((bytes : List ℕ) × IsWithin files document_limit name bytes × IsRefusedAs bytes kind)
DocumentFails files name word (s.ReadFault k) = k ≡ word
DocumentFails files name word (s.TooLarge k) = (k ≡ Some word) × IsLong files document_limit name
DocumentFails files name word s.NoMemory = Unit {0}
DocumentFails files name word _ = ⊥

-- the document with this number among those named isn't kept, and all before it are
pub record StopsAt (files : Option Files) (names : List (List ℕ)) (status : Status) : Type 0 where
  pub number : ℕ
  pub there : number < length names
  pub docs : Docs
  pub before : AreDocuments files (take number names) docs
  pub cause : DocumentFails files (get_or names number []) (number + first_place) status

-- the store has the documents of these names, and nothing else
pub record Loaded (files : Option Files) (names texts : List (List ℕ)) (h : Holdings) : Type 0 where
  pub documents : AreDocuments files names (documents_in texts h)
  pub trees : trees_given (length texts) h ≡ true
  pub named : AreGiven texts h.docs

-- all documents are kept, or one isn't
abbrev pub Loads : Option Files → List (List ℕ) → List (List ℕ) → Holdings → Result (Unit {0}) Status → Type 0
Loads files names texts h (Ok done) = Loaded files names texts h
Loads files names texts h (Err status) = StopsAt files names status

-- no document of the store has this name
abbrev pub IsNew : List (List ℕ) → Holdings → List ℕ → Type 0
IsNew texts h name = AreGiven texts h.docs × ((n : ℕ) (doc : TextId × Tree TextId) → slice_get h.docs n ≡ Some doc → text_in texts doc.0 ≢ name)

-- the store has one document more, whose name the pool gave
pub record HasOneMore (tree : Tree TextId) (name : List ℕ) (old : Holdings) (texts : List (List ℕ)) (new : Holdings) : Type 0 where
  pub id : TextId
  pub given : slice_get texts id.0 ≡ Some name
  pub added : new ≡ with_doc id tree old

abbrev pub IsKept : Tree TextId → List ℕ → Holdings → List (List ℕ) → Holdings → Result (Unit {0}) Status → Type 0
IsKept tree name old texts new (Ok done) = HasOneMore tree name old texts new
IsKept tree name old texts new (Err status) = status ≡ s.NoMemory

-- a read fault has its cause in the shelf
abbrev pub FaultRises : ℕ → ℕ → Status → Type 0
FaultRises before now (s.ReadFault word) = Rose before now
FaultRises before now _ = Unit {0}

abbrev pub RisesWith : {A : Type 0} → ℕ → ℕ → Result A Status → Type 0
RisesWith before now (Ok value) = Unit {0}
RisesWith before now (Err status) = FaultRises before now status
