-- XML documents, as a relation between bytes and trees, and what isn't read (XML 1.0, sections 2.1, 2.8 and 2.11).
use Rattle.std.specs.Prelude.{◌≡◌, ℕ, suc, ◌<◌, max, Bool, true, false, ◌==◌, if◌then◌else◌, List, [], ◌∷◌, ◌++◌, ◌⊎◌, Some, drop}
use Rattle.doc_table.specs.Tree.{OfDocument, OfElement, Tree, Forest, Branch, no_more, one_more, forest_of}
use Rattle.doc_shred.specs.Rules.{Rule, ◌▷=◌, ◌▷◌, gives, where_, ◌or◌, many, begins}
use Rattle.doc_shred.specs.Classes.{is_known_encoding}
use Rattle.doc_shred.specs.Prolog.{declaration, doctype, misc}
use Rattle.doc_shred.specs.Content.{Text, IsNode}
use Rattle.doc_shred.specs.Limits.{level_limit}

-- the bytes without a byte order mark at their start (section 4.3.3)
abbrev pub without_mark : List ℕ → List ℕ
without_mark bytes = if begins (0xEF ∷ 0xBB ∷ 0xBF ∷ []) bytes then drop 3 bytes else bytes

-- line ends: a carriage return with a line feed, and each other carriage return, is a line feed (section 2.11). The first
-- argument says that a carriage return stands before.
abbrev pub lines_from : Bool → List ℕ → List ℕ
lines_from after [] = []
lines_from after (c ∷ cs) =
    if c == 13 then 10 ∷ lines_from true cs
    else (if c == 10 then (if after then lines_from false cs else 10 ∷ lines_from false cs) else c ∷ lines_from false cs)

abbrev pub lines_joined : List ℕ → List ℕ
lines_joined bytes = lines_from false bytes

-- the text that the productions speak of
abbrev pub text_of : List ℕ → List ℕ
text_of bytes = lines_joined (without_mark bytes)

-- the nodes of one list after those of another, for each
abbrev pub appended : List (List (Tree Text)) → List (Tree Text)
appended [] = []
appended (ts ∷ others) = ts ++ appended others

-- XMLDecl? (section 2.8, production 22)
unfoldable pub head : Rule (Unit {0})
head = declaration ▷ gives tt or gives tt

-- Misc* (section 2.8, productions 22 and 27)
unfoldable pub miscs : Rule (List (Tree Text))
miscs = many misc ▷= λ found. gives (appended found)

-- (doctypedecl Misc*)? (section 2.8, production 22)
unfoldable pub typed : Rule (List (Tree Text))
typed = doctype ▷= (λ c. where_ (c == 62) ▷ miscs) or gives []

-- the root element (section 2.1, production 1)
abbrev pub root : Rule (Tree Text)
root from rest (Branch (OfElement name attributes) kids) = IsNode (Branch (OfElement name attributes) kids) from rest
root from rest (Branch _ kids) = ⊥

-- document ::= XMLDecl? Misc* (doctypedecl Misc*)? element Misc*, with the children of its document node
-- (sections 2.1 and 2.8, productions 1 and 22)
unfoldable pub document : Rule (List (Tree Text))
document = head ▷ miscs ▷= λ first. typed ▷= λ second. root ▷= λ element. miscs ▷= λ last. gives (first ++ (second ++ (element ∷ last)))

-- the bytes are a document, and this is its tree
abbrev pub IsDocument : List ℕ → Tree Text → Type 0
IsDocument bytes tree = (kids : List (Tree Text)) × (tree ≡ Branch OfDocument (forest_of kids)) × document (text_of bytes) [] kids

-- XMLDecl? Misc* and the begin of a document type declaration, up to its internal subset
unfoldable pub subset : Rule (Unit {0})
subset = head ▷ miscs ▷ doctype ▷= λ c. where_ (c == 91)

-- A front of the document names another encoding than UTF-8 or US-ASCII in its declaration, or comes to an internal subset
-- (own rule).
abbrev pub IsUnsupportedText : List ℕ → Type 0
IsUnsupportedText text =
    ((rest encoding : List ℕ) × declaration text rest (Some encoding) × (is_known_encoding encoding ≡ false))
    ⊎ ((rest : List ℕ) × subset text rest tt)

abbrev pub IsUnsupported : List ℕ → Type 0
IsUnsupported bytes = IsUnsupportedText (text_of bytes)

-- the greatest level of a node, the document's being 0
module _ {T : Type 0} where
  abbrev mutual
    pub deepest : Tree T → ℕ
    deepest (Branch label kids) = deepest_in kids

    pub deepest_in : Forest T → ℕ
    deepest_in no_more = 0
    deepest_in (one_more t ts) = max (suc (deepest t)) (deepest_in ts)

abbrev pub IsTooDeep : Tree Text → Type 0
IsTooDeep tree = level_limit < deepest tree
