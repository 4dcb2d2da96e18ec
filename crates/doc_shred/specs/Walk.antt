-- Content as the loop of the code reads it: piece after piece, with the open elements, the innermost first.
use Rattle.std.specs.Prelude.{ℕ, zero, suc, ◌+◌, ◌==◌, ◌||◌, not, Bool, false, List, [], ◌∷◌, ◌++◌, length, codes, Option, Some, None, option_and_then, if◌then◌else◌}
use Rattle.std.specs.Str.{bytes_eq}
use Rattle.doc_table.specs.Tree.{Label, OfDocument, OfElement, OfText, OfComment, OfInstruction, Tree, Branch, no_more}
use Rattle.doc_table.specs.Spine.{Open, tree_of, is_named}
use Rattle.doc_shred.specs.Rules.{begins, starts as starts_with}
use Rattle.doc_shred.specs.Classes.{is_blank, is_known_encoding}
use Rattle.doc_shred.specs.Parsers.{Parser, ◌>>=◌, give, choose}
use Rattle.doc_shred.specs.Markup.{Tag}
use Rattle.doc_shred.specs.Reading.{comment, instruction, start, end_tag, text_run, misc, declaration, doctype, attribute, has_attribute}
use Rattle.doc_shred.specs.Content.{Text}

abbrev pub Nodes : Type 0
Nodes = List (Open Text)

-- one piece of markup
pub data Piece : Type 0 where
  starts : Tag → Piece
  ends : Text → Piece
  notes : Text → Piece
  instructs : Text → Text → Piece

unfoldable pub piece : Parser Piece
piece =
    choose (begins (codes "</")) (end_tag >>= λ n. give (ends n))
    (choose (begins (codes "<!--")) (comment >>= λ v. give (notes v))
    (choose (begins (codes "<?")) (instruction >>= λ i. give (instructs i.0 i.1))
    (start >>= λ t. give (starts t))))

-- the innermost open node has one child more
abbrev pub put_node : Tree Text → Nodes → Nodes
put_node t [] = []
put_node t (o ∷ os) = record { label = o.label; done = o.done ++ t ∷ [] } ∷ os

abbrev pub leaf : Label Text → Nodes → Nodes
leaf l os = put_node (Branch l no_more) os

abbrev pub open_node : Label Text → Nodes → Nodes
open_node l os = record { label = l; done = [] } ∷ os

abbrev pub close_node : Nodes → Nodes
close_node [] = []
close_node (o ∷ os) = put_node (tree_of o) os

-- a text node, unless it is empty
abbrev pub add_text : Text → Nodes → Nodes
add_text [] os = os
add_text (c ∷ cs) os = leaf (OfText (c ∷ cs)) os

-- what is read of the rest: the nodes when the last of these names is closed, and what is left then
abbrev pub Walked : Type 0
Walked = Option (Nodes × List ℕ)

abbrev pub Walk : Type 0
Walk = List Text → Nodes → Walked

-- an end tag closes the innermost open element, whose name it has
abbrev pub end_step : Text → Walk → Walk
end_step m next [] os = None
end_step m next (n ∷ names) os = if bytes_eq m n then next names (close_node os) else None

abbrev pub step : Piece → Walk → Walk
step (starts t) next names os =
    if t.is_empty then next names (leaf (OfElement t.name t.attributes) os)
    else next (t.name ∷ names) (open_node (OfElement t.name t.attributes) os)
step (ends m) next names os = end_step m next names os
step (notes v) next names os = next names (leaf (OfComment v) os)
step (instructs n v) next names os = next names (leaf (OfInstruction n v) os)

-- a piece of markup, and then what else there is
abbrev pub marked : (List ℕ → Walk) → List ℕ → Walk
marked next from names os = option_and_then (λ (x : Piece × List ℕ). step x.0 (next x.1) names os) (piece from)

-- characters, and then a piece of markup
abbrev pub texted : (List ℕ → Walk) → List ℕ → Walk
texted next from names os = option_and_then (λ (x : Text × List ℕ). marked next x.1 names (add_text x.0 os)) (text_run from)

-- a turn, unless no element is open
abbrev pub turn : (List ℕ → Walk) → List ℕ → Walk
turn next from [] os = Some (os, from)
turn next from (n ∷ names) os = texted next from (n ∷ names) os

-- The number bounds the turns.
unfoldable pub content : ℕ → List ℕ → Walk
content zero from names os = None
content (suc n) from names os = turn (content n) from names os

-- the root element
abbrev pub root : List ℕ → Nodes → Walked
root from os = option_and_then (λ (x : Tag × List ℕ). step (starts x.0) (content (length x.1 + 1) x.1) [] os) (start from)

-- ---- before and after the root element

-- the innermost open node has these children more
abbrev pub put_list : List (Tree Text) → Nodes → Nodes
put_list [] os = os
put_list (t ∷ ts) os = put_list ts (put_node t os)

-- white space, a comment or an instruction comes next
abbrev pub has_misc : List ℕ → Bool
has_misc from = starts_with is_blank from || begins (codes "<!--") from || begins (codes "<?") from

unfoldable pub miscs_from : ℕ → List ℕ → Nodes → Walked
miscs_from zero from os = None
miscs_from (suc n) from os = if has_misc from then option_and_then (λ (x : List (Tree Text) × List ℕ). miscs_from n x.1 (put_list x.0 os)) (misc from) else Some (os, from)

abbrev pub miscs : List ℕ → Nodes → Walked
miscs from os = miscs_from (length from + 1) from os

-- the encoding that a declaration names, and what follows the declaration, or the whole text where it has none
abbrev pub declared : Option (Option Text × List ℕ) → List ℕ → Option Text × List ℕ
declared None text = (None, text)
declared (Some x) text = x

abbrev pub head : List ℕ → Option Text × List ℕ
head text = declared (declaration text) text

-- a document type declaration without an internal subset, and what may follow it before the root element
abbrev pub after_doctype : Nodes → ℕ × List ℕ → Walked
after_doctype os x = if x.0 == 62 then miscs x.1 os else None

abbrev pub typed : List ℕ → Nodes → Walked
typed from os = if begins (codes "<!DOCTYPE") from then option_and_then (after_doctype os) (doctype from) else Some (os, from)

-- the nodes, where nothing is left
abbrev pub at_end : Nodes × List ℕ → Option Nodes
at_end (os, []) = Some os
at_end (os, c ∷ cs) = None

-- a document without children
abbrev pub new_document : Nodes
new_document = record { label = OfDocument; done = [] } ∷ []

-- all that stands before the root element
abbrev pub prolog : List ℕ → Walked
prolog text = option_and_then (λ (x : Nodes × List ℕ). typed x.1 x.0) (miscs (head text).1 new_document)

-- the open document with its children
unfoldable pub document : List ℕ → Option Nodes
document text =
    option_and_then at_end (option_and_then (λ (x : Nodes × List ℕ). miscs x.1 x.0) (option_and_then (λ (x : Nodes × List ℕ). root x.1 x.0) (prolog text)))

abbrev pub is_unknown : Option Text → Bool
is_unknown None = false
is_unknown (Some encoding) = not (is_known_encoding encoding)

abbrev pub comes_to_subset : Option (ℕ × List ℕ) → Bool
comes_to_subset None = false
comes_to_subset (Some x) = x.0 == 91

abbrev pub has_subset : Walked → Bool
has_subset None = false
has_subset (Some x) = comes_to_subset (doctype x.1)

unfoldable pub is_unsupported : List ℕ → Bool
is_unsupported text = is_unknown (head text).0 || has_subset (miscs (head text).1 new_document)

-- ---- start tags

-- the attributes that are left of a tag, where these were read before and names differ
unfoldable pub attributes_from : List (Text × Text) → ℕ → List ℕ → Option (List (Text × Text) × List ℕ)
attributes_from found zero from = None
attributes_from found (suc n) from =
    if has_attribute from then option_and_then (λ (x : (Text × Text) × List ℕ). if is_named bytes_eq x.0.0 found then None else attributes_from (found ++ x.0 ∷ []) n x.1) (attribute from)
    else Some (found, from)

abbrev pub attributes : List ℕ → Option (List (Text × Text) × List ℕ)
attributes from = attributes_from [] (length from + 1) from
