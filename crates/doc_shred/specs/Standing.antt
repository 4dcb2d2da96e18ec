-- A builder's open nodes as nodes with texts, by a pool that gives the texts of its numbers (own rule).
use Rattle.std.specs.Prelude.{ℕ, ◌≡◌, ◌+◌, ◌-◌, ◌<◌, ◌≤◌, Bool, not, ◌&&◌, true, false, List, [], ◌∷◌, ◌++◌, map, length, take, slice_get, Some, None}
use Rattle.std.specs.Str.{bytes_eq}
use Rattle.xq_base.specs.declared.item.TextId.{TextId}
use Rattle.doc_table.specs.Limits.{size_limit}
use Rattle.doc_table.specs.Tree.{Tree, Label, OfDocument, OfElement, OfAttribute, OfText, OfComment, OfInstruction, text_in, pair_with}
use Rattle.doc_table.specs.Axes.{id_eq}
use Rattle.doc_table.specs.Spine.{Open, Spine, is_text, open_with, rows_in, has_name_in, attributes_open, with_attribute, with_leaf, closed, is_some_open, text_last}
use Rattle.doc_shred.specs.Content.{Text}
use Rattle.doc_shred.specs.Document.{lines_from}
use Rattle.doc_shred.specs.Walk.{Nodes, Walk, attributes, starts, step, content, put_list, miscs, root}
use Rattle.doc_shred.specs.Markup.{Tag}
use Rattle.doc_shred.specs.Reading.{attribute, start, comment, instruction, text_run, end_tag, misc}

abbrev pub Texts : Type 0
Texts = List Text

-- the open nodes, with these texts
abbrev pub seen : Texts → Spine TextId → Nodes
seen texts s = map (open_with (text_in texts)) s.nodes

-- numbers keep their texts
abbrev pub IsLater : Texts → Texts → Type 0
IsLater old new = take (length old) new ≡ old

-- as many nodes are open, there is no root yet, and so many rows were added
pub record Grown (added : ℕ) (old new : Spine TextId) : Type 0 where
  pub root : new.root ≡ None
  pub depth : length new.nodes ≡ length old.nodes
  pub rows : rows_in new ≡ rows_in old + added

-- the numbers of the names of the innermost open element's attributes
abbrev pub name_numbers : List (Open TextId) → List ℕ
name_numbers nodes = map (λ a. a.0.0) (attributes_open nodes)

-- an attribute was read and added
pub record AttributeAdded (texts : Texts) (old new : Spine TextId) (bytes rest : List ℕ) : Type 0 where
  pub name : TextId
  pub value : TextId
  pub read : Text × Text
  pub found : attribute bytes ≡ Some (read, rest)
  pub named : slice_get texts name.0 ≡ Some read.0
  pub valued : slice_get texts value.0 ≡ Some read.1
  pub first : has_name_in id_eq name old.nodes ≡ false
  pub added : new ≡ with_attribute name value old

-- an attribute was read whose name the element has
pub record AttributeTwice (texts : Texts) (old : Spine TextId) (bytes : List ℕ) : Type 0 where
  pub name : TextId
  pub read : Text × Text
  pub rest : List ℕ
  pub found : attribute bytes ≡ Some (read, rest)
  pub named : slice_get texts name.0 ≡ Some read.0
  pub again : has_name_in id_eq name old.nodes ≡ true

-- the innermost open element has these attributes
abbrev pub label_set : List (TextId × TextId) → Label TextId → Label TextId
label_set as' (OfElement m bs) = OfElement m as'
label_set as' OfDocument = OfDocument
label_set as' (OfAttribute n v) = OfAttribute n v
label_set as' (OfText v) = OfText v
label_set as' (OfComment v) = OfComment v
label_set as' (OfInstruction n v) = OfInstruction n v

abbrev pub nodes_set : List (TextId × TextId) → List (Open TextId) → List (Open TextId)
nodes_set as' [] = []
nodes_set as' (o ∷ os) = record { label = label_set as' o.label; done = o.done } ∷ os

abbrev pub with_attributes : List (TextId × TextId) → Spine TextId → Spine TextId
with_attributes as' s = record { nodes = nodes_set as' s.nodes; root = s.root }

-- the attributes of a tag were read and added
pub record AttributesAdded (texts : Texts) (old new : Spine TextId) (bytes rest : List ℕ) : Type 0 where
  pub all : List (TextId × TextId)
  pub added : new ≡ with_attributes all old
  pub found : (final : Texts) → IsLater texts final → attributes bytes ≡ Some (map (pair_with (text_in final)) all, rest)

-- no open node is a text
abbrev pub none_text : List (Open TextId) → Bool
none_text [] = true
none_text (o ∷ os) = not (is_text o.label) && none_text os

-- A piece of markup was read, and is in the builder: what a walk makes of the piece and of the rest, it makes of the rest from
-- there on.
pub record Walked (Stepped : Texts → Walk → Type 0) (texts : Texts) (names after : List Text) (old new : Spine TextId) : Type 0 where
  pub root : new.root ≡ None
  pub rows : rows_in new ≤ rows_in old + 1
  pub depth : length new.nodes + length names ≡ length old.nodes + length after
  pub tags : none_text new.nodes ≡ none_text old.nodes
  pub calm : text_last new.nodes ≡ false
  pub goes : (final : Texts) → IsLater texts final → (next : Walk) → Stepped final next

-- the builder can take one more row
pub record Takes (spine : Spine TextId) : Type 0 where
  pub root : spine.root ≡ None
  pub inside : is_some_open spine.nodes ≡ true
  pub room : rows_in spine + 2 < size_limit

-- the tag that was read, and what a walk makes of it
abbrev pub Starts : List ℕ → List ℕ → List Text → List Text → Spine TextId → Spine TextId → Texts → Walk → Type 0
Starts bytes rest names after old new final next =
    (tag : Tag) × (start bytes ≡ Some (tag, rest)) × (step (starts tag) next names (seen final old) ≡ next after (seen final new))

-- a comment was read and added
pub record CommentAdded (texts : Texts) (old new : Spine TextId) (bytes rest : List ℕ) : Type 0 where
  pub value : TextId
  pub read : Text
  pub found : comment bytes ≡ Some (read, rest)
  pub valued : slice_get texts value.0 ≡ Some read
  pub added : new ≡ with_leaf (OfComment value) old

-- an instruction was read and added
pub record InstructionAdded (texts : Texts) (old new : Spine TextId) (bytes rest : List ℕ) : Type 0 where
  pub name : TextId
  pub value : TextId
  pub read : Text × Text
  pub found : instruction bytes ≡ Some (read, rest)
  pub named : slice_get texts name.0 ≡ Some read.0
  pub valued : slice_get texts value.0 ≡ Some read.1
  pub added : new ≡ with_leaf (OfInstruction name value) old

-- a text was added, unless it is empty
abbrev pub IsTextAdded : Texts → Spine TextId → Spine TextId → Text → Type 0
IsTextAdded texts old new [] = new ≡ old
IsTextAdded texts old new (c ∷ cs) = (value : TextId) × (slice_get texts value.0 ≡ Some (c ∷ cs)) × (new ≡ with_leaf (OfText value) old)

pub record TextAdded (texts : Texts) (old new : Spine TextId) (bytes rest : List ℕ) : Type 0 where
  pub read : Text
  pub found : text_run bytes ≡ Some (read, rest)
  pub added : IsTextAdded texts old new read

-- an end tag has another name than the innermost open element
abbrev pub IsOther : Text → List Text → Type 0
IsOther n [] = Unit {0}
IsOther n (m ∷ ms) = bytes_eq n m ≡ false

-- an end tag was read that closes the innermost open element
pub record ElementClosed (names after : List Text) (old new : Spine TextId) (bytes rest : List ℕ) : Type 0 where
  pub name : Text
  pub found : end_tag bytes ≡ Some (name, rest)
  pub same : names ≡ name ∷ after
  pub shut : new ≡ closed old

pub record OtherEnd (names : List Text) (bytes : List ℕ) : Type 0 where
  pub name : Text
  pub rest : List ℕ
  pub found : end_tag bytes ≡ Some (name, rest)
  pub differs : IsOther name names

-- The document and the elements of these names are open, and there is no root yet.
pub record IsState (names : List Text) (spine : Spine TextId) : Type 0 where
  pub root : spine.root ≡ None
  pub depth : length spine.nodes ≡ length names + 1
  pub tags : none_text spine.nodes ≡ true

-- What a walk makes of these bytes, it makes of the rest with what is in the builder then.
pub record Passed (Reads : (List ℕ → Walk) → List ℕ → Walk) (texts : Texts) (names after : List Text) (old new : Spine TextId) (bytes rest : List ℕ) : Type 0 where
  pub state : IsState after new
  pub room : rows_in new + length rest ≤ rows_in old + length bytes
  pub fewer : length rest ≤ length bytes
  pub calm : text_last new.nodes ≡ false
  pub goes : (final : Texts) → IsLater texts final → (next : List ℕ → Walk) → Reads next bytes names (seen final old) ≡ next rest after (seen final new)

-- no walk makes anything of these bytes
abbrev pub IsMalformed : ((List ℕ → Walk) → List ℕ → Walk) → Texts → List Text → Spine TextId → List ℕ → Type 0
IsMalformed Reads texts names old bytes = (final : Texts) → IsLater texts final → (next : List ℕ → Walk) → Reads next bytes names (seen final old) ≡ None

-- the builder can take the rows of so many bytes
abbrev pub HasRoom : Spine TextId → List ℕ → Type 0
HasRoom spine bytes = rows_in spine + length bytes + 2 < size_limit

-- The content of the open elements was read, up to the end tag of the outermost.
pub record ContentRead (texts : Texts) (names : List Text) (old new : Spine TextId) (bytes rest : List ℕ) : Type 0 where
  pub state : IsState [] new
  pub room : rows_in new + length rest ≤ rows_in old + length bytes
  pub fewer : length rest ≤ length bytes
  pub reads : (final : Texts) → IsLater texts final → content (length bytes + 1) bytes names (seen final old) ≡ Some (seen final new, rest)

abbrev pub NoContent : Texts → List Text → Spine TextId → List ℕ → Type 0
NoContent texts names old bytes = (final : Texts) → IsLater texts final → content (length bytes + 1) bytes names (seen final old) ≡ None

-- What stands outside the root element was read: white space, or a node that was added to the document.
pub record MiscAdded (texts : Texts) (old new : Spine TextId) (bytes rest : List ℕ) : Type 0 where
  pub state : IsState [] new
  pub room : rows_in new + length rest ≤ rows_in old + length bytes
  pub fewer : length rest < length bytes
  pub read : List (Tree Text)
  pub found : misc bytes ≡ Some (read, rest)
  pub added : (final : Texts) → IsLater texts final → seen final new ≡ put_list read (seen final old)

-- all that stands before or after the root element
pub record MiscsRead (texts : Texts) (old new : Spine TextId) (bytes rest : List ℕ) : Type 0 where
  pub state : IsState [] new
  pub room : rows_in new + length rest ≤ rows_in old + length bytes
  pub fewer : length rest ≤ length bytes
  pub reads : (final : Texts) → IsLater texts final → miscs bytes (seen final old) ≡ Some (seen final new, rest)

abbrev pub NoMiscs : Texts → Spine TextId → List ℕ → Type 0
NoMiscs texts old bytes = (final : Texts) → IsLater texts final → miscs bytes (seen final old) ≡ None

-- the root element
pub record RootRead (texts : Texts) (old new : Spine TextId) (bytes rest : List ℕ) : Type 0 where
  pub state : IsState [] new
  pub room : rows_in new + length rest ≤ rows_in old + length bytes
  pub fewer : length rest ≤ length bytes
  pub reads : (final : Texts) → IsLater texts final → root bytes (seen final old) ≡ Some (seen final new, rest)

abbrev pub NoRoot : Texts → Spine TextId → List ℕ → Type 0
NoRoot texts old bytes = (final : Texts) → IsLater texts final → root bytes (seen final old) ≡ None

-- one byte of the text more
abbrev pub LineAdded : List ℕ → List ℕ → Bool → Bool → ℕ → Type 0
LineAdded old new after now byte = (rest : List ℕ) → new ++ lines_from now rest ≡ old ++ lines_from after (byte ∷ rest)
