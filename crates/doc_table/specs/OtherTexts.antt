-- What other texts in place of a tree's leave as it is, and what a pool that grew keeps.
use Rattle.std.specs.Prelude.{ℕ, ◌≡◌, ◌≤◌, true, List, [], length, map, take, slice_get, Some}
use Rattle.xq_base.specs.declared.axis.Axis.{Axis}
use Rattle.xq_base.specs.declared.item.Item.{Item as Held}
use Rattle.xq_base.specs.declared.item.TextId.{TextId}
use Rattle.xq_base.specs.Pool.{NoRepeats}
use Rattle.xq_base.specs.Texts.{Text, text_eq, is_empty_text}
use Rattle.doc_table.specs.Tree.{Tree, pair_with, label_with, tree_with, text_in, with_texts}
use Rattle.doc_table.specs.Paths.{Path, paths, label_at}
use Rattle.doc_table.specs.Enc.{Line, enc}
use Rattle.doc_table.specs.Axes.{Test, id_eq, steps_to}
use Rattle.doc_table.specs.Places.{Place, names_node, node_at}
use Rattle.doc_table.specs.Touched.{counts, touched_rows}
use Rattle.doc_table.specs.Sound.{is_sound}
use Rattle.doc_table.specs.Spine.{is_empty_id}
use Rattle.doc_table.specs.Given.{is_given, tree_given, trees_given}
use Rattle.doc_table.specs.Stores.{Holdings, AreGiven}
use Rattle.doc_table.specs.StoredItems.{ItemsGiven, meanings}
use Rattle.doc_table.specs.Documents.{documents_in}
use Rattle.doc_table.specs.Attributes.{attributes_apart}
use Rattle.doc_table.specs.Nodes.{node_paths}
use Rattle.doc_table.specs.Steps.{option_with, test_with}
use Rattle.doc_table.specs.TestTexts.{test_given}

module _ {A B : Type 0} where
  -- a row over other texts
  abbrev pub line_with : (A → B) → Line A → Line B
  line_with f line = record { size = line.size; level = line.level; kind = line.kind; name = option_with f line.name; value = option_with f line.value; attributes = map (pair_with f) line.attributes }

  -- the rows have other texts, and so have the nodes; all else is as it was
  pub record StandsAlike (f : A → B) (t : Tree A) : Type 0 where
    pub rows : enc (tree_with f t) ≡ map (line_with f) (enc t)
    pub rows_at : paths (tree_with f t) ≡ paths t
    pub nodes_at : node_paths (tree_with f t) ≡ node_paths t
    pub named : (p : Place) → names_node (tree_with f t) p ≡ names_node t p
    pub node : (p : Place) → node_at (tree_with f t) p ≡ node_at t p
    pub label : (p : Path) → label_at (tree_with f t) p ≡ option_with (label_with f) (label_at t p)
    pub apart : attributes_apart (tree_with f t) ≡ attributes_apart t
    pub touched : (axis : Axis) (context : List Place) → touched_rows axis (tree_with f t) context ≡ touched_rows axis t context
    pub counted : (axis : Axis) (context : List Place) → counts axis (tree_with f t) context ≡ counts axis t context

-- the texts of a tree in place of their numbers
abbrev pub AlikeByText : Type 0
AlikeByText = (texts : List Text) (t : Tree TextId) → StandsAlike (text_in texts) t

-- a tree of text numbers keeps the restrictions of the data model exactly where the tree of its texts does
abbrev pub SoundByText : Type 0
SoundByText = (texts : List Text) (t : Tree TextId) → NoRepeats texts → slice_get texts 0 ≡ Some [] → tree_given (length texts) t ≡ true
    → is_sound text_eq is_empty_text (with_texts texts t) ≡ is_sound id_eq is_empty_id t

-- a step over text numbers goes where it goes over the texts
abbrev pub StepsByText : Type 0
StepsByText = (texts : List Text) (axis : Axis) (test : Test TextId) (t : Tree TextId) (p q : Path) → NoRepeats texts → test_given (length texts) test ≡ true → tree_given (length texts) t ≡ true
    → steps_to id_eq axis test t p q ≡ steps_to text_eq axis (test_with (text_in texts) test) (with_texts texts t) p q

-- these texts stay in front
abbrev pub Grows : List Text → List Text → Type 0
Grows old new = take (length old) new ≡ old

-- what the pool gave is the same in the later one
pub record KeepsTexts (old new : List Text) : Type 0 where
  pub longer : length old ≤ length new
  pub numbers : (n : ℕ) (text : Text) → slice_get old n ≡ Some text → slice_get new n ≡ Some text
  pub texts : (id : TextId) → is_given (length old) id ≡ true → text_in new id ≡ text_in old id
  pub trees : (t : Tree TextId) → tree_given (length old) t ≡ true → with_texts new t ≡ with_texts old t
  pub documents : (h : Holdings) → AreGiven old h.docs → trees_given (length old) h ≡ true → documents_in new h ≡ documents_in old h
  pub items : (h : Holdings) (held : List Held) → trees_given (length old) h ≡ true → ItemsGiven old h held → meanings new h held ≡ meanings old h held

abbrev pub GrownPoolKeeps : Type 0
GrownPoolKeeps = (old new : List Text) → Grows old new → KeepsTexts old new
