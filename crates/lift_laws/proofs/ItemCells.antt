-- What looks at items one by one looks at cells so: kinds, types, texts, places, content.
use Rattle.std.proofs.Common.{◌≡◌, ℕ, ◌+◌, Bool, true, false, cond, ◌&&◌, List, [], ◌∷◌, ◌++◌, map, length, reverse, refl, sym, ap, ◌∙◌, pos, int_le, Option, Some, None, ℤ}
use Rattle.std.specs.List.{list_all}
use Rattle.std.proofs.lemmas.List.{reverse-append}
use Rattle.xq_base.specs.Answers.{Value, with_value, then_rule}
use Rattle.xq_base.specs.Texts.{Text, trimmed, trimmed_start}
use Rattle.xq_base.specs.Words.{at_places}
use Rattle.xq_base.specs.TextRules.{one_text}
use Rattle.doc_table.specs.Tree.{NodeKind, ElementNode, AttributeNode, TextNode, CommentNode, DocumentNode, InstructionNode, Branch, OfAttribute, no_more}
use Rattle.doc_table.specs.Items.{Item, IntItem, TextItem, UntypedItem, BoolItem, NodeItem}
use Rattle.doc_table.specs.Values.{Items, text_of_item, truth_of, boolean_value, kind_of_item}
use Rattle.doc_table.specs.Sequences.{is_empty, insert_at}
use Rattle.doc_table.specs.Functions.{content_text}
use Rattle.doc_table.specs.Content.{as_qname, as_target, element_name, target_name, copies_of, run_tree, text_tree, pieces_from, merged, content_of}
use Rattle.doc_table.specs.Building.{element_built, document_built, comment_built, instruction_built, value_of_content, text_built, built}
use Rattle.core_meaning.specs.Types.{ItemTest, AnyItem, AnyAtom, AtomOf, NodeOf, SequenceTest, NoItems, ItemsOf, occurs_so, item_passes, has_type}
use Rattle.lift_laws.specs.Worlds.{World, cell_of}
use Rattle.lift_laws.proofs.Picks.{map-append}
use Rattle.lift_laws.proofs.Sizes.{map_length}
use Rattle.lift_laws.proofs.Fairness.{data_cells}

pub length_cells : (W : World) (vs : Items) → length (map (cell_of W) vs) ≡ length vs
length_cells W vs = map_length (cell_of W) vs

pub empty_cells : (W : World) (vs : Items) → is_empty (map (cell_of W) vs) ≡ is_empty vs
empty_cells W [] = refl
empty_cells W (v ∷ vs) = refl

pub truth_cell : (W : World) (v : Item Text) → truth_of (cell_of W v) ≡ truth_of v
truth_cell W (IntItem z) = refl
truth_cell W (TextItem t) = refl
truth_cell W (UntypedItem t) = refl
truth_cell W (BoolItem b) = refl
truth_cell W (NodeItem n) = refl

pub boolean_cells : (W : World) (vs : Items) → boolean_value (map (cell_of W) vs) ≡ boolean_value vs
boolean_cells W [] = refl
boolean_cells W (v ∷ []) = ap Value (truth_cell W v)
boolean_cells W (IntItem z ∷ u ∷ vs) = refl
boolean_cells W (TextItem t ∷ u ∷ vs) = refl
boolean_cells W (UntypedItem t ∷ u ∷ vs) = refl
boolean_cells W (BoolItem b ∷ u ∷ vs) = refl
boolean_cells W (NodeItem n ∷ u ∷ vs) = refl

pub text_cell : (W : World) (v : Item Text) → text_of_item (cell_of W v) ≡ text_of_item v
text_cell W (IntItem z) = refl
text_cell W (TextItem t) = refl
text_cell W (UntypedItem t) = refl
text_cell W (BoolItem b) = refl
text_cell W (NodeItem n) = refl

pub kind_cell : (W : World) (v : Item Text) → kind_of_item (cell_of W v) ≡ kind_of_item v
kind_cell W (IntItem z) = refl
kind_cell W (TextItem t) = refl
kind_cell W (UntypedItem t) = refl
kind_cell W (BoolItem b) = refl
kind_cell W (NodeItem n) = refl

passes_cell : (W : World) (item : ItemTest) (v : Item Text) → item_passes item (cell_of W v) ≡ item_passes item v
passes_cell W AnyItem v = refl
passes_cell W AnyAtom (IntItem z) = refl
passes_cell W AnyAtom (TextItem t) = refl
passes_cell W AnyAtom (UntypedItem t) = refl
passes_cell W AnyAtom (BoolItem b) = refl
passes_cell W AnyAtom (NodeItem n) = refl
passes_cell W (AtomOf kind) (IntItem z) = refl
passes_cell W (AtomOf kind) (TextItem t) = refl
passes_cell W (AtomOf kind) (UntypedItem t) = refl
passes_cell W (AtomOf kind) (BoolItem b) = refl
passes_cell W (AtomOf kind) (NodeItem n) = refl
passes_cell W (NodeOf test) (IntItem z) = refl
passes_cell W (NodeOf test) (TextItem t) = refl
passes_cell W (NodeOf test) (UntypedItem t) = refl
passes_cell W (NodeOf test) (BoolItem b) = refl
passes_cell W (NodeOf test) (NodeItem n) = refl

all_pass_cells : (W : World) (item : ItemTest) (vs : Items) → list_all (item_passes item) (map (cell_of W) vs) ≡ list_all (item_passes item) vs
all_pass_cells W item [] = refl
all_pass_cells W item (v ∷ vs) = ap (λ b. b && list_all (item_passes item) (map (cell_of W) vs)) (passes_cell W item v) ∙ ap (λ b. item_passes item v && b) (all_pass_cells W item vs)

pub type_cells : (W : World) (test : SequenceTest) (vs : Items) → has_type test (map (cell_of W) vs) ≡ has_type test vs
type_cells W NoItems [] = refl
type_cells W NoItems (v ∷ vs) = refl
type_cells W (ItemsOf item occurs) vs = ap (λ n. occurs_so occurs n && list_all (item_passes item) (map (cell_of W) vs)) (length_cells W vs) ∙ ap (λ b. occurs_so occurs (length vs) && b) (all_pass_cells W item vs)

pub places_cells : (W : World) (passes : ℕ → Bool) (p : ℕ) (vs : Items) → at_places passes p (map (cell_of W) vs) ≡ map (cell_of W) (at_places passes p vs)
places_cells W passes p [] = refl
places_cells W passes p (v ∷ vs) =
    ap (λ l. cond (passes p) (cell_of W v ∷ l) l) (places_cells W passes (p + 1) vs)
    ∙ elim (passes p) as (λ b. cond b (cell_of W v ∷ map (cell_of W) (at_places passes (p + 1) vs)) (map (cell_of W) (at_places passes (p + 1) vs)) ≡ map (cell_of W) (cond b (v ∷ at_places passes (p + 1) vs) (at_places passes (p + 1) vs))) [ true ↦ refl | false ↦ refl ]

pub insert_cells : (W : World) (z : ℤ) (us : Items) (p : ℕ) (vs : Items) → insert_at z (map (cell_of W) us) p (map (cell_of W) vs) ≡ map (cell_of W) (insert_at z us p vs)
insert_cells W z us p [] = refl
insert_cells W z us p (v ∷ vs) =
    ap (λ l. cond (int_le z (pos p)) (map (cell_of W) us ++ map (cell_of W) (v ∷ vs)) (cell_of W v ∷ l)) (insert_cells W z us (p + 1) vs)
    ∙ ap (λ l. cond (int_le z (pos p)) l (cell_of W v ∷ map (cell_of W) (insert_at z us (p + 1) vs))) (sym (map-append (cell_of W) us (v ∷ vs)))
    ∙ elim (int_le z (pos p)) as (λ b. cond b (map (cell_of W) (us ++ v ∷ vs)) (cell_of W v ∷ map (cell_of W) (insert_at z us (p + 1) vs)) ≡ map (cell_of W) (cond b (us ++ v ∷ vs) (v ∷ insert_at z us (p + 1) vs))) [ true ↦ refl | false ↦ refl ]

pub reverse_cells : (W : World) (vs : Items) → reverse (map (cell_of W) vs) ≡ map (cell_of W) (reverse vs)
reverse_cells W [] = refl
reverse_cells W (v ∷ vs) =
    reverse-append (cell_of W v ∷ []) (map (cell_of W) vs)
    ∙ ap (λ l. l ++ cell_of W v ∷ []) (reverse_cells W vs) ∙ sym (map-append (cell_of W) (reverse vs) (v ∷ [])) ∙ ap (map (cell_of W)) (sym (reverse-append (v ∷ []) vs))

-- the trees that content gives
pieces_cells : (W : World) (run : Option Text) (vs : Items) → pieces_from run (map (cell_of W) vs) ≡ pieces_from run vs
pieces_cells W run [] = refl
pieces_cells W run (IntItem z ∷ vs) = pieces_cells W _ vs
pieces_cells W run (TextItem t ∷ vs) = pieces_cells W _ vs
pieces_cells W run (UntypedItem t ∷ vs) = pieces_cells W _ vs
pieces_cells W run (BoolItem b ∷ vs) = pieces_cells W _ vs
pieces_cells W run (NodeItem n ∷ vs) = ap (λ l. run_tree run ++ copies_of n ++ l) (pieces_cells W None vs)

content_cells : (W : World) (vs : Items) → content_of (map (cell_of W) vs) ≡ content_of vs
content_cells W vs = ap merged (pieces_cells W None vs)

text_built_cells : (W : World) (vs : Items) → text_built (map (cell_of W) vs) ≡ text_built vs
text_built_cells W [] = refl
text_built_cells W (v ∷ vs) = ap (λ ds. Some (text_tree (content_text ds))) (data_cells W (v ∷ vs))

-- the tree that a constructor makes
pub built_cells : (W : World) (kind : NodeKind) (vss : List Items) → built kind (map (map (cell_of W)) vss) ≡ built kind vss
built_cells W ElementNode [] = refl
built_cells W ElementNode (name ∷ []) = refl
built_cells W ElementNode (name ∷ vs ∷ []) =
    ap (λ ds. with_value Some (then_rule (then_rule (one_text ds) (λ t. as_qname (trimmed t))) (element_built (content_of (map (cell_of W) vs))))) (data_cells W name)
    ∙ ap (λ ts. with_value Some (then_rule (element_name name) (element_built ts))) (content_cells W vs)
built_cells W ElementNode (name ∷ vs ∷ us ∷ vss) = refl
built_cells W AttributeNode [] = refl
built_cells W AttributeNode (name ∷ []) = refl
built_cells W AttributeNode (name ∷ vs ∷ []) =
    ap (λ ds. with_value (λ n. Some (Branch (OfAttribute n (value_of_content (map (cell_of W) vs))) no_more)) (then_rule (one_text ds) (λ t. as_qname (trimmed t)))) (data_cells W name)
    ∙ ap (λ ds. with_value (λ n. Some (Branch (OfAttribute n (content_text ds)) no_more)) (element_name name)) (data_cells W vs)
built_cells W AttributeNode (name ∷ vs ∷ us ∷ vss) = refl
built_cells W InstructionNode [] = refl
built_cells W InstructionNode (name ∷ []) = refl
built_cells W InstructionNode (name ∷ vs ∷ []) =
    ap (λ ds. with_value Some (then_rule (then_rule (one_text ds) (λ t. as_target (trimmed t))) (instruction_built (trimmed_start (value_of_content (map (cell_of W) vs)))))) (data_cells W name)
    ∙ ap (λ ds. with_value Some (then_rule (target_name name) (instruction_built (trimmed_start (content_text ds))))) (data_cells W vs)
built_cells W InstructionNode (name ∷ vs ∷ us ∷ vss) = refl
built_cells W TextNode [] = refl
built_cells W TextNode (vs ∷ []) = ap Value (text_built_cells W vs)
built_cells W TextNode (vs ∷ us ∷ vss) = refl
built_cells W CommentNode [] = refl
built_cells W CommentNode (vs ∷ []) = ap (λ ds. with_value Some (comment_built (content_text ds))) (data_cells W vs)
built_cells W CommentNode (vs ∷ us ∷ vss) = refl
built_cells W DocumentNode [] = refl
built_cells W DocumentNode (vs ∷ []) = ap (λ ts. with_value Some (document_built ts)) (content_cells W vs)
built_cells W DocumentNode (vs ∷ us ∷ vss) = refl
