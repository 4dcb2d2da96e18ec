-- Worked examples of the content of constructors and of document order between trees.
use Rattle.std.proofs.Common.{◌≡◌, List, [], ◌∷◌, codes, pos, true, false, Some, None, refl}
use Rattle.std.specs.Str.{chars}
use Rattle.std.specs.Fmt.{digits}
use Rattle.xq_base.specs.declared.code.Code.TheVariants as c
use Rattle.xq_base.specs.Chars.{is_name_start, is_name_char}
use Rattle.xq_base.specs.Answers.{Value, Fault}
use Rattle.xq_base.specs.Texts.{Text}
use Rattle.doc_table.specs.Tree.{ElementNode, DocumentNode, CommentNode, TextNode, InstructionNode, OfDocument, OfElement, OfText, OfInstruction, Tree, Branch, no_more, one_more}
use Rattle.doc_table.specs.Identity.{Node, TreeId, DocTree, BuiltTree, node_less}
use Rattle.doc_table.specs.Items.{Item, IntItem, TextItem, NodeItem}
use Rattle.doc_table.specs.Building.{built}

abbrev text : Text → Tree Text
text t = Branch (OfText t) no_more

abbrev element : Text → Tree Text
element n = Branch (OfElement n []) no_more

abbrev root_in : TreeId → Tree Text → Node Text
root_in id t = record { id = id; tree = t; path = record { steps = []; attr = 0 } }

abbrev built_root : Tree Text → Item Text
built_root t = NodeItem (root_in (BuiltTree 1 []) t)

abbrev name : Text → List (Item Text)
name n = TextItem n ∷ []

-- <a>{1, 2}{"x"}</a>: an empty text stands between two braces
braces : built ElementNode (name (codes "a") ∷ (IntItem (pos 1) ∷ IntItem (pos 2) ∷ built_root (text []) ∷ TextItem (codes "x") ∷ []) ∷ []) ≡ Value (Some (Branch (OfElement (codes "a") []) (one_more (text (codes "1 2x")) no_more)))
unfolding chars digits is_name_start
braces = refl

-- empty texts are left out before the neighbours are merged
empty_text_between : built DocumentNode ((built_root (text []) ∷ built_root (element (codes "b")) ∷ built_root (text []) ∷ []) ∷ []) ≡ Value (Some (Branch OfDocument (one_more (element (codes "b")) no_more)))
empty_text_between = refl

no_text_of_nothing : built TextNode ([] ∷ []) ≡ Value None
no_text_of_nothing = refl

comment_that_ends_early : built CommentNode (name (codes "a-") ∷ []) ≡ Fault c.XQDY0072
comment_that_ends_early = refl

target_before_content : built InstructionNode (name (codes "xml") ∷ name (codes "?>") ∷ []) ≡ Fault c.XQDY0064
unfolding chars is_name_start is_name_char
target_before_content = refl

content_without_leading_space : built InstructionNode (name (codes "p") ∷ name (codes "  v ") ∷ []) ≡ Value (Some (Branch (OfInstruction (codes "p") (codes "v ")) no_more))
unfolding chars is_name_start is_name_char
content_without_leading_space = refl

-- documents come before built trees, and those by site and then by positions
documents_first : node_less (root_in (DocTree 9) (element (codes "z"))) (root_in (BuiltTree 0 []) (element (codes "a"))) ≡ true
documents_first = refl

site_before_positions : node_less (root_in (BuiltTree 1 (9 ∷ [])) (element (codes "a"))) (root_in (BuiltTree 2 (1 ∷ [])) (element (codes "a"))) ≡ true
site_before_positions = refl

one_node_not_before_itself : node_less (root_in (BuiltTree 1 (1 ∷ [])) (element (codes "a"))) (root_in (BuiltTree 1 (1 ∷ [])) (element (codes "a"))) ≡ false
one_node_not_before_itself = refl
