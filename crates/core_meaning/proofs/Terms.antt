-- Documents and small terms, of which the worked examples are made.
use Rattle.std.proofs.Common.{ℕ, List, [], ◌∷◌, codes}
use Rattle.xq_base.specs.declared.fun.AtomKind.TheVariants as kind
use Rattle.xq_base.specs.Texts.{Text}
use Rattle.doc_table.specs.Tree.{Label, OfDocument, OfElement, OfText, OfComment, OfInstruction, Tree, Branch, no_more, forest_of}
use Rattle.doc_table.specs.Axes.{AnyNode}
use Rattle.doc_table.specs.Identity.{DocTree, BuiltTree}
use Rattle.doc_table.specs.Items.{Item, NodeItem}
use Rattle.doc_table.specs.NodeRules.{Docs}
use Rattle.core_meaning.specs.declared.node.Occurs.TheVariants as occurs
use Rattle.core_meaning.specs.Types.{SequenceTest, ItemsOf, AtomOf, NodeOf}

abbrev pub leaf : Label Text → Tree Text
leaf l = Branch l no_more

abbrev pub text_leaf : Text → Tree Text
text_leaf t = leaf (OfText t)

abbrev pub comment_leaf : Text → Tree Text
comment_leaf t = leaf (OfComment t)

abbrev pub instruction_leaf : Text → Text → Tree Text
instruction_leaf n t = leaf (OfInstruction n t)

abbrev pub element : Text → List (Text × Text) → List (Tree Text) → Tree Text
element n as' ts = Branch (OfElement n as') (forest_of ts)

abbrev pub document : Tree Text → Tree Text
document t = Branch OfDocument (forest_of (t ∷ []))

-- <a x="1"><b>2</b><c/>t<b>3</b></a>
abbrev pub a_tree : Tree Text
a_tree = document (element (codes "a") ((codes "x", codes "1") ∷ []) (element (codes "b") [] (text_leaf (codes "2") ∷ []) ∷ element (codes "c") [] [] ∷ text_leaf (codes "t") ∷ element (codes "b") [] (text_leaf (codes "3") ∷ []) ∷ []))

abbrev pub a_docs : Docs
a_docs = (codes "a.xml", a_tree) ∷ []

-- <r><x><x><y/></x></x></r>
abbrev pub n_tree : Tree Text
n_tree = document (element (codes "r") [] (element (codes "x") [] (element (codes "x") [] (element (codes "y") [] [] ∷ []) ∷ []) ∷ []))

abbrev pub n_docs : Docs
n_docs = (codes "n.xml", n_tree) ∷ []

-- two books, indented by blanks and line ends
abbrev indent : Tree Text
indent = text_leaf (10 ∷ 32 ∷ 32 ∷ [])

abbrev with_text : Text → Text → Tree Text
with_text n t = element n [] (text_leaf t ∷ [])

abbrev pub bib_docs : Docs
bib_docs = (
  codes "bib.xml",
  document (element (codes "bib") [] (indent
      ∷ element (codes "book") ((codes "year", codes "1994") ∷ []) (with_text (codes "title") (codes "TCP/IP") ∷ with_text (codes "author") (codes "Stevens") ∷ with_text (codes "price") (codes "65") ∷ [])
      ∷ indent
      ∷ element (codes "book") ((codes "year", codes "2000") ∷ []) (with_text (codes "title") (codes "Data & Web") ∷ with_text (codes "author") (codes "Abiteboul") ∷ with_text (codes "author") (codes "Buneman") ∷ with_text (codes "price") (codes "39") ∷ [])
      ∷ text_leaf (10 ∷ []) ∷ [])),
) ∷ []

-- the node at these child steps of the only document, or an attribute of it
abbrev pub node_of : Tree Text → List ℕ → ℕ → Item Text
node_of t steps attr = NodeItem (record { id = DocTree 0; tree = t; path = record { steps = steps; attr = attr } })

-- the root of the tree that a constructor makes at a site in the loops at these places
abbrev pub made : ℕ → List ℕ → Tree Text → Item Text
made site vec t = NodeItem (record { id = BuiltTree site vec; tree = t; path = record { steps = []; attr = 0 } })

-- node() and xs:integer
abbrev pub one_node : SequenceTest
one_node = ItemsOf (NodeOf AnyNode) occurs.One

abbrev pub one_integer : SequenceTest
one_integer = ItemsOf (AtomOf kind.Integer) occurs.One
