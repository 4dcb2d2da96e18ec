-- Each value of a lawful expression has the expression's type.
use Rattle.std.specs.Prelude.{◌≡◌, Bool, true, ◌&&◌, [], ◌∷◌, Some}
use Rattle.xq_base.specs.Texts.{text_eq, is_empty_text}
use Rattle.doc_table.specs.DocumentTrees.{is_document_tree}
use Rattle.doc_table.specs.Values.{Items}
use Rattle.doc_table.specs.NodeRules.{Docs}
use Rattle.core_meaning.specs.Expr.{Expr}
use Rattle.core_meaning.specs.Meaning.{no_variables, val}
use Rattle.core_meaning.specs.Lawful.{is_lawful}
use Rattle.xq_types.specs.Types.{HasType}
use Rattle.xq_types.specs.Typing.{no_types, type_of}

-- each tree is one of a document
abbrev pub are_documents : Docs → Bool
are_documents [] = true
are_documents (d ∷ docs) = is_document_tree text_eq is_empty_text d.1 && are_documents docs

abbrev pub ValuesHaveTheirTypes : Type 0
ValuesHaveTheirTypes = (docs : Docs) (e : Expr) (vs : Items) → are_documents docs ≡ true → is_lawful e ≡ true → val docs e no_variables [] ≡ Some vs → HasType (type_of no_types e) vs
