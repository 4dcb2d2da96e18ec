-- The text of a type as the code makes it: each word behind what is there (own rule).
use Rattle.std.specs.Prelude.{Bool, cond, ◌++◌, codes}
use Rattle.xq_base.specs.Texts.{Text, is_empty_text}
use Rattle.xq_types.specs.Kinds.{Kinds}

-- a word behind others
abbrev pub behind_words : Text → Text → Text
behind_words t w = cond (is_empty_text t) w ((t ++ codes "|") ++ w)

abbrev pub with_word : Bool → Text → Text → Text
with_word b w t = cond b (behind_words t w) t

-- the words of atomic values, and of nodes behind them
abbrev pub with_atoms : Kinds → Text → Text
with_atoms ks t = with_word ks.untyped (codes "untyped") (with_word ks.boolean (codes "boolean") (with_word ks.text (codes "string") (with_word ks.integer (codes "integer") t)))

abbrev pub with_trees : Kinds → Text → Text
with_trees ks t = with_word ks.text_node (codes "text") (with_word ks.attribute (codes "attribute") (with_word ks.element (codes "element") t))

abbrev pub with_leaves : Kinds → Text → Text
with_leaves ks t = with_word ks.document (codes "document") (with_word ks.instruction (codes "pi") (with_word ks.comment (codes "comment") t))
