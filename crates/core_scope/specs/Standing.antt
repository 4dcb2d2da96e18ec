-- What stands for a text, a test or a type over the texts of a pool, and over those of each later pool.
use Rattle.std.specs.Prelude.{◌≡◌, List, Option}
use Rattle.xq_base.specs.declared.item.TextId.{TextId}
use Rattle.xq_base.specs.declared.axis.NodeTest.{NodeTest}
use Rattle.xq_base.specs.Texts.{Text}
use Rattle.doc_table.specs.Axes.{Test}
use Rattle.doc_table.specs.OtherTexts.{Grows}
use Rattle.doc_table.specs.Tree.{text_in}
use Rattle.core_meaning.specs.Erasure.{test_in}
use Rattle.core_meaning.specs.Types.{SequenceTest}
use Rattle.xq_ast.specs.declared.leaf.Name.{Name}
use Rattle.xq_ast.specs.declared.leaf.Test.{Test as CodeTest}
use Rattle.xq_ast.specs.declared.leaf.KindTest.{KindTest}
use Rattle.xq_ast.specs.declared.leaf.SeqType.{SeqType}
use Rattle.core_scope.specs.Erasure.{named_of, kind_test_of, test_of}
use Rattle.core_scope.specs.Leaves.{sequence_of}

-- what is so of each later pool
abbrev pub Lasting : List Text → (List Text → Type 0) → Type 0
Lasting texts P = (later : List Text) → Grows texts later → P later

abbrev pub TextStands : List Text → TextId → Text → Type 0
TextStands texts id x = Lasting texts (λ later. text_in later id ≡ x)

abbrev pub NamedStands : List Text → Option (Name TextId) → Option Text → Type 0
NamedStands texts n x = Lasting texts (λ later. named_of (text_in later) n ≡ x)

abbrev pub KindStands : List Text → KindTest TextId → Test Text → Type 0
KindStands texts t x = Lasting texts (λ later. kind_test_of (text_in later) t ≡ x)

abbrev pub TestStands : List Text → CodeTest TextId → Test Text → Type 0
TestStands texts t x = Lasting texts (λ later. test_of (text_in later) t ≡ x)

abbrev pub NodeTestStands : List Text → NodeTest → Test Text → Type 0
NodeTestStands texts t x = Lasting texts (λ later. test_in later t ≡ x)

abbrev pub TypeStands : List Text → SeqType → SequenceTest → Type 0
TypeStands texts t x = Lasting texts (λ later. sequence_of later t ≡ x)
