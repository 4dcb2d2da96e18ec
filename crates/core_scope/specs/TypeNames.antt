-- The names of types (XQuery 1.0, sections 2.5.1, 2.5.3, 3.12.2 and 3.12.3).
use Rattle.std.specs.Prelude.{Bool, ◌||◌, cond, Option, Some, None, codes}
use Rattle.xq_base.specs.declared.code.Code.{Code}
use Rattle.xq_base.specs.declared.code.Code.TheVariants as code
use Rattle.xq_base.specs.declared.fun.AtomKind.{AtomKind}
use Rattle.xq_base.specs.declared.fun.AtomKind.TheVariants as k
use Rattle.xq_base.specs.Texts.{Text, text_eq}
use Rattle.core_meaning.specs.Types.{ItemTest, AnyItem, AnyAtom, AtomOf, NodeOf, SequenceTest, NoItems, ItemsOf}
use Rattle.xq_ast.specs.declared.leaf.Name.{Name}
use Rattle.xq_ast.specs.declared.leaf.ReadType.{ReadType}
use Rattle.xq_ast.specs.declared.leaf.ReadType.TheVariants as t
use Rattle.xq_ast.specs.declared.leaf.ReadItem.{ReadItem}
use Rattle.xq_ast.specs.declared.leaf.ReadItem.TheVariants as i
use Rattle.core_scope.specs.Erasure.{kind_test_of}
use Rattle.core_scope.specs.Leaves.{occurs_of}

-- the atomic types of which there are values
abbrev pub atom_kind : Text → Option AtomKind
atom_kind x =
    cond (text_eq x (codes "xs:integer")) (Some k.Integer)
    (cond (text_eq x (codes "xs:string")) (Some k.Text)
    (cond (text_eq x (codes "xs:boolean")) (Some k.Boolean)
    (cond (text_eq x (codes "xs:untypedAtomic")) (Some k.Untyped) None)))

-- the type of all atomic values
abbrev pub is_any_atomic : Text → Bool
is_any_atomic x = text_eq x (codes "xs:anyAtomicType")

-- a type that nothing is cast to (section 3.12.2)
abbrev pub is_abstract : Text → Bool
is_abstract x = is_any_atomic x || text_eq x (codes "xs:NOTATION")

-- an atomic type in a sequence type
abbrev pub atom_test : Option AtomKind → Bool → Option ItemTest
atom_test (Some kind) any = Some (AtomOf kind)
atom_test None any = cond any (Some AnyAtom) None

abbrev pub item_named : Text → Option ItemTest
item_named x = atom_test (atom_kind x) (is_any_atomic x)

-- the code of a type that nothing is cast to, or of none
abbrev pub cast_code : Text → Code
cast_code x = cond (is_abstract x) code.XPST0080 code.XPST0051
