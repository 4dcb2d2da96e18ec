-- Tests by kind and sequence types (XQuery 1.0, sections 2.5.3 and 2.5.4).
use Rattle.std.specs.Prelude.{ℕ, List, [], ◌∷◌, Option, Some, None}
use Rattle.xq_ast.specs.declared.look.Due.{Due}
use Rattle.xq_ast.specs.declared.look.Due.TheVariants.{Operator, Named, Typed}
use Rattle.xq_ast.specs.declared.look.Look.{Look}
use Rattle.xq_ast.specs.declared.look.Look.TheVariants as k
use Rattle.xq_ast.specs.declared.leaf.KindTest.TheVariants as kind_
use Rattle.xq_ast.specs.declared.leaf.Occurs.{Occurs}
use Rattle.xq_ast.specs.declared.leaf.Occurs.TheVariants as occurs_
use Rattle.xq_ast.specs.declared.leaf.ReadItem.{ReadItem}
use Rattle.xq_ast.specs.declared.leaf.ReadItem.TheVariants as item_
use Rattle.xq_ast.specs.declared.leaf.ReadType.{ReadType}
use Rattle.xq_ast.specs.declared.leaf.ReadType.TheVariants as type_
use Rattle.xq_ast.specs.Trees.{Name, KindTest}
use Rattle.xq_ast.specs.Look.{Sym, syms}
use Rattle.xq_ast.specs.Rules.{make, maybe, either, prefer, ◌&◌, ◌◁◌, ◌▷◌}
use Rattle.xq_ast.specs.Terminals.{Rule, one, sign, operator, of_class, place, name, ncname, string, left}

abbrev pub plain_kinds : List Look
plain_kinds = k.NodeTest ∷ k.TextTest ∷ k.CommentTest ∷ k.DocumentTest ∷ []

abbrev pub kinds : Due → List Sym
kinds due = syms due (k.NodeTest ∷ k.TextTest ∷ k.CommentTest ∷ k.DocumentTest ∷ k.InstructionTest ∷ k.ElementTest ∷ k.AttributeTest ∷ [])

abbrev pub plain_kind : Look → KindTest
plain_kind k.NodeTest = kind_.Node
plain_kind k.TextTest = kind_.Text
plain_kind k.CommentTest = kind_.Comment
plain_kind _ = kind_.Document

-- AnyKindTest, TextTest, CommentTest, DocumentTest without content (productions 124 to 127)
unfoldable pub plain_test : Due → Rule KindTest
plain_test due = of_class due plain_kinds plain_kind ◁ operator k.Open ◁ operator k.Close

-- (NCName | String)? ")" (production 128)
unfoldable pub target : Rule (Option Name)
target =
    either (one Named k.Close) (make None ◁ sign Named k.Close)
    (make Some & either (one Named k.Quoted) (string Named) ncname ◁ operator k.Close)

-- PITest (production 128)
unfoldable pub instruction_test : Due → Rule KindTest
instruction_test due = make kind_.Instruction ◁ sign due k.InstructionTest ◁ operator k.Open & target

-- ")"; left out: a second argument
unfoldable pub last_argument : Rule (Unit {0})
last_argument = either (one Operator k.Comma) (left Operator (k.Comma ∷ [])) (operator k.Close)

-- ("*" | QName)? ")"
unfoldable pub named_argument : Rule (Option Name)
named_argument =
    either (one Named k.Close) (make None ◁ sign Named k.Close)
    (either (one Named k.Star) (make None ◁ sign Named k.Star ◁ last_argument) (make Some & name Named ◁ last_argument))

-- ElementTest, AttributeTest (productions 129 and 133)
unfoldable pub element_test : Due → Rule KindTest
element_test due = make kind_.Element ◁ sign due k.ElementTest ◁ operator k.Open & named_argument

unfoldable pub attribute_test : Due → Rule KindTest
attribute_test due = make kind_.Attribute ◁ sign due k.AttributeTest ◁ operator k.Open & named_argument

-- KindTest (production 123)
unfoldable pub kind_test : Due → Rule KindTest
kind_test due =
    either (syms due plain_kinds) (plain_test due)
    (either (one due k.InstructionTest) (instruction_test due)
    (either (one due k.ElementTest) (element_test due)
    (attribute_test due)))

-- "item" "(" ")" (production 121)
unfoldable pub any_item : Rule ReadItem
any_item = make item_.Any ◁ sign Typed k.ItemTest ◁ operator k.Open ◁ operator k.Close

-- ItemType (production 121); left out: schema-element(, schema-attribute(, document-node( with content
unfoldable pub item_type : Rule ReadItem
item_type =
    either (one Typed k.ItemTest) any_item
    (either (kinds Typed) (make item_.Kind & kind_test Typed)
    (either (one Typed k.Name) (make item_.Named & name Typed)
    (left Typed (k.LeftOut ∷ []))))

abbrev pub occurs_of : Look → Occurs
occurs_of k.Question = occurs_.Optional
occurs_of k.Star = occurs_.Many
occurs_of _ = occurs_.AtLeastOne

-- OccurrenceIndicator: where one of them stands, it belongs to the type (production 120 and appendix A.1.2)
unfoldable pub occurs : Rule Occurs
occurs =
    prefer (syms Operator (k.Question ∷ k.Star ∷ k.Plus ∷ [])) (of_class Operator (k.Question ∷ k.Star ∷ k.Plus ∷ []) occurs_of) (make occurs_.One)

unfoldable pub empty_type : Rule ReadType
empty_type = make type_.Empty & place ◁ sign Typed k.EmptyTest ◁ operator k.Open ◁ operator k.Close

-- SequenceType (production 119)
unfoldable pub seq_type : Rule ReadType
seq_type = either (one Typed k.EmptyTest) empty_type (make type_.Of & place & item_type & occurs)

-- TypeDeclaration (section 2.5.3, production 118)
unfoldable pub typ : Rule ReadType
typ = operator k.As ▷ seq_type
